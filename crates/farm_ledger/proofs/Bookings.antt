-- The orders of a history with an entry appended, and with the last one taken away.
use Rattle.std.proofs.Common.{◌≡◌, ℕ, suc, ◌+◌, ◌-◌, ◌<◌, ◌≤◌, ◌^◌, true, true≢false, List, [], ◌∷◌, ◌++◌, length, take, Option, Some, None, refl, sym, ap, subst, ◌∙◌, append-nil, arith, length-append}
use Rattle.std.specs.List.{cons_option}
use Rattle.std.specs.Option.{is_some}
use Rattle.std.proofs.Math.Seq.{take-append_seam}
use Rattle.farm_rules.specs.Orders.{has_order}
use Rattle.farm_rules.specs.Orders as rules
use Rattle.farm_rules.proofs.Drafts.{next_draft-ok}
use Rattle.farm_types.specs.Moment.{moment_ms}
use Rattle.farm_types.specs.declared.moment.Moment.{Moment}
use Rattle.farm_rules.specs.Book.{Book}
use Rattle.farm_entry.specs.History.{carried_in, daily_limit, order_in, order_lines, ordered_in}
use Rattle.farm_entry.specs.Legal.{IsLegal}
use Rattle.farm_entry.specs.Orders.{carried, confirmed_searches, day_in, orders}
use Rattle.farm_entry.specs.declared.entry.Entry.{Entry}
use Rattle.farm_entry.specs.declared.entry.What.{What}
use Rattle.farm_entry.specs.declared.entry.What.TheVariants.{Founded, Opened, Leased, Reported, Skipped, Cancelled, Ordered, Carried, Closed}
use Rattle.farm_entry.specs.declared.order_page.OrderLine.{OrderLine}
use Rattle.farm_entry.proofs.Growing.{order_lines-grow, orders-grow}
use Rattle.farm_laws.proofs.Begun.{order_lines-begun}
use Rattle.farm_laws.proofs.Bounds.{entries-bounded}
use Rattle.farm_laws.proofs.Stepped.{Stepped}
use Rattle.plain_history.proofs.Holding.{length-filter_map-le}
use Rattle.farm_ledger.specs.Booked.{MayBook, booking_in, given_in, is_booked, one_if, with_booking, without_order}
use Rattle.farm_ledger.specs.declared.notes.Booking.{Booking}

-- One entry more.

booked-more : (os : List rules.Ordered) (w : What) → with_booking os (booking_in w) ≡ os ++ cons_option (ordered_in w) []
booked-more os (Ordered k a n c q d) = refl
booked-more os (Carried c d) = refl
booked-more os (Founded x) = sym (append-nil os)
booked-more os (Opened o) = sym (append-nil os)
booked-more os (Leased k w n q t p d) = sym (append-nil os)
booked-more os (Reported n v _) = sym (append-nil os)
booked-more os (Skipped n _) = sym (append-nil os)
booked-more os (Cancelled k q) = sym (append-nil os)
booked-more os Closed = sym (append-nil os)

pub pushed-orders : (H : List Entry) (e : Entry) → with_booking (orders H) (booking_in e.what) ≡ orders (H ++ e ∷ [])
pushed-orders H e = booked-more (orders H) e.what ∙ sym (orders-grow H e)

given-more : (w : What) → given_in (booking_in w) ≡ length (cons_option (order_in w) [])
given-more (Ordered k a n c q d) = refl
given-more (Carried c d) = refl
given-more (Founded x) = refl
given-more (Opened o) = refl
given-more (Leased k w n q t p d) = refl
given-more (Reported n v _) = refl
given-more (Skipped n _) = refl
given-more (Cancelled k q) = refl
given-more Closed = refl

lines-count : (H : List Entry) (e : Entry) →
    length (order_lines (H ++ e ∷ [])) ≡ length (order_lines H) + length (cons_option (order_in e.what) [])
lines-count H e = ap length (order_lines-grow H e) ∙ length-append (order_lines H) (cons_option (order_in e.what) [])

pub pushed-given : (H : List Entry) (e : Entry) →
    length (order_lines H) + given_in (booking_in e.what) ≡ length (order_lines (H ++ e ∷ []))
pushed-given H e = ap (λ (n : ℕ). length (order_lines H) + n) (given-more e.what) ∙ sym (lines-count H e)

-- One entry less.

booked-less : (all os : List rules.Ordered) (x : Option rules.Ordered) → all ≡ os ++ cons_option x [] →
    without_order all (is_some x) ≡ os
booked-less all os None are = are ∙ append-nil os
booked-less all os (Some o) are =
    let long : length (os ++ o ∷ []) ≡ length os + 1 = length-append os (o ∷ []) in
    let less : length all - 1 ≡ length os = omega (arith, long, ap length are) in
    ap (take (length all - 1)) are
    ∙ ap (λ (n : ℕ). take n (os ++ o ∷ [])) less
    ∙ take-append_seam os (o ∷ [])

pub popped-orders : (G : List Entry) (e : Entry) (all : List rules.Ordered) → all ≡ orders (G ++ e ∷ []) →
    without_order all (is_some (ordered_in e.what)) ≡ orders G
popped-orders G e all are = booked-less all (orders G) (ordered_in e.what) (are ∙ orders-grow G e)

-- one that goes stands there
one-order : (x : Option rules.Ordered) → is_some x ≡ true → length (cons_option x []) ≡ 1
one-order None some = absurd (true≢false (sym some))
one-order (Some o) some = refl

pub popped-some : (G : List Entry) (e : Entry) → is_some (ordered_in e.what) ≡ true → 0 < length (orders (G ++ e ∷ []))
popped-some G e some =
    omega (
      arith,
      ap length (orders-grow G e),
      length-append (orders G) (cons_option (ordered_in e.what) []),
      one-order (ordered_in e.what) some,
    )

less-one : (n lines : ℕ) → n ≡ lines + 1 → n - 1 ≡ lines
less-one n lines is = omega arith

less-none : (n lines : ℕ) → n ≡ lines + 0 → n - 0 ≡ lines
less-none n lines is = omega arith

less-first : (n lines : ℕ) → lines ≡ 0 → n ≡ lines + 0 → n - 1 ≡ lines
less-first n lines none is = omega arith

-- where an order that was carried over goes, none was given
given-less : (G : List Entry) (m : Moment) (w : What) (n : ℕ) → Stepped G m w →
    n ≡ length (order_lines G) + length (cons_option (order_in w) []) →
    n - one_if (is_some (ordered_in w)) ≡ length (order_lines G)
given-less G m (Ordered k a x c q d) n step is = less-one n (length (order_lines G)) is
given-less G m (Carried c d) n step is =
    less-first n (length (order_lines G)) (ap length (order_lines-begun G m step.facts.begun)) is
given-less G m (Founded x) n step is = less-none n (length (order_lines G)) is
given-less G m (Opened o) n step is = less-none n (length (order_lines G)) is
given-less G m (Leased k w x q t p d) n step is = less-none n (length (order_lines G)) is
given-less G m (Reported x v _) n step is = less-none n (length (order_lines G)) is
given-less G m (Skipped x _) n step is = less-none n (length (order_lines G)) is
given-less G m (Cancelled k q) n step is = less-none n (length (order_lines G)) is
given-less G m Closed n step is = less-none n (length (order_lines G)) is

pub popped-given : (G : List Entry) (e : Entry) (n : ℕ) → Stepped G e.at e.what →
    n ≡ length (order_lines (G ++ e ∷ [])) →
    n - one_if (is_some (ordered_in e.what)) ≡ length (order_lines G)
popped-given G e n step is = given-less G e.at e.what n step (is ∙ lines-count G e)

-- there are few
pub orders-few : (H : List Entry) → IsLegal H → length (orders H) + 1 < 2 ^ 32
orders-few H legal =
    omega (arith, length-filter_map-le (λ (e : Entry). ordered_in e.what) H, entries-bounded H legal)

pub given-few : (H : List Entry) → IsLegal H → length (order_lines H) + 1 < 2 ^ 32
given-few H legal =
    omega (arith, length-filter_map-le (λ (e : Entry). order_in e.what) H, entries-bounded H legal)

-- the book of a history, with room where the entry is an order, takes what may come next
booked-by : (H : List Entry) (m : Moment) (w : What) (b : Book) → IsLegal H → Stepped H m w → b.orders ≡ orders H →
    b.given ≡ length (order_lines H) → (is_booked (booking_in w) ≡ true → 1 ≤ b.room) → MayBook b (booking_in w)
booked-by H m (Ordered k a n c q d) b legal step book numbers room =
    let next = next_draft-ok (confirmed_searches H) (orders H) (length (order_lines H)) (day_in H (moment_ms m))
    (daily_limit H) _ step.facts.next in
    record {
      room = room refl;
      few = omega (arith, ap length book, orders-few H legal);
      number = step.facts.number ∙ ap (λ (x : ℕ). x + 1) (sym numbers);
      free = ap (λ (os : List rules.Ordered). has_order os c) book ∙ next.free;
    }
booked-by H m (Carried c d) b legal step book numbers room = record {
  room = room refl;
  few = omega (arith, ap length book, orders-few H legal);
  none_given = numbers ∙ ap length (order_lines-begun H m step.facts.begun);
  free = ap (λ (os : List rules.Ordered). has_order os c) book ∙ step.facts.free;
}
booked-by H m (Founded x) b legal step book numbers room = tt
booked-by H m (Opened o) b legal step book numbers room = tt
booked-by H m (Leased k w n q t p d) b legal step book numbers room = tt
booked-by H m (Reported n v _) b legal step book numbers room = tt
booked-by H m (Skipped n _) b legal step book numbers room = tt
booked-by H m (Cancelled k q) b legal step book numbers room = tt
booked-by H m Closed b legal step book numbers room = tt

pub may-book : (H : List Entry) (e : Entry) (b : Book) (x : Booking) → IsLegal H → Stepped H e.at e.what →
    b.orders ≡ orders H → b.given ≡ length (order_lines H) → x ≡ booking_in e.what →
    (is_booked x ≡ true → 1 ≤ b.room) → MayBook b x
may-book H e b x legal step book numbers is room =
    subst (MayBook b) (sym is)
    (booked-by H e.at e.what b legal step book numbers
    (subst (λ (y : Booking). is_booked y ≡ true → 1 ≤ b.room) is room))

-- How many were carried over: those that stand, and weren't given.

line-counted : (lines over all : ℕ) → lines + over ≡ all → suc lines + over ≡ suc all
line-counted lines over all is = omega arith

over-counted : (lines over all : ℕ) → lines + over ≡ all → lines + suc over ≡ suc all
over-counted lines over all is = omega arith

kind-counted : (w : What) (lines : List OrderLine) (over all : List rules.Ordered) →
    length lines + length over ≡ length all →
    length (cons_option (order_in w) lines) + length (cons_option (carried_in w) over)
    ≡ length (cons_option (ordered_in w) all)
kind-counted (Ordered k a n c q d) lines over all is = line-counted (length lines) (length over) (length all) is
kind-counted (Carried c d) lines over all is = over-counted (length lines) (length over) (length all) is
kind-counted (Founded x) lines over all is = is
kind-counted (Opened o) lines over all is = is
kind-counted (Leased k w n q t p d) lines over all is = is
kind-counted (Reported n v _) lines over all is = is
kind-counted (Skipped n _) lines over all is = is
kind-counted (Cancelled k q) lines over all is = is
kind-counted Closed lines over all is = is

pub carried-counted : (H : List Entry) → length (order_lines H) + length (carried H) ≡ length (orders H)
carried-counted [] = refl
carried-counted (e ∷ H) = kind-counted e.what (order_lines H) (carried H) (orders H) (carried-counted H)
