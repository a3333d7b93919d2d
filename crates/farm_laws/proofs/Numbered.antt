-- Searches, runs and orders are numbered 1, 2, 3 in the order of their entries, so a number finds its part.
use Rattle.std.proofs.Common.{◌≡◌, ℕ, zero, suc, ◌+◌, ◌<◌, ◌≤◌, ◌==◌, Bool, true, false, List, [], ◌∷◌, ◌++◌, length, map, get_or, Contains, find, cond, Option, Some, None, refl, sym, ap, subst, ◌∙◌, arith, append-nil, length-append}
use Rattle.std.specs.List.{cons_option, filter_map, range_with_len}
use Rattle.std.proofs.lemmas.Bool.Decides.{nat_tests}
use Rattle.std.proofs.lemmas.List.{get_or-map, map-append}
use Rattle.std.proofs.lemmas.List.FromFn.{get_or-range_with_len}
use Rattle.std.proofs.lemmas.Option.{none-some}
use Rattle.farm_types.specs.declared.moment.Moment.{Moment}
use Rattle.farm_entry.specs.History.{all_leases, lease_in, lease_of, opening_in, opening_numbered, openings, order_in, order_lines, report_in, skip_in, told_in}
use Rattle.farm_entry.specs.Legal.{IsFounding, IsLegal, ask_of}
use Rattle.farm_entry.specs.declared.entry.Entry.{Entry}
use Rattle.farm_entry.specs.declared.entry.What.{What}
use Rattle.farm_entry.specs.declared.entry.What.TheVariants.{Founded, Opened, Leased, Reported, Skipped, Cancelled, Ordered, Carried, Closed}
use Rattle.farm_entry.specs.declared.lease.LeasedRun.{LeasedRun}
use Rattle.farm_entry.specs.declared.opening.Opening.{Opening}
use Rattle.farm_entry.specs.declared.order_page.OrderLine.{OrderLine}
use Rattle.farm_entry.proofs.Growing.{parts-grow}
use Rattle.farm_laws.proofs.EntryParts.{leased-facts, opened-facts, ordered-facts}
use Rattle.farm_laws.proofs.Induct.{each_legal}
use Rattle.farm_laws.proofs.Made.{is_made}
use Rattle.farm_laws.proofs.Stepped.{Stepped}

-- lists numbered from a number on

range-more : (a n : ℕ) → range_with_len a (n + 1) ≡ range_with_len a n ++ (a + n) ∷ []
range-more a zero = ap (λ (k : ℕ). k ∷ []) (omega arith)
range-more a (suc n) =
    let on : suc n + 1 ≡ suc (n + 1) = omega arith in
    let there : a + 1 + n ≡ a + suc n = omega arith in
    ap (range_with_len a) on ∙ ap (λ (l : List ℕ). a ∷ l) (range-more (a + 1) n) ∙ ap (λ (k : ℕ). a ∷ (range_with_len (a + 1) n ++ k ∷ [])) there

-- the parts are numbered 1, 2, 3
abbrev pub AreNumbered : {X : Type 0} → (X → ℕ) → List X → Type 0
AreNumbered number xs = map number xs ≡ range_with_len 1 (length xs)

numbered-push : {X : Type 0} (number : X → ℕ) (xs : List X) (x : X) → AreNumbered number xs → number x ≡ length xs + 1 →
    AreNumbered number (xs ++ x ∷ [])
numbered-push number xs x all next =
    let longer : length (xs ++ x ∷ []) ≡ length xs + 1 = length-append xs (x ∷ []) in
    let number_is : number x ≡ 1 + length xs = omega (arith, next) in
    map-append number xs (x ∷ [])
    ∙ ap (λ (l : List ℕ). l ++ number x ∷ []) all
    ∙ ap (λ (k : ℕ). range_with_len 1 (length xs) ++ k ∷ []) number_is
    ∙ sym (range-more 1 (length xs))
    ∙ ap (range_with_len 1) (sym longer)

numbered-optional : {X : Type 0} (number : X → ℕ) (xs : List X) (o : Option X) → AreNumbered number xs →
    ((x : X) → o ≡ Some x → number x ≡ length xs + 1) → AreNumbered number (xs ++ cons_option o [])
numbered-optional number xs None all next = subst (AreNumbered number) (sym (append-nil xs)) all
numbered-optional number xs (Some x) all next = numbered-push number xs x all (next x refl)

-- the parts of a legal history are numbered, where each new one has the next number
numbered-parts : {X : Type 0} (part : What → Option X) (number : X → ℕ) →
    ((w : What) → IsFounding w → part w ≡ None) →
    ((H : List Entry) (m : Moment) (w : What) (x : X) → part w ≡ Some x → Stepped H m w →
    number x ≡ length (filter_map (λ (e : Entry). part e.what) H) + 1) →
    (H : List Entry) → IsLegal H → AreNumbered number (filter_map (λ (e : Entry). part e.what) H)
numbered-parts part number none next =
    each_legal (λ (H : List Entry). AreNumbered number (filter_map (λ (e : Entry). part e.what) H))
    (λ e founding. subst (λ o. AreNumbered number (cons_option o [])) (sym (none e.what founding)) refl)
    (λ H e legal all s.
    subst (AreNumbered number) (sym (parts-grow part H e))
    (numbered-optional number (filter_map (λ (x : Entry). part x.what) H) (part e.what) all (λ x is. next H e.at e.what x is s)))

-- the parts of a founding
pub no_opening : (w : What) → IsFounding w → opening_in w ≡ None
no_opening (Founded s) h = refl
no_opening (Opened o) h = absurd h
no_opening (Leased k w r q t p d) h = absurd h
no_opening (Reported r v _) h = absurd h
no_opening (Skipped r _) h = absurd h
no_opening (Cancelled k q) h = absurd h
no_opening (Ordered k a n c q d) h = absurd h
no_opening (Carried c t) h = absurd h
no_opening Closed h = absurd h

pub no_lease : (w : What) → IsFounding w → lease_in w ≡ None
no_lease (Founded s) h = refl
no_lease (Opened o) h = absurd h
no_lease (Leased k w r q t p d) h = absurd h
no_lease (Reported r v _) h = absurd h
no_lease (Skipped r _) h = absurd h
no_lease (Cancelled k q) h = absurd h
no_lease (Ordered k a n c q d) h = absurd h
no_lease (Carried c t) h = absurd h
no_lease Closed h = absurd h

pub no_report : (w : What) → IsFounding w → report_in w ≡ None
no_report (Founded s) h = refl
no_report (Opened o) h = absurd h
no_report (Leased k w r q t p d) h = absurd h
no_report (Reported r v _) h = absurd h
no_report (Skipped r _) h = absurd h
no_report (Cancelled k q) h = absurd h
no_report (Ordered k a n c q d) h = absurd h
no_report (Carried c t) h = absurd h
no_report Closed h = absurd h

pub no_skip : (w : What) → IsFounding w → skip_in w ≡ None
no_skip (Founded s) h = refl
no_skip (Opened o) h = absurd h
no_skip (Leased k w r q t p d) h = absurd h
no_skip (Reported r v _) h = absurd h
no_skip (Skipped r _) h = absurd h
no_skip (Cancelled k q) h = absurd h
no_skip (Ordered k a n c q d) h = absurd h
no_skip (Carried c t) h = absurd h
no_skip Closed h = absurd h

pub no_told : (w : What) → IsFounding w → told_in w ≡ None
no_told (Founded s) h = refl
no_told (Opened o) h = absurd h
no_told (Leased k w r q t p d) h = absurd h
no_told (Reported r v _) h = absurd h
no_told (Skipped r _) h = absurd h
no_told (Cancelled k q) h = absurd h
no_told (Ordered k a n c q d) h = absurd h
no_told (Carried c t) h = absurd h
no_told Closed h = absurd h

pub no_order : (w : What) → IsFounding w → order_in w ≡ None
no_order (Founded s) h = refl
no_order (Opened o) h = absurd h
no_order (Leased k w r q t p d) h = absurd h
no_order (Reported r v _) h = absurd h
no_order (Skipped r _) h = absurd h
no_order (Cancelled k q) h = absurd h
no_order (Ordered k a n c q d) h = absurd h
no_order (Carried c t) h = absurd h
no_order Closed h = absurd h

pub openings-numbered : (H : List Entry) → IsLegal H → AreNumbered (λ (o : Opening). o.search) (openings H)
openings-numbered =
    numbered-parts opening_in (λ (o : Opening). o.search) no_opening
    (λ H m w o is s. sym (is_made (ask_of o) (length (openings H) + 1) o (opened-facts H m w o is s).made).number)

pub leases-numbered : (H : List Entry) → IsLegal H → AreNumbered (λ (l : LeasedRun). l.run) (all_leases H)
leases-numbered =
    numbered-parts lease_in (λ (l : LeasedRun). l.run) no_lease (λ H m w l is s. (leased-facts H m w l is s).number)

pub orders-numbered : (H : List Entry) → IsLegal H → AreNumbered (λ (x : OrderLine). x.order) (order_lines H)
orders-numbered =
    numbered-parts order_in (λ (x : OrderLine). x.order) no_order (λ H m w x is s. (ordered-facts H m w x is s).number)

-- a number finds its part

-- in a list that is numbered from a on, the number of the item at place i is a + i
pub number-at : {X : Type 0} (number : X → ℕ) (a : ℕ) (xs : List X) → map number xs ≡ range_with_len a (length xs) →
    (i : ℕ) (d : X) → i < length xs → number (get_or xs i d) ≡ a + i
number-at number a xs all i d below =
    sym (get_or-map number xs i d 0 below) ∙ ap (λ (l : List ℕ). get_or l i 0) all ∙ get_or-range_with_len a (length xs) i 0 below

-- each item of such a list has at least the number a
pub number-at-least : {X : Type 0} (number : X → ℕ) (a : ℕ) (xs : List X) →
    map number xs ≡ range_with_len a (length xs) →
    (x : X) → Contains xs x → a ≤ number x
number-at-least number a xs all x h =
    let at : number (get_or xs h.0 x) ≡ a + h.0 = number-at number a xs all h.0 x h.1 in
    subst (λ (y : _). a ≤ number y) h.2 (omega (arith, at))

-- a list of numbers without its first
abbrev pub tail_of : List ℕ → List ℕ
tail_of [] = []
tail_of (x ∷ xs) = xs

find-at : {X : Type 0} (number : X → ℕ) (a : ℕ) (xs : List X) → map number xs ≡ range_with_len a (length xs) →
    (i : ℕ) (x : X) → i < length xs → get_or xs i x ≡ x → find (λ (y : X). number y == number x) xs ≡ Some x
find-at number a [] all i x below is = absurd (omega arith)
find-at number a (y ∷ xs) all zero x below is =
    let here : number y == number x ≡ true = grind (arith, nat_tests, ap number is) in
    ap (λ (b : Bool). cond b (Some y) (find (λ z. number z == number x) xs)) here ∙ ap Some is
find-at number a (y ∷ xs) all (suc i) x below is =
    let first : number y ≡ a = omega (arith, number-at number a (y ∷ xs) all 0 y (omega arith)) in
    let there : number x ≡ a + suc i = ap number (sym is) ∙ number-at number a (y ∷ xs) all (suc i) x below in
    let not_here : number y == number x ≡ false = grind (arith, nat_tests, first, there) in
    ap (λ (b : Bool). cond b (Some y) (find (λ z. number z == number x) xs)) not_here
    ∙ find-at number (a + 1) xs (ap tail_of all) i x (omega arith) is

pub find-numbered : {X : Type 0} (number : X → ℕ) (xs : List X) (x : X) → AreNumbered number xs → Contains xs x →
    find (λ (y : X). number y == number x) xs ≡ Some x
find-numbered number xs x all h = find-at number 1 xs all h.0 x h.1 h.2

pub opening-found : (H : List Entry) (o : Opening) → IsLegal H → Contains (openings H) o → opening_numbered H o.search ≡ Some o
opening-found H o legal h = find-numbered (λ (x : Opening). x.search) (openings H) o (openings-numbered H legal) h

pub lease-found : (H : List Entry) (l : LeasedRun) → IsLegal H → Contains (all_leases H) l → lease_of H l.run ≡ Some l
lease-found H l legal h = find-numbered (λ (x : LeasedRun). x.run) (all_leases H) l (leases-numbered H legal) h

-- and what is found is there, and has the number
find-there_if : {X : Type 0} (p : X → Bool) (y : X) (xs : List X) (x : X) (b : Bool) → p y ≡ b →
    (find p xs ≡ Some x → Contains xs x × (p x ≡ true)) → cond b (Some y) (find p xs) ≡ Some x → Contains (y ∷ xs) x × (p x ≡ true)
find-there_if p y xs x true e later h = let same : y ≡ x = cc in ((0, omega arith, same), subst (λ z. p z ≡ true) same e)
find-there_if p y xs x false e later h =
    let rest = later h in ((suc rest.0.0, omega (arith, rest.0.1), rest.0.2), rest.1)

pub find-there : {X : Type 0} (p : X → Bool) (xs : List X) (x : X) → find p xs ≡ Some x → Contains xs x × (p x ≡ true)
find-there p [] x h = absurd (none-some x h)
find-there p (y ∷ xs) x h = find-there_if p y xs x (p y) refl (find-there p xs x) h

pub opening-there : (H : List Entry) (s : ℕ) (o : Opening) → opening_numbered H s ≡ Some o → Contains (openings H) o × (o.search ≡ s)
opening-there H s o h =
    let there = find-there (λ (x : Opening). x.search == s) (openings H) o h in
    (there.0, grind (arith, nat_tests, there.1))

pub lease-there : (H : List Entry) (run : ℕ) (l : LeasedRun) → lease_of H run ≡ Some l → Contains (all_leases H) l × (l.run ≡ run)
lease-there H run l h =
    let there = find-there (λ (x : LeasedRun). x.run == run) (all_leases H) l h in
    (there.0, grind (arith, nat_tests, there.1))
