-- The first search that waits for an order is the earliest of all that do.
use Rattle.std.proofs.Common.{◌≡◌, ℕ, zero, suc, ◌+◌, ◌<◌, ◌≤◌, Bool, true, false, not, ◌&&◌, nat_lt, if◌then◌else◌, List, [], ◌∷◌, length, map, get_or, All, Contains, Option, Some, None, Result, refl, sym, ap, ◌∙◌, arith, lt-ltb}
use Rattle.std.specs.List.{cons_option, filter_map, range_with_len}
use Rattle.std.specs.Option.{is_some}
use Rattle.std.proofs.lemmas.List.Elements.{All-contains_itself, All-nil}
use Rattle.farm_rules.specs.Orders.{Ordered, candidates, draft_of, earliest, has_order, next_draft, orders_of}
use Rattle.farm_rules.specs.declared.orders.Candidate.{Candidate}
use Rattle.farm_rules.proofs.Earliest.{earliest-first}
use Rattle.farm_rules.proofs.EarliestFound.{earliest-free}
use Rattle.farm_rules.specs.declared.orders.Draft.{Draft}
use Rattle.farm_rules.specs.declared.orders.NoOrder.{NoOrder}
use Rattle.farm_entry.specs.Closing.{has_order_to_take}
use Rattle.farm_entry.specs.History.{daily_limit, order_lines}
use Rattle.farm_entry.specs.Orders.{confirmed_searches, day_in, next_order_at, orders}
use Rattle.farm_entry.specs.declared.entry.Entry.{Entry}
use Rattle.farm_entry.specs.declared.opening.Opening.{Opening}
use Rattle.farm_laws.proofs.Filters.{All-imp}
use Rattle.farm_laws.proofs.Lists.{contains-head, contains-tail, nil-filter_map}
use Rattle.farm_laws.proofs.Numbered.{number-at-least, tail_of}
use Rattle.farm_laws.proofs.Pairs.{All-parts}
use Rattle.farm_ledger.specs.Waiting.{unordered}

-- The candidates of searches, one by one.

kept-one : (os : List Ordered) (x : Option Candidate) (rest : List Candidate) →
    candidates (cons_option x rest) os ≡ cons_option (unordered os x) (candidates rest os)
kept-one os None rest = refl
kept-one os (Some c) rest = by (has_order os c.commit)
  where
    by : (b : Bool) → (if not b then c ∷ candidates rest os else candidates rest os)
        ≡ cons_option (if b then None else Some c) (candidates rest os)
    by true = refl
    by false = refl

pub candidates-each : (os : List Ordered) (f : Opening → Option Candidate) (xs : List Opening) →
    candidates (filter_map f xs) os ≡ filter_map (λ o. unordered os (f o)) xs
candidates-each os f [] = refl
candidates-each os f (x ∷ xs) =
    kept-one os (f x) (filter_map f xs) ∙ ap (cons_option (unordered os (f x))) (candidates-each os f xs)

-- The earliest one.

abbrev head_or : List ℕ → ℕ
head_or [] = 0
head_or (n ∷ ns) = n

-- a search makes a candidate of its own number
abbrev pub AreOwn : (Opening → Option Candidate) → Type 0
AreOwn g = (x : Opening) (d : Candidate) → g x ≡ Some d → d.search ≡ x.search

-- the first of a list that is numbered from a on
first-here : (g : Opening → Option Candidate) (a : ℕ) (y : Opening) (xs : List Opening) (c : Candidate) → AreOwn g →
    map (λ (o : Opening). o.search) (y ∷ xs) ≡ range_with_len a (length (y ∷ xs)) → g y ≡ Some c →
    earliest (filter_map g (y ∷ xs)) ≡ Some c
first-here g a y xs c own all is =
    let first : y.search ≡ a = ap head_or all in
    let later : All (λ (d : Candidate). c.search ≤ d.search) (filter_map g xs) =
    All-parts g (λ (d : Candidate). c.search ≤ d.search) xs
    (All-imp (Contains xs) (λ (x : Opening). (d : Candidate) → g x ≡ Some d → c.search ≤ d.search) xs
    (λ x there d makes.
    omega (arith, first, own y c is, own x d makes, number-at-least (λ (o : Opening). o.search) (a + 1) xs (ap tail_of all) x there))
    (All-contains_itself xs)) in
    ap (λ (m : Option Candidate). earliest (cons_option m (filter_map g xs))) is
    ∙ earliest-first [] (filter_map g xs) c (All-nil (λ (d : Candidate). c.search < d.search)) later

pub first-earliest : (g : Opening → Option Candidate) (a : ℕ) (xs : List Opening) (k : ℕ) (o : Opening) (c : Candidate) → AreOwn g →
    map (λ (x : Opening). x.search) xs ≡ range_with_len a (length xs) → k < length xs → get_or xs k o ≡ o →
    ((x : Opening) → Contains xs x → x.search < a + k → g x ≡ None) → g o ≡ Some c → earliest (filter_map g xs) ≡ Some c
first-earliest g a [] k o c own all below at none is = absurd (omega (arith, below))
first-earliest g a (y ∷ xs) zero o c own all below at none is = first-here g a y xs c own all (ap g at ∙ is)
first-earliest g a (y ∷ xs) (suc k) o c own all below at none is =
    let first : y.search ≡ a = ap head_or all in
    let here : g y ≡ None = none y (contains-head xs y y refl) (omega (arith, first)) in
    ap (λ (m : Option Candidate). earliest (cons_option m (filter_map g xs))) here
    ∙ first-earliest g (a + 1) xs k o c own (ap tail_of all) (omega (arith, below)) at
    (λ x there low. none x (contains-tail y xs x there) (omega (arith, low))) is

pub none-earliest : (g : Opening → Option Candidate) (xs : List Opening) → ((x : Opening) → Contains xs x → g x ≡ None) →
    earliest (filter_map g xs) ≡ None
none-earliest g xs none = ap earliest (nil-filter_map g xs none)

-- The next order by that search alone.

abbrev pub alone : Option Candidate → List Candidate
alone None = []
alone (Some c) = c ∷ []

alone-earliest : (os : List Ordered) (x : Option Candidate) → ((c : Candidate) → x ≡ Some c → has_order os c.commit ≡ false) →
    earliest (candidates (alone x) os) ≡ x
alone-earliest os None free = refl
alone-earliest os (Some c) free =
    ap (λ (b : Bool). earliest (if not b then c ∷ [] else [])) (free c refl)

pub next-alone : (searches : List Candidate) (os : List Ordered) (given day limit : ℕ) (x : Option Candidate) →
    x ≡ earliest (candidates searches os) → next_draft (alone x) os given day limit ≡ next_draft searches os given day limit
next-alone searches os given day limit x is =
    ap (λ (m : Option Candidate). draft_of m (given + 1) day limit (orders_of day os))
    (alone-earliest os x (λ c best. earliest-free searches os c (sym is ∙ best)) ∙ is)

pub next-order : (H X : List Entry) (os : List Ordered) (given day limit m : ℕ) (first x : Option Candidate)
    (r : Result Draft NoOrder) → X ≡ H → os ≡ orders H → given ≡ length (order_lines H) →
    first ≡ earliest (candidates (confirmed_searches H) (orders H)) → first ≡ x → r ≡ next_draft (alone x) os given day limit →
    day ≡ day_in X m → limit ≡ daily_limit X → r ≡ next_order_at H m
next-order H X os given day limit m first x r same book numbers best is made dated limited =
    made
    ∙ ap (λ (l : List Ordered). next_draft (alone x) l given day limit) book
    ∙ ap (λ (n : ℕ). next_draft (alone x) (orders H) n day limit) numbers
    ∙ ap (λ (d : ℕ). next_draft (alone x) (orders H) (length (order_lines H)) d limit)
    (dated ∙ ap (λ (Y : List Entry). day_in Y m) same)
    ∙ ap (λ (n : ℕ). next_draft (alone x) (orders H) (length (order_lines H)) (day_in H m) n)
    (limited ∙ ap daily_limit same)
    ∙ next-alone (confirmed_searches H) (orders H) (length (order_lines H)) (day_in H m) (daily_limit H) x
    (sym is ∙ best)

-- Whether there is one.

some-earliest : (xs : List Candidate) → is_some (earliest xs) ≡ nat_lt 0 (length xs)
some-earliest [] = refl
some-earliest (c ∷ cs) = sym (lt-ltb 0 (length (c ∷ cs)) (omega arith))

-- one is still to be taken where the limit allows any and some search waits
pub order-to_take : (H : List Entry) (limit : ℕ) (first : Option Candidate) → limit ≡ daily_limit H →
    first ≡ earliest (candidates (confirmed_searches H) (orders H)) →
    (nat_lt 0 limit && is_some first) ≡ has_order_to_take H
order-to_take H limit first limited best =
    ap (λ (n : ℕ). nat_lt 0 n && is_some first) limited
    ∙ ap (λ (b : Bool). nat_lt 0 (daily_limit H) && b)
    (ap (λ (x : Option Candidate). is_some x) best ∙ some-earliest (candidates (confirmed_searches H) (orders H)))
