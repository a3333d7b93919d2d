-- The totals after appending an entry.
use Rattle.std.proofs.Common.{◌≡◌, ◌≢◌, ℕ, zero, suc, ◌+◌, ◌≤◌, Bool, cond, List, [], ◌∷◌, ◌++◌, length, map, count_by, Contains, Option, Some, None, refl, sym, ap, ◌∙◌, append-nil, length-append, arith}
use Rattle.std.specs.List.{cons_option, range_with_len}
use Rattle.farm_entry.proofs.Growing.{openings-grow, order_lines-grow, reports-grow}
use Rattle.farm_entry.specs.History.{is_counted, lease_of, opening_in, openings, order_in, order_lines, report_in, reports}
use Rattle.farm_entry.specs.Legal.{IsLegal}
use Rattle.farm_entry.specs.Pages.{searches_that, totals}
use Rattle.farm_entry.specs.Standing.{standing}
use Rattle.farm_entry.specs.declared.entry.Entry.{Entry}
use Rattle.farm_entry.specs.declared.entry.What.{What}
use Rattle.farm_entry.specs.declared.entry.What.TheVariants.{Founded, Opened, Leased, Reported, Skipped, Cancelled, Ordered, Carried, Closed}
use Rattle.farm_entry.specs.declared.lease.LeasedRun.{LeasedRun}
use Rattle.farm_entry.specs.declared.lease.ReportedRun.{ReportedRun}
use Rattle.farm_entry.specs.declared.opening.Opening.{Opening}
use Rattle.farm_entry.specs.declared.standing.Standing.{Standing}
use Rattle.farm_laws.proofs.Counts.{count_by-append, count_by-cons}
use Rattle.farm_laws.proofs.Numbered.{number-at, number-at-least, openings-numbered, tail_of}
use Rattle.farm_laws.proofs.Stepped.{Stepped}
use Rattle.farm_laws.specs.Steps.{IsAbout}
use Rattle.farm_laws.proofs.OneMore.{standing-same}

pub entries-step : (H : List Entry) (e : Entry) → (totals (H ++ e ∷ [])).entries ≡ (totals H).entries + 1
entries-step H e = length-append H (e ∷ [])

pub searches-step : (H : List Entry) (e : Entry) → (totals (H ++ e ∷ [])).searches ≡ (totals H).searches + length
    (cons_option (opening_in e.what) [])
searches-step H e = ap length (openings-grow H e) ∙ length-append (openings H) (cons_option (opening_in e.what) [])

pub orders-step : (H : List Entry) (e : Entry) → (totals (H ++ e ∷ [])).orders ≡ (totals H).orders + length
    (cons_option (order_in e.what) [])
orders-step H e = ap length (order_lines-grow H e) ∙ length-append (order_lines H) (cons_option (order_in e.what) [])

abbrev counts_it : ReportedRun → Bool
counts_it r = is_counted r.fate

pub counted-step : (H : List Entry) (e : Entry) →
    (totals (H ++ e ∷ [])).counted ≡ (totals H).counted + count_by (λ (r : ReportedRun).
    is_counted r.fate) (cons_option (report_in e.what) [])
counted-step H e =
    ap (count_by counts_it) (reports-grow H e) ∙ count_by-append counts_it (reports H) (cons_option
    (report_in e.what) [])

-- counts by tests that agree on each member
count-same : {X : Type 0} (f g : X → Bool) (xs : List X) → ((x : X) → Contains xs x → f x ≡ g x) →
    count_by f xs ≡ count_by g xs
count-same f g [] same = refl
count-same f g (x ∷ xs) same =
    let here : f x ≡ g x = same x (0, omega arith, refl) in
    let rest : count_by f xs ≡ count_by g xs = count-same f g xs (λ y there. same y (
      suc there.0,
      omega (
        arith,
        there.1,
      ),
      there.2,
    )) in
    count_by-cons f x xs ∙ (λ i. cond (here i) 1 0 + rest i) ∙ sym (count_by-cons g x xs)

-- whether a search stands so, before and after
abbrev pub stands : (Standing → Bool) → List Entry → Opening → Bool
stands test H o = test (standing H o)

pub none-changes : (H : List Entry) (e : Entry) (test : Standing → Bool) → IsLegal H → Stepped H e.at e.what →
    ((o : Opening) → Contains (openings H) o → IsAbout H e.what o.search → ⊥) →
    searches_that test (H ++ e ∷ []) ≡ searches_that test H + count_by (stands test (H ++ e ∷ [])) (cons_option
    (opening_in e.what) [])
none-changes H e test legal step none =
    let now = stands test (H ++ e ∷ []) in
    ap (count_by now) (openings-grow H e)
    ∙ count_by-append now (openings H) (cons_option (opening_in e.what) [])
    ∙ ap (λ (n : ℕ). n + count_by now (cons_option (opening_in e.what) []))
    (count-same now (stands test H) (openings H) (λ o there. ap test (standing-same H e o legal step (none o there))))

-- Counts by tests that agree on each member but one.

pub numbered-first : (a : ℕ) (o : Opening) (os : List Opening) → map (λ (x : Opening).
    x.search) (o ∷ os) ≡ range_with_len a (length (o ∷ os)) → o.search ≡ a
numbered-first a o os all = omega (arith, number-at (λ (x : Opening). x.search) a (o ∷ os) all 0 o (omega arith))

count-but_one : (f g : Opening → Bool) (a : ℕ) (os : List Opening) →
    map (λ (o : Opening). o.search) os ≡ range_with_len a (length os) →
    (o : Opening) → Contains os o → ((x : Opening) → Contains os x → x.search ≢ o.search → f x ≡ g x) →
    count_by f os + cond (g o) 1 0 ≡ count_by g os + cond (f o) 1 0
count-but_one f g a [] all o there same = absurd (omega (arith, there.1))
count-but_one f g a (y ∷ os) all o (zero, below, is) same =
    let rest : map (λ (x : Opening). x.search) os ≡ range_with_len (a + 1) (length os) = ap tail_of all in
    let first : y.search ≡ a = numbered-first a y os all in
    let here : o.search ≡ a = ap (λ (x : Opening). x.search) (sym is) ∙ first in
    let others : count_by f os ≡ count_by g os =
    count-same f g os (λ x in_rest. same x (suc in_rest.0, omega (arith, in_rest.1), in_rest.2)
    (λ equal. let least : a + 1 ≤ x.search = number-at-least (λ (y : Opening). y.search) (a + 1) os rest x in_rest in
    omega (arith, equal))) in
    let one : (Opening → Bool) → Opening → ℕ = λ t x. cond (t x) 1 0 in
    let both_f : count_by f (y ∷ os) ≡ cond (f o) 1 0 + count_by f os = count_by-cons f y os
    ∙ ap (λ (x : Opening). one f x + count_by f os) is in
    let both_g : count_by g (y ∷ os) ≡ cond (g o) 1 0 + count_by g os = count_by-cons g y os
    ∙ ap (λ (x : Opening). one g x + count_by g os) is in
    omega (arith, both_f, both_g, others)
count-but_one f g a (y ∷ os) all o (suc k, below, is) same =
    let rest : map (λ (x : Opening). x.search) os ≡ range_with_len (a + 1) (length os) = ap tail_of all in
    let first : y.search ≡ a = numbered-first a y os all in
    let there : Contains os o = (k, omega arith, is) in
    let later : count_by f os + cond (g o) 1 0 ≡ count_by g os + cond (f o) 1 0 =
    count-but_one f g (a + 1) os rest o there (λ x in_rest. same x (
      suc in_rest.0,
      omega (arith, in_rest.1),
      in_rest.2,
    )) in
    let least : a + 1 ≤ o.search = number-at-least (λ (y : Opening). y.search) (a + 1) os rest o there in
    let here : f y ≡ g y = same y (0, omega arith, refl) (λ equal. omega (arith, equal)) in
    let one : Bool → ℕ = λ b. cond b 1 0 in
    let head : one (f y) ≡ one (g y) = ap one here in
    omega (arith, count_by-cons f y os, count_by-cons g y os, later, head)

-- an entry is about one search alone
pub some-equal : {X : Type 0} (a b : X) (o : Option X) → o ≡ Some a → o ≡ Some b → a ≡ b
some-equal a b o p q = cc

pub about-one : (H : List Entry) (what : What) (s t : ℕ) → IsAbout H what s → IsAbout H what t → s ≡ t
about-one H (Reported run verdict _) s t a b =
    let same : a.0 ≡ b.0 = some-equal a.0 b.0 (lease_of H run) a.1 b.1 in
    sym a.2 ∙ ap (λ (l : LeasedRun). l.search) same ∙ b.2
about-one H (Skipped run _) s t a b =
    let same : a.0 ≡ b.0 = some-equal a.0 b.0 (lease_of H run) a.1 b.1 in
    sym a.2 ∙ ap (λ (l : LeasedRun). l.search) same ∙ b.2
about-one H (Cancelled key q) s t a b = sym a ∙ b
about-one H (Founded settings) s t a b = absurd a
about-one H (Opened o) s t a b = absurd a
about-one H (Leased k w q u p d y) s t a b = absurd a
about-one H (Ordered k a n c q d) s t x y = absurd x
about-one H (Carried c d) s t x y = absurd x
about-one H Closed s t x y = absurd x

-- and opens none
pub about-opens_none : (H : List Entry) (what : What) (s : ℕ) → IsAbout H what s → opening_in what ≡ None
about-opens_none H (Reported run verdict _) s a = refl
about-opens_none H (Skipped run _) s a = refl
about-opens_none H (Cancelled key q) s a = refl
about-opens_none H (Founded settings) s a = absurd a
about-opens_none H (Opened o) s a = absurd a
about-opens_none H (Leased k w q u p d y) s a = absurd a
about-opens_none H (Ordered k a n c q d) s x = absurd x
about-opens_none H (Carried c d) s x = absurd x
about-opens_none H Closed s x = absurd x

pub one-changes : (H : List Entry) (e : Entry) (o : Opening) (test : Standing → Bool) → IsLegal H →
    Stepped H e.at e.what → Contains (openings H) o →
    IsAbout H e.what o.search →
    searches_that test (H ++ e ∷ []) + cond (test (standing H o)) 1 0 ≡ searches_that test H + cond (test (standing
    (H ++ e ∷ []) o)) 1 0
one-changes H e o test legal step there about =
    let now = stands test (H ++ e ∷ []) in
    let same_openings : openings (H ++ e ∷ []) ≡ openings H =
    openings-grow H e
    ∙ ap (λ (x : Option Opening). openings H ++ cons_option x []) (about-opens_none H e.what o.search about)
    ∙ append-nil (openings H) in
    let moved : searches_that test (H ++ e ∷ []) ≡ count_by now (openings H) = ap (count_by now) same_openings in
    ap (λ (n : ℕ). n + cond (test (standing H o)) 1 0) moved
    ∙ (count-but_one now (stands test H) 1 (openings H) (openings-numbered H legal) o there
    (λ x in_it other. ap test (standing-same H e x legal step (λ of_x.
    other (about-one H e.what x.search o.search of_x about)))))
