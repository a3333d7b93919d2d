-- What is left of a plan once runs strike entries of it.
use Rattle.std.proofs.Common.{◌≡◌, ℕ, ◌+◌, ◌-◌, ◌==◌, ◌<◌, ◌≤◌, List, [], ◌∷◌, length, true, false, cond, refl, sym, ◌∙◌, ap, arith, eq-eqb, ne_eqb, ⊎_elim, IsPermutation}
use Rattle.std.proofs.lemmas.Bool.{cases_eq, cases_lt}
use Rattle.std.proofs.lemmas.List.Sums.{sum_by-cons}
use Rattle.std.proofs.lemmas.List.Sorted.{length_permutation, sum_by-IsPermutation}
use Rattle.std.specs.Prelude.{None, if◌then◌else◌, nat_lt}
use Rattle.farm_rules.specs.Due.{strike, struck, first_entry, times_at, due_search, due_verify}

-- a list's first member, counted
abbrev pub one_at : (position : ℕ) → ℕ → ℕ
one_at position entry = cond (entry == position) 1 0

pub times_at-cons : (position entry : ℕ) (positions : List ℕ) →
    times_at position (entry ∷ positions) ≡ one_at position entry + times_at position positions
times_at-cons position entry positions = sum_by-cons (one_at position) entry positions

pub one_at-same : (position entry : ℕ) → entry ≡ position → one_at position entry ≡ 1
one_at-same position entry same = let test : (entry == position) ≡ true = eq-eqb entry position same in rw test

pub one_at-other : (position entry : ℕ) → (entry ≡ position → ⊥) → one_at position entry ≡ 0
one_at-other position entry other = let test : (entry == position) ≡ false = ne_eqb entry position other in rw test

-- an entry that no outstanding run stands for is left
pub struck-cons_left : (entry : ℕ) (plan outstanding : List ℕ) → times_at entry outstanding ≡ 0 →
    struck (entry ∷ plan) outstanding ≡ entry ∷ struck plan outstanding
struck-cons_left entry plan [] none = refl
struck-cons_left entry plan (position ∷ outstanding) none =
    let split = times_at-cons entry position outstanding in
    ⊎_elim
    (λ (same : position ≡ entry). absurd (omega (arith, none, split, one_at-same entry position same)))
    (λ (other : position ≡ entry → ⊥).
    let test : (entry == position) ≡ false = ne_eqb entry position (λ e. other (sym e)) in
    rw test (struck-cons_left entry (strike position plan) outstanding (omega (arith, none, split))))
    (cases_eq position entry)

-- an entry that one stands for is struck with it
pub struck-cons_struck : (entry : ℕ) (plan outstanding : List ℕ) → 0 < times_at entry outstanding →
    struck (entry ∷ plan) outstanding ≡ struck plan (strike entry outstanding)
struck-cons_struck entry plan [] some = absurd (omega (arith, some))
struck-cons_struck entry plan (position ∷ outstanding) some =
    let split = times_at-cons entry position outstanding in
    ⊎_elim
    (λ (same : position ≡ entry).
    let test : (position == entry) ≡ true = eq-eqb position entry same in
    let turned : (entry == position) ≡ true = eq-eqb entry position (sym same) in
    rw (test, turned) refl)
    (λ (other : position ≡ entry → ⊥).
    let test : (position == entry) ≡ false = ne_eqb position entry other in
    let turned : (entry == position) ≡ false = ne_eqb entry position (λ e. other (sym e)) in
    let some_left : 0 < times_at entry outstanding = omega (arith, some, split, one_at-other entry position other) in
    rw (test, turned) (struck-cons_struck entry (strike position plan) outstanding some_left))
    (cases_eq position entry)

-- a strike takes one entry at its position, where there is one, and none at another
pub times_at-strike : (p position : ℕ) (positions : List ℕ) → 0 < times_at position positions →
    times_at p (strike position positions) + one_at p position ≡ times_at p positions
times_at-strike p position [] some = absurd (omega (arith, some))
times_at-strike p position (entry ∷ positions) some =
    let split = times_at-cons position entry positions in
    let split_p = times_at-cons p entry positions in
    ⊎_elim
    (λ (same : entry ≡ position).
    let test : (entry == position) ≡ true = eq-eqb entry position same in
    let counted : one_at p entry ≡ one_at p position = ap (one_at p) same in
    rw test (omega (arith, split_p, counted)))
    (λ (other : entry ≡ position → ⊥).
    let test : (entry == position) ≡ false = ne_eqb entry position other in
    let some_left : 0 < times_at position positions = omega (arith, some, split, one_at-other position entry other) in
    let rest = times_at-strike p position positions some_left in
    let kept = times_at-cons p entry (strike position positions) in
    rw test (omega (arith, split_p, rest, kept)))
    (cases_eq entry position)

-- a strike takes one entry at most
length-strike : (position : ℕ) (plan : List ℕ) → length plan ≤ length (strike position plan) + 1
length-strike position [] = omega arith
length-strike position (entry ∷ plan) =
    ⊎_elim
    (λ (same : entry ≡ position).
    let test : (entry == position) ≡ true = eq-eqb entry position same in
    rw test (omega arith))
    (λ (other : entry ≡ position → ⊥).
    let test : (entry == position) ≡ false = ne_eqb entry position other in
    rw test (omega (arith, length-strike position plan)))
    (cases_eq entry position)

-- runs take one entry each at most
pub length-struck : (plan outstanding : List ℕ) → length plan ≤ length (struck plan outstanding) + length outstanding
length-struck plan [] = omega arith
length-struck plan (position ∷ outstanding) =
    omega (arith, length-strike position plan, length-struck (strike position plan) outstanding)

pub struck-nil : (outstanding : List ℕ) → struck [] outstanding ≡ []
struck-nil [] = refl
struck-nil (position ∷ outstanding) = struck-nil outstanding

-- what is left depends only on how often runs are outstanding at each position
pub struck-same_times : (plan outstanding other : List ℕ) → ((p : ℕ) → times_at p other ≡ times_at p outstanding) →
    struck plan other ≡ struck plan outstanding
struck-same_times [] outstanding other same = struck-nil other ∙ sym (struck-nil outstanding)
struck-same_times (entry ∷ plan) outstanding other same =
    ⊎_elim
    (λ (some : 0 < times_at entry outstanding).
    let some_other : 0 < times_at entry other = omega (arith, some, same entry) in
    struck-cons_struck entry plan other some_other
    ∙ (struck-same_times plan (strike entry outstanding) (strike entry other)
    (λ p. omega (arith, same p, times_at-strike p entry outstanding some, times_at-strike p entry other some_other))
    ∙ sym (struck-cons_struck entry plan outstanding some)))
    (λ (none : times_at entry outstanding ≤ 0).
    let none_here : times_at entry outstanding ≡ 0 = omega (arith, none) in
    let none_other : times_at entry other ≡ 0 = omega (arith, none, same entry) in
    struck-cons_left entry plan other none_other
    ∙ (ap (λ (left : List ℕ). entry ∷ left) (struck-same_times plan outstanding other same)
    ∙ sym (struck-cons_left entry plan outstanding none_here)))
    (cases_lt 0 (times_at entry outstanding))

-- so in another order the same runs leave the same entries
pub times_at-IsPermutation : (outstanding other : List ℕ) → IsPermutation outstanding other → (p : ℕ) →
    times_at p other ≡ times_at p outstanding
times_at-IsPermutation outstanding other same p = sum_by-IsPermutation (one_at p) outstanding other same

pub struck-IsPermutation : (plan outstanding other : List ℕ) → IsPermutation outstanding other →
    struck plan other ≡ struck plan outstanding
struck-IsPermutation plan outstanding other same =
    struck-same_times plan outstanding other (times_at-IsPermutation outstanding other same)

pub due_search-IsPermutation : (plan outstanding other : List ℕ) → IsPermutation outstanding other →
    due_search plan other ≡ due_search plan outstanding
due_search-IsPermutation plan outstanding other same =
    ap (λ (n : ℕ). if nat_lt n (length plan) then first_entry (struck plan other) else None)
    (length_permutation outstanding other same)
    ∙ ap (λ (left : List ℕ). if nat_lt (length outstanding) (length plan) then first_entry left else None)
    (struck-IsPermutation plan outstanding other same)

pub due_verify-IsPermutation : (culprit at_culprit at_parent reruns : ℕ) (outstanding other : List ℕ) →
    IsPermutation outstanding other →
    due_verify culprit at_culprit at_parent other reruns ≡ due_verify culprit at_culprit at_parent outstanding reruns
due_verify-IsPermutation culprit at_culprit at_parent reruns outstanding other same =
    rw (times_at-IsPermutation outstanding other same culprit, times_at-IsPermutation outstanding other same (culprit - 1)) refl
