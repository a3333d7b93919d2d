-- Whether some search goes on, by what is counted.
use Rattle.std.proofs.Common.{◌≡◌, ℕ, ◌+◌, ◌<◌, cond, nat_lt, Bool, true, ◌||◌, List, [], ◌∷◌, count_by, refl, sym, ap, ◌∙◌, arith}
use Rattle.std.specs.List.{list_any}
use Rattle.std.proofs.lemmas.Bool.{lt-ltb}
use Rattle.std.proofs.lemmas.Bool.Decides.{nat_tests}
use Rattle.farm_entry.specs.Closing.{has_active}
use Rattle.farm_entry.specs.History.{openings}
use Rattle.farm_entry.specs.Standing.{is_active, is_searching, is_verifying, standing}
use Rattle.farm_entry.specs.declared.entry.Entry.{Entry}
use Rattle.farm_entry.specs.declared.opening.Opening.{Opening}
use Rattle.farm_entry.specs.declared.standing.Standing.{Standing}
use Rattle.farm_entry.specs.declared.standing.Standing.TheVariants.{Searching, Verifying, Confirmed, Vindicated, NoCulprit, Inconclusive, Cancelled}
use Rattle.farm_laws.proofs.Counts.{count_by-cons}
use Rattle.kept_farm.specs.Rows.{row_of}
use Rattle.kept_farm.specs.declared.row.Row.{Row}

active-is : (s : Standing) → (is_searching s || is_verifying s) ≡ is_active s
active-is Searching = refl
active-is (Verifying k) = refl
active-is (Confirmed k) = refl
active-is (Vindicated k) = refl
active-is NoCulprit = refl
active-is Inconclusive = refl
active-is Cancelled = refl

one-more : (p q : Bool) (n m : ℕ) → (nat_lt 0 (cond p 1 0 + n) || nat_lt 0 (cond q 1 0 + m))
    ≡ ((p || q) || (nat_lt 0 n || nat_lt 0 m))
one-more p q n m = grind (arith, nat_tests)

-- some search goes on where one is searching or one is verifying
some-active : (s v : Opening → Bool) (a : Opening → Bool) → ((o : Opening) → (s o || v o) ≡ a o) → (os : List Opening) →
    (nat_lt 0 (count_by s os) || nat_lt 0 (count_by v os)) ≡ list_any a os
some-active s v a both [] = refl
some-active s v a both (o ∷ os) =
    ap (λ (n : ℕ). nat_lt 0 n || nat_lt 0 (count_by v (o ∷ os))) (count_by-cons s o os)
    ∙ ap (λ (n : ℕ). nat_lt 0 (cond (s o) 1 0 + count_by s os) || nat_lt 0 n) (count_by-cons v o os)
    ∙ one-more (s o) (v o) (count_by s os) (count_by v os)
    ∙ ap (λ (b : Bool). b || (nat_lt 0 (count_by s os) || nat_lt 0 (count_by v os))) (both o)
    ∙ ap (λ (b : Bool). a o || b) (some-active s v a both os)

pub active-kept : (H : List Entry) (r : Row) → r ≡ row_of H →
    (nat_lt 0 r.searching || nat_lt 0 r.verifying) ≡ has_active H
active-kept H r is =
    ap (λ (x : Row). nat_lt 0 x.searching || nat_lt 0 x.verifying) is
    ∙ some-active (λ o. is_searching (standing H o)) (λ o. is_verifying (standing H o)) (λ o. is_active (standing H o))
    (λ o. active-is (standing H o)) (openings H)

-- one that is searching is enough, and else one that is verifying
pub either-first : (a b : ℕ) (x : Bool) → 0 < a → (nat_lt 0 a || nat_lt 0 b) ≡ x → nat_lt 0 a ≡ x
either-first a b x some is =
    let first : nat_lt 0 a ≡ true = lt-ltb 0 a some in
    first ∙ ap (λ (t : Bool). t || nat_lt 0 b) (sym first) ∙ is

pub either-second : (a b : ℕ) (x : Bool) → a ≡ 0 → (nat_lt 0 a || nat_lt 0 b) ≡ x → nat_lt 0 b ≡ x
either-second a b x none is = ap (λ (n : ℕ). nat_lt 0 n || nat_lt 0 b) (sym none) ∙ is
