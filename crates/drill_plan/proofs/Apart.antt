-- The commits of a search differ.
use Rattle.std.proofs.Common.{◌≡◌, ◌≢◌, ℕ, suc, ◌+◌, ◌*◌, ◌/◌, ◌%◌, ◌<◌, List, ◌∷◌, map, slice_index, AllPairs, sym, ap, subst, ◌∙◌, arith}
use Rattle.std.specs.List.{range_with_len}
use Rattle.std.proofs.Math.Facts.{leb_yes}
use Rattle.std.proofs.lemmas.List.FromFn.{get_or-map-range_with_len, length-map-range_with_len}
use Rattle.std.proofs.lemmas.Nat.{mod_below}
use Rattle.std.proofs.lemmas.Simd.{map-map}
use Rattle.farm_types.specs.CommitId.{id_bytes}
use Rattle.farm_types.specs.declared.commit_id.CommitId.{CommitId}
use Rattle.suspect_range.specs.Range.{commits_of}
use Rattle.suspect_range.specs.declared.suspect.Suspect.{Suspect}
use Rattle.drill_plan.specs.Digits.{number_bytes, two_digits}
use Rattle.drill_plan.specs.Plan.{commit_numbered, planned_suspect}
use Rattle.drill_plan.specs.declared.limits.TheConstants.{SEARCH_SPAN}

-- a byte tells its two digits
two-digits-tell : (x y : ℕ) → two_digits x ≡ two_digits y → (x % 10 ≡ y % 10) × (x / 10 % 10 ≡ y / 10 % 10)
two-digits-tell x y same =
    let a = mod_below x 10 (leb_yes tt) in
    let b = mod_below y 10 (leb_yes tt) in
    let c = mod_below (x / 10) 10 (leb_yes tt) in
    let d = mod_below (y / 10) 10 (leb_yes tt) in
    (omega arith, omega arith)

-- numbers of one span with the same three last digits are the same
three-digits-tell : (s i j : ℕ) → i < SEARCH_SPAN → j < SEARCH_SPAN
    → two_digits (s * SEARCH_SPAN + i) ≡ two_digits (s * SEARCH_SPAN + j)
    → two_digits ((s * SEARCH_SPAN + i) / 100) ≡ two_digits ((s * SEARCH_SPAN + j) / 100) → i ≡ j
three-digits-tell s i j below_i below_j last before =
    let a = two-digits-tell (s * SEARCH_SPAN + i) (s * SEARCH_SPAN + j) last in
    let b = two-digits-tell ((s * SEARCH_SPAN + i) / 100) ((s * SEARCH_SPAN + j) / 100) before in
    omega (arith, a.0, a.1, b.0)

commits-apart : (s i j : ℕ) → i < j → j < SEARCH_SPAN
    → commit_numbered (s * SEARCH_SPAN + i) ≢ commit_numbered (s * SEARCH_SPAN + j)
commits-apart s i j before below same =
    let bytes : number_bytes (s * SEARCH_SPAN + i) ≡ number_bytes (s * SEARCH_SPAN + j) = ap id_bytes same in
    let at : ℕ → List ℕ → ℕ = λ k bs. slice_index bs k in
    let equal : i ≡ j = three-digits-tell s i j (omega arith) below (ap (at 19) bytes) (ap (at 18) bytes) in
    absurd (omega arith)

-- the commits of a search by position: the base has position 0
positions-are : (s n : ℕ) → commits_of (commit_numbered (s * SEARCH_SPAN)) (map (planned_suspect s) (range_with_len 1 n))
    ≡ map (λ (i : ℕ). commit_numbered (s * SEARCH_SPAN + i)) (range_with_len 0 (suc n))
positions-are s n =
    let base = commit_numbered (s * SEARCH_SPAN) in
    let f : ℕ → CommitId = λ i. commit_numbered (s * SEARCH_SPAN + i) in
    let first : s * SEARCH_SPAN ≡ s * SEARCH_SPAN + 0 = omega arith in
    ap (λ (cs : List CommitId). base ∷ cs) (map-map (λ (x : Suspect). x.commit) (planned_suspect s) (range_with_len 1 n))
    ∙ ap (λ (x : ℕ). commit_numbered x ∷ map f (range_with_len 1 n)) first

all-apart : (s n : ℕ) → n < SEARCH_SPAN
    → AllPairs (λ (a b : CommitId). a ≢ b) (map (λ (i : ℕ). commit_numbered (s * SEARCH_SPAN + i)) (range_with_len 0 (suc n)))
all-apart s n few i j d before within =
    let f : ℕ → CommitId = λ k. commit_numbered (s * SEARCH_SPAN + k) in
    let long = length-map-range_with_len f 0 (suc n) in
    let first = get_or-map-range_with_len f 0 (suc n) i i d (omega arith) (omega arith) in
    let second = get_or-map-range_with_len f 0 (suc n) j j d (omega arith) (omega arith) in
    λ same. commits-apart s i j before (omega arith) (sym first ∙ same ∙ second)

pub commits-differ : (s n : ℕ) → n < SEARCH_SPAN
    → AllPairs (λ (a b : CommitId). a ≢ b)
    (commits_of (commit_numbered (s * SEARCH_SPAN)) (map (planned_suspect s) (range_with_len 1 n)))
commits-differ s n few =
    subst (λ (cs : List CommitId). AllPairs (λ (a b : CommitId). a ≢ b) cs) (sym (positions-are s n)) (all-apart s n few)
