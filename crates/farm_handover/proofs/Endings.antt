-- Lines that aren't the last one.
use Rattle.std.proofs.Common.{◌≡◌, ◌^◌, ◌<◌, ◌≤◌, ℕ, Bool, true, false, ◌&&◌, ◌==◌, List, [], ◌∷◌, Option, Some, None, refl, sym, ap, ◌∙◌, arith}
use Rattle.std.proofs.lemmas.Bool.{ne_eqb}
use Rattle.std.proofs.lemmas.Option.{none-some, same_Some}
use Rattle.std.specs.Prelude.{codes, if◌then◌else◌}
use Rattle.std.specs.Str.{bytes_eq}
use Rattle.common_types.specs.Decimals.{number}
use Rattle.judge.specs.Form.{after_keyword}
use Rattle.judge.specs.Text.{first_number}
use Rattle.farm_handover.specs.Handover.{closes, counts}

both-fails : (a b : Bool) → b ≡ false → (a && b) ≡ false
both-fails true b is = is
both-fails false b is = refl

counts-far : (count : ℕ) (n : Option ℕ) → count < 2 ^ 32 → ((value : ℕ) → n ≡ Some value → 2 ^ 32 ≤ value)
    → counts count n ≡ false
counts-far count None small far = refl
counts-far count (Some n) small far =
    let large : 2 ^ 32 ≤ n = far n refl in
    ne_eqb n count (λ same. omega (arith, small, large, same))

-- a number that is no count, or none
pub closes-far : (count : ℕ) (ws rest : List (List ℕ)) → count < 2 ^ 32 → Some rest ≡ after_keyword (codes "closed") ws
    → ((value : ℕ) → first_number rest ≡ Some value → 2 ^ 32 ≤ value) → false ≡ closes count ws
closes-far count [] rest small after far = refl
closes-far count (w ∷ []) rest small after far = refl
closes-far count (w ∷ n ∷ []) rest small after far = by_test (bytes_eq w (codes "closed")) after
  where
    by_test : (t : Bool) → Some rest ≡ (if t then Some (n ∷ []) else None) → false ≡ (t && counts count (number n))
    by_test true after =
        let same : rest ≡ n ∷ [] = same_Some rest (n ∷ []) after in
        sym (counts-far count (number n) small (λ value is. far value (ap first_number same ∙ is)))
    by_test false after = refl
closes-far count (w ∷ n ∷ m ∷ ws) rest small after far = refl
