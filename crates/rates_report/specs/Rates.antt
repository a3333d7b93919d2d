-- What is told of a test's flake rate.
use Rattle.std.specs.Prelude.{ℕ, List, [], ◌∷◌, codes}
use Rattle.serde_json.specs.Data.{Data, string}
use Rattle.farm_wire.specs.Members.{object_with, whole, wholes}

-- an object that says how often the test failed, in how many runs, and the rate that is offered for it, by its two
-- numbers
unfoldable pub rate_data : (test : List ℕ) → (fails runs numerator denominator : ℕ) → Data
rate_data test fails runs numerator denominator =
    object_with (
    (codes "fails", whole fails)
    ∷ (codes "rate", wholes (numerator ∷ denominator ∷ []))
    ∷ (codes "runs", whole runs)
    ∷ (codes "test", string test)
    ∷ [])
