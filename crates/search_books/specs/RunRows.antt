-- Where runs stand, and the rows that hold it.
use Rattle.std.specs.Prelude.{ℕ, suc, refl, List, [], ◌∷◌, Option, Some, None}
use Rattle.std.specs.Ordering.{nat_cmp}
use Rattle.std.specs.FinMap.{FinMap, from_entries, code}
use Rattle.std.specs.Coded.{Coded, code_by, coded×, coded_ℕ}

-- a map from runs to places, and the number below which a run is put without memory
pub record RunPlaces : Type 0 where
  pub places : FinMap nat_cmp ℕ
  pub bound : ℕ

-- it is stored as the pair of its fields
abbrev pub run_places_code : Coded RunPlaces
run_places_code =
    code_by (FinMap nat_cmp ℕ × ℕ) (coded× (code coded_ℕ coded_ℕ) coded_ℕ) (λ r. (r.places, r.bound))
    (λ p. record { places = p.0; bound = p.1 }) (λ _. refl)

-- the runs with a place, and these, where the rows begin at a run
abbrev pub told_from : ℕ → List (Option ℕ) → List (ℕ × ℕ)
told_from run [] = []
told_from run (None ∷ rows) = told_from (suc run) rows
told_from run (Some place ∷ rows) = (run, place) ∷ told_from (suc run) rows

abbrev pub places_in : List (Option ℕ) → FinMap nat_cmp ℕ
places_in rows = from_entries (told_from 0 rows)
