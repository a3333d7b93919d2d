-- Whether a search is active, by its state.
use Rattle.std.proofs.Common.{◌≡◌, false, List, Option, Some, None, refl, sym, ap}
use Rattle.std.specs.Option.{option_map}
use Rattle.std.proofs.lemmas.Option.{none-some}
use Rattle.farm_entry.specs.Standing.{is_active}
use Rattle.farm_entry.specs.declared.entry.Entry.{Entry}
use Rattle.farm_entry.specs.declared.opening.Opening.{Opening}
use Rattle.search_state.specs.SearchView.{SearchView, standing_in}
use Rattle.search_state.specs.Seen.{seen}
use Rattle.farm_state.specs.Moves.{goes_on}

pub going-some : (H : List Entry) (x : Option Opening) (s : SearchView) → option_map (seen H) x ≡ Some s →
    is_active (standing_in s) ≡ goes_on H x
going-some H None s h = absurd (none-some s h)
going-some H (Some o) s h =
    let same : seen H o ≡ s = cc in ap (λ (v : SearchView). is_active (standing_in v)) (sym same)

pub going-none : (H : List Entry) (x : Option Opening) → option_map (seen H) x ≡ None → false ≡ goes_on H x
going-none H None h = refl
going-none H (Some o) h = absurd (none-some (seen H o) (sym h))
