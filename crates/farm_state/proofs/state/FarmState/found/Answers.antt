use Rattle.std.proofs.Common.{[], ◌∷◌, sym, ap, subst, ◌∙◌}
use Rattle.farm_entry.specs.Legal.{IsLegal}
use Rattle.farm_entry.specs.declared.entry.Entry.{Entry}
use Rattle.farm_entry.specs.declared.entry.What.TheVariants.{Founded}
use Rattle.search_state.specs.Seen.{all_seen}
use Rattle.farm_state.proofs.state.FarmState.found.Goals as goal

pub invariant_of-result : goal.invariant_of-result
invariant_of-result c =
    let e : Entry = record { at = c.args.at; what = Founded c.args.settings } in
    let legal : IsLegal (e ∷ []) = (tt, tt) in
    let is = sym c.in_ok-found.ensures in
    record { legal = subst IsLegal is legal; searches = c.new.ensures.items ∙ ap all_seen is }
