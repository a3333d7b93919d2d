use Rattle.std.proofs.Common.{rules, [], ◌∷◌, sym, ap, subst, ◌∙◌}
use Rattle.farm_entry.specs.Legal.{IsLegal}
use Rattle.farm_entry.specs.declared.entry.Entry.{Entry}
use Rattle.farm_entry.specs.declared.entry.What.TheVariants.{Founded}
use Rattle.kept_farm.specs.Searches.{search_rows}
use Rattle.kept_farm.proofs.farm.KeptFarm.found.Goals as goal

pub invariant_of-result : goal.invariant_of-result
invariant_of-result c =
    let e : Entry = record { at = c.args.at; what = Founded c.args.settings } in
    let legal : IsLegal (e ∷ []) = (tt, tt) in
    record {
      legal = subst IsLegal (sym c.in_ok-found.ensures) legal;
      rows = search rules;
      places = search rules;
      searches = c.start.ensures ∙ ap search_rows (sym c.in_ok-found.ensures);
    }
