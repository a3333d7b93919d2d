use Rattle.std.proofs.Common.{◌≡◌, List, Some, option_map, sym, ap, ◌∙◌}
use Rattle.std.proofs.lemmas.Option.{same_Some}
use Rattle.farm_entry.specs.Standing.{standing}
use Rattle.farm_entry.specs.declared.entry.Entry.{Entry}
use Rattle.farm_entry.specs.declared.standing.Standing.{Standing}
use Rattle.farm_drill.proofs.line.standing_of.Goals as goal

pub returns-clause-standing : goal.returns-clause-standing
returns-clause-standing c o numbered =
    let H : List Entry = c.args.store.now.history in
    let found : Standing = c.in-Some.standing in
    let is : Some found ≡ Some (standing H o) =
    sym c.in-Some.is ∙ c.standing.ensures.standing ∙ ap (option_map (standing H)) numbered in
    same_Some found (standing H o) is
