use Rattle.std.proofs.Common.{◌≡◌, List, Some, sym, ◌∙◌, arith}
use Rattle.weight_exact.specs.Share.{reached}
use Rattle.weight_exact.specs.declared.run.Run.{Run}
use Rattle.farm_entry.specs.History.{runs}
use Rattle.plain_farm.proofs.Histories.{opened_few, reached_in_range}
use Rattle.plain_farm.proofs.standings.standing_of_reached.Goals as goal

pub standing_of_outcome-requires : goal.standing_of_outcome-requires
standing_of_outcome-requires c =
    let H = c.args.history.now in
    let o = c.args.opening.now in
    let told : List Run = runs H o.search in
    let is : reached c.args.belief.now.setup told ≡ Some c.in-Some.hypothesis =
    sym (c.reached.ensures told c.requires.runs) ∙ c.in-Some.is in
    let high = reached_in_range H o c.args.belief.now.setup c.in-Some.hypothesis c.requires.setup is in
    let few = opened_few H o c.requires.legal c.requires.opened in
    omega (arith, high, few, c.len.ensures.len, c.if-from-len.false, c.from.ensures)
