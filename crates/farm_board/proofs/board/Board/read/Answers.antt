use Rattle.std.proofs.Common.{ap, ◌∙◌}
use Rattle.farm_entry.specs.Pages.{totals}
use Rattle.farm_board.specs.Reader.{Reader}
use Rattle.farm_board.proofs.board.Board.read.Goals as goal

pub returns-clause-totals : goal.returns-clause-totals
returns-clause-totals c =
    c.pass-2.invariant.totals_are ∙ ap (λ (r : Reader). totals r.seen) c.pass-2.view_is
