use Rattle.std.proofs.Common.{ap, subst, sym, false, ◌∙◌, ◌≡◌, Bool}
use Rattle.farm_board.specs.Reader.{Reader}
use Rattle.farm_board.specs.Views.{IsStill}
use Rattle.farm_board.proofs.Stills.{IsLegal-posted, IsStill-reader, totals_from-AreOf}
use Rattle.farm_board.proofs.board.Board.renew_once.Goals as goal

pub invariant_of-pass : goal.invariant_of-pass
invariant_of-pass c =
    let row = c.in-Some.row in
    let read = c.in-Some.ensures.some in
    let at = read.0 in
    let last = c.totals_of_row-pass-inside in
    let reads : false ≡ c.pass.inside.posts = sym (ap (λ (r : Reader). r.posts) c.pass.view_is ∙ c.requires.reads) in
    subst (λ (b : Bool). IsStill b c.row.new.seat.me last.result) reads
    (IsStill-reader c.row.new.seat.me at last.result read.3
    (IsLegal-posted c.pass.inside.seat.me.0.seen at c.pass.invariant.legal read.1 read.2)
    (last.ensures ∙ totals_from-AreOf row at read.4 read.5))
