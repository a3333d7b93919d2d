use Rattle.std.proofs.Common.{arith, ap, sym, ◌∙◌}
use Rattle.farm_board.specs.Reader.{Reader}
use Rattle.farm_board.specs.Row.{number_of}
use Rattle.farm_board.proofs.Keeps.{splits}
use Rattle.farm_board.proofs.Stills.{IsStill-reader}
use Rattle.farm_board.proofs.board.Board.split.Goals as goal

pub split_seat-seat-requires : goal.split_seat-seat-requires
split_seat-seat-requires c =
    let seat = c.pass.inside.seat in (
      ap (λ (r : Reader). r.board) c.pass.view_is ∙ c.requires.own ∙ sym c.words.ensures.own,
      omega (arith, c.words.ensures.sized.0),
      splits number_of seat.id seat.me.0,
    )

pub invariant_of-result : goal.invariant_of-result
invariant_of-result c =
    let pass = c.pass.invariant in
    let seat = c.split_seat-seat in
    IsStill-reader seat.result.me c.pass.inside.seat.me.0.seen c.pass.inside.last seat.ensures.4 pass.legal
    pass.totals_are
