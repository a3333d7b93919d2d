use Rattle.std.proofs.Common.{◌≡◌}
use Rattle.common_types.specs.Prefix.{IsPrefix}
use Rattle.farm_board.proofs.board.Board.renew.Given as goal

abbrev pub invariant-loop : goal.invariant-loop
invariant-loop l = record {
  board : l.pass.board ≡ l.fn.pass.board;
  posts : l.pass.posts ≡ l.fn.pass.posts;
  longer : IsPrefix l.fn.pass.seen l.pass.seen;
}
