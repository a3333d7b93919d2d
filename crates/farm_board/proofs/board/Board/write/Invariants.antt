use Rattle.std.proofs.Common.{◌≡◌, ◌+◌, []}
use Rattle.farm_board.specs.Views.{posting}
use Rattle.farm_board.proofs.Numbers.{mixed}
use Rattle.farm_board.proofs.board.Board.write.Given as goal

abbrev pub invariant-loop-k : goal.invariant-loop-k
invariant-loop-k g l = record {
  table : l.seat.table_id ≡ l.fn.seat.table_id;
  seat : l.seat.id ≡ l.fn.seat.id;
  me : l.seat.me ≡ (posting (l.version + 1) l.fn.seat.me.0.seen (mixed l.k l.row l.posted), []);
}
