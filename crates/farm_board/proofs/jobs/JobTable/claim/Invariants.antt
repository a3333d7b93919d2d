use Rattle.std.proofs.Common.{◌≡◌}
use Rattle.farm_board.proofs.jobs.JobTable.claim.Given as goal

abbrev pub invariant-loop-slot : goal.invariant-loop-slot
invariant-loop-slot g l = record {
  table : l.seat.table_id ≡ l.fn.seat.table_id;
  seat : l.seat.id ≡ l.fn.seat.id;
  me : l.seat.me ≡ l.fn.seat.me;
}
