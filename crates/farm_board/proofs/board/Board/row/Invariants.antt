use Rattle.std.proofs.Common.{◌≡◌, [], List, length, take}
use Rattle.farm_entry.specs.declared.entry.Entry.{Entry}
use Rattle.common_types.specs.Prefix.{IsPrefix}
use Rattle.farm_board.specs.Rule.{IsPosted}
use Rattle.farm_board.specs.Views.{reading}
use Rattle.farm_board.proofs.board.Board.row.Given as goal

abbrev pub invariant-loop-k : goal.invariant-loop-k
invariant-loop-k l = record {
  table : l.seat.table_id ≡ l.fn.seat.table_id;
  seat : l.seat.id ≡ l.fn.seat.id;
  room : length l.row ≡ 8;
  me : (at : List Entry) × IsPrefix l.fn.seat.me.0.seen at × IsPosted at
      × (l.seat.me ≡ (reading l.version l.fn.seat.me.0.seen at (take l.k l.row), []));
}
