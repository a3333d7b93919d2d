use Rattle.std.proofs.Common.{◌≡◌, ◌-◌, ◌*◌, ◌≤◌, length, drop}
use Rattle.farm_wire.specs.Pieces.{behind_commas}
use Rattle.farm_wire.specs.declared.commas.TheConstants.{CHUNK_BYTES}
use Rattle.farm_wire.proofs.commas.write_behind_commas.Given as goal

-- the last numbers are written at the room's end, and there is room for the others
abbrev pub invariant-numbers : goal.invariant-numbers
invariant-numbers l =
    record {
      within : 11 * (l.count - l.done) ≤ l.start;
      high : l.start ≤ CHUNK_BYTES;
      whole : length l.room ≡ CHUNK_BYTES;
      written : drop l.start l.room ≡ behind_commas (drop (l.count - l.done) l.numbers);
    }
