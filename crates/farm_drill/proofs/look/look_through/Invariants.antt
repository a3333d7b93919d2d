use Rattle.std.proofs.Common.{◌≡◌, true, length, take}
use Rattle.farm_drill.specs.Free.{AreMarked}
use Rattle.farm_drill.specs.Reported.{AreOut}
use Rattle.farm_drill.proofs.look.look_through.Given as goal

abbrev pub invariant-loop-entry : goal.invariant-loop-entry
invariant-loop-entry l = record {
  all : length l.used.items ≡ length l.history;
  marked : AreMarked (take l.entry-index l.history) l.used.items;
  out : l.fits ≡ true → AreOut (take l.entry-index l.history) l.out.items;
}
