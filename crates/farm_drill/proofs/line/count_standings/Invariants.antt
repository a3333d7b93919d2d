use Rattle.std.proofs.Common.{◌≡◌, take}
use Rattle.farm_entry.specs.History.{openings}
use Rattle.farm_drill.specs.Line.{tally_of}
use Rattle.farm_drill.proofs.line.count_standings.Given as goal

abbrev pub invariant-loop-before : goal.invariant-loop-before
invariant-loop-before l = record {
  kept : l.store ≡ l.fn.store;
  tally : l.tally ≡ tally_of l.fn.store.history (take l.before (openings l.fn.store.history));
}
