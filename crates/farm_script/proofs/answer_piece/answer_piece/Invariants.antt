use Rattle.std.proofs.Common.{◌≡◌, ◌≤◌, length, []}
use Rattle.farm_script.specs.Lines.{ended_after, rest_after}
use Rattle.farm_script.specs.Images.{Grows}
use Rattle.farm_script.proofs.Answering.{Reached}
use Rattle.farm_store.specs.Bytes.{StandsFor}
use Rattle.farm_script.specs.FarmRule.{farm_rule}
use Rattle.farm_script.proofs.answer_piece.answer_piece.Given as goal

-- the lines that ended so far were answered, and those that end in the rest are left
abbrev pub invariant-loop-end : goal.invariant-loop-end
invariant-loop-end g l = record {
  answered : Reached farm_rule (g.F.ScriptFarm.history l.fn.farm) (g.K.Sink.written l.fn.output)
      (ended_after l.fn.line l.fn.piece) (g.F.ScriptFarm.history l.farm) (g.K.Sink.written l.output)
      (ended_after l.line l.rest);
  rest : rest_after l.line l.rest ≡ rest_after l.fn.line l.fn.piece;
  images : Grows g.F.ScriptFarm.tells g.F.ScriptFarm.told StandsFor g.F.ScriptFarm.history g.F.ScriptFarm.pending
      l.fn.farm l.farm;
  decided : g.F.ScriptFarm.pending l.farm ≡ [];
  writes : g.K.Sink.count l.fn.output ≤ g.K.Sink.count l.output;
  stores : g.F.ScriptFarm.count l.fn.farm ≤ g.F.ScriptFarm.count l.farm;
}

abbrev pub decreases-loop-end : goal.decreases-loop-end
decreases-loop-end g l = length l.rest
