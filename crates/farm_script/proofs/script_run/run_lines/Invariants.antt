use Rattle.std.proofs.Common.{◌≡◌, ◌≤◌, ◌-◌, []}
use Rattle.farm_script.specs.Images.{Grows}
use Rattle.farm_script.proofs.SoFar.{SoFar}
use Rattle.farm_script.proofs.script_run.run_lines.Given as goal
use Rattle.link_io.specs.declared.source.TheConstants.{INPUT_LIMIT}
use Rattle.farm_store.specs.Bytes.{StandsFor}
use Rattle.farm_script.specs.FarmRule.{farm_rule}

-- all lines that ended in what was taken were answered, and what follows is held
abbrev pub invariant-loop-taken : goal.invariant-loop-taken
invariant-loop-taken g l = record {
  so_far : SoFar farm_rule (g.S.Source.left l.fn.input) (g.F.ScriptFarm.history l.fn.farm)
      (g.K.Sink.written l.fn.output) (g.S.Source.left l.input) (g.F.ScriptFarm.history l.farm)
      (g.K.Sink.written l.output) l.line l.taken;
  few : l.taken ≤ INPUT_LIMIT;
  images : Grows g.F.ScriptFarm.tells g.F.ScriptFarm.told StandsFor g.F.ScriptFarm.history g.F.ScriptFarm.pending
      l.fn.farm l.farm;
  decided : g.F.ScriptFarm.pending l.farm ≡ [];
  reads : g.S.Source.count l.fn.input ≤ g.S.Source.count l.input;
  writes : g.K.Sink.count l.fn.output ≤ g.K.Sink.count l.output;
  stores : g.F.ScriptFarm.count l.fn.farm ≤ g.F.ScriptFarm.count l.farm;
}

abbrev pub decreases-loop-taken : goal.decreases-loop-taken
decreases-loop-taken g l = INPUT_LIMIT - l.taken
