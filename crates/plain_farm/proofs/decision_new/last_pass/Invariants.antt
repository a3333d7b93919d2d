use Rattle.std.proofs.Common.{◌≡◌, drop, max}
use Rattle.weight_exact.specs.Load.{last_pass}
use Rattle.plain_farm.proofs.decision_new.last_pass.Given as goal

abbrev pub invariant-loop-run : goal.invariant-loop-run
invariant-loop-run l = max l.last (last_pass (drop l.run-index l.runs)) ≡ last_pass l.runs
