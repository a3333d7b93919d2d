use Rattle.std.proofs.Common.{◌≡◌, take}
use Rattle.posterior.specs.StandsFor.{StandsFor}
use Rattle.plain_farm.proofs.standings.tell.Given as goal

abbrev pub invariant-loop-run : goal.invariant-loop-run
invariant-loop-run l = record {
  setup : l.belief.setup ≡ l.initial.belief.setup;
  told : StandsFor l.belief (take l.run-index l.told);
}
