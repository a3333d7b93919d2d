use Rattle.std.proofs.Common.{[], take}
use Rattle.farm_store.proofs.GoingOn.{Grown}
use Rattle.farm_store.proofs.admitting.grow.Given as goal

abbrev pub invariant-loop-i : goal.invariant-loop-i
invariant-loop-i l = Grown [] (take l.i l.payloads) l.farm.history l.gate
