use Rattle.std.proofs.Common.{◌≡◌, take}
use Rattle.plain_farm.proofs.standings.skips_of.Given as goal

abbrev pub invariant-loop-position : goal.invariant-loop-position
invariant-loop-position l = l.skips ≡ take l.position-index l.positions
