use Rattle.std.proofs.Common.{◌≡◌, take}
use Rattle.http_requests.proofs.fixed.is_fixed.Given as goal

abbrev pub invariant-loop-i : goal.invariant-loop-i
invariant-loop-i l = take l.i l.target ≡ take l.i l.fixed
