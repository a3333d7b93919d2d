use Rattle.std.proofs.Common.{◌≡◌, take}
use Rattle.journal_follow.proofs.comparing.first_difference.Given as goal

abbrev pub invariant-loop-i : goal.invariant-loop-i
invariant-loop-i l = take l.i l.page ≡ take l.i l.held
