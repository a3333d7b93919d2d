use Rattle.std.proofs.Common.{◌≡◌, ℕ, None}
use Rattle.std.specs.Prelude.{◌&&◌, nat_le, nat_lt, if◌then◌else◌}
use Rattle.farm_disk.specs.Certain.{mark_at}
use Rattle.farm_disk.proofs.in_memory.marks.unmark.Given as goal

abbrev pub invariant-loop-i : goal.invariant-loop-i
invariant-loop-i l =
    (k : ℕ) → mark_at l.marks k ≡ (if nat_le l.start k && nat_lt k l.i then None else mark_at l.initial.marks k)
