-- Moments that are over.
use Rattle.std.specs.Prelude.{ℕ, length}
use Rattle.common_types.specs.declared.passed.Passed.{Passed}

-- how many steps of the disk were done
abbrev pub passed_at : Passed → ℕ
passed_at passed = length passed.so_far.value
