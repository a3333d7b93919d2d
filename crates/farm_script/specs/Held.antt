-- What is held of a line.
use Rattle.std.specs.Prelude.{ℕ, ◌+◌, List, take}
use Rattle.farm_wire.specs.declared.limits.TheConstants.{MAX_COMMAND_BYTES}

-- the front of a line that is held: enough to tell that it is too long
unfoldable pub held : List ℕ → List ℕ
held line = take (MAX_COMMAND_BYTES + 1) line
