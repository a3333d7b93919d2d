-- What is done where memory runs out before anything else: nothing.
use Rattle.std.specs.Prelude.{◌≡◌}
use Rattle.finder_commands.specs.declared.status.Status.{Status}
use Rattle.finder_commands.specs.declared.status.Status.TheVariants.{Memory}

-- memory ran out, and what is seen is as before
abbrev pub RanOut : {V : Type 0} → Status → V → V → Type 0
RanOut status before after = (status ≡ Memory) × (after ≡ before)
