-- Tests of what may be there.
use Rattle.std.specs.Prelude.{Bool, false, Option, Some, None}

-- whether something is there and passes a test
abbrev pub is_some_and : {X : Type 0} → (X → Bool) → Option X → Bool
is_some_and test None = false
is_some_and test (Some x) = test x
