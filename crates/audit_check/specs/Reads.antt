-- What a call that reads has to do with reading.
use Rattle.std.specs.Prelude.{◌≡◌, Option, Some, None, Result, Ok, Err, ⊤}
use Rattle.audit_check.specs.declared.stop.Stop.{Stop}
use Rattle.audit_check.specs.declared.stop.Stop.TheVariants.{Malformed, OutOfMemory}

-- nothing is read, unless memory ran out
abbrev pub Stops : {Y : Type 0} → Stop → Option Y → Type 0
Stops Malformed read = read ≡ None
Stops OutOfMemory read = ⊤

-- what a call answered, seen by a view, is what is read there, unless memory ran out
abbrev pub Reads : {X Y : Type 0} → (X → Y) → Result X Stop → Option Y → Type 0
Reads view (Ok x) read = read ≡ Some (view x)
Reads view (Err stop) read = Stops stop read
