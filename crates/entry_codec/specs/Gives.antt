-- What a call that reads has to do with reading.
use Rattle.std.specs.Prelude.{◌≡◌, Option, Some, None, Result, Ok, Err, ⊤}
use Rattle.entry_codec.specs.declared.fault.Unread.{Unread}
use Rattle.entry_codec.specs.declared.fault.Unread.TheVariants.{Malformed, OutOfMemory}

-- nothing is read, unless memory ran out
abbrev pub Fails : {Y : Type 0} → Unread → Option Y → Type 0
Fails Malformed read = read ≡ None
Fails OutOfMemory read = ⊤

-- what a call answered, seen by a view, is what reading gives, unless memory ran out
abbrev pub Gives : {X Y : Type 0} → (X → Y) → Result X Unread → Option Y → Type 0
Gives view (Ok x) read = read ≡ Some (view x)
Gives view (Err unread) read = Fails unread read
