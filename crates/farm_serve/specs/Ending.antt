-- How the service ended.
use Rattle.std.specs.Prelude.{◌≡◌, ℕ, Bool, true, false, if◌then◌else◌, Result, Ok, Err, ⊤}
use Rattle.common_types.specs.Counts.{Rose}
use Rattle.link_io.specs.declared.sink.PutFault.{PutFault}
use Rattle.link_io.specs.declared.sink.PutFault.TheVariants as put
use Rattle.farm_serve.specs.declared.ending.Ending.{Ending}
use Rattle.farm_serve.specs.declared.ending.Ending.TheVariants.{Done, NetFault, WriteFault, Memory, NotOpened}
use Rattle.farm_serve.specs.declared.standing.ServeState.{ServeState}

-- memory ran out
abbrev pub is_memory : Ending → Bool
is_memory Done = false
is_memory NetFault = false
is_memory WriteFault = false
is_memory Memory = true
is_memory (NotOpened fault) = false

-- how it ends where memory was there and the last line was put, by whether an accept failed
abbrev pub ending_by_accepts : Bool → Ending
ending_by_accepts failed = if failed then NetFault else Done

-- how it ends where memory was there before the last line, by what became of that
abbrev pub ending_by_line : Bool → Result (Unit {0}) PutFault → Ending
ending_by_line failed (Ok done) = ending_by_accepts failed
ending_by_line failed (Err put.Failed) = WriteFault
ending_by_line failed (Err put.Memory) = Memory

-- how it ends, by how the serving stands and what became of the last line: the first that fits
abbrev pub ending_of : ServeState → Result (Unit {0}) PutFault → Ending
ending_of s line = if s.short then Memory else ending_by_line s.failed line

-- whether an accept failed is as the ending says
abbrev pub TellsFailure : Ending → (failed : Bool) → Type 0
TellsFailure Done failed = failed ≡ false
TellsFailure NetFault failed = failed ≡ true
TellsFailure WriteFault failed = ⊤
TellsFailure Memory failed = ⊤
TellsFailure (NotOpened fault) failed = ⊥

-- the ending says that an accept failed only where the network's count rose
abbrev pub HasNetCause : Ending → (before after : ℕ) → Type 0
HasNetCause Done before after = ⊤
HasNetCause NetFault before after = Rose before after
HasNetCause WriteFault before after = ⊤
HasNetCause Memory before after = ⊤
HasNetCause (NotOpened fault) before after = ⊤
