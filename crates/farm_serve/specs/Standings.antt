-- How the serving stands.
use Rattle.std.specs.Prelude.{◌≡◌, ◌⊎◌, true, Result, Ok, Err}
use Rattle.connection_laws.specs.declared.served.ServeFault.{ServeFault}
use Rattle.connection_laws.specs.declared.served.ServeFault.TheVariants.{ReadFault, WriteFault, Memory}
use Rattle.connection_laws.specs.declared.served.Served.{Served}
use Rattle.farm_serve.specs.declared.standing.ServeState.{ServeState}

-- no accept is left, or the last one answered that no more will come
abbrev pub IsClosed : ServeState → Type 0
IsClosed s = (s.left ≡ 0) ⊎ (s.ended ≡ true)

-- how it stands once a link was served with this answer
abbrev pub noted : Result Served ServeFault → ServeState → ServeState
noted (Ok served) s = s
noted (Err ReadFault) s = s
noted (Err WriteFault) s = s
noted (Err Memory) s = record s { short = true }
