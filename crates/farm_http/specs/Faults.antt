-- Why the serving of a connection stopped.
use Rattle.std.specs.Prelude.{Result, Ok, Err, ⊤}
use Rattle.connection_laws.specs.declared.served.ServeFault.{ServeFault}
use Rattle.connection_laws.specs.declared.served.ServeFault.TheVariants.{ReadFault, WriteFault, Memory}

-- what holds where the link failed
abbrev pub OnLinkFault : {T : Type 0} → Result T ServeFault → Type 0 → Type 0
OnLinkFault (Ok done) P = ⊤
OnLinkFault (Err ReadFault) P = P
OnLinkFault (Err WriteFault) P = P
OnLinkFault (Err Memory) P = ⊤

-- what holds where a put failed, which no take did
abbrev pub OnPutFault : {T : Type 0} → Result T ServeFault → Type 0 → Type 0
OnPutFault (Ok done) P = ⊤
OnPutFault (Err ReadFault) P = ⊥
OnPutFault (Err WriteFault) P = P
OnPutFault (Err Memory) P = ⊤
