-- Why a connection stopped, and what had been put by then.
use Rattle.std.proofs.Common.{◌≡◌, Result, Ok, Err, subst}
use Rattle.connection_laws.specs.Serving.{OnReadFault}
use Rattle.connection_laws.specs.declared.served.ServeFault.{ServeFault}
use Rattle.connection_laws.specs.declared.served.ServeFault.TheVariants.{ReadFault, WriteFault, Memory}
use Rattle.farm_http.specs.Faults.{OnLinkFault, OnPutFault}

-- what holds anyway holds where a take failed
pub on_read : (fault : ServeFault) (P : Type 0) → P → OnReadFault fault P
on_read ReadFault P p = p
on_read WriteFault P p = tt
on_read Memory P p = tt

-- where a put failed no take did
pub on_read-put : {T : Type 0} (result : Result T ServeFault) (P Q : Type 0) (fault : ServeFault) → OnPutFault result P
    → result ≡ Err fault → OnReadFault fault Q
on_read-put (Ok done) P Q fault cause is = let bad : ⊥ = cc in absurd bad
on_read-put (Err ReadFault) P Q fault cause is = absurd cause
on_read-put (Err WriteFault) P Q fault cause is =
    let same : WriteFault ≡ fault = cc in subst (λ (f : ServeFault). OnReadFault f Q) same tt
on_read-put (Err Memory) P Q fault cause is =
    let same : Memory ≡ fault = cc in subst (λ (f : ServeFault). OnReadFault f Q) same tt
