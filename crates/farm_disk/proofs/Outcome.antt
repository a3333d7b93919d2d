-- Facts on what a call answered.
use Rattle.std.proofs.Common.{Result, Ok, Err}
use Rattle.std.specs.Prelude.{IfOk}

-- two facts on an `Ok`, and what follows of both
pub if_ok-both : {T E : Type 0} {P Q R : T → Type 0} (r : Result T E) → IfOk r P → IfOk r Q
    → ((v : T) → P v → Q v → R v) → IfOk r R
if_ok-both (Ok v) p q both = both v p q
if_ok-both (Err e) p q both = tt
