-- Bytes of which no item stands whole yet, so that more of them are waited for.
use Rattle.std.specs.Prelude.{ℕ, ◌≡◌, ◌⊎◌, Bool, false, List}
use Rattle.http_requests.specs.Next.{AwaitsBody, AwaitsHead}
use Rattle.http_requests.specs.declared.next.Awaited.{Awaited}

-- no head is whole, and so no interim answer is asked for
pub record WaitsForHead (rest : List ℕ) (interim : Bool) : Type 0 where
  pub awaits : AwaitsHead false rest
  pub none : interim ≡ false

-- a head is whole and its body isn't, and the request has an interim answer or none
pub record WaitsForBody (rest : List ℕ) (interim : Bool) : Type 0 where
  pub awaited : Awaited
  pub awaits : AwaitsBody false rest awaited
  pub asks : interim ≡ awaited.interim

-- No item of these bytes is whole, whatever follows them; and whether the item that they begin has an interim answer.
abbrev pub AreWaiting : (rest : List ℕ) → (interim : Bool) → Type 0
AreWaiting rest interim = WaitsForHead rest interim ⊎ WaitsForBody rest interim
