-- The bytes that were taken of a source and are held, and how a take adds to them.
use Rattle.std.specs.Prelude.{◌≡◌, ◌+◌, ◌<◌, ◌≤◌, ◌⊎◌, ◌↔◌, ℕ, Bool, true, false, List, [], ◌++◌, length, Result, Ok, Err, ⊤}
use Rattle.link_io.specs.declared.source.TheConstants.{INPUT_LIMIT}
use Rattle.http_exchange.specs.Whole.{IsWhole}
use Rattle.http_exchange.specs.declared.response.NoResponse.{NoResponse}
use Rattle.http_exchange.specs.declared.response.NoResponse.TheVariants.{Broken, Failed, Memory}

-- the bytes held, and how many were taken in all
pub record ReceivedBytes : Type 0 where
  pub held : List ℕ
  pub taken : ℕ

abbrev pub nothing_received : ReceivedBytes
nothing_received = record { held = []; taken = 0 }

-- these bytes more were taken, and are held
pub record IsTaken (before after : ReceivedBytes) (piece : List ℕ) : Type 0 where
  pub held : after.held ≡ before.held ++ piece
  pub taken : after.taken ≡ before.taken + length piece

-- what one take comes to, whether the input has ended now
abbrev pub Takes : (before after : ReceivedBytes) → (piece : List ℕ) → (ended : Bool) → Result Bool NoResponse → Type 0
Takes before after piece ended (Ok true) = IsTaken before after piece × (0 < length piece)
Takes before after piece ended (Ok false) = IsTaken before after piece × (piece ≡ []) × (ended ≡ true)
Takes before after piece ended (Err Failed) = IsTaken before after piece × (piece ≡ [])
Takes before after piece ended (Err Broken) = ⊥
Takes before after piece ended (Err Memory) = ⊤

-- no more is taken: the input has ended, or as many bytes were taken as are taken at most
abbrev pub IsOver : (ended : Bool) → (taken : ℕ) → Type 0
IsOver ended taken = (ended ≡ true) ⊎ (INPUT_LIMIT ≤ taken)

-- what takes come to, until so many bytes are held
abbrev pub TakesUntil : ℕ → (before after : ReceivedBytes) → (piece : List ℕ) → (ended : Bool) → Result Bool NoResponse → Type 0
TakesUntil size before after piece ended (Ok true) = IsTaken before after piece × (size ≤ length after.held)
TakesUntil size before after piece ended (Ok false) =
    IsTaken before after piece × (length after.held < size) × IsOver ended after.taken
TakesUntil size before after piece ended (Err Failed) = IsTaken before after piece × (length after.held < size)
TakesUntil size before after piece ended (Err Broken) = ⊥
TakesUntil size before after piece ended (Err Memory) = ⊤

-- these bytes were taken, and those held are the ones behind the interim responses: whatever follows, a response that
-- one of the two lists begins with is the other's
pub record IsHeld (bytes : List ℕ) (received : ReceivedBytes) : Type 0 where
  pub taken : received.taken ≡ length bytes
  pub same : (more : List ℕ) (status : ℕ) (body : List ℕ) →
      IsWhole (bytes ++ more) status body ↔ IsWhole (received.held ++ more) status body
