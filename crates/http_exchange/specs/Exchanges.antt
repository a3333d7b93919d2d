-- A request and what became of it, over a connection of its own.
use Rattle.std.specs.Prelude.{◌≡◌, ◌≤◌, ◌⊎◌, ℕ, Bool, List, [], ◌∷◌, Option, Some, Result, Ok, Err, ⊤}
use Rattle.common_types.specs.declared.memory.Memory.{Memory}
use Rattle.http_exchange.specs.Whole.{IsWhole}
use Rattle.link_io.specs.Links.{LinkState}
use Rattle.link_io.specs.Telling.{add_told}
use Rattle.common_types.specs.Prefix.{IsPrefix}
use Rattle.link_io.specs.Events.{NetworkEvent, connect_failed, connected, returned}
use Rattle.http_exchange.specs.Responses.{IsBroken}
use Rattle.http_exchange.specs.declared.connection.Exchanged.{Exchanged}
use Rattle.http_exchange.specs.declared.connection.Exchanged.TheVariants.{Answered, Broken, Failed}
use Rattle.http_exchange.specs.declared.response.NoResponse.{NoResponse}
use Rattle.http_exchange.specs.declared.response.NoResponse.TheVariants as no_response
use Rattle.http_exchange.specs.declared.response.Response.{Response}

-- what a connection had done when it was taken back: the bytes taken from it and those put to it, whether its last take
-- answered that the input has ended, and how often it failed. It took no notes
pub record Talk : Type 0 where
  pub taken : List ℕ
  pub put : List ℕ
  pub ended : Bool
  pub count : ℕ

-- no connection was made, or one that did this
pub data Exchange : Type 0 where
  unconnected : Exchange
  talked : Talk → Exchange

abbrev pub talk_state : Talk → LinkState
talk_state t =
    record { taken = Some t.taken; put = Some t.put; ended = t.ended; count = t.count; notes = Some [] }

-- what the network tells of an exchange, in its order
abbrev pub exchange_events : Exchange → List NetworkEvent
exchange_events unconnected = connect_failed ∷ []
exchange_events (talked t) = connected ∷ returned (talk_state t) ∷ []

-- several things more, in their order, where the object tells
abbrev pub tell_all : {A : Type 0} → List A → Option (List A) → Option (List A)
tell_all [] told = told
tell_all (thing ∷ things) told = tell_all things (add_told thing told)

-- a request is put before a response to it is taken: the whole request was put; or a prefix of it, and nothing was
-- taken
abbrev pub IsPutFirst : (request put taken : List ℕ) → Type 0
IsPutFirst request put taken = (put ≡ request) ⊎ (IsPrefix put request × (taken ≡ []))

-- the same of an exchange
abbrev pub IsPut : (request : List ℕ) → Exchange → Type 0
IsPut request unconnected = ⊤
IsPut request (talked t) = IsPutFirst request t.put t.taken

-- What an exchange is answered by. A response is whole, of a connection that never failed. Else the connection failed,
-- or was never made; or the whole request was put, and the other end sent no whole response. Unless a connection
-- failed, or memory ran out, the whole request was put; and nothing is taken before it was
abbrev pub AnsweredBy : (request : List ℕ) → Exchange → Result Exchanged Memory → Type 0
AnsweredBy request unconnected (Ok Failed) = ⊤
AnsweredBy request unconnected answer = ⊥
AnsweredBy request (talked t) (Ok (Answered response)) =
    (t.count ≡ 0) × (t.put ≡ request) × IsWhole t.taken response.status response.body
AnsweredBy request (talked t) (Ok Failed) = (1 ≤ t.count) × IsPutFirst request t.put t.taken
AnsweredBy request (talked t) (Ok Broken) = (t.count ≡ 0) × (t.put ≡ request) × IsBroken t.taken t.ended
AnsweredBy request (talked t) (Err memory) = IsPutFirst request t.put t.taken

-- what holds where a whole response was answered
abbrev pub IfAnswered : Exchanged → Type 0 → Type 0
IfAnswered (Answered response) P = P
IfAnswered Failed P = ⊤
IfAnswered Broken P = ⊤

-- what was put to a connection and taken from it, and the response that came of it
abbrev pub AskedOver : (request sent taken : List ℕ) → (ended : Bool) → Result Response NoResponse → Type 0
AskedOver request sent taken ended (Ok response) = (sent ≡ request) × IsWhole taken response.status response.body
AskedOver request sent taken ended (Err no_response.Broken) = (sent ≡ request) × IsBroken taken ended
AskedOver request sent taken ended (Err no_response.Failed) = IsPutFirst request sent taken
AskedOver request sent taken ended (Err no_response.Memory) = IsPutFirst request sent taken

-- what is answered for a response, or for none, where the connection failed so often
abbrev pub IsOutcome : Result Response NoResponse → (count : ℕ) → Result Exchanged Memory → Type 0
IsOutcome (Ok response) count (Ok (Answered given)) = (count ≡ 0) × (given ≡ response)
IsOutcome (Ok response) count (Ok Failed) = 1 ≤ count
IsOutcome (Ok response) count answer = ⊥
IsOutcome (Err no_response.Memory) count (Err memory) = ⊤
IsOutcome (Err no_response.Memory) count (Ok came) = ⊥
IsOutcome (Err fault) count (Ok Broken) = count ≡ 0
IsOutcome (Err fault) count (Ok Failed) = 1 ≤ count
IsOutcome (Err fault) count answer = ⊥
