-- What sending a request comes to, by what the network tells of its tries.
use Rattle.std.specs.Prelude.{◌≡◌, ◌<◌, ◌+◌, ℕ, Bool, true, false, List, [], ◌∷◌, length, Option, Result, Ok, Err, ⊤}
use Rattle.common_types.specs.declared.memory.Memory.{Memory}
use Rattle.link_io.specs.Events.{NetworkEvent}
use Rattle.http_exchange.specs.Exchanges.{AnsweredBy, Exchange, IsPut, exchange_events, tell_all}
use Rattle.http_exchange.specs.Statuses.{is_lost_with}
use Rattle.http_exchange.specs.declared.connection.Exchanged.{Exchanged}
use Rattle.http_exchange.specs.declared.connection.Exchanged.TheVariants as came
use Rattle.http_exchange.specs.declared.response.Response.{Response}
use Rattle.http_exchange.specs.declared.sending.Lost.TheVariants.{Network, Peer}
use Rattle.http_exchange.specs.declared.sending.Sent.{Sent}
use Rattle.http_exchange.specs.declared.sending.Sent.TheVariants.{Answered, Lost}
use Rattle.http_exchange.specs.declared.sending.TheConstants.{MAX_TRIES}

-- what a whole response makes of a request, whose status is one that a request is lost with, or not
abbrev pub sent_by : Response → (lost : Bool) → Sent
sent_by response true = Lost (Peer response.status)
sent_by response false = Answered response

-- what a request came to that was sent once
abbrev pub sent_of : Exchanged → Sent
sent_of (came.Answered response) = sent_by response (is_lost_with response.status)
sent_of came.Failed = Lost Network
sent_of came.Broken = Lost (Peer 0)

abbrev pub IsLost : Sent → Type 0
IsLost (Answered response) = ⊥
IsLost (Lost lost) = ⊤

-- a try: an exchange over a connection of its own, and how it was answered
pub record Try : Type 0 where
  pub exchange : Exchange
  pub answer : Exchanged

-- a try of this request
abbrev pub IsTry : (request : List ℕ) → Try → Type 0
IsTry request t = AnsweredBy request t.exchange (Ok t.answer)

-- tries of a request that were lost
abbrev pub AreLost : (request : List ℕ) → List Try → Type 0
AreLost request [] = ⊤
AreLost request (t ∷ more) = IsTry request t × IsLost (sent_of t.answer) × AreLost request more

-- what the network tells of tries
abbrev pub told_try : Try → Option (List NetworkEvent) → Option (List NetworkEvent)
told_try t told = tell_all (exchange_events t.exchange) told

abbrev pub told_tries : List Try → Option (List NetworkEvent) → Option (List NetworkEvent)
told_tries [] told = told
told_tries (t ∷ more) told = told_tries more (told_try t told)

-- a request was sent once, over a connection of its own; or memory ran out for its answer
abbrev pub SendsOnce : (request : List ℕ) → (before after : Option (List NetworkEvent)) → Result Sent Memory → Type 0
SendsOnce request before after (Ok sent) =
    (t : Try) × (after ≡ told_try t before) × IsTry request t × (sent ≡ sent_of t.answer)
SendsOnce request before after (Err memory) =
    (x : Exchange) × (after ≡ tell_all (exchange_events x) before) × IsPut request x

-- a request was sent until it was answered, or as often as it is sent at most: all tries but the last were lost
pub record IsSent (request : List ℕ) (before after : Option (List NetworkEvent)) (sent : Sent) : Type 0 where
  pub lost : List Try
  pub last : Try
  pub were_lost : AreLost request lost
  pub few : length lost < MAX_TRIES
  pub tells : after ≡ told_try last (told_tries lost before)
  pub is_try : IsTry request last
  pub comes : sent ≡ sent_of last.answer
  pub all : IsLost sent → length lost + 1 ≡ MAX_TRIES

-- memory ran out for the answer of a try, after others that were lost
pub record IsCutOff (request : List ℕ) (before after : Option (List NetworkEvent)) : Type 0 where
  pub lost : List Try
  pub exchange : Exchange
  pub were_lost : AreLost request lost
  pub few : length lost < MAX_TRIES
  pub tells : after ≡ tell_all (exchange_events exchange) (told_tries lost before)
  pub put : IsPut request exchange

abbrev pub Sends : (request : List ℕ) → (before after : Option (List NetworkEvent)) → Result Sent Memory → Type 0
Sends request before after (Ok sent) = IsSent request before after sent
Sends request before after (Err memory) = IsCutOff request before after
