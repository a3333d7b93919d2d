-- What a batch's turn came to, and what was put for it.
use Rattle.std.specs.Prelude.{ℕ, ◌≡◌, Bool, List, length, map, Option, Result, Ok, Err, ⊤}
use Rattle.std.specs.List.{All}
use Rattle.connection_laws.specs.Answers.{no_memory, store_fault}
use Rattle.connection_laws.specs.declared.served.ServeFault.{ServeFault}
use Rattle.farm_entry.specs.declared.answer.Answer.{Answer}
use Rattle.farm_store.specs.declared.asking.Ask.{Ask}
use Rattle.farm_store.specs.declared.asking.CallFault.{CallFault}
use Rattle.farm_store.specs.declared.asking.CallFault.TheVariants as fault
use Rattle.farm_wire.specs.Answers.{AnswerHasDates}
use Rattle.http_requests.specs.declared.request.Request.{Request}
use Rattle.shared_farm.specs.Turns.{IsTurn}
use Rattle.turn_lock.specs.Known.{Known}
use Rattle.farm_http.specs.Bytes.{PutSays, farm_responses, requests_bytes}

-- each ask of a batch has its answer, whose days have dates, or the turn ended by a fault that it may end by
abbrev pub HasAnswers : Result (List Answer) CallFault → List Ask → Type 0
HasAnswers (Ok answers) asks = (length answers ≡ length asks) × All AnswerHasDates answers
HasAnswers (Err (fault.Refused cause)) asks = ⊥
HasAnswers (Err (fault.StoreFault first last)) asks = ⊤
HasAnswers (Err fault.Memory) asks = ⊤

-- what was put for requests whose commands the farm answered so at one turn
abbrev pub TurnPut : {T : Type 0} → Result (List Answer) CallFault → List Request → (before now : Option (List ℕ))
    → Result T ServeFault → Type 0
TurnPut (Ok answers) requests before now result =
    (written : List Bool) × (length written ≡ length answers)
    × PutSays (requests_bytes requests (farm_responses answers written)) before now result
TurnPut (Err (fault.Refused cause)) requests before now result = ⊥
TurnPut (Err (fault.StoreFault first last)) requests before now result =
    PutSays (requests_bytes requests (map (λ (request : Request). store_fault) requests)) before now result
TurnPut (Err fault.Memory) requests before now result =
    PutSays (requests_bytes requests (map (λ (request : Request). no_memory) requests)) before now result

-- a batch had its turn, and what it came to was put
pub record IsBatchPut {D T : Type 0} (count : D → ℕ) (asks : List Ask) (requests : List Request) (old new : Known)
    (before now : Option (List ℕ)) (result : Result T ServeFault) : Type 0 where
  pub turn : Result (List Answer) CallFault
  pub had : IsTurn count asks turn old new
  pub put : TurnPut turn requests before now result
