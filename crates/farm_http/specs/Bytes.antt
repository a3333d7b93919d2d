-- The bytes that are put for requests.
use Rattle.std.specs.Prelude.{ℕ, Bool, ◌≡◌, List, [], ◌∷◌, ◌++◌, length, decimal, Option, Result, Ok, Err, if◌then◌else◌}
use Rattle.std.specs.Io.KnownBytes.{append_known}
use Rattle.connection_laws.specs.Answers.{Response, no_memory, plain}
use Rattle.connection_laws.specs.declared.served.ServeFault.{ServeFault}
use Rattle.http_answers.specs.Statuses.{answer_status}
use Rattle.farm_wire.specs.Answers.{answer_text}
use Rattle.farm_entry.specs.declared.answer.Answer.{Answer}
use Rattle.http_answers.specs.Answers.{allow_line, body_put, close_line, status_line}
use Rattle.http_answers.specs.Pieces.{parts_joined}
use Rattle.http_requests.specs.declared.request.Request.{Request}
use Rattle.common_types.specs.Prefix.{IsPrefix}
use Rattle.farm_http.specs.declared.responses.Says.{Says}

-- what is said, over plain values
abbrev pub said : Says → Response
said says = record { status = says.status; allow = says.allow; body = says.body.now }

-- the bytes of the answer to a request
unfoldable pub request_bytes : Request → Response → List ℕ
request_bytes request r =
    parts_joined (status_line r.status) (decimal (length r.body)) (allow_line r.allow) (close_line request.closes)
    (body_put request.withheld r.body)

-- the same for requests, one after the other
abbrev pub requests_bytes : List Request → List Response → List ℕ
requests_bytes [] responses = []
requests_bytes (request ∷ requests) [] = []
requests_bytes (request ∷ requests) (r ∷ responses) = request_bytes request r ++ requests_bytes requests responses

-- an answer of the farm, where there was memory for its text
abbrev pub farm_response : Answer → (written : Bool) → Response
farm_response a written = if written then plain (answer_status a) (answer_text a) else no_memory

-- answers of the farm, one after the other
abbrev pub farm_responses : List Answer → List Bool → List Response
farm_responses [] ws = []
farm_responses (a ∷ answers) [] = []
farm_responses (a ∷ answers) (written ∷ ws) = farm_response a written ∷ farm_responses answers ws

-- What puts of these bytes came to: all were put, or a part.
abbrev pub PutSays : {T : Type 0} → List ℕ → (before now : Option (List ℕ)) → Result T ServeFault → Type 0
PutSays all before now (Ok done) = now ≡ append_known before all
PutSays all before now (Err fault) = (part : List ℕ) × IsPrefix part all × (now ≡ append_known before part)

-- what went out to a link, where it tells, and what is gathered to go out behind it
pub record OutState : Type 0 where
  pub sent : Option (List ℕ)
  pub held : List ℕ

-- these bytes were put behind what was gathered: of both together the front went out, and the rest is gathered
pub record IsGathered (all : List ℕ) (old new : OutState) : Type 0 where
  pub out : List ℕ
  pub sent : new.sent ≡ append_known old.sent out
  pub rest : old.held ++ all ≡ out ++ new.held

-- a put failed before that: of what was gathered with these bytes a part went out
pub record IsCutOff (all : List ℕ) (old new : OutState) : Type 0 where
  pub out : List ℕ
  pub sent : new.sent ≡ append_known old.sent out
  pub begins : IsPrefix out (old.held ++ all)

-- the one or the other
abbrev pub OutSays : {T : Type 0} → List ℕ → (old new : OutState) → Result T ServeFault → Type 0
OutSays all old new (Ok done) = IsGathered all old new
OutSays all old new (Err fault) = IsCutOff all old new
