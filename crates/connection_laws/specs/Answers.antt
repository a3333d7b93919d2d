-- The bytes that are put for an item.
use Rattle.std.specs.Prelude.{ℕ, Bool, true, false, List, [], ◌∷◌, ◌++◌, length, codes, decimal, Option, None, if◌then◌else◌}
use Rattle.entry_codec.specs.LogPage.{log_page}
use Rattle.http_answers.specs.Statuses.{answer_status}
use Rattle.farm_wire.specs.Answers.{answer_text}
use Rattle.farm_entry.specs.Pages.{totals}
use Rattle.farm_wire.specs.Refusals.{fault_data}
use Rattle.farm_wire.specs.Replies.{log_data, totals_data}
use Rattle.http_answers.specs.Answers.{allow_line, body_put, close_line, interim_bytes, status_line}
use Rattle.http_answers.specs.Faults.{fault_allow, fault_status, fault_text, memory_text, store_fault_text}
use Rattle.http_answers.specs.Pieces.{parts_joined}
use Rattle.http_requests.specs.Items.{Item}
use Rattle.http_words.specs.declared.fault.Allow.{Allow}
use Rattle.http_words.specs.declared.status_code.StatusCode.{StatusCode}
use Rattle.http_words.specs.declared.status_code.StatusCode.TheVariants as status
use Rattle.serde_json.specs.Written.{compact_text}
use Rattle.connection_laws.specs.Outcomes.{ItemOutcome, faulted, misread, answered, counted, copied, failed, failed_too, unread, uncalled, Step}

-- what an answer says, apart from how it is put
pub record Response : Type 0 where
  pub status : StatusCode
  pub allow : Option Allow
  pub body : List ℕ

-- one that names no methods
abbrev pub plain : StatusCode → List ℕ → Response
plain s body = record { status = s; allow = None; body = body }

-- the store failed
abbrev pub store_fault : Response
store_fault = plain status.Unavailable store_fault_text

-- memory ran out
abbrev pub no_memory : Response
no_memory = plain status.NoStorage memory_text

-- what an outcome is answered with
abbrev pub response_to : ItemOutcome → Response
response_to (faulted f) = record { status = fault_status f; allow = fault_allow f; body = fault_text f }
response_to (misread f) = plain status.BadRequest (compact_text (fault_data f))
response_to (answered H ask a) = plain (answer_status a) (answer_text a)
response_to (counted H) = plain status.Ok (compact_text (totals_data (codes "totals") (totals H)))
response_to (copied H from) = plain status.Ok (compact_text (log_data from (log_page from H)))
response_to (failed H ask before count) = store_fault
response_to (failed_too ask) = store_fault
response_to unread = no_memory
response_to (uncalled H ask) = no_memory

-- the same, where there was memory for its text
abbrev pub response_of : Step → Response
response_of step = if step.written then response_to step.outcome else no_memory

-- the bytes of an answer to an item
unfoldable pub response_bytes : Item → Response → List ℕ
response_bytes item s =
    parts_joined (status_line s.status) (decimal (length s.body)) (allow_line s.allow) (close_line item.closes)
    (body_put item.withheld s.body)

-- the interim answer, where the item has one
abbrev pub interim_of : Bool → List ℕ
interim_of true = interim_bytes
interim_of false = []

-- all that is put for an item: the interim answer, where it has one, and then its answer
unfoldable pub item_bytes : Item → Step → List ℕ
item_bytes item step = interim_of item.interim ++ response_bytes item (response_of step)

-- all that is put for items, one after the other
abbrev pub transcript : List Item → List Step → List ℕ
transcript [] steps = []
transcript (item ∷ items) [] = []
transcript (item ∷ items) (step ∷ steps) = item_bytes item step ++ transcript items steps
