-- The ask for a page, in the bytes of HTTP (RFC 9112), and what an answer to it says.
use Rattle.std.specs.Prelude.{◌≡◌, ℕ, List, ◌++◌, codes, decimal, Result, Ok, Err, ⊤}
use Rattle.farm_entry.specs.declared.entry.Entry.{Entry}
use Rattle.http_exchange.specs.Requests.{get_request}
use Rattle.http_exchange.specs.Sending.{IsTry, Try, sent_of}
use Rattle.http_exchange.specs.Statuses.{status_number}
use Rattle.http_exchange.specs.declared.response.Response.{Response}
use Rattle.http_exchange.specs.declared.sending.Sent.TheVariants.{Answered}
use Rattle.http_words.specs.declared.status_code.StatusCode.TheVariants as code
use Rattle.journal_follow.specs.Pages.{IsPage}
use Rattle.journal_follow.specs.declared.fault.FollowFault.{FollowFault}
use Rattle.journal_follow.specs.declared.fault.FollowFault.TheVariants.{Memory, Peer}

-- the path of a page, up to the number of its first entry
unfoldable pub log_path : List ℕ
log_path = codes "/v1/log/"

-- the ask for the entries from the one of this number on
abbrev pub ask_request : (from : ℕ) → List ℕ
ask_request from = get_request (log_path ++ decimal from)

-- What a response says: the page of these entries, from the one asked for on, or something that followers aren't
-- answered, with its status. Memory may run out for it.
abbrev pub Reads : (from : ℕ) → Response → Result (List Entry) FollowFault → Type 0
Reads from response (Ok entries) = (response.status ≡ status_number code.Ok) × IsPage from response.body entries
Reads from response (Err (Peer status)) =
    (status ≡ response.status)
    × (status ≡ status_number code.Ok → (entries : List Entry) → IsPage from response.body entries → ⊥)
Reads from response (Err Memory) = ⊤
Reads from response answer = ⊥

-- a try of the ask was answered by this response, with which it isn't lost
abbrev pub IsAnswered : (from : ℕ) → Try → Response → Type 0
IsAnswered from t response = IsTry (ask_request from) t × (sent_of t.answer ≡ Answered response)
