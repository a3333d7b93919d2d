-- Replies as JSON objects, of which the text that is sent is written.
use Rattle.std.specs.Prelude.{ℕ, List, [], ◌∷◌, ◌++◌, map, codes, Option, Some, None}
use Rattle.serde_json.specs.Data.{Data, array, string}
use Rattle.farm_types.specs.Moment.{moment_ms}
use Rattle.farm_types.specs.declared.moment.Moment.{Moment}
use Rattle.farm_types.specs.declared.stage.Stage.{Stage}
use Rattle.farm_types.specs.declared.stage.Stage.TheVariants as stage
use Rattle.weight_exact.specs.declared.run.Verdict.{Verdict}
use Rattle.weight_exact.specs.declared.run.Verdict.TheVariants.{Fail, Pass}
use Rattle.farm_entry.specs.declared.entry.Fate.{Fate}
use Rattle.farm_entry.specs.declared.entry.Fate.TheVariants.{Counted, Late, Over}
use Rattle.farm_entry.specs.declared.entry.SkipFate.{SkipFate}
use Rattle.farm_entry.specs.declared.entry.SkipFate.TheVariants as skip
use Rattle.farm_entry.specs.declared.order_page.OrderLine.{OrderLine}
use Rattle.farm_entry.specs.declared.reply.Reply.{Reply}
use Rattle.farm_entry.specs.declared.reply.Reply.TheVariants as reply
use Rattle.farm_entry.specs.declared.reply.SearchPage.{SearchPage}
use Rattle.farm_entry.specs.declared.reply.Totals.{Totals}
use Rattle.farm_entry.specs.declared.run_page.RunLine.{RunLine}
use Rattle.farm_entry.specs.declared.run_page.RunOutcome.{RunOutcome}
use Rattle.farm_entry.specs.declared.run_page.RunOutcome.TheVariants.{Tested, Untestable}
use Rattle.farm_entry.specs.declared.run_page.RunReport.{RunReport}
use Rattle.farm_entry.specs.declared.search_list.SearchLine.{SearchLine}
use Rattle.farm_entry.specs.declared.standing.Standing.{Standing}
use Rattle.farm_entry.specs.declared.standing.Standing.TheVariants.{Cancelled}
use Rattle.hex.specs.Hex.{encode_lower}
use Rattle.serde_json.specs.View.{items_of}
use Rattle.farm_wire.specs.Dates.{day_text}
use Rattle.farm_wire.specs.Forms.{skip_word}
use Rattle.farm_wire.specs.Members.{Named, commit_value, object_with, standing_members, where_any, where_some, whole}
use Rattle.farm_wire.specs.Members.{wholes}

abbrev pub stage_word : Stage → List ℕ
stage_word stage.Search = codes "search"
stage_word stage.Verify = codes "verify"

abbrev pub verdict_word : Verdict → List ℕ
verdict_word Pass = codes "pass"
verdict_word Fail = codes "fail"

abbrev pub fate_word : Fate → List ℕ
fate_word Counted = codes "counted"
fate_word Late = codes "late"
fate_word Over = codes "over"

abbrev pub skip_fate_word : SkipFate → List ℕ
skip_fate_word skip.Taken = codes "skipped"
skip_fate_word skip.Late = codes "late"

-- the members of a reply of a kind
abbrev pub reply_of : List ℕ → List Named → Data
reply_of kind members = object_with ((codes "reply", string kind) ∷ members)

unfoldable pub page_data : SearchPage → Data
page_data page =
    reply_of (codes "search")
    ((codes "search", whole page.search)
    ∷ (codes "test", string page.test)
    ∷ (codes "budget", whole page.budget)
    ∷ (codes "leases", whole page.leases)
    ∷ (codes "counted", whole page.counted)
    ∷ (codes "verified", whole page.verified)
    ∷ (codes "shares", wholes page.shares)
    ∷ (where_any (codes "untestable") page.untestable
    ++ (where_some (codes "commit") commit_value page.commit ++ standing_members page.standing)))

-- totals, as a reply of a kind
unfoldable pub totals_data : List ℕ → Totals → Data
totals_data kind totals =
    reply_of kind
    ((codes "entries", whole totals.entries)
    ∷ (codes "searches", whole totals.searches)
    ∷ (codes "searching", whole totals.searching)
    ∷ (codes "verifying", whole totals.verifying)
    ∷ (codes "confirmed", whole totals.confirmed)
    ∷ (codes "ended", whole totals.ended)
    ∷ (codes "counted", whole totals.counted)
    ∷ (codes "orders", whole totals.orders)
    ∷ [])

-- a log page: the bytes of the history's entries from one on, in hexadecimal digits with letters in lower case
unfoldable pub log_data : (from : ℕ) → (bytes : List ℕ) → Data
log_data from bytes =
    reply_of (codes "log") ((codes "from", whole from) ∷ (codes "entries", string (encode_lower bytes)) ∷ [])

-- one of the orders that are shown
unfoldable pub order_data : OrderLine → Data
order_data line =
    object_with
    ((codes "order", whole line.order)
    ∷ (codes "agent", string line.agent)
    ∷ (codes "commit", commit_value line.commit)
    ∷ (codes "search", whole line.search)
    ∷ (codes "date", string (day_text line.day))
    ∷ [])

-- the word for the verdict of a run
abbrev pub outcome_verdict : RunOutcome → List ℕ
outcome_verdict (Tested verdict _) = verdict_word verdict
outcome_verdict (Untestable _) = skip_word

-- the word for what its report did
abbrev pub outcome_fate : RunOutcome → List ℕ
outcome_fate (Tested _ did) = fate_word did
outcome_fate (Untestable did) = skip_fate_word did

-- a moment, in milliseconds since 1970-01-01 in UTC
abbrev pub moment_value : Moment → Data
moment_value moment = whole (moment_ms moment)

-- the members that say what was reported of a run, where something was
abbrev pub report_members : Option RunReport → List Named
report_members None = []
report_members (Some report) =
    (codes "reported", moment_value report.at)
    ∷ (codes "verdict", string (outcome_verdict report.outcome))
    ∷ (codes "fate", string (outcome_fate report.outcome))
    ∷ []

-- one of the runs that are shown
unfoldable pub run_data : RunLine → Data
run_data line =
    object_with
    ((codes "run", whole line.run)
    ∷ (codes "stage", string (stage_word line.stage))
    ∷ (codes "position", whole line.position)
    ∷ (codes "commit", commit_value line.commit)
    ∷ (codes "worker", string line.worker)
    ∷ (codes "leased", moment_value line.leased)
    ∷ (codes "deadline", whole line.deadline)
    ∷ report_members line.report)

-- one of the searches that are shown
unfoldable pub search_data : SearchLine → Data
search_data line =
    object_with
    ((codes "search", whole line.search)
    ∷ (codes "test", string line.test)
    ∷ (codes "suspects", whole line.suspects)
    ∷ (codes "opened", moment_value line.opened)
    ∷ (codes "leases", whole line.leases)
    ∷ (codes "counted", whole line.counted)
    ∷ (where_some (codes "commit") commit_value line.commit
    ++ (where_some (codes "order") whole line.order ++ standing_members line.standing)))

-- the reply to a report, with the words for its verdict and for what it did
abbrev pub report_data : (run search : ℕ) → (verdict fate : List ℕ) → Standing → Data
report_data run search verdict fate standing =
    reply_of (codes "report")
    ((codes "run", whole run)
    ∷ (codes "search", whole search)
    ∷ (codes "verdict", string verdict)
    ∷ (codes "fate", string fate)
    ∷ standing_members standing)

unfoldable pub reply_data : Reply → Data
reply_data (reply.Opened search budget standing) =
    reply_of (codes "open")
    ((codes "search", whole search) ∷ (codes "budget", whole budget) ∷ standing_members standing)
reply_data (reply.Leased run search stage position commit test deadline) =
    reply_of (codes "lease")
    ((codes "run", whole run)
    ∷ (codes "search", whole search)
    ∷ (codes "stage", string (stage_word stage))
    ∷ (codes "position", whole position)
    ∷ (codes "commit", commit_value commit)
    ∷ (codes "test", string test)
    ∷ (codes "deadline", whole deadline)
    ∷ [])
reply_data (reply.Reported run search verdict fate standing) =
    report_data run search (verdict_word verdict) (fate_word fate) standing
reply_data (reply.Skipped run search fate standing) = report_data run search skip_word (skip_fate_word fate) standing
reply_data (reply.Cancelled search) =
    reply_of (codes "cancel") ((codes "search", whole search) ∷ standing_members Cancelled)
reply_data (reply.Ordered order commit search day) =
    reply_of (codes "revert")
    ((codes "order", whole order)
    ∷ (codes "commit", commit_value commit)
    ∷ (codes "search", whole search)
    ∷ (codes "day", whole day)
    ∷ (codes "date", string (day_text day))
    ∷ [])
reply_data (reply.Search page) = page_data page
reply_data (reply.Farm totals) = totals_data (codes "farm") totals
reply_data (reply.Orders lines) =
    reply_of (codes "orders") ((codes "orders", array (items_of (map order_data lines))) ∷ [])
reply_data (reply.Runs page) =
    reply_of (codes "runs")
    ((codes "search", whole page.search)
    ∷ (codes "from", whole page.from)
    ∷ (codes "runs", array (items_of (map run_data page.runs)))
    ∷ [])
reply_data (reply.Searches page) =
    reply_of (codes "list")
    ((codes "from", whole page.from)
    ∷ (codes "searches", array (items_of (map search_data page.searches)))
    ∷ [])
