-- Runs that are written piece by piece are those of the reply.
use Rattle.std.proofs.Common.{◌≡◌, ℕ, List, [], ◌∷◌, ◌++◌, codes, decimal, Option, Some, None, refl}
use Rattle.json.specs.Print.{escape_byte, quoted}
use Rattle.serde_json.specs.Data.{string}
use Rattle.serde_json.specs.Written.{compact_text}
use Rattle.farm_types.specs.CommitId.{id_digits}
use Rattle.farm_types.specs.Moment.{moment_ms}
use Rattle.farm_types.specs.declared.commit_id.CommitId.{CommitId}
use Rattle.farm_entry.specs.declared.reply.Reply.TheVariants as reply
use Rattle.farm_entry.specs.declared.run_page.RunLine.{RunLine}
use Rattle.farm_entry.specs.declared.run_page.RunPage.{RunPage}
use Rattle.farm_entry.specs.declared.run_page.RunReport.{RunReport}
use Rattle.farm_wire.specs.Members.{commit_value, object_with, whole, with_member}
use Rattle.farm_wire.specs.Pieces.{array_text, fate_piece, reported_piece, verdict_piece}
use Rattle.farm_wire.specs.Replies.{reply_data, report_members, run_data, stage_word}
use Rattle.farm_wire.proofs.Written.{joined}

-- a run behind a piece
abbrev pub run_pieces : (piece : List ℕ) → RunLine → (leased : ℕ) → (stage worker : List ℕ) → List (List ℕ)
run_pieces piece line leased stage worker =
    piece
    ∷ (codes "{\"commit\":" ++ quoted (id_digits line.commit))
    ∷ (codes ",\"deadline\":" ++ decimal line.deadline)
    ∷ fate_piece line.report
    ∷ (codes ",\"leased\":" ++ decimal leased)
    ∷ (codes ",\"position\":" ++ decimal line.position)
    ∷ reported_piece line.report
    ∷ (codes ",\"run\":" ++ decimal line.run)
    ∷ (codes ",\"stage\":" ++ quoted stage)
    ∷ verdict_piece line.report
    ∷ (codes ",\"worker\":" ++ quoted worker)
    ∷ codes "}"
    ∷ []

joined-run_at : (piece : List ℕ) (run position leased deadline : ℕ) (stage worker : List ℕ) (commit : CommitId)
    (report : Option RunReport)
    → joined
    (piece
    ∷ (codes "{\"commit\":" ++ quoted (id_digits commit))
    ∷ (codes ",\"deadline\":" ++ decimal deadline)
    ∷ fate_piece report
    ∷ (codes ",\"leased\":" ++ decimal leased)
    ∷ (codes ",\"position\":" ++ decimal position)
    ∷ reported_piece report
    ∷ (codes ",\"run\":" ++ decimal run)
    ∷ (codes ",\"stage\":" ++ quoted stage)
    ∷ verdict_piece report
    ∷ (codes ",\"worker\":" ++ quoted worker)
    ∷ codes "}"
    ∷ [])
    ≡ piece ++ compact_text
    (object_with
    ((codes "run", whole run)
    ∷ (codes "stage", string stage)
    ∷ (codes "position", whole position)
    ∷ (codes "commit", commit_value commit)
    ∷ (codes "worker", string worker)
    ∷ (codes "leased", whole leased)
    ∷ (codes "deadline", whole deadline)
    ∷ report_members report))
unfolding with_member escape_byte
joined-run_at piece run position leased deadline stage worker commit None = refl
joined-run_at piece run position leased deadline stage worker commit (Some report) = refl

pub joined-run : (piece : List ℕ) (line : RunLine)
    → joined (run_pieces piece line (moment_ms line.leased) (stage_word line.stage) line.worker)
    ≡ piece ++ compact_text (run_data line)
unfolding run_data
joined-run piece line =
    joined-run_at piece line.run line.position (moment_ms line.leased) line.deadline (stage_word line.stage)
    line.worker line.commit line.report

-- the reply that shows runs
abbrev pub runs_pieces : RunPage → (runs : List RunLine) → List (List ℕ)
runs_pieces page runs =
    (codes "{\"from\":" ++ decimal page.from)
    ∷ codes ",\"reply\":\"runs\",\"runs\":"
    ∷ array_text run_data runs
    ∷ (codes ",\"search\":" ++ decimal page.search)
    ∷ codes "}"
    ∷ []

pub joined-runs : (page : RunPage) → joined (runs_pieces page page.runs) ≡ compact_text (reply_data (reply.Runs page))
unfolding reply_data with_member escape_byte
joined-runs page = refl
