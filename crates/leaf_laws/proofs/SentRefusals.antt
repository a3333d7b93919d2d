-- Refusals, as they are written and read.
use Rattle.std.proofs.Common.{◌≡◌, ℕ, List, true, Some, Ok, refl, ap, arith}
use Rattle.std.specs.Prelude.{codes}
use Rattle.std.specs.Option.{ok_or}
use Rattle.json.proofs.Printed.Utf8.{IsUtf8-are_ascii}
use Rattle.serde_json.specs.Data.{Data}
use Rattle.serde_json.specs.Written.{compact_text}
use Rattle.farm_entry.specs.declared.answer.Answer.TheVariants.{Refused}
use Rattle.farm_entry.specs.declared.refusal.Refusal.TheVariants.{Closed, NoRun}
use Rattle.farm_wire.specs.Answers.{answer_text}
use Rattle.farm_wire.specs.Members.{with_member}
use Rattle.farm_wire.specs.Reading.{object_in}
use Rattle.farm_wire.specs.Refusals.{refusal_data}
use Rattle.worker_agent.specs.Answers.{object_of, refuses_closed, refuses_run, tells_closed, tells_closing, tells_no_run, tells_refusal}
use Rattle.worker_agent.specs.declared.answer.AnswerFault.TheVariants.{Shape}
use Rattle.leaf_laws.proofs.JsonTexts.{IsSent, object_in-compact_text}

-- a worker reads a written object as itself
pub object_of-written : (text : List ℕ) (d : Data) → object_in text ≡ Some d → object_of text ≡ Ok d
unfolding object_of
object_of-written text d is = ap (λ o. ok_or o Shape) is

pub no_run-told : tells_no_run (answer_text (Refused NoRun)) ≡ true
unfolding tells_no_run refuses_run refusal_data with_member
no_run-told =
    let d : Data = refusal_data NoRun in
    let name = IsUtf8-are_ascii (codes "refused") refl in
    let sent : IsSent d = ((name, IsUtf8-are_ascii (codes "NoRun") refl, tt), refl) in
    ap tells_refusal (object_of-written (compact_text d) d (object_in-compact_text d refl sent (omega arith)))

pub closed-told : tells_no_run (answer_text (Refused Closed)) ≡ true
unfolding tells_no_run refuses_run refusal_data with_member
closed-told =
    let d : Data = refusal_data Closed in
    let name = IsUtf8-are_ascii (codes "refused") refl in
    let sent : IsSent d = ((name, IsUtf8-are_ascii (codes "Closed") refl, tt), refl) in
    ap tells_refusal (object_of-written (compact_text d) d (object_in-compact_text d refl sent (omega arith)))

pub closed-closes : tells_closed (answer_text (Refused Closed)) ≡ true
unfolding tells_closed refuses_closed refusal_data with_member
closed-closes =
    let d : Data = refusal_data Closed in
    let name = IsUtf8-are_ascii (codes "refused") refl in
    let sent : IsSent d = ((name, IsUtf8-are_ascii (codes "Closed") refl, tt), refl) in
    ap tells_closing (object_of-written (compact_text d) d (object_in-compact_text d refl sent (omega arith)))
