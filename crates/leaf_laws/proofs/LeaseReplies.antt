-- The reply that hands out a run, as it is written and read.
use Rattle.std.proofs.Common.{◌≡◌, ◌<◌, ◌≤◌, ◌^◌, ℕ, true, List, Some, None, Result, Ok, refl, ap, ◌∙◌, arith, nat_lt}
use Rattle.std.proofs.Common.{nat_le, codes}
use Rattle.std.specs.Option.{is_some}
use Rattle.std.proofs.lemmas.Bool.{lt-ltb, le-leb}
use Rattle.farm_entry.specs.declared.answer.Answer.TheVariants.{Done}
use Rattle.farm_entry.specs.declared.reply.Reply.TheVariants.{Leased}
use Rattle.farm_types.proofs.IdTexts.{id_digits-back}
use Rattle.farm_types.proofs.NameTexts.{no_fault-from_IsName}
use Rattle.farm_types.specs.CommitId.{id_bytes, id_digits, id_fault}
use Rattle.farm_types.specs.Limits.{IsName}
use Rattle.farm_types.specs.Name.{name_fault}
use Rattle.farm_types.specs.declared.commit_id.CommitId.{CommitId}
use Rattle.farm_types.specs.declared.stage.Stage.{Stage}
use Rattle.farm_wire.proofs.MadeValues.{id_of-bytes}
use Rattle.farm_wire.proofs.Quoted.{IsUtf8-encode_lower}
use Rattle.farm_wire.specs.Answers.{answer_text}
use Rattle.farm_wire.specs.Forms as form
use Rattle.farm_wire.specs.Made.{id_named}
use Rattle.farm_wire.specs.Members.{with_member, whole}
use Rattle.farm_wire.specs.Replies.{reply_data}
use Rattle.json.proofs.Printed.Utf8.{IsUtf8-are_ascii}
use Rattle.serde_json.specs.Data.{Data, depth, string}
use Rattle.serde_json.specs.Find.{as_object}
use Rattle.serde_json.specs.Read.{max_depth}
use Rattle.serde_json.specs.Written.{compact_text}
use Rattle.worker_agent.specs.Answers.{and_then, lease_in, lease_reading, member_in}
use Rattle.worker_agent.specs.declared.answer.AnswerFault.{AnswerFault}
use Rattle.leaf_laws.proofs.JsonTexts.{IsSent, object_in-compact_text}
use Rattle.leaf_laws.proofs.SentRefusals.{object_of-written}
use Rattle.leaf_laws.proofs.Texts.{IsUtf8-name, IsUtf8-stage_word}
use Rattle.leaf_laws.specs.LeaseNumbers.{IsLease}

-- a number that is written is read in its form
pub ordinal-whole : (n : ℕ) → 1 ≤ n → n < 2 ^ 32 → form.ordinal (whole n) ≡ Some n
unfolding form.ordinal form.small form.whole
ordinal-whole n some fits =
    let below : nat_lt n (2 ^ 32) ≡ true = lt-ltb n (2 ^ 32) fits in
    let from_one : nat_le 1 n ≡ true = le-leb 1 n some in
    rw (below, from_one) refl

-- and so is a name
pub name-string : (text : List ℕ) → IsName text → form.name (string text) ≡ Some text
unfolding form.name
name-string text is =
    let fault : name_fault text ≡ None = no_fault-from_IsName text is in
    rw fault refl

-- and the id of a commit
pub commit-string : (commit : CommitId) → form.commit (string (id_digits commit)) ≡ Some commit
unfolding form.commit id_named
commit-string commit =
    let back = id_digits-back commit in
    let fault : id_fault (id_digits commit) ≡ None = back.0 in
    rw (fault, back.1) (id_of-bytes commit)

lease-sent : (run search position deadline : ℕ) (stage : Stage) (commit : CommitId) (test : List ℕ)
    → IsLease run search position deadline test
    → IsSent (reply_data (Leased run search stage position commit test deadline))
unfolding reply_data with_member
lease-sent run search position deadline stage commit test is = (
  (
    IsUtf8-are_ascii (codes "commit") refl,
    IsUtf8-encode_lower (id_bytes commit),
    (
      IsUtf8-are_ascii (codes "deadline") refl,
      is.deadline_fits,
      (
        IsUtf8-are_ascii (codes "position") refl,
        omega (arith, is.position_fits),
        (
          IsUtf8-are_ascii (codes "reply") refl,
          IsUtf8-are_ascii (codes "lease") refl,
          (
            IsUtf8-are_ascii (codes "run") refl,
            omega (arith, is.run_fits),
            (
              IsUtf8-are_ascii (codes "search") refl,
              omega (arith, is.search_fits),
              (
                IsUtf8-are_ascii (codes "stage") refl,
                IsUtf8-stage_word stage,
                (IsUtf8-are_ascii (codes "test") refl, IsUtf8-name test is.name, tt),
              ),
            ),
          ),
        ),
      ),
    ),
  ),
  refl,
)

lease-object : (run search position deadline : ℕ) (stage : Stage) (commit : CommitId) (test : List ℕ)
    → (is_some (as_object (reply_data (Leased run search stage position commit test deadline))) ≡ true)
    × (depth (reply_data (Leased run search stage position commit test deadline)) ≤ max_depth)
unfolding reply_data with_member
lease-object run search position deadline stage commit test = (refl, omega arith)

lease-in : (run search position deadline : ℕ) (stage : Stage) (commit : CommitId) (test : List ℕ)
    → IsLease run search position deadline test
    → lease_in (reply_data (Leased run search stage position commit test deadline))
    ≡ Ok (record { run = run; test = test; commit = commit })
unfolding lease_in member_in reply_data with_member
lease-in run search position deadline stage commit test is =
    rw (ordinal-whole run is.run_some is.run_fits, name-string test is.name, commit-string commit) refl

-- what is written for a lease is read as that lease
pub lease-read : (run search position deadline : ℕ) (stage : Stage) (commit : CommitId) (test : List ℕ)
    → IsLease run search position deadline test
    → lease_reading (answer_text (Done (Leased run search stage position commit test deadline)))
    ≡ Ok (record { run = run; test = test; commit = commit })
unfolding lease_reading
lease-read run search position deadline stage commit test is =
    let d : Data = reply_data (Leased run search stage position commit test deadline) in
    let sent = lease-sent run search position deadline stage commit test is in
    let object = lease-object run search position deadline stage commit test in
    ap (λ (read : Result Data AnswerFault). and_then read lease_in)
    (object_of-written (compact_text d) d (object_in-compact_text d object.0 sent object.1))
    ∙ lease-in run search position deadline stage commit test is
