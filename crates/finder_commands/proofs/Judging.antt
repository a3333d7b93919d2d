-- How a call of `judge` ends, by what each of its steps answered.
use Rattle.std.proofs.Common.{◌≡◌, ℕ, ◌<◌, inl, inr, List, length, Result, Ok, Err, sym, ap, ◌∙◌, subst, refl, arith, take}
use Rattle.std.specs.Prelude.{MatchResult}
use Rattle.std.specs.Result.{IsErrAnd}
use Rattle.std.specs.Io.KnownBytes.{append_known, prepend_known}
use Rattle.judge.specs.Answer.{judged}
use Rattle.judge.specs.declared.fault.JudgeFault.{JudgeFault}
use Rattle.judge.specs.declared.fault.JudgeFault.TheVariants as judge
use Rattle.common_types.specs.Counts.{Rose}
use Rattle.link_io.specs.Streams.{Streams}
use Rattle.link_io.specs.declared.sink.PutFault.{PutFault}
use Rattle.link_io.specs.declared.sink.PutFault.TheVariants as put
use Rattle.link_io.specs.declared.source.TheConstants.{INPUT_LIMIT}
use Rattle.link_io.proofs.Told.{append_known-nil}
use Rattle.finder_commands.specs.JudgeCommand.{text_of, JudgeEnds, JudgeCompletes}
use Rattle.finder_commands.specs.ReadInput.{WasRead}
use Rattle.finder_commands.specs.Statuses.{status_of, status_of_input, status_of_judge, status_of_put}
use Rattle.finder_commands.specs.declared.read_input.InputFault.{InputFault}
use Rattle.finder_commands.specs.declared.read_input.InputFault.TheVariants as input
use Rattle.finder_commands.specs.declared.status.Status.{Status}
use Rattle.finder_commands.specs.declared.status.Status.TheVariants.{Done, BadInput}
use Rattle.finder_commands.proofs.Taken.{read_whole, read_front}

-- what holds of a status holds of the answer that carries it
pub carried : (P : Status → Type 0) (answer : Result (Unit {0}) Status) (status : Status) →
    IsErrAnd answer (λ s. s ≡ status) → P status → P (status_of answer)
carried P (Ok done) status is holds = absurd is
carried P (Err s) status is holds = subst P (sym is) holds

-- what reading an input says of each way to fail
pub record ReadFails (before after : Streams) (fault : InputFault) : Type 0 where
  pub at_limit : fault ≡ input.AtLimit → (bytes : List ℕ) × (length bytes ≡ INPUT_LIMIT)
      × (before.left ≡ prepend_known bytes after.left)
  pub rises : fault ≡ input.Failed → Rose before.read_faults after.read_faults

-- nothing was put, where the input was not read
pub unread : (before after : Streams) (fault : InputFault) → ReadFails before after fault
    → after.written ≡ before.written →
    JudgeEnds (status_of_input fault) before after
unread before after input.Failed fails same = (fails.rises refl, same)
unread before after input.AtLimit fails same =
    let taken = fails.at_limit refl in
    (same, λ all told. read_front all taken.0 INPUT_LIMIT _ _ told taken.2 taken.1)
unread before after input.Memory fails same = λ all told. (0, same ∙ sym (append_known-nil before.written))

-- where the bytes that were read have no answer
pub unjudged : (before after : Streams) (bytes : List ℕ) (fault : JudgeFault) → WasRead before.left after.left bytes →
    ((line : ℕ) → fault ≡ judge.BadInput line → judged bytes ≡ Err line) → after.written ≡ before.written →
    JudgeEnds (status_of_judge fault) before after
unjudged before after bytes (judge.BadInput line) read bad same = (
  same,
  λ all told.
      let r = read_whole all bytes _ _ told read.taken read.ended in
      (r.0, ap judged r.1 ∙ bad line refl),
)
unjudged before after bytes judge.Memory read bad same = λ all told. (0, same ∙ sym (append_known-nil before.written))

-- where nothing fails, they have none only for running out of memory or at a bad line
pub unjudged_completes : (before after : Streams) (bytes : List ℕ) (fault : JudgeFault)
    → WasRead before.left after.left bytes →
    ((line : ℕ) → fault ≡ judge.BadInput line → judged bytes ≡ Err line) →
    JudgeCompletes (status_of_judge fault) before after
unjudged_completes before after bytes (judge.BadInput line) read bad reads writes all told =
    let r = read_whole all bytes _ _ told read.taken read.ended in
    let M : Result (List ℕ) ℕ → Type 0 =
    λ j. MatchResult j (λ _. BadInput line ≡ Done) (λ l. BadInput line ≡ BadInput l) in
    let answered : M (judged all) = subst M (sym (ap judged r.1 ∙ bad line refl)) refl in
    inr (inl (omega (arith, read.few, ap length r.1), answered))
unjudged_completes before after bytes judge.Memory read bad reads writes all told = inl refl

-- where the answer was not put whole
pub unput : (before after : Streams) (bytes text : List ℕ) (fault : PutFault) → WasRead before.left after.left bytes
    → judged bytes ≡ Ok text →
    (fault ≡ put.Failed → Rose before.write_faults after.write_faults) →
    (n : ℕ) × (n < length text) × (after.written ≡ append_known before.written (take n text)) →
    JudgeEnds (status_of_put fault) before after
unput before after bytes text put.Failed read good rises stopped = (
  rises refl,
  λ all told.
      let r = read_whole all bytes _ _ told read.taken read.ended in
      (r.0, (text, ap judged r.1 ∙ good, stopped)),
)
unput before after bytes text put.Memory read good rises stopped = λ all told.
    let r = read_whole all bytes _ _ told read.taken read.ended in
    let P : Result (List ℕ) ℕ → Type 0 =
    λ j. after.written ≡ append_known before.written (take stopped.0 (text_of j)) in
    (stopped.0, subst P (sym (ap judged r.1 ∙ good)) stopped.2)

-- where it was
pub done : (before after : Streams) (bytes text : List ℕ) → WasRead before.left after.left bytes
    → judged bytes ≡ Ok text →
    after.written ≡ append_known before.written text → JudgeEnds Done before after
done before after bytes text read good written all told =
    let r = read_whole all bytes _ _ told read.taken read.ended in
    (r.0, (text, ap judged r.1 ∙ good, written))

pub done_completes : (before after : Streams) (bytes text : List ℕ) → WasRead before.left after.left bytes
    → judged bytes ≡ Ok text →
    JudgeCompletes Done before after
done_completes before after bytes text read good reads writes all told =
    let r = read_whole all bytes _ _ told read.taken read.ended in
    let M : Result (List ℕ) ℕ → Type 0 = λ j. MatchResult j (λ _. Done ≡ Done) (λ line. Done ≡ BadInput line) in
    let answered : M (judged all) = subst M (sym (ap judged r.1 ∙ good)) refl in
    inr (inl (omega (arith, read.few, ap length r.1), answered))
