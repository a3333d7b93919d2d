-- How a call of `audit` ends, by what each of its steps answered.
use Rattle.std.proofs.Common.{◌≡◌, ℕ, ◌<◌, inl, inr, List, length, refl, sym, ap, subst, arith, take}
use Rattle.std.specs.Io.KnownBytes.{append_known}
use Rattle.audit_check.specs.Audited.{IsAuditLine}
use Rattle.common_types.specs.Counts.{Rose}
use Rattle.link_io.specs.Streams.{Streams}
use Rattle.link_io.specs.declared.sink.PutFault.{PutFault}
use Rattle.link_io.specs.declared.sink.PutFault.TheVariants as put
use Rattle.link_io.specs.declared.source.TheConstants.{INPUT_LIMIT}
use Rattle.finder_commands.specs.AuditCommand.{AuditCompletes, AuditEnds}
use Rattle.finder_commands.specs.ReadInput.{WasRead}
use Rattle.finder_commands.specs.Statuses.{status_of_input, status_of_put}
use Rattle.finder_commands.specs.declared.read_input.InputFault.{InputFault}
use Rattle.finder_commands.specs.declared.read_input.InputFault.TheVariants as input
use Rattle.finder_commands.specs.declared.status.Status.TheVariants.{Done, Memory}
use Rattle.finder_commands.proofs.Judging.{ReadFails}
use Rattle.finder_commands.proofs.Taken.{read_front, read_whole}

-- nothing was put, where the input was not read
pub unread_audit : (before after : Streams) (fault : InputFault) → ReadFails before after fault
    → after.written ≡ before.written →
    AuditEnds (status_of_input fault) before after
unread_audit before after input.Failed fails same = (fails.rises refl, same)
unread_audit before after input.AtLimit fails same =
    let taken = fails.at_limit refl in
    (same, λ all told. read_front all taken.0 INPUT_LIMIT _ _ told taken.2 taken.1)
unread_audit before after input.Memory fails same = λ all told. inl same

-- nor where memory ran out in the audit
pub unmade : (before after : Streams) → after.written ≡ before.written → AuditEnds Memory before after
unmade before after same = λ all told. inl same

-- the line of the bytes that were read is that of all bytes
line-of_all : (all bytes text : List ℕ) → all ≡ bytes → IsAuditLine bytes text → IsAuditLine all text
line-of_all all bytes text same line = subst (λ (b : List ℕ). IsAuditLine b text) (sym same) line

-- so is the line of bytes and a text that are told in other words
pub line-carried : (bytes same text told : List ℕ) → bytes ≡ same → told ≡ text → IsAuditLine bytes text
    → IsAuditLine same told
line-carried bytes same text told bytes_are text_is line =
    subst (λ (t : List ℕ). IsAuditLine same t) (sym text_is) (subst (λ (b : List ℕ). IsAuditLine b text) bytes_are line)

-- where the line was not put whole
pub unput_line : (before after : Streams) (bytes text : List ℕ) (fault : PutFault)
    → WasRead before.left after.left bytes →
    IsAuditLine bytes text → (fault ≡ put.Failed → Rose before.write_faults after.write_faults) →
    (n : ℕ) × (n < length text) × (after.written ≡ append_known before.written (take n text)) →
    AuditEnds (status_of_put fault) before after
unput_line before after bytes text put.Failed read line rises stopped = (
  rises refl,
  λ all told.
      let r = read_whole all bytes _ _ told read.taken read.ended in
      (r.0, (text, line-of_all all bytes text r.1 line, stopped)),
)
unput_line before after bytes text put.Memory read line rises stopped = λ all told.
    let r = read_whole all bytes _ _ told read.taken read.ended in
    inr (text, line-of_all all bytes text r.1 line, (stopped.0, stopped.2))

-- where it was
pub put_line : (before after : Streams) (bytes text : List ℕ) → WasRead before.left after.left bytes
    → IsAuditLine bytes text →
    after.written ≡ append_known before.written text → AuditEnds Done before after
put_line before after bytes text read line written all told =
    let r = read_whole all bytes _ _ told read.taken read.ended in
    (r.0, (text, line-of_all all bytes text r.1 line, written))

pub line_completes : (before after : Streams) (bytes : List ℕ) → WasRead before.left after.left bytes →
    AuditCompletes Done before after
line_completes before after bytes read reads writes all told =
    let r = read_whole all bytes _ _ told read.taken read.ended in
    inr (inl (omega (arith, read.few, ap length r.1), refl))
