-- What the command `audit` does.
use Rattle.std.specs.Prelude.{◌≡◌, ℕ, ◌<◌, ◌≤◌, ◌⊎◌, List, [], length, take, drop, Some}
use Rattle.std.specs.Io.KnownBytes.{append_known}
use Rattle.common_types.specs.Counts.{Rose}
use Rattle.audit_check.specs.Audited.{IsAuditLine}
use Rattle.link_io.specs.Streams.{Streams}
use Rattle.link_io.specs.declared.source.TheConstants.{INPUT_LIMIT}
use Rattle.finder_commands.specs.declared.status.Status.{Status}
use Rattle.finder_commands.specs.declared.status.Status.TheVariants.{Done, ReadFault, WriteFault, Memory, InputLimit}

-- What each status says of an input that tells all its bytes. Done: it was read to its end, and the line of its
-- finding was written. InputLimit: so many bytes were taken and no more, and nothing was written. A fault of the input
-- or the output comes only where it failed in this call. What was written by then is a prefix of the line. No other
-- status comes
abbrev pub AuditEnds : Status → Streams → Streams → Type 0
AuditEnds Done before after =
    (all : List ℕ) → before.left ≡ Some all →
    (after.left ≡ Some [])
    × ((text : List ℕ) × IsAuditLine all text × (after.written ≡ append_known before.written text))
AuditEnds ReadFault before after = Rose before.read_faults after.read_faults × (after.written ≡ before.written)
AuditEnds WriteFault before after =
    Rose before.write_faults after.write_faults
    × ((all : List ℕ) → before.left ≡ Some all →
    (after.left ≡ Some [])
    × ((text : List ℕ) × IsAuditLine all text
    × ((n : ℕ) × (n < length text) × (after.written ≡ append_known before.written (take n text)))))
AuditEnds Memory before after =
    (all : List ℕ) → before.left ≡ Some all →
    (after.written ≡ before.written)
    ⊎ ((text : List ℕ) × IsAuditLine all text
    × ((n : ℕ) × (after.written ≡ append_known before.written (take n text))))
AuditEnds InputLimit before after =
    (after.written ≡ before.written)
    × ((all : List ℕ) → before.left ≡ Some all →
    (INPUT_LIMIT ≤ length all) × (after.left ≡ Some (drop INPUT_LIMIT all)))
AuditEnds _ before after = ⊥

-- where nothing fails and memory is there, an input below the limit gets its line, and a longer one gets InputLimit
abbrev pub AuditCompletes : Status → Streams → Streams → Type 0
AuditCompletes status before after =
    ¬ Rose before.read_faults after.read_faults → ¬ Rose before.write_faults after.write_faults →
    (all : List ℕ) → before.left ≡ Some all →
    (status ≡ Memory)
    ⊎ ((length all < INPUT_LIMIT) × (status ≡ Done))
    ⊎ ((INPUT_LIMIT ≤ length all) × (status ≡ InputLimit))

-- what is said of a call: how it ends, and that it does its work
pub record AuditSays (status : Status) (before after : Streams) : Type 0 where
  pub ends : AuditEnds status before after
  pub completes : AuditCompletes status before after
