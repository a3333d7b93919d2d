-- What the subcommand `evidence JOURNAL SEARCH` does.
use Rattle.std.specs.Prelude.{◌≡◌, ◌⊎◌, true, ℕ, List, Option, Some, None}
use Rattle.farm_entry.specs.Legal.{IsLegal}
use Rattle.farm_entry.specs.declared.entry.Entry.{Entry}
use Rattle.farm_journal.specs.ReadsOnly.{ReadsOnly}
use Rattle.farm_store.specs.Bytes.{StandsFor}
use Rattle.common_types.specs.Counts.{Rose}
use Rattle.search_evidence.specs.Evidence.{evidence_text}
use Rattle.outside_seen.specs.Outside.{DiskSeen, OutputSeen}
use Rattle.finder_commands.specs.Opening.{IsNotOpened}
use Rattle.finder_commands.specs.TextPut.{TextPut}
use Rattle.finder_commands.specs.declared.status.Status.{Status}
use Rattle.finder_commands.specs.declared.status.Status.TheVariants.{Done, Memory, UnknownSearch}

-- What becomes of the evidence of the search with a number: the text of one that is there was put, as the status says.
-- Of one that isn't there nothing was put, and the status names it, unless memory ran out
abbrev pub EvidencePut : (search : ℕ) → Option (List ℕ) → Status → OutputSeen → OutputSeen → Type 0
EvidencePut search (Some text) status before after = TextPut text status before after
EvidencePut search None status before after =
    ((status ≡ Memory) ⊎ (status ≡ UnknownSearch search)) × (after ≡ before)

-- The journal held a history, of which the evidence of a search was put, and its disk was only read. The history is
-- legal, whether the disk tells what it holds or not
pub record EvidenceShown (search : ℕ) (status : Status) (before after : OutputSeen) (old new : DiskSeen)
    : Type 0 where
  pub history : List Entry
  pub held : old.tells ≡ true → StandsFor history old.told.bytes
  pub legal : IsLegal history
  pub only : old.tells ≡ true → ReadsOnly old.told new.told
  pub put : EvidencePut search (evidence_text history search) status before after

-- what a status says: the journal was not opened, or the evidence of the search was put, or there is no such search
abbrev pub EvidenceEnds : (search : ℕ) → Status → OutputSeen → OutputSeen → DiskSeen → DiskSeen → Type 0
EvidenceEnds search status before after old new =
    IsNotOpened status before after old new ⊎ EvidenceShown search status before after old new

-- how a call ends that does its work, by the evidence of the search, if it is there
abbrev pub status_of_evidence : (search : ℕ) → Option (List ℕ) → Status
status_of_evidence search (Some text) = Done
status_of_evidence search None = UnknownSearch search

-- where neither the disk nor the output fails and memory is there, the evidence of a journal that holds a history is
-- put, if the search is there, and else the status says that it isn't
abbrev pub EvidenceCompletes : (search : ℕ) → Status → OutputSeen → OutputSeen → DiskSeen → DiskSeen → Type 0
EvidenceCompletes search status before after old new =
    ¬ Rose before.faults after.faults → ¬ Rose old.faults new.faults → old.tells ≡ true
    → (history : List Entry) → StandsFor history old.told.bytes
    → (status ≡ Memory) ⊎ (status ≡ status_of_evidence search (evidence_text history search))

-- what is said of a call: how it ends, and that it does its work
pub record EvidenceSays (search : ℕ) (status : Status) (before after : OutputSeen) (old new : DiskSeen)
    : Type 0 where
  pub ends : EvidenceEnds search status before after old new
  pub completes : EvidenceCompletes search status before after old new
