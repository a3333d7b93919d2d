-- What a status says of the disk's faults.
use Rattle.std.proofs.Common.{◌≡◌, ◌∙◌, ⊎_elim, ℕ, List, Option, Some, None, subst, sym}
use Rattle.farm_journal.specs.Opened.{OpeningCause}
use Rattle.farm_journal.specs.declared.fault.CreateFault.TheVariants as creating
use Rattle.farm_journal.specs.declared.fault.OpeningFault.{OpeningFault}
use Rattle.farm_journal.specs.declared.fault.OpeningFault.TheVariants as opening
use Rattle.farm_script.specs.declared.run_end.RunEnd.TheVariants as script
use Rattle.common_types.specs.Counts.{Rose}
use Rattle.outside_seen.specs.Outside.{DiskSeen, OutputSeen}
use Rattle.finder_commands.specs.Disks.{HasStoreCause}
use Rattle.finder_commands.specs.EvidenceCommand.{EvidencePut}
use Rattle.finder_commands.specs.Opening.{status_of_opening}
use Rattle.finder_commands.specs.TextPut.{TextPut}
use Rattle.finder_commands.specs.declared.status.Status.{Status}
use Rattle.finder_commands.specs.declared.status.Status.TheVariants.{Memory, StoreFault, UnknownSearch}

-- of a journal that was not opened
pub opening-cause : (fault : OpeningFault) (old new : DiskSeen) → OpeningCause fault old.faults new.faults
    → HasStoreCause (status_of_opening fault) old new
opening-cause opening.Unborn old new cause = tt
opening-cause (opening.Damaged o) old new cause = tt
opening-cause (opening.StoreFault before after) old new cause = cause
opening-cause opening.Memory old new cause = tt

-- of a text that was put
pub text-cause : (text : List ℕ) (status : Status) (before after : OutputSeen) (old new : DiskSeen)
    → TextPut text status before after → HasStoreCause status old new
text-cause text (StoreFault b a) before after old new put = absurd put
text-cause text _ before after old new put = tt

-- of the evidence of a search that was put
pub evidence-cause : (search : ℕ) (text : Option (List ℕ)) (status : Status) (before after : OutputSeen)
    (old new : DiskSeen) → EvidencePut search text status before after → HasStoreCause status old new
evidence-cause search (Some text) status before after old new put = text-cause text status before after old new put
evidence-cause search None status before after old new put = ⊎_elim
    (λ (memory : status ≡ Memory). subst (λ (s : Status). HasStoreCause s old new) (sym memory) tt)
    (λ (unknown : status ≡ UnknownSearch search).
    subst (λ (s : Status). HasStoreCause s old new) (sym unknown) tt)
    put.0

-- the same, where the count at the start is known otherwise
pub cause-same : (status : Status) (old other new : DiskSeen) → other.faults ≡ old.faults
    → HasStoreCause status other new
    → HasStoreCause status old new
cause-same (StoreFault b a) old other new same cause =
    (cause.0 ∙ same, cause.1, subst (λ (n : ℕ). Rose n new.faults) same cause.2)
cause-same _ old other new same cause = tt
