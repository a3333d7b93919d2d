-- How a call of `serve` ends, by how its service did, or where memory ran out to read the words.
use Rattle.std.proofs.Common.{◌≡◌, ◌∙◌, ◌⊎◌, inl, inr, ℕ, refl, sym, ap, subst}
use Rattle.farm_journal.proofs.OpeningSteps.{reads-none}
use Rattle.farm_journal.specs.declared.fault.OpeningFault.TheVariants as opening
use Rattle.outside_seen.specs.Outside.{Outside}
use Rattle.farm_serve.specs.ServeEnds.{ServeCompletes, ServeEnds}
use Rattle.farm_serve.specs.declared.ending.Ending.{Ending}
use Rattle.farm_serve.specs.declared.ending.Ending.TheVariants as end
use Rattle.farm_types.specs.declared.moment.Moment.{Moment}
use Rattle.finder_commands.proofs.Causes.{opening-cause}
use Rattle.finder_commands.specs.Disks.{HasStoreCause}
use Rattle.finder_program.specs.ServeCommand.{JournalServeCompletes, JournalServeEnds, status_of_ending}
use Rattle.finder_commands.specs.declared.status.Status.{Status}
use Rattle.finder_commands.specs.declared.status.Status.TheVariants.{Done, Memory}

ending-cause : (links : ℕ) (clock : Moment → Type 0) (ending : Ending) (old new : Outside)
    → ServeEnds links clock ending old new → HasStoreCause (status_of_ending ending) old.disk new.disk
ending-cause links clock end.Done old new ends = tt
ending-cause links clock end.NetFault old new ends = tt
ending-cause links clock end.WriteFault old new ends = tt
ending-cause links clock end.Memory old new ends = tt
ending-cause links clock (end.NotOpened fault) old new ends = opening-cause fault old.disk new.disk ends.counts

-- a fault of the store is answered only where the disk failed
pub serve-cause : (links : ℕ) (clock : Moment → Type 0) (ending : Ending) (status : Status) (old new : Outside)
    → status ≡ status_of_ending ending → ServeEnds links clock ending old new → HasStoreCause status old.disk new.disk
serve-cause links clock ending status old new is ends =
    subst (λ (s : Status). HasStoreCause s old.disk new.disk) (sym is) (ending-cause links clock ending old new ends)

by_ending : (ending : Ending) (status : Status) → status ≡ status_of_ending ending
    → (ending ≡ end.Done) ⊎ ((ending ≡ end.Memory) ⊎ (ending ≡ end.NotOpened opening.Memory))
    → (status ≡ Memory) ⊎ (status ≡ Done)
by_ending ending status is (inl done) = inr (is ∙ ap status_of_ending done)
by_ending ending status is (inr (inl memory)) = inl (is ∙ ap status_of_ending memory)
by_ending ending status is (inr (inr missed)) = inl (is ∙ ap status_of_ending missed)

-- where nothing fails, a journal that holds a history is served, unless memory runs out
pub serve-completes : (ending : Ending) (status : Status) (old new : Outside) → status ≡ status_of_ending ending
    → ServeCompletes ending old new → JournalServeCompletes status old new
serve-completes ending status old new is completes net out disk tell history stands =
    by_ending ending status is (completes net out disk tell history stands)

-- nothing was done where memory ran out to read the words
pub unread-served : (links : ℕ) (clock : Moment → Type 0) (seen : Outside)
    → JournalServeEnds links clock Memory seen seen
unread-served links clock seen = (
  end.NotOpened opening.Memory,
  refl,
  record {
    untouched = (refl, refl);
    cause = λ tells. tt;
    only = λ tells. reads-none seen.disk.told;
    counts = tt;
  },
)
