-- What is read off the state of a search is what the definitions say of the history.
use Rattle.std.proofs.Common.{◌≡◌, List, refl}
use Rattle.weight_exact.specs.declared.run.Verdict.{Verdict}
use Rattle.farm_entry.specs.Decision.{fate_at, run_with, skip_fate_at}
use Rattle.farm_entry.specs.declared.entry.Entry.{Entry}
use Rattle.farm_entry.specs.declared.lease.LeasedRun.{LeasedRun}
use Rattle.farm_entry.specs.declared.opening.Opening.{Opening}
use Rattle.farm_entry.specs.declared.standing.Standing.{Standing}
use Rattle.farm_entry.specs.declared.standing.Standing.TheVariants.{Searching, Verifying, Confirmed, Vindicated, NoCulprit, Inconclusive, Cancelled}
use Rattle.search_state.specs.SearchView.{fate_standing, skip_fate_standing}
use Rattle.search_state.specs.Seen.{seen}

pub fate-seen : (st : Standing) (H : List Entry) (o : Opening) (l : LeasedRun) (v : Verdict) →
    fate_standing st (seen H o) l.stage (run_with l v) ≡ fate_at st H o l v
fate-seen Searching H o l v = refl
fate-seen (Verifying c) H o l v = refl
fate-seen (Confirmed c) H o l v = refl
fate-seen (Vindicated c) H o l v = refl
fate-seen NoCulprit H o l v = refl
fate-seen Inconclusive H o l v = refl
fate-seen Cancelled H o l v = refl

pub skip_fate-seen : (st : Standing) (l : LeasedRun) → skip_fate_standing st l.stage ≡ skip_fate_at st l
skip_fate-seen Searching l = refl
skip_fate-seen (Verifying c) l = refl
skip_fate-seen (Confirmed c) l = refl
skip_fate-seen (Vindicated c) l = refl
skip_fate-seen NoCulprit l = refl
skip_fate-seen Inconclusive l = refl
skip_fate-seen Cancelled l = refl
