-- What holds of each new entry and of each refusal holds of what a command comes to, unless it only shows.
use Rattle.std.proofs.Common.{◌≡◌, ℕ, Bool, true, false, nat_le, if◌then◌else◌, List, length, Option, Some, None, Result, Ok, Err, refl}
use Rattle.weight_exact.specs.declared.run.Verdict.{Verdict}
use Rattle.farm_rules.specs.declared.orders.Draft.{Draft}
use Rattle.farm_rules.specs.declared.orders.NoOrder.{NoOrder}
use Rattle.farm_rules.specs.declared.orders.NoOrder.TheVariants as none
use Rattle.farm_types.specs.declared.key.Key.{Key}
use Rattle.farm_types.specs.declared.moment.Moment.{Moment}
use Rattle.farm_entry.specs.Decision.{add_at, add_opening, cancel_decision, is_show, lease_decision, own_decision, report_decision, revert_decision, skip_decision}
use Rattle.farm_entry.specs.History.{openings}
use Rattle.farm_entry.specs.Standing.{is_active, standing}
use Rattle.farm_entry.specs.declared.command.Command.{Command}
use Rattle.farm_entry.specs.declared.command.Command.TheVariants as command
use Rattle.farm_entry.specs.declared.decision.Decision.{Decision}
use Rattle.farm_entry.specs.declared.decision.Decision.TheVariants.{New, Refuse}
use Rattle.farm_entry.specs.declared.entry.Entry.{Entry}
use Rattle.farm_entry.specs.declared.entry.What.TheVariants.{Cancelled}
use Rattle.farm_entry.specs.declared.lease.DueRun.{DueRun}
use Rattle.farm_entry.specs.declared.lease.LeasedRun.{LeasedRun}
use Rattle.farm_entry.specs.declared.limits.TheConstants.{MAX_SEARCHES}
use Rattle.farm_entry.specs.declared.opening.Opening.{Opening}
use Rattle.farm_entry.specs.declared.refusal.OpenFault.{OpenFault}
use Rattle.farm_entry.specs.declared.refusal.Refusal.{Refusal}
use Rattle.farm_entry.specs.declared.refusal.Refusal.TheVariants.{SearchEnded, TooManySearches}

pub either-way : (P : Decision → Type 0) (b : Bool) (x y : Decision) → P x → P y → P (if b then x else y)
either-way P true x y first second = first
either-way P false x y first second = second

module _ (P : Decision → Type 0) (adds : (e : Entry) → P (New e)) (refuses : (cause : Refusal) → P (Refuse cause)) where
  opening-way : (m : Moment) (made : Result Opening OpenFault) → P (add_opening m made)
  opening-way m (Ok o) = adds _
  opening-way m (Err f) = refuses _

  lease-way : (H : List Entry) (key : Key) (worker : List ℕ) (m : Moment) (due : Option DueRun) →
      P (lease_decision H key worker m due)
  lease-way H key worker m None = refuses _
  lease-way H key worker m (Some d) = adds _

  report-way : (H : List Entry) (run : ℕ) (verdict : Verdict) (m : Moment) (l : Option LeasedRun) →
      P (report_decision H run verdict m l)
  report-way H run verdict m None = refuses _
  report-way H run verdict m (Some l) = adds _

  skip-way : (H : List Entry) (run : ℕ) (m : Moment) (l : Option LeasedRun) → P (skip_decision H run m l)
  skip-way H run m None = refuses _
  skip-way H run m (Some l) = adds _

  cancel-way : (H : List Entry) (key : Key) (search : ℕ) (m : Moment) (o : Option Opening) →
      P (cancel_decision H key search m o)
  cancel-way H key search m None = refuses _
  cancel-way H key search m (Some o) =
      either-way P (is_active (standing H o)) (add_at m (Cancelled key search)) (Refuse (SearchEnded (standing H o)))
      (adds _) (refuses _)

  revert-way : (key : Key) (agent : List ℕ) (m : Moment) (next : Result Draft NoOrder) →
      P (revert_decision key agent m next)
  revert-way key agent m (Ok d) = adds _
  revert-way key agent m (Err none.NoRevert) = refuses _
  revert-way key agent m (Err (none.DailyLimit day count)) = refuses _

  pub own-way : (H : List Entry) (q : Command) (m : Moment) → (is_show q ≡ true → P (own_decision H q m)) →
      P (own_decision H q m)
  own-way H (command.Open ask) m shows =
      either-way P (nat_le MAX_SEARCHES (length (openings H))) (Refuse TooManySearches) (add_opening m _) (refuses _)
      (opening-way m _)
  own-way H (command.Lease key worker) m shows = lease-way H key worker m _
  own-way H (command.Report run verdict) m shows = report-way H run verdict m _
  own-way H (command.Skip run) m shows = skip-way H run m _
  own-way H (command.Cancel key search) m shows = cancel-way H key search m _
  own-way H (command.TakeRevert key agent) m shows = revert-way key agent m _
  own-way H (command.ShowSearch search) m shows = shows refl
  own-way H command.ShowFarm m shows = shows refl
  own-way H command.ShowOrders m shows = shows refl
  own-way H (command.ShowRuns search from) m shows = shows refl
  own-way H (command.ShowSearches from) m shows = shows refl
