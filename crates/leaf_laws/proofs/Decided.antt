-- What a decision shows is no lease, and what it adds reports nothing but what its command reports.
use Rattle.std.proofs.Common.{◌≡◌, ℕ, Bool, true, false, if◌then◌else◌, List, slice_get, Option, Some, None, Result, Ok, Err, refl, ap}
use Rattle.std.specs.Option.{option_map}
use Rattle.std.proofs.lemmas.Option.{none-some}
use Rattle.farm_rules.specs.declared.orders.Draft.{Draft}
use Rattle.farm_rules.specs.declared.orders.NoOrder.{NoOrder}
use Rattle.farm_rules.specs.declared.orders.NoOrder.TheVariants as none
use Rattle.farm_types.specs.declared.key.Key.{Key}
use Rattle.farm_types.specs.declared.moment.Moment.{Moment}
use Rattle.weight_exact.specs.declared.run.Verdict.{Verdict}
use Rattle.farm_entry.specs.Decision.{add_at, add_opening, asked_before, cancel_decision, closed_decision, decide, fate_of, full_decision, keyed_decision, known_decision, lease_decision, moment_used, or_else, own_decision, page_decision, refuse_opening, repeat_or_clash, report_decision, revert_decision, runs_decision, shape_decision, skip_decision, skip_fate_of}
use Rattle.farm_entry.specs.History.{opening_numbered, place_of_key, place_of_report, report_in, skip_in}
use Rattle.farm_entry.specs.Standing.{is_active, standing}
use Rattle.farm_entry.specs.declared.command.Command.{Command}
use Rattle.farm_entry.specs.declared.command.Command.TheVariants as command
use Rattle.farm_entry.specs.declared.decision.Decision.{Decision}
use Rattle.farm_entry.specs.declared.decision.Decision.TheVariants.{New, Refuse, Repeat, Show}
use Rattle.farm_entry.specs.declared.entry.Entry.{Entry}
use Rattle.farm_entry.specs.declared.entry.What.TheVariants.{Cancelled}
use Rattle.farm_entry.specs.declared.lease.DueRun.{DueRun}
use Rattle.farm_entry.specs.declared.lease.LeasedRun.{LeasedRun}
use Rattle.farm_entry.specs.declared.lease.ReportedRun.{ReportedRun}
use Rattle.farm_entry.specs.declared.lease.SkippedRun.{SkippedRun}
use Rattle.farm_entry.specs.declared.opening.Opening.{Opening}
use Rattle.farm_entry.specs.declared.refusal.OpenFault.{OpenFault}
use Rattle.farm_entry.specs.declared.refusal.Refusal.TheVariants.{Closed, Full, KeyClash, SearchEnded, TooManySearches}
use Rattle.leaf_laws.specs.Workers.{lease_in_answer}
use Rattle.leaf_laws.specs.World.{replied}

-- what is shown is no lease, and what is added reports nothing but what the command reports
abbrev pub IsPlain : Command → Decision → Type 0
IsPlain q (Show r) = lease_in_answer (replied r) ≡ None
IsPlain q (New e) =
    ((r : ReportedRun) → report_in e.what ≡ Some r → q ≡ command.Report r.run r.verdict)
    × ((s : SkippedRun) → skip_in e.what ≡ Some s → q ≡ command.Skip s.run)
IsPlain q _ = Unit {0}

abbrev IsPlainIn : Command → Option Decision → Type 0
IsPlainIn q None = Unit {0}
IsPlainIn q (Some d) = IsPlain q d

either-plain : (q : Command) (b : Bool) (x y : Decision) → IsPlain q x → IsPlain q y → IsPlain q (if b then x else y)
either-plain q true x y first second = first
either-plain q false x y first second = second

opening-plain : (q : Command) (m : Moment) (made : Result Opening OpenFault) → IsPlain q (add_opening m made)
opening-plain q m (Ok o) = (λ r is. absurd (none-some r is), λ s is. absurd (none-some s is))
opening-plain q m (Err f) = tt

lease-plain : (q : Command) (H : List Entry) (key : Key) (worker : List ℕ) (m : Moment) (due : Option DueRun) →
    IsPlain q (lease_decision H key worker m due)
lease-plain q H key worker m None = tt
lease-plain q H key worker m (Some d) = (λ r is. absurd (none-some r is), λ s is. absurd (none-some s is))

report-plain : (H : List Entry) (run : ℕ) (verdict : Verdict) (m : Moment) (l : Option LeasedRun) →
    IsPlain (command.Report run verdict) (report_decision H run verdict m l)
report-plain H run verdict m None = tt
report-plain H run verdict m (Some l) = (
  λ r is.
      let fate = fate_of H l verdict (opening_numbered H l.search) in
      let same : record { run = run; verdict = verdict; fate = fate } ≡ r = cc in
      ap (λ (x : ReportedRun). command.Report x.run x.verdict) same,
  λ s is. absurd (none-some s is),
)

skip-plain : (H : List Entry) (run : ℕ) (m : Moment) (l : Option LeasedRun) →
    IsPlain (command.Skip run) (skip_decision H run m l)
skip-plain H run m None = tt
skip-plain H run m (Some l) = (
  λ r is. absurd (none-some r is),
  λ s is.
      let fate = skip_fate_of H l (opening_numbered H l.search) in
      let same : record { run = run; fate = fate } ≡ s = cc in ap (λ (x : SkippedRun). command.Skip x.run) same,
)

cancel-plain : (q : Command) (H : List Entry) (key : Key) (search : ℕ) (m : Moment) (o : Option Opening) →
    IsPlain q (cancel_decision H key search m o)
cancel-plain q H key search m None = tt
cancel-plain q H key search m (Some o) =
    either-plain q (is_active (standing H o)) (add_at m (Cancelled key search)) (Refuse (SearchEnded (standing H o)))
    (λ r is. absurd (none-some r is), λ s is. absurd (none-some s is)) tt

revert-plain : (q : Command) (key : Key) (agent : List ℕ) (m : Moment) (next : Result Draft NoOrder) →
    IsPlain q (revert_decision key agent m next)
revert-plain q key agent m (Ok d) = (λ r is. absurd (none-some r is), λ s is. absurd (none-some s is))
revert-plain q key agent m (Err none.NoRevert) = tt
revert-plain q key agent m (Err (none.DailyLimit day count)) = tt

page-plain : (q : Command) (H : List Entry) (search : ℕ) (o : Option Opening) → IsPlain q (page_decision H search o)
page-plain q H search None = tt
page-plain q H search (Some o) = refl

runs-plain : (q : Command) (H : List Entry) (search from : ℕ) (o : Option Opening) →
    IsPlain q (runs_decision H search from o)
runs-plain q H search from None = tt
runs-plain q H search from (Some o) = refl

own-plain : (H : List Entry) (q : Command) (m : Moment) → IsPlain q (own_decision H q m)
own-plain H (command.Open ask) m =
    either-plain (command.Open ask) _ (Refuse TooManySearches) (add_opening m _) tt (opening-plain (command.Open ask) m _)
own-plain H (command.Lease key worker) m = lease-plain _ H key worker m _
own-plain H (command.Report run verdict) m = report-plain H run verdict m _
own-plain H (command.Skip run) m = skip-plain H run m _
own-plain H (command.Cancel key search) m = cancel-plain _ H key search m _
own-plain H (command.TakeRevert key agent) m = revert-plain _ key agent m _
own-plain H (command.ShowSearch search) m = page-plain _ H search _
own-plain H command.ShowFarm m = refl
own-plain H command.ShowOrders m = refl
own-plain H (command.ShowRuns search from) m = runs-plain _ H search from _
own-plain H (command.ShowSearches from) m = refl

refused-plain : (q : Command) (made : Result Opening OpenFault) → IsPlainIn q (refuse_opening made)
refused-plain q (Ok o) = tt
refused-plain q (Err f) = tt

shape-plain : (q : Command) → IsPlainIn q (shape_decision q)
shape-plain (command.Open ask) = refused-plain (command.Open ask) _
shape-plain (command.Lease key worker) = tt
shape-plain (command.Report run verdict) = tt
shape-plain (command.Skip run) = tt
shape-plain (command.Cancel key search) = tt
shape-plain (command.TakeRevert key agent) = tt
shape-plain (command.ShowSearch search) = tt
shape-plain command.ShowFarm = tt
shape-plain command.ShowOrders = tt
shape-plain (command.ShowRuns search from) = tt
shape-plain (command.ShowSearches from) = tt

placed-plain : (q : Command) (f : ℕ → Decision) → ((place : ℕ) → IsPlain q (f place)) → (o : Option ℕ) →
    IsPlainIn q (option_map f o)
placed-plain q f plain None = tt
placed-plain q f plain (Some place) = plain place

keyed-plain : (H : List Entry) (q : Command) (key : Option Key) → IsPlainIn q (keyed_decision H q key)
keyed-plain H q None = tt
keyed-plain H q (Some key) =
    placed-plain q (repeat_or_clash H q)
    (λ place. either-plain q (asked_before (slice_get H place) q) (Repeat place) (Refuse (KeyClash place)) tt tt)
    (place_of_key H key)

known-plain : (H : List Entry) (q : Command) → IsPlainIn q (known_decision H q)
known-plain H (command.Open ask) = keyed-plain H (command.Open ask) (Some ask.key)
known-plain H (command.Lease key worker) = keyed-plain H (command.Lease key worker) (Some key)
known-plain H (command.Report run verdict) =
    placed-plain (command.Report run verdict) Repeat (λ place. tt) (place_of_report H run)
known-plain H (command.Skip run) = placed-plain (command.Skip run) Repeat (λ place. tt) (place_of_report H run)
known-plain H (command.Cancel key search) = keyed-plain H (command.Cancel key search) (Some key)
known-plain H (command.TakeRevert key agent) = keyed-plain H (command.TakeRevert key agent) (Some key)
known-plain H (command.ShowSearch search) = keyed-plain H (command.ShowSearch search) None
known-plain H command.ShowFarm = keyed-plain H command.ShowFarm None
known-plain H command.ShowOrders = keyed-plain H command.ShowOrders None
known-plain H (command.ShowRuns search from) = keyed-plain H (command.ShowRuns search from) None
known-plain H (command.ShowSearches from) = keyed-plain H (command.ShowSearches from) None

maybe-plain : (q : Command) (b : Bool) (d : Decision) → IsPlain q d → IsPlainIn q (if b then Some d else None)
maybe-plain q true d plain = plain
maybe-plain q false d plain = tt

-- a history that takes no more adds nothing, whether it is full or closed
full-plain : (q : Command) (b : Bool) (o : Option Decision) → IsPlainIn q o →
    IsPlainIn q (if b then Some (Refuse Full) else o)
full-plain q true o plain = tt
full-plain q false o plain = plain

first-plain : (q : Command) (o : Option Decision) (d : Decision) → IsPlainIn q o → IsPlain q d → IsPlain q (or_else o d)
first-plain q None d first second = second
first-plain q (Some e) d first second = first

pub decide-plain : (H : List Entry) (q : Command) (m : Moment) → IsPlain q (decide H q m)
decide-plain H q m =
    first-plain q (shape_decision q) _ (shape-plain q)
    (first-plain q (known_decision H q) _ (known-plain H q)
    (first-plain q (full_decision H q) _
    (full-plain q _ (closed_decision H q) (maybe-plain q _ (Refuse Closed) tt)) (own-plain H q (moment_used H m))))
