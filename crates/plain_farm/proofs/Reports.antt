-- The row of a search after a report of one of its runs.
use Rattle.std.proofs.Common.{◌≡◌, ℕ, ◌==◌, Bool, ◌||◌, not, List, [], ◌++◌, filter, Contains, Option, sym, ap, subst, ◌∙◌}
use Rattle.std.specs.List.{cons_option}
use Rattle.farm_types.specs.declared.stage.Stage.TheVariants.{Search, Verify}
use Rattle.threshold_pick.specs.Open.{open_plan}
use Rattle.weight_exact.specs.declared.run.Run.{Run}
use Rattle.farm_entry.specs.History.{counted, is_over, lease_in, openings, reruns, runs, skipped, was_cancelled, went_over}
use Rattle.farm_entry.specs.Setup.{setup_of}
use Rattle.farm_entry.specs.Standing.{standing}
use Rattle.farm_entry.specs.declared.entry.Entry.{Entry}
use Rattle.farm_entry.specs.declared.lease.LeasedRun.{LeasedRun}
use Rattle.farm_entry.specs.declared.lease.ReportedRun.{ReportedRun}
use Rattle.farm_entry.specs.declared.opening.Opening.{Opening}
use Rattle.farm_entry.specs.declared.standing.Standing.TheVariants.{Searching}
use Rattle.farm_laws.proofs.EntryParts.{report-no_skip, report-told}
use Rattle.farm_laws.proofs.Opened.{opened-stays}
use Rattle.plain_farm.specs.Rows.{IsOut, IsRow, IsToldOf, told_run}
use Rattle.plain_farm.specs.declared.rows.Row.{Row}
use Rattle.plain_farm.proofs.About.{report-alone}
use Rattle.plain_farm.proofs.Taking.{cancelled-told, counted-told, none-leased, over-told, skipped-told}
use Rattle.plain_farm.proofs.Waiting.{out-reported}

module _ (longer : List Entry) (o : Opening) (row : Row) (l : LeasedRun) (r : ReportedRun)
    (t : IsToldOf longer o row l r) where
  pub still-opened : Contains (openings longer) o
  still-opened =
      subst (λ (H : List Entry). Contains (openings H) o) (sym t.whole) (opened-stays t.before t.last o t.opened)

  pub told-runs : (xs old : List Run) (one : Option Run) → xs ≡ old ++ cons_option one [] → old ≡ row.runs.items →
      one ≡ told_run Search l r → xs ≡ runs longer o.search
  told-runs xs old one grown was is =
      grown
      ∙ ap (λ (ys : List Run). ys ++ cons_option one []) (was ∙ t.kept.told.told)
      ∙ ap (λ (x : Option Run). runs t.before o.search ++ cons_option x []) is
      ∙ sym (ap (λ (H : List Entry). counted H o.search Search) t.whole
      ∙ counted-told t.before t.last o r l Search t.legal_before t.reported t.leased t.of_search)

  pub told-reruns : (xs old : List Run) (one : Option Run) → xs ≡ old ++ cons_option one [] → old ≡ row.reruns.items →
      one ≡ told_run Verify l r → xs ≡ reruns longer o.search
  told-reruns xs old one grown was is =
      grown
      ∙ ap (λ (ys : List Run). ys ++ cons_option one []) (was ∙ t.kept.told.again)
      ∙ ap (λ (x : Option Run). reruns t.before o.search ++ cons_option x []) is
      ∙ sym (ap (λ (H : List Entry). counted H o.search Verify) t.whole
      ∙ counted-told t.before t.last o r l Verify t.legal_before t.reported t.leased t.of_search)

  pub told-skipped : (ks : List ℕ) → ks ≡ row.skipped.items → ks ≡ skipped longer o.search
  told-skipped ks same =
      same ∙ t.kept.told.skips
      ∙ sym (ap (λ (H : List Entry). skipped H o.search) t.whole
      ∙ skipped-told t.before t.last o.search t.legal_before (report-no_skip t.last.what r t.reported))

  pub told-cancelled : was_cancelled longer o.search ≡ row.cancelled
  told-cancelled =
      ap (λ (H : List Entry). was_cancelled H o.search) t.whole
      ∙ cancelled-told t.before t.last o.search (report-alone t.last.what r t.reported).cancelled
      ∙ sym t.kept.told.cancelled

  pub told-over : went_over longer o.search ≡ (row.over || is_over r.fate)
  told-over =
      ap (λ (H : List Entry). went_over H o.search) t.whole
      ∙ over-told t.before t.last o.search r l t.legal_before t.reported t.leased t.of_search
      ∙ ap (λ (b : Bool). b || is_over r.fate) (sym t.kept.told.over)

  pub told-row : (new : Row) → new.runs.items ≡ runs longer o.search → new.reruns.items ≡ reruns longer o.search →
      new.skipped.items ≡ skipped longer o.search → new.cancelled ≡ row.cancelled →
      new.over ≡ (row.over || is_over r.fate) → new.standing ≡ standing longer o →
      (standing longer o ≡ Searching → new.plan.items ≡ open_plan (setup_of o) (runs longer o.search)
      (skipped longer o.search) o.width) →
      new.unreported.items ≡ filter (λ (x : LeasedRun). not (r.run == x.run)) row.unreported.items →
      new.last_lease ≡ row.last_lease → IsRow longer o new
  told-row new runs_are again_are skips_are cancelled over stands planned left last = record {
    told = record {
      told = runs_are;
      again = again_are;
      skips = skips_are;
      cancelled = cancelled ∙ sym told-cancelled;
      over = over ∙ sym told-over;
      stands = stands;
      planned = planned;
    };
    out = subst (λ (H : List Entry). IsOut H o.search new) (sym t.whole)
        (out-reported t.before t.last o.search r.run row new (report-told t.last.what r t.reported)
        (none-leased (lease_in t.last.what) o.search (report-alone t.last.what r t.reported).lease)
        t.kept.out left last);
  }
