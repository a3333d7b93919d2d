-- The row of a search after a report of one of its runs whose tree can't be tested.
use Rattle.std.proofs.Common.{◌≡◌, ℕ, ◌==◌, not, List, [], ◌++◌, filter, Contains, Option, sym, ap, subst, ◌∙◌}
use Rattle.std.specs.List.{cons_option}
use Rattle.farm_types.specs.declared.stage.Stage.TheVariants.{Search, Verify}
use Rattle.threshold_pick.specs.Open.{open_plan}
use Rattle.weight_exact.specs.declared.run.Run.{Run}
use Rattle.farm_entry.specs.History.{counted, lease_in, openings, reruns, runs, skipped, was_cancelled, went_over}
use Rattle.farm_entry.specs.Setup.{setup_of}
use Rattle.farm_entry.specs.Standing.{standing}
use Rattle.farm_entry.specs.declared.entry.Entry.{Entry}
use Rattle.farm_entry.specs.declared.lease.LeasedRun.{LeasedRun}
use Rattle.farm_entry.specs.declared.lease.SkippedRun.{SkippedRun}
use Rattle.farm_entry.specs.declared.opening.Opening.{Opening}
use Rattle.farm_entry.specs.declared.standing.Standing.TheVariants.{Searching}
use Rattle.farm_laws.proofs.EntryParts.{skip-no_report, skip-told}
use Rattle.farm_laws.proofs.Opened.{opened-stays}
use Rattle.plain_farm.specs.Rows.{IsOut, IsRow, IsSkipOf, closed_position}
use Rattle.plain_farm.specs.declared.rows.Row.{Row}
use Rattle.plain_farm.proofs.About.{skip-alone}
use Rattle.plain_farm.proofs.Taking.{cancelled-told, counted-skipped, none-leased, over-skipped, skipped-more}
use Rattle.plain_farm.proofs.Waiting.{out-reported}

module _ (longer : List Entry) (o : Opening) (row : Row) (l : LeasedRun) (r : SkippedRun)
    (t : IsSkipOf longer o row l r) where
  pub skip-opened : Contains (openings longer) o
  skip-opened =
      subst (λ (H : List Entry). Contains (openings H) o) (sym t.whole) (opened-stays t.before t.last o t.opened)

  pub skip-runs : (xs : List Run) → xs ≡ row.runs.items → xs ≡ runs longer o.search
  skip-runs xs same =
      same ∙ t.kept.told.told
      ∙ sym (ap (λ (H : List Entry). counted H o.search Search) t.whole
      ∙ counted-skipped t.before t.last o.search Search t.legal_before (skip-no_report t.last.what r t.reported))

  pub skip-reruns : (xs : List Run) → xs ≡ row.reruns.items → xs ≡ reruns longer o.search
  skip-reruns xs same =
      same ∙ t.kept.told.again
      ∙ sym (ap (λ (H : List Entry). counted H o.search Verify) t.whole
      ∙ counted-skipped t.before t.last o.search Verify t.legal_before (skip-no_report t.last.what r t.reported))

  pub skip-positions : (ks old : List ℕ) (one : Option ℕ) → ks ≡ old ++ cons_option one [] → old ≡ row.skipped.items →
      one ≡ closed_position l r → ks ≡ skipped longer o.search
  skip-positions ks old one grown was is =
      grown
      ∙ ap (λ (xs : List ℕ). xs ++ cons_option one []) (was ∙ t.kept.told.skips)
      ∙ ap (λ (x : Option ℕ). skipped t.before o.search ++ cons_option x []) is
      ∙ sym (ap (λ (H : List Entry). skipped H o.search) t.whole
      ∙ skipped-more t.before t.last o r l t.legal_before t.reported t.leased t.of_search)

  pub skip-cancelled : was_cancelled longer o.search ≡ row.cancelled
  skip-cancelled =
      ap (λ (H : List Entry). was_cancelled H o.search) t.whole
      ∙ cancelled-told t.before t.last o.search (skip-alone t.last.what r t.reported).cancelled
      ∙ sym t.kept.told.cancelled

  pub skip-over : went_over longer o.search ≡ row.over
  skip-over =
      ap (λ (H : List Entry). went_over H o.search) t.whole
      ∙ over-skipped t.before t.last o.search t.legal_before (skip-no_report t.last.what r t.reported)
      ∙ sym t.kept.told.over

  pub skip-row : (new : Row) → new.runs.items ≡ runs longer o.search → new.reruns.items ≡ reruns longer o.search →
      new.skipped.items ≡ skipped longer o.search → new.cancelled ≡ row.cancelled → new.over ≡ row.over →
      new.standing ≡ standing longer o →
      (standing longer o ≡ Searching → new.plan.items ≡ open_plan (setup_of o) (runs longer o.search)
      (skipped longer o.search) o.width) →
      new.unreported.items ≡ filter (λ (x : LeasedRun). not (r.run == x.run)) row.unreported.items →
      new.last_lease ≡ row.last_lease → IsRow longer o new
  skip-row new runs_are again_are skips_are cancelled over stands planned left last = record {
    told = record {
      told = runs_are;
      again = again_are;
      skips = skips_are;
      cancelled = cancelled ∙ sym skip-cancelled;
      over = over ∙ sym skip-over;
      stands = stands;
      planned = planned;
    };
    out = subst (λ (H : List Entry). IsOut H o.search new) (sym t.whole)
        (out-reported t.before t.last o.search r.run row new (skip-told t.last.what r t.reported)
        (none-leased (lease_in t.last.what) o.search (skip-alone t.last.what r t.reported).lease)
        t.kept.out left last);
  }
