use Rattle.std.proofs.Common.{◌≡◌, ◌<◌, Bool, true, List, MatchBool, length, get_or, subst, ap, ◌∙◌, arith}
use Rattle.farm_entry.specs.History.{all_leases, is_reported}
use Rattle.farm_types.specs.declared.stage.Stage.TheVariants.{Search}
use Rattle.farm_entry.specs.declared.entry.Entry.{Entry}
use Rattle.farm_entry.specs.declared.lease.LeasedRun.{LeasedRun}
use Rattle.farm_drill.specs.Ends.{IsFull}
use Rattle.farm_drill.specs.Reported.{AreRunsMarked, unmarked}
use Rattle.farm_drill.proofs.Growing.{prefix-trans}
use Rattle.farm_drill.proofs.Missing.{missing-done, missing-leased, missing-more}
use Rattle.farm_drill.proofs.reporting.report_missing.Goals as goal

-- what stands for a lease past the end of a list
abbrev none_leased : LeasedRun
none_leased = record { run = 0; search = 0; stage = Search; position = 0; deadline = 0 }

pub report-requires-clause-lease : goal.report-requires-clause-lease
report-requires-clause-lease c =
    let H : List Entry = c.args.store.now.history in
    let items : List LeasedRun = c.deref-lease-items.result.now in
    let are : items ≡ unmarked c.in_ok-marks.marks.items (all_leases H) =
    c.deref-lease-items.ensures.value ∙ c.in_ok-missing.ensures
    ∙ ap (λ (ms : List Bool). unmarked ms (all_leases c.history-2.result.now)) c.deref.ensures.value
    ∙ ap (λ (G : List Entry). unmarked c.in_ok-marks.marks.items (all_leases G)) c.history-2.ensures.value in
    let below : c.loop-lease.lease-index < length items = c.loop-lease-test.true in
    missing-leased H c.loop-lease.store.history c.in_ok-marks.marks.items items c.loop-lease.lease-index none_leased are
    c.loop-lease.invariant.leases below

pub loop-lease-preserved : goal.loop-lease-preserved
loop-lease-preserved c =
    let G : List Entry = c.loop-lease.store.history in
    let new : List Entry = c.report.new.store.history in
    let items : List LeasedRun = c.deref-lease-items.result.now in
    let below : c.loop-lease.lease-index < length items = c.loop-lease-test.true in
    let lease : LeasedRun = get_or items c.loop-lease.lease-index none_leased in
    let now : is_reported new lease.run ≡ true =
    subst (λ (b : Bool). MatchBool b (is_reported new lease.run ≡ true) (IsFull new)) c.if-not-branch.false
    c.in_ok-report.ensures.reported in
    record {
      decided = c.in_ok-report.ensures.decided;
      legal = c.report.ensures.legal;
      by_commands = c.in_ok-report.ensures.by_commands;
      planned = c.in_ok-report.ensures.planned c.loop-lease.invariant.planned;
      longer = prefix-trans c.args.store.now.history G new c.loop-lease.invariant.longer c.report.ensures.longer;
      leases = c.in_ok-report.ensures.leases ∙ c.loop-lease.invariant.leases;
      keys = λ key none. c.in_ok-report.ensures.keys key (c.loop-lease.invariant.keys key none);
      reported = missing-more G new items c.loop-lease.lease-index none_leased below c.report.ensures.longer
          c.loop-lease.invariant.reported now;
    }

pub returns-clause-reported : goal.returns-clause-reported
returns-clause-reported c =
    let H : List Entry = c.args.store.now.history in
    let items : List LeasedRun = c.deref-lease-items.result.now in
    let are : items ≡ unmarked c.in_ok-marks.marks.items (all_leases H) =
    c.deref-lease-items.ensures.value ∙ c.in_ok-missing.ensures
    ∙ ap (λ (ms : List Bool). unmarked ms (all_leases c.history-2.result.now)) c.deref.ensures.value
    ∙ ap (λ (G : List Entry). unmarked c.in_ok-marks.marks.items (all_leases G)) c.history-2.ensures.value in
    let marked = subst (λ (G : List Entry). AreRunsMarked G c.in_ok-marks.marks.items) c.history.ensures.value
    c.in_ok-marks.ensures in
    missing-done H c.loop-lease.store.history c.in_ok-marks.marks.items items c.loop-lease.lease-index marked are
    c.loop-lease.invariant.longer c.loop-lease.invariant.leases (omega arith) c.loop-lease.invariant.reported

pub returns-then-not-branch-clause-planned : goal.returns-then-not-branch-clause-planned
returns-then-not-branch-clause-planned c = c.in_ok-report.ensures.planned c.loop-lease.invariant.planned
