use Rattle.std.proofs.Common.{◌<◌, ◌++◌, [], ℕ, List, Option, length, take, ap, ◌∙◌, sym, arith}
use Rattle.std.proofs.lemmas.List.{take_all}
use Rattle.std.specs.List.{cons_option}
use Rattle.farm_entry.specs.History.{all_leases}
use Rattle.farm_entry.specs.declared.entry.Entry.{Entry}
use Rattle.farm_entry.specs.declared.lease.LeasedRun.{LeasedRun}
use Rattle.farm_drill.specs.Reported.{unmarked}
use Rattle.farm_drill.proofs.Marks.{unmarked-more}
use Rattle.farm_drill.proofs.reporting.unmarked.Goals as goal

pub loop-entry-preserved : goal.loop-entry-preserved
loop-entry-preserved c =
    let H : List Entry = c.args.history.now in
    let i : ℕ = c.loop-entry.entry-index in
    let below : i < length H = omega arith in
    c.in_ok-push_unmarked.ensures
    ∙ ap (λ (ls : List LeasedRun). ls ++ unmarked c.args.marks.now (cons_option c.lease.result []))
    c.loop-entry.invariant
    ∙ ap (λ (o : Option LeasedRun). unmarked c.args.marks.now (all_leases (take i H)) ++ unmarked c.args.marks.now
    (cons_option o []))
    c.lease.ensures
    ∙ sym (unmarked-more H i c.entry-item.result c.args.marks.now below c.entry-item.is)

pub returns : goal.returns
returns c =
    c.loop-entry.invariant
    ∙ ap (λ (G : List Entry). unmarked c.args.marks.now (all_leases G))
    (take_all c.loop-entry.entry-index c.args.history.now (omega arith))
