use Rattle.std.proofs.Common.{◌<◌, ◌+◌, ℕ, List, length, arith}
use Rattle.farm_entry.specs.declared.entry.Entry.{Entry}
use Rattle.farm_drill.proofs.Marks.{runs-end, runs-more, runs-start}
use Rattle.farm_drill.proofs.reporting.marks_of.Goals as goal

pub loop-entry-init : goal.loop-entry-init
loop-entry-init c =
    runs-start c.args.history.now (length c.args.history.now + 1) c.in_ok-marks.marks.items c.in_ok-marks.ensures

pub loop-entry-preserved : goal.loop-entry-preserved
loop-entry-preserved c =
    let H : List Entry = c.args.history.now in
    let i : ℕ = c.loop-entry.entry-index in
    let below : i < length H = omega arith in
    runs-more H i c.entry-item.result c.loop-entry.marks.items c.mark.new.marks.items below c.entry-item.is
    c.loop-entry.invariant c.mark.ensures

pub returns : goal.returns
returns c =
    runs-end c.args.history.now c.loop-entry.entry-index c.loop-entry.marks.items (omega arith) c.loop-entry.invariant
