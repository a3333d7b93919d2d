use Rattle.std.proofs.Common.{◌≡◌, ◌<◌, ℕ, false, List, length, replicate, ap, ◌∙◌, arith}
use Rattle.std.proofs.lemmas.List.{length-replicate}
use Rattle.farm_entry.specs.declared.entry.Entry.{Entry}
use Rattle.farm_drill.proofs.Marks.{keys-end, keys-more, keys-start}
use Rattle.farm_drill.proofs.keys.Keys.of.Goals as goal

pub loop-entry-init : goal.loop-entry-init
loop-entry-init c =
    let H : List Entry = c.args.history.now in
    let is : c.in_ok-used.used.items ≡ replicate (length H) false =
    c.in_ok-used.ensures in
    record {
      all = ap length is ∙ length-replicate (length H) false;
      marked = keys-start H (length H) c.in_ok-used.used.items is;
    }

pub loop-entry-preserved : goal.loop-entry-preserved
loop-entry-preserved c =
    let H : List Entry = c.args.history.now in
    let i : ℕ = c.loop-entry.entry-index in
    let below : i < length H = omega arith in
    record {
      all = omega (arith, c.mark.ensures.length, c.loop-entry.invariant.all);
      marked = keys-more H i c.entry-item.result c.loop-entry.used.items c.mark.new.used.items below c.entry-item.is
          c.loop-entry.invariant.marked c.mark.ensures.length c.mark.ensures.marks;
    }

pub returns-clause-marked : goal.returns-clause-marked
returns-clause-marked c =
    keys-end c.args.history.now c.loop-entry.entry-index c.loop-entry.used.items
    (omega arith) c.loop-entry.invariant.marked
