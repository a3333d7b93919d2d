use Rattle.std.proofs.Common.{◌≡◌, ◌<◌, ℕ, Bool, true, false, not, List, length, replicate, refl, sym, ap, ◌∙◌, arith}
use Rattle.std.specs.List.{list_any}
use Rattle.std.proofs.lemmas.Bool.{and_parts, not-true}
use Rattle.std.proofs.lemmas.List.{length-replicate}
use mathlib.Core.Bool.{beq}
use Rattle.farm_entry.specs.declared.entry.Entry.{Entry}
use Rattle.farm_drill.proofs.Marks.{keys-end, keys-more, keys-start}
use Rattle.farm_drill.proofs.Out.{out-begin, out-more, out-none}
use Rattle.farm_drill.proofs.look.look_through.Goals as goal

pub loop-entry-init : goal.loop-entry-init
loop-entry-init c =
    let H : List Entry = c.args.history.now in
    let is : c.in_ok-used.used.items ≡ replicate (length H) false = c.in_ok-used.ensures in
    record {
      all = ap length is ∙ length-replicate (length H) false;
      marked = keys-start H (length H) c.in_ok-used.used.items is;
      out = λ fits. out-begin H c.in_ok-out.out.items;
    }

pub loop-entry-preserved : goal.loop-entry-preserved
loop-entry-preserved c =
    let H : List Entry = c.args.history.now in
    let i : ℕ = c.loop-entry.entry-index in
    let below : i < length H = omega arith in
    record {
      all = omega (arith, c.mark.ensures.length, c.loop-entry.invariant.all);
      marked = keys-more H i c.entry-item.result c.loop-entry.used.items c.mark.new.used.items below c.entry-item.is
          c.loop-entry.invariant.marked c.mark.ensures.length c.mark.ensures.marks;
      out = λ fits. out-more H i c.entry-item.result c.loop-entry.out.items c.note_run-fits.new.out.items c.loop-entry.fits
          c.note_run-fits.result below c.entry-item.is c.loop-entry.invariant.out c.note_run-fits.ensures fits;
    }

pub returns-clause-marked : goal.returns-clause-marked
returns-clause-marked c =
    keys-end c.args.history.now c.loop-entry.entry-index c.loop-entry.used.items
    (omega arith) c.loop-entry.invariant.marked

pub returns-clause-reported : goal.returns-clause-reported
returns-clause-reported c is =
    let parts = and_parts c.loop-entry.fits (not c.contains.result) is in
    let none = ap (λ (bs : List Bool). list_any (λ y. beq y true) bs) (sym c.deref.ensures.value)
    ∙ (sym c.contains.ensures.value ∙ not-true c.contains.result parts.1) in
    out-none c.args.history.now c.loop-entry.entry-index (λ y. beq y true) c.loop-entry.out.items refl (omega arith) none
    (c.loop-entry.invariant.out parts.0)
