use Rattle.std.proofs.Common.{◌∙◌, sym}
use Rattle.suspect_range.proofs.Marked.{marked-kept, marked-more}
use Rattle.suspect_range.proofs.Repeats.{find-next}
use Rattle.suspect_range.specs.Faults.{is_repeat}
use Rattle.suspect_range.proofs.range.first_repeat.Goals as goal

pub returns-then-repeats : goal.returns-then-repeats
returns-then-repeats c =
    let left = find-next (is_repeat c.args.base c.args.suspects.now) c.loop-index.index _ c.loop-index-test.true in
    sym (c.loop-index.invariant.0 ∙ (rw (sym c.repeats.ensures ∙ c.if-repeats.true) at left))

pub loop-index-preserved : goal.loop-index-preserved
loop-index-preserved c =
    let left = find-next (is_repeat c.args.base c.args.suspects.now) c.loop-index.index _ c.loop-index-test.true in
    let suspect = c.index-suspects-index.result in (
      c.loop-index.invariant.0 ∙ (rw (sym c.repeats.ensures ∙ c.if-repeats.false) at left),
      marked-more c.args.base c.args.suspects.now c.put-in-loop-index.new.self.words c.loop-index.index suspect c.loop-index-test.true
          (marked-kept c.loop-index.below.words c.put-in-loop-index.new.self.words _ c.put-in-loop-index.ensures.kept
          c.loop-index.invariant.1)
          c.put-in-loop-index.ensures.put,
    )
