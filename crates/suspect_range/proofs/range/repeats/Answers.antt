use Rattle.std.proofs.Common.{◌∙◌, sym}
use Rattle.suspect_range.proofs.Marked.{unmarked-not_repeat}
use Rattle.suspect_range.proofs.range.repeats.Goals as goal

pub returns-else-has : goal.returns-else-has
returns-else-has c =
    let suspect = c.index-suspects-index.result in
    sym (unmarked-not_repeat c.args.base c.args.suspects.now c.args.below.now.words c.args.index suspect c.requires.within
    c.requires.marked (sym c.has.ensures ∙ c.if-has.false))
