use Rattle.std.proofs.Common.{sym, ◌∙◌}
use Rattle.suspect_range.proofs.Repeats.{is_repeat-not_base}
use Rattle.suspect_range.proofs.range.is_repeat.Goals as goal

pub returns-else-eq : goal.returns-else-eq
returns-else-eq c =
    let suspect = c.index-suspects-index.result in
    c.is_among.ensures ∙ sym (is_repeat-not_base _ _ c.args.index suspect c.requires (sym c.if-eq.ensures))
