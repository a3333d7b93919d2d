use Rattle.std.proofs.Common.{sym, ap, ◌∙◌}
use Rattle.plain_farm.specs.declared.rows.Row.{Row}
use Rattle.plain_farm.proofs.kept.standing_by.Goals as goal

pub returns-in-Some : goal.returns-in-Some
returns-in-Some c =
    let at = c.in-Some.ensures.found in
    let told =
    c.requires.rows.told c.args.opening.now c.in-Some.place c.index-rows-place.result c.requires.opened at.0 at.1
    c.index-rows-place.is in
    ap (λ (r : Row). r.standing) (sym c.index-rows-place.is) ∙ told.stands
