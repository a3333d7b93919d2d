use Rattle.std.proofs.Common.{sym, ap, ◌∙◌}
use Rattle.plain_farm.specs.declared.rows.Row.{Row}
use Rattle.plain_farm.proofs.kept.runs_by.Goals as goal

pub returns-in_ok-from_slice-in-Some : goal.returns-in_ok-from_slice-in-Some
returns-in_ok-from_slice-in-Some c =
    let at = c.in-Some.ensures.found in
    let told =
    c.requires.rows.told c.args.opening.now c.in-Some.place c.index-rows-place.result c.requires.opened at.0 at.1
    c.index-rows-place.is in
    c.in_ok-from_slice-in-Some.ensures.items ∙ c.deref.ensures.value
    ∙ ap (λ (r : Row). r.runs.items) (sym c.index-rows-place.is) ∙ told.told
