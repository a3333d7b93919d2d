use Rattle.std.proofs.Common.{◌≡◌, ℕ, List, IfOk, sym, ap, subst, ◌∙◌}
use Rattle.farm_types.specs.Moment.{moment_ms}
use Rattle.plain_farm.specs.Rows.{unreported}
use Rattle.plain_farm.specs.declared.rows.Row.{Row}
use Rattle.plain_farm.proofs.Waiting.{open-kept}
use Rattle.plain_farm.proofs.kept.open_positions_by.Goals as goal

pub returns-in-Some : goal.returns-in-Some
returns-in-Some c =
    let H = c.args.history.now in
    let at = c.in-Some.ensures.found in
    let out = c.requires.out c.in-Some.place c.index-rows-place.result at.1 c.index-rows-place.is in
    let are = c.deref.ensures.value ∙ ap (λ (r : Row). r.unreported.items) (sym c.index-rows-place.is) ∙ out.waiting ∙ ap (unreported H) at.0 in
    subst (λ (xs : List ℕ). IfOk c.positions_at.result (λ found. found.items ≡ xs))
    (open-kept H c.args.search c.args.stage (moment_ms c.args.moment) c.deref.result.now are) c.positions_at.ensures
