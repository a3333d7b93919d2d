use Rattle.std.proofs.Common.{ℕ, List, [], ◌++◌, Option, sym, ap, ◌∙◌}
use Rattle.std.specs.List.{cons_option, filter_map, range_with_len}
use Rattle.threshold_pick.specs.Open.{open_pick}
use Rattle.farm_entry.specs.History.{runs}
use Rattle.farm_entry.specs.Setup.{setup_of}
use Rattle.plain_farm.proofs.Plans.{plan-more}
use Rattle.plain_farm.proofs.due_run.plan_of.Goals as goal

pub loop-before-preserved : goal.loop-before-preserved
loop-before-preserved c =
    let o = c.args.opening.now in
    let pick : ℕ → Option ℕ = open_pick (setup_of o) (runs c.args.history.now o.search) c.args.skips.now o.width in
    let before = c.loop-before.before in
    c.in_ok-push_some.ensures.added
    ∙ ap (λ (xs : List ℕ). xs ++ cons_option c.pick_of-position.result []) c.loop-before.invariant
    ∙ ap (λ (x : Option ℕ). filter_map pick (range_with_len 1 before) ++ cons_option x []) c.pick_of-position.ensures
    ∙ sym (plan-more pick before)
