use Rattle.std.proofs.Common.{ℕ, List, sym, ap, subst, ◌∙◌}
use Rattle.flake_rate.specs.Bar.{bar_denominator, bar_numerator}
use Rattle.threshold_pick.specs.Blocks.{CanHalve, is_hidden_in}
use Rattle.farm_laws.proofs.Beliefs.{can_halve, hidden-told}
use Rattle.plain_farm.proofs.standings.hidden.Goals as goal

pub is_hidden-requires : goal.is_hidden-requires
is_hidden-requires c =
    let b = c.requires in
    subst CanHalve (sym c.sums.ensures)
    (can_halve c.args.history.now c.args.opening.now c.args.belief.now b.legal b.opened b.setup b.runs)

pub returns : goal.returns
returns c =
    let b = c.requires in
    let o = c.args.opening.now in
    c.is_hidden.ensures
    ∙ ap (λ (sums : List ℕ). is_hidden_in (bar_numerator o.bar) (bar_denominator o.bar) sums c.args.skips.now)
    c.sums.ensures
    ∙ hidden-told c.args.history.now o c.args.belief.now c.args.skips.now b.legal b.opened b.setup b.runs
