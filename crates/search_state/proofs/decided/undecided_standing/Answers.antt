use Rattle.std.proofs.Common.{◌≡◌, ℕ, List, true, false, sym, ap, subst, ◌∙◌}
use Rattle.flake_rate.specs.Bar.{bar_denominator, bar_numerator}
use Rattle.threshold_pick.specs.Blocks.{CanHalve, is_hidden_in}
use Rattle.search_state.proofs.Deciding.{believed-can_halve, block-standing, nothing-hidden}
use Rattle.search_state.proofs.decided.undecided_standing.Goals as goal

pub is_hidden-requires : goal.is_hidden-requires
is_hidden-requires c =
    let r = c.requires in
    subst (λ (xs : List ℕ). CanHalve xs) (sym c.sums.ensures)
    (believed-can_halve r.0 r.1 c.args.belief.now c.args.bar r.2 r.3)

pub returns-then-is_empty : goal.returns-then-is_empty
returns-then-is_empty c = λ o told suspects believed none.
    nothing-hidden o told c.args.belief.now c.args.bar suspects c.args.skips.now believed none
    (c.is_empty.ensures.0 c.if-is_empty.true)

pub returns-then-is_hidden : goal.returns-then-is_hidden
returns-then-is_hidden c = λ o told suspects believed none.
    let t = bar_numerator c.args.bar in
    let u = bar_denominator c.args.bar in
    let is : is_hidden_in t u c.args.belief.now.sums c.args.skips.now ≡ true =
    ap (λ (xs : List ℕ). is_hidden_in t u xs c.args.skips.now) (sym c.sums.ensures)
    ∙ sym c.is_hidden.ensures
    ∙ c.if-is_hidden.true in
    block-standing o told c.args.belief.now c.args.bar suspects c.args.skips.now true believed is

pub returns-else-is_hidden : goal.returns-else-is_hidden
returns-else-is_hidden c = λ o told suspects believed none.
    let t = bar_numerator c.args.bar in
    let u = bar_denominator c.args.bar in
    let is : is_hidden_in t u c.args.belief.now.sums c.args.skips.now ≡ false =
    ap (λ (xs : List ℕ). is_hidden_in t u xs c.args.skips.now) (sym c.sums.ensures)
    ∙ sym c.is_hidden.ensures
    ∙ c.if-is_hidden.false in
    block-standing o told c.args.belief.now c.args.bar suspects c.args.skips.now false believed is
