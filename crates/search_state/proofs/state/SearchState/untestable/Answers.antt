use Rattle.std.proofs.Common.{ℕ, ap, ◌∙◌}
use Rattle.std.specs.List.{filter, range_with_len}
use Rattle.threshold_pick.specs.Open.{is_skipped}
use Rattle.search_state.specs.SearchView.{untestable_in}
use Rattle.search_state.proofs.Deciding.{few-suspects}
use Rattle.search_state.proofs.state.SearchState.untestable.Goals as goal

pub positions-requires : goal.positions-requires
positions-requires c =
    let set_up = c.self.invariant.set_up in
    record { few = few-suspects c.self.inside.opening.value c.self.inside.suspects set_up.within set_up.suspects_are }

pub returns : goal.returns
returns c =
    c.of.ensures
    ∙ c.in_ok-positions.ensures
    ∙ ap (λ (n : ℕ). filter (is_skipped c.self.inside.skips) (range_with_len 0 n)) c.self.invariant.set_up.suspects_are
    ∙ ap untestable_in c.self.view_is
