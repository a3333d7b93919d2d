use Rattle.std.proofs.Common.{◌==◌, Bool, ◌&&◌, refl, sym, ap, ◌∙◌}
use Rattle.weight_exact.specs.Budget.{run_budget}
use Rattle.search_state.proofs.Reclosed.{kept-passes}
use Rattle.search_state.proofs.state.SearchState.passes_budget.Goals as goal

pub returns-then-adds_load : goal.returns-then-adds_load
returns-then-adds_load c =
    ap (λ (t : Bool). t && (c.load.result == c.budget.result)) (sym (sym c.adds_load.ensures ∙ c.if-adds_load.true))
    ∙ sym (kept-passes c.self.inside c.args.self.now c.args.run c.load.result c.budget.result c.self.invariant
    c.self.view_is c.load.ensures c.budget.ensures)

pub returns-else-adds_load : goal.returns-else-adds_load
returns-else-adds_load c =
    let belief = c.self.inside.belief in
    c.if-adds_load.false
    ∙ ap (λ (t : Bool). t && (belief.load == run_budget belief.setup)) (sym (sym c.adds_load.ensures ∙ c.if-adds_load.false))
    ∙ sym (kept-passes c.self.inside c.args.self.now c.args.run belief.load (run_budget belief.setup) c.self.invariant
    c.self.view_is refl refl)
