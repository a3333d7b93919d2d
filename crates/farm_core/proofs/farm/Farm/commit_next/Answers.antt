use Rattle.std.proofs.Common.{◌≤◌, ◌+◌, ◌++◌, length, take, drop, sym, ap, ◌∙◌, arith}
use Rattle.std.proofs.Math.Seq.{take-add}
use Rattle.farm_entry.specs.declared.limits.TheConstants.{MAX_ENTRIES}
use Rattle.farm_laws.proofs.Bounds.{entries-bounded}
use Rattle.farm_core.specs.FarmView.{FarmView}
use Rattle.farm_core.proofs.Fronts.{drop-after}
use Rattle.farm_core.proofs.farm.Farm.commit_next.Goals as goal

pub overflow_add-self : goal.overflow_add-self
overflow_add-self c =
    let within = c.self.invariant.within in
    let few : length c.self.inside.kept ≤ MAX_ENTRIES + 1 = entries-bounded c.self.inside.kept c.self.invariant.legal in
    omega arith

pub returns-clause-history : goal.returns-clause-history
returns-clause-history c =
    take-add c.self.inside.committed 1 c.self.inside.kept
    ∙ ap (λ (f : FarmView). f.history ++ take 1 f.ready) c.self.view_is

pub returns-clause-ready : goal.returns-clause-ready
returns-clause-ready c =
    sym (drop-after c.self.inside.kept c.self.inside.committed 1)
    ∙ ap (λ (f : FarmView). drop 1 f.ready) c.self.view_is
