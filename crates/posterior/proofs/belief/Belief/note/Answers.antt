use Rattle.std.proofs.Common.{◌≡◌, ◌+◌, ◌<◌, ◌≤◌, [], ◌∷◌, ◌++◌, arith, refl, ap, ◌∙◌, subst, ⊎_elim}
use Rattle.std.proofs.lemmas.Bool.{cases_lt}
use Rattle.weight_exact.specs.Load.{load}
use Rattle.weight_exact.specs.Budget.{run_budget}
use Rattle.weight_exact.specs.declared.run.Run.{Run}
use Rattle.posterior.specs.Kept.{Kept}
use Rattle.posterior.specs.BeliefFacts.{IsKept}
use Rattle.posterior.proofs.Noting.{load_push_below, load_push_above}
use Rattle.posterior.proofs.Matching.{stands_below}
use Rattle.posterior.proofs.belief.Belief.note.Goals as goal

-- a floor above 0 shows that a broken test never passes
never_missed : (k : Kept) → IsKept k → 1 ≤ k.floor → k.setup.factors.pass_in ≡ 0
never_missed k is low =
    ⊎_elim
    (λ (none : k.setup.factors.pass_in < 1). omega arith)
    (λ (may : 1 ≤ k.setup.factors.pass_in). absurd (omega (arith, is.floor_if_missed may)))
    (cases_lt k.setup.factors.pass_in 1)

pub returns-then-position-self-clause-over : goal.returns-then-position-self-clause-over
returns-then-position-self-clause-over g c runs stands =
    let k = c.args.self.now in
    let is : IsKept k = subst (λ (k : Kept). IsKept k) c.self.view_is c.self.invariant.kept in
    let floor_is : c.self.inside.tallies.floor ≡ k.floor = ap (λ (k : Kept). k.floor) c.self.view_is in
    let below : c.args.position ≤ k.floor = omega (arith, c.if-position-self.true) in
    let never : k.setup.factors.pass_in ≡ 0 = never_missed k is (omega (arith, c.requires.first)) in
    let r : Run = record { position = c.args.position; verdict = c.args.verdict } in
    let same : load k.setup.factors (runs ++ r ∷ []) ≡ load k.setup.factors runs = load_push_below k.setup.factors runs r never (omega (arith, stands.floor_is)) in
    ((λ e. absurd (cc e)), (λ over. absurd (omega (arith, over, same, stands.load_is, stands.within))))

pub returns-then-position-self-clause-counted : goal.returns-then-position-self-clause-counted
returns-then-position-self-clause-counted g c runs stands counted =
    let k = c.args.self.now in
    let is : IsKept k = subst (λ (k : Kept). IsKept k) c.self.view_is c.self.invariant.kept in
    let floor_is : c.self.inside.tallies.floor ≡ k.floor = ap (λ (k : Kept). k.floor) c.self.view_is in
    let below : c.args.position ≤ k.floor = omega (arith, c.if-position-self.true) in
    let never : k.setup.factors.pass_in ≡ 0 = never_missed k is (omega (arith, c.requires.first)) in
    stands_below k runs (record { position = c.args.position; verdict = c.args.verdict }) is stands never c.requires.first c.requires.last below

pub returns-then-load-self-clause-over : goal.returns-then-load-self-clause-over
returns-then-load-self-clause-over g c runs stands =
    let k = c.args.self.now in
    let floor_is : c.self.inside.tallies.floor ≡ k.floor = ap (λ (k : Kept). k.floor) c.self.view_is in
    let budget_is : c.self.inside.budget ≡ run_budget k.setup = c.self.invariant.budget_is ∙ ap (λ (k : Kept). run_budget k.setup) c.self.view_is in
    let r : Run = record { position = c.args.position; verdict = c.args.verdict } in
    let more : load k.setup.factors (runs ++ r ∷ []) ≡ load k.setup.factors runs + 1 = load_push_above k.setup.factors runs r c.if-clears.ensures.leaves (omega (arith, stands.floor_is, c.if-position-self.false)) in
    let full : c.load.result ≡ c.self.inside.budget = c.if-load-self.true in
    ((λ _. omega (arith, more, stands.load_is, c.load.ensures)), (λ _. refl))
