-- The lists of runs that counts stand for, as the code leaves them.
use Rattle.std.proofs.Common.{◌≡◌, ℕ, ◌+◌, ◌-◌, ◌<◌, ◌≤◌, not, if◌then◌else◌, List, [], ◌∷◌, ◌++◌, set, ◌⊎◌, sym, subst, refl, ◌∙◌, arith, true, false}
use Rattle.std.proofs.lemmas.List.Elements.{All-nil}
use Rattle.weight_exact.specs.Weights.{hypotheses}
use Rattle.weight_exact.specs.Load.{is_fail, floor, may_miss, last_pass}
use Rattle.weight_exact.specs.declared.factors.Factors.{Factors}
use Rattle.weight_exact.specs.declared.run.Run.{Run}
use Rattle.weight_exact.specs.declared.run.Verdict.TheVariants.{Pass, Fail}
use Rattle.posterior.specs.Kept.{Kept, at}
use Rattle.posterior.specs.StandsFor.{StandsFor}
use Rattle.posterior.specs.BeliefFacts.{IsKept}
use Rattle.posterior.proofs.Stands.{Matches, matches, stands}
use Rattle.posterior.proofs.Remade.{kept}
use Rattle.posterior.proofs.Noting.{matches_raised, matches_counted, matches_below}

-- without runs the floor is 0
floor_nil : (f : Factors) → floor f [] ≡ 0
floor_nil f = elim (may_miss f) as (λ b. (if b then 0 else last_pass []) ≡ 0) [ true ↦ refl | false ↦ refl ]

-- counts of nothing match no runs
pub stands_empty : (k : Kept) → IsKept k → k.floor ≡ 0 → ((p : ℕ) → 1 ≤ p → p < hypotheses k.setup → at k.fails p ≡ 0) → ((p : ℕ) → 1 ≤ p → p < hypotheses k.setup → at k.passes p ≡ 0) → StandsFor k []
stands_empty k is low fails passes =
    stands k [] is (record {
      in_range = All-nil (λ (r : Run). (1 ≤ r.position) × (r.position < hypotheses k.setup));
      floor_is = low ∙ sym (floor_nil k.setup.factors);
      fails_are = λ p above last. fails p (omega arith) last;
      passes_are = λ p above last. passes p (omega arith) last;
    })

-- a pass that raises the floor
pub stands_raised : (k : Kept) (runs : List Run) (position floor' load' : ℕ) (fails' passes' sums' : List ℕ) → StandsFor k runs → k.setup.factors.pass_in ≡ 0 → k.floor < position → position < hypotheses k.setup
    → floor' ≡ position → ((p : ℕ) → position < p → at fails' p ≡ at k.fails p) → ((p : ℕ) → position < p → at passes' p ≡ at k.passes p)
    → IsKept (kept k.setup floor' load' fails' passes' sums') → StandsFor (kept k.setup floor' load' fails' passes' sums') (runs ++ record { position = position; verdict = Pass } ∷ [])
stands_raised k runs position floor' load' fails' passes' sums' s never above high raised fails_same passes_same is =
    let r : Run = record { position = position; verdict = Pass } in
    let m : Matches (kept k.setup position load' fails' passes' sums') (runs ++ r ∷ []) = matches_raised k runs r load' fails' passes' sums' never refl above high fails_same passes_same (matches k runs s) in
    let P : ℕ → Type 0 = λ f. Matches (kept k.setup f load' fails' passes' sums') (runs ++ r ∷ []) in
    stands (kept k.setup floor' load' fails' passes' sums') (runs ++ r ∷ []) is (subst P (sym raised) m)

-- a run that is counted at its position
pub stands_counted : (k : Kept) (runs : List Run) (r : Run) (floor' load' : ℕ) (fails' passes' sums' : List ℕ) → IsKept k → StandsFor k runs → (1 ≤ k.setup.factors.pass_in) ⊎ (r.verdict ≡ Fail) → k.floor < r.position → r.position < hypotheses k.setup
    → floor' ≡ k.floor
    → fails' ≡ (if is_fail r.verdict then set k.fails (r.position - 1) (at k.fails r.position + 1) else k.fails)
    → passes' ≡ (if not (is_fail r.verdict) then set k.passes (r.position - 1) (at k.passes r.position + 1) else k.passes)
    → IsKept (kept k.setup floor' load' fails' passes' sums') → StandsFor (kept k.setup floor' load' fails' passes' sums') (runs ++ r ∷ [])
stands_counted k runs r floor' load' fails' passes' sums' before s live above high same fails_are passes_are is =
    let m = matches_counted k runs r load' sums' live above high before.as_many_fails before.as_many_passes (matches k runs s) in
    let F : List ℕ → Type 0 = λ fs. Matches (kept k.setup k.floor load' fs (if not (is_fail r.verdict) then set k.passes (r.position - 1) (at k.passes r.position + 1) else k.passes) sums') (runs ++ r ∷ []) in
    let P : List ℕ → Type 0 = λ ps. Matches (kept k.setup k.floor load' fails' ps sums') (runs ++ r ∷ []) in
    let L : ℕ → Type 0 = λ f. Matches (kept k.setup f load' fails' passes' sums') (runs ++ r ∷ []) in
    stands (kept k.setup floor' load' fails' passes' sums') (runs ++ r ∷ []) is (subst L (sym same) (subst P (sym passes_are) (subst F (sym fails_are) m)))

-- a run at or below the floor
pub stands_below : (k : Kept) (runs : List Run) (r : Run) → IsKept k → StandsFor k runs → k.setup.factors.pass_in ≡ 0 → 1 ≤ r.position → r.position < hypotheses k.setup → r.position ≤ k.floor → StandsFor k (runs ++ r ∷ [])
stands_below k runs r is s never low high below = stands k (runs ++ r ∷ []) is (matches_below k runs r never low high below (matches k runs s))
