use Rattle.std.proofs.Common.{ℕ, ◌≤◌, All, sym, subst, ◌∙◌}
use Rattle.weight_exact.specs.declared.limits.TheConstants.{MAX_SUSPECTS}
use Rattle.plain_farm.proofs.Skipped.{skipped-low}
use Rattle.plain_farm.proofs.standings.skips.Goals as goal

pub skips_of-requires : goal.skips_of-requires
skips_of-requires c =
    subst (All (λ (p : ℕ). p ≤ MAX_SUSPECTS)) (sym (c.deref.ensures.value ∙ c.in_ok-positions.ensures))
    (skipped-low c.args.history.now c.args.opening.now c.requires.legal c.requires.opened)
