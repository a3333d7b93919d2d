use Rattle.std.proofs.Common.{ℕ, ◌≤◌, All, sym, subst}
use Rattle.weight_exact.specs.declared.limits.TheConstants.{MAX_SUSPECTS}
use Rattle.plain_farm.proofs.Skipped.{skipped-low}
use Rattle.plain_farm.proofs.rows.stand.Goals as goal

pub skips_of-skips-requires : goal.skips_of-skips-requires
skips_of-skips-requires c =
    subst (All (λ (p : ℕ). p ≤ MAX_SUSPECTS)) (sym c.requires.skipped)
    (skipped-low c.args.history.now c.args.opening.now c.requires.legal c.requires.opened)
