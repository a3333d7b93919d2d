-- Shares of the total weight: weights that are the same part of their totals have one share.
use Rattle.std.proofs.Common.{◌≡◌, ℕ, ◌*◌, ◌≤◌, sym, ◌∙◌, ap₂, mul_comm}
use Rattle.weight_exact.specs.Share.{share}
use Rattle.weight_exact.proofs.Shares.{share-mul_right}

-- weights that are the same part of their totals have one share
pub share-scaled : (v whole w other : ℕ) → 1 ≤ whole → 1 ≤ other → v * other ≡ w * whole →
    share v whole ≡ share w other
share-scaled v whole w other some_whole some_other same =
    sym (share-mul_right other v whole some_other) ∙
    (ap₂ share same (mul_comm whole other) ∙ share-mul_right whole w other some_whole)
