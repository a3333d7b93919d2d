-- Two boards that are the one that was picked.
use Rattle.std.proofs.Common.{◌≡◌, Option, Some, None, IsSome, sym, ◌∙◌}
use Rattle.atomic_table.specs.Seated.{TableId}
use Rattle.shared_farm.specs.Posted.{IsPicked}

-- two tables that are the one that was picked are one
pub picked-same : (picked : Option TableId) (x y : TableId) → IsSome picked → IsPicked picked x → IsPicked picked y
    → x ≡ y
picked-same None x y some a b = absurd cc
picked-same (Some one) x y some a b = a ∙ sym b
