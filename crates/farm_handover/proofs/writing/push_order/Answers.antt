use Rattle.std.proofs.Common.{List, ℕ, subst, sym}
use Rattle.std.specs.Str.{IsUtf8}
use Rattle.farm_types.specs.CommitId.{id_bytes}
use Rattle.farm_wire.proofs.Quoted.{IsUtf8-encode_lower}
use Rattle.farm_handover.proofs.writing.push_order.Goals as goal

pub unreachable-requires : goal.unreachable-requires
unreachable-requires c =
    c.in_default.ensures.cases.0
    (subst (λ (text : List ℕ). IsUtf8 text) (sym c.digits.ensures) (IsUtf8-encode_lower (id_bytes c.args.order.commit)))
