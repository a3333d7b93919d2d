use Rattle.std.proofs.Common.{◌≡◌, ℕ, List, sym, ◌∙◌, subst, arith}
use Rattle.std.specs.Str.{IsUtf8}
use Rattle.farm_wire.specs.Pieces.{behind_commas}
use Rattle.farm_wire.proofs.CommaTexts.{IsUtf8-behind_commas}
use Rattle.farm_wire.proofs.text.JsonText.put_chunk.Goals as goal

pub unreachable-requires : goal.unreachable-requires
unreachable-requires c =
    let numbers = c.args.numbers.now in
    let same : c.split_at.result.1.now ≡ behind_commas numbers =
    c.split_at.ensures.back ∙ c.write_behind_commas-start.ensures.written in
    c.in_default.ensures.cases.0
    (subst (λ (text : List ℕ). IsUtf8 text) (sym same)
    (IsUtf8-behind_commas numbers (λ i. omega (arith, c.type_inv.numbers i))))
