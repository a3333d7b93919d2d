use Rattle.std.proofs.Common.{◌≡◌, ◌∙◌, List, ℕ, subst, sym}
use Rattle.std.specs.Str.{IsUtf8}
use Rattle.json.specs.Print.{escape}
use Rattle.farm_types.specs.CommitId.{id_bytes, id_digits}
use Rattle.farm_wire.proofs.Quoted.{IsUtf8-encode_lower, escape-encode_lower}
use Rattle.farm_wire.proofs.text.JsonText.put_commit.Goals as goal

pub unreachable-requires : goal.unreachable-requires
unreachable-requires c =
    c.in_default.ensures.cases.0
    (subst (λ (text : List ℕ). IsUtf8 text) (sym c.digits.ensures) (IsUtf8-encode_lower (id_bytes c.args.commit.now)))

pub put_plain-requires : goal.put_plain-requires
put_plain-requires c =
    let same : c.in-Ok.digits.now ≡ id_digits c.args.commit.now = c.in-Ok.ensures.cases.0 ∙ c.digits.ensures in
    subst (λ (text : List ℕ). escape text ≡ text) (sym same)
    (escape-encode_lower (id_bytes c.args.commit.now) c.args.commit.now.fits)
