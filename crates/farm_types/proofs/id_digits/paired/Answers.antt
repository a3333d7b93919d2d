use Rattle.std.proofs.Common.{[], refl, arith, ◌∙◌}
use Rattle.std.proofs.lemmas.List.{length-set}
use Rattle.hex.proofs.Pairs.{decode_start, decode_step, decode_done, decode_sized-pairs}
use Rattle.farm_types.proofs.IdDigits.{pair_of-values}
use Rattle.farm_types.proofs.id_digits.paired.Goals as goal

pub bytes-init : goal.bytes-init
bytes-init c = (refl, decode_start _ [])

pub bytes-preserved : goal.bytes-preserved
bytes-preserved c = (
  length-set _ _ _ ∙ c.bytes.invariant.0,
  decode_step c.args.text.now c.bytes.bytes c.bytes.i _ (omega (arith, c.requires.len)) (omega arith)
      (pair_of-values c.args.text.now c.args.values.now 40 c.bytes.i c.requires.values (omega arith))
      c.bytes.invariant.1,
)

pub returns : goal.returns
returns c =
    decode_sized-pairs c.args.text.now 20 (omega (arith, c.requires.len)) (omega (arith, c.requires.len))
    ∙ decode_done c.args.text.now c.bytes.bytes c.bytes.i (omega arith) (omega (arith, c.requires.len)) c.bytes.invariant.1
