use Rattle.std.proofs.Common.{◌∙◌, ◌<◌, arith}
use Rattle.std.proofs.lemmas.Bool.{and_parts, ltb-true}
use Rattle.std.proofs.lemmas.List.{length-set}
use Rattle.farm_types.proofs.IdDigits.{AreValues-more}
use Rattle.farm_types.proofs.id_digits.digit_values.Goals as goal

pub digits-init : goal.digits-init
digits-init c = (c.told-values, λ _ k within. absurd (omega (arith, within)))

pub digits-preserved : goal.digits-preserved
digits-preserved c = (
  length-set _ _ _ ∙ c.digits.invariant.0,
  λ all.
      let both = and_parts _ _ all in
      let value = c.digit_value-value in
      let small : value.result < 16 = ltb-true _ 16 both.1 in
      AreValues-more c.args.text.now c.digits.values c.digits.i value.result (omega (arith, c.digits.invariant.0))
      value.ensures small (c.digits.invariant.1 both.0),
)

pub returns : goal.returns
returns c all k within = c.digits.invariant.1 all k (omega (arith, within))
