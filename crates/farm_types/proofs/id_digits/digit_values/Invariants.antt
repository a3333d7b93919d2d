use Rattle.std.proofs.Common.{◌≡◌, length}
use Rattle.std.specs.Prelude.{IsTrue}
use Rattle.farm_types.specs.IdDigits.{AreValues}
use Rattle.farm_types.proofs.id_digits.digit_values.Given as goal

abbrev pub invariant-digits : goal.invariant-digits
invariant-digits l = (length l.values ≡ 40) × (IsTrue l.are_digits → AreValues l.text l.values l.i)
