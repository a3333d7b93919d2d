use Rattle.std.proofs.Common.{◌≡◌, ◌≢◌, false, refl, sym}
use Rattle.std.proofs.lemmas.Bool.{false_from_ne_true}
use Rattle.farm_types.specs.CommitId.{same_id}
use Rattle.farm_types.specs.declared.commit_id.CommitId.{CommitId}
use Rattle.farm_types.proofs.SameValues.{same_id-Decides}
use Rattle.farm_rules.proofs.laws.worked_numbers.Goals as goal

other_id : (c d : CommitId) → c ≢ d → same_id d c ≡ false
other_id c d differ = false_from_ne_true _ (λ same. differ (sym ((same_id-Decides d c).0 same)))

pub returns-clause-a_day_is_full : goal.returns-clause-a_day_is_full
returns-clause-a_day_is_full _ c d differ = rw (other_id c d differ) refl

pub returns-clause-another_day_is_free : goal.returns-clause-another_day_is_free
returns-clause-another_day_is_free _ c d differ = rw (other_id c d differ) refl

pub returns-clause-a_carried_order_has_no_number : goal.returns-clause-a_carried_order_has_no_number
returns-clause-a_carried_order_has_no_number _ c d differ = rw (other_id c d differ) refl

pub returns-clause-a_carried_order_fills_its_day : goal.returns-clause-a_carried_order_fills_its_day
returns-clause-a_carried_order_fills_its_day _ c d differ = rw (other_id c d differ) refl
