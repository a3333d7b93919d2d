-- What `ok()` says of a result.
use Rattle.std.proofs.Common.{◌≡◌, Some, None, Result, Ok, Err, IsOk, IfOk, refl, subst}
use Rattle.std.specs.Result.{result_ok}

-- where it gives nothing, there was no value
pub no_value : {A E : Type 0} (r : Result A E) → None ≡ result_ok r → ¬ (IsOk r)
no_value (Ok x) e is_ok = cc
no_value (Err x) e is_ok = cc

-- where it gives a value, that was the value
pub was_ok : {A E : Type 0} (r : Result A E) (x : A) → Some x ≡ result_ok r → IsOk r
was_ok (Ok y) x e = refl
was_ok (Err y) x e = cc

pub value_of_ok : {A E : Type 0} (P : A → Type 0) (r : Result A E) (x : A) → Some x ≡ result_ok r → IfOk r P → P x
value_of_ok P (Ok y) x e h = let same : y ≡ x = cc in subst P same h
value_of_ok P (Err y) x e h = absurd cc
