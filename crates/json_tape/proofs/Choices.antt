-- Options that are some, taken apart.
use Rattle.std.proofs.Common.{◌≡◌, true, Option, Some, None, is_some, option_and_then, option_map, refl, sym}
use Rattle.std.proofs.lemmas.Bool.{false≢true}
use Rattle.json.proofs.Found.{not_found, Some_inj}

pub some_of : {A : Type 0} (o : Option A) → is_some o ≡ true → (a : A) × (o ≡ Some a)
some_of None e = absurd (false≢true e)
some_of (Some a) e = (a, refl)

pub mapped_some : {A B : Type 0} (f : A → B) (o : Option A) (b : B) → option_map f o ≡ Some b
    → (a : A) × (o ≡ Some a) × (b ≡ f a)
mapped_some f None b e = not_found b e
mapped_some f (Some a) b e = (a, refl, sym (Some_inj _ _ e))

pub and_then_some : {A B : Type 0} (f : A → Option B) (o : Option A) (b : B) → option_and_then f o ≡ Some b
    → (a : A) × (o ≡ Some a) × (f a ≡ Some b)
and_then_some f None b e = not_found b e
and_then_some f (Some a) b e = (a, refl, e)
