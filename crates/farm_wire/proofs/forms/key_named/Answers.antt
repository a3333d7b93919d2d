use Rattle.std.proofs.Common.{◌≡◌, ℕ, List, Option, Some, None, refl}
use Rattle.std.proofs.lemmas.Bool.{false≢true}
use Rattle.uuid.specs.Text.{parsed}
use Rattle.farm_wire.proofs.forms.key_named.Goals as goal

-- what is parsed, where nothing can be
none_parsed : (o : Option (List ℕ)) → ((u : List ℕ) × (o ≡ Some u) → ⊥) → o ≡ None
none_parsed None never = refl
none_parsed (Some u) never = absurd (never (u, refl))

pub returns-in-Err : goal.returns-in-Err
returns-in-Err c =
    let nothing : parsed c.args.text.now ≡ None = none_parsed _ (λ found. false≢true (c.in-Err.ensures.ok.1 found)) in
    rw nothing refl
