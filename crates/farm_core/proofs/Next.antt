-- An entry may come next exactly where it is the one that its command adds, or needs none and may stand there.
use Rattle.std.proofs.Common.{◌≡◌, Bool, IsTrue, Decides, List, Option, Some, None, refl, sym, ap, subst, ◌∙◌}
use Rattle.std.specs.Prelude.{◌↔◌}
use Rattle.farm_entry.specs.Decision.{decide}
use Rattle.farm_entry.specs.Legal.{IsAddedBy, IsUnasked}
use Rattle.farm_entry.specs.declared.command.Command.{Command}
use Rattle.farm_entry.specs.declared.decision.Decision.TheVariants.{New}
use Rattle.farm_entry.specs.declared.entry.Entry.{Entry}

same_entry : (a b : Entry) → New a ≡ New b → a ≡ b
same_entry a b h = cc

added-tells : (H : List Entry) (e made : Entry) (q : Command) (same : Bool) → decide H q e.at ≡ New made →
    Decides same (made ≡ e) → IsTrue same ↔ IsAddedBy H e (Some q)
added-tells H e made q same decided tells =
    (λ is. decided ∙ ap New (tells.0 is), λ next. tells.1 (same_entry made e (sym decided ∙ next)))

pub next-tells : (H : List Entry) (e made : Entry) (q : Command) (o : Option Command) (same : Bool) → o ≡ Some q →
    decide H q e.at ≡ New made → Decides same (made ≡ e) → IsTrue same ↔ IsAddedBy H e o
next-tells H e made q o same asked decided tells =
    subst (λ (p : Option Command). IsTrue same ↔ IsAddedBy H e p) (sym asked)
    (added-tells H e made q same decided tells)

-- where it names no command
pub not-some : (o : Option Command) → ((q : Command) → o ≡ Some q → ⊥) → o ≡ None
not-some None none = refl
not-some (Some q) none = absurd (none q refl)

pub unasked-tells : (H : List Entry) (e : Entry) (o : Option Command) (free : Bool) → o ≡ None →
    (IsTrue free ↔ IsUnasked H e.at e.what) → IsTrue free ↔ IsAddedBy H e o
unasked-tells H e o free none tells =
    subst (λ (p : Option Command). IsTrue free ↔ IsAddedBy H e p) (sym none) tells
