-- How a list of entries grows into a legal history, or stops being one.
use Rattle.std.proofs.Common.{◌≡◌, ◌≢◌, ℕ, ◌+◌, ◌<◌, Bool, IsTrue, Decides, List, [], ◌∷◌, ◌++◌, length, get_or, take, drop, Option, Some, inr, sym, ap, subst, ◌∙◌, arith, length-append}
use Rattle.std.specs.Prelude.{◌↔◌}
use Rattle.std.proofs.lemmas.List.{take-append-drop}
use Rattle.farm_entry.specs.Decision.{decide}
use Rattle.farm_entry.specs.Legal.{IsAddedBy, IsLegal, IsNext}
use Rattle.farm_entry.specs.declared.decision.Decision.TheVariants.{New}
use Rattle.farm_entry.specs.declared.command.Command.{Command}
use Rattle.farm_entry.specs.declared.entry.Entry.{Entry}
use Rattle.farm_laws.proofs.Induct.{IsLegal-first, IsLegal-push, IsLegal-pushed}
use Rattle.plain_farm.specs.Stops.{StopsAt}
use Rattle.plain_history.proofs.Items.{take-at}

-- an entry may come next exactly where it is the one that its command adds

same_entry : (a b : Entry) → New a ≡ New b → a ≡ b
same_entry a b h = cc

pub added-tells : (H : List Entry) (e made : Entry) (q : Command) (b : Bool) → decide H q e.at ≡ New made → Decides b (made ≡ e) →
    IsTrue b ↔ IsAddedBy H e (Some q)
added-tells H e made q b answered decides =
    (λ same. answered ∙ ap New (decides.0 same), λ next. decides.1 (same_entry made e (sym answered ∙ next)))

pub next-tells : (H : List Entry) (e made : Entry) (q : Command) (o : Option Command) (b : Bool) → o ≡ Some q →
    decide H q e.at ≡ New made → Decides b (made ≡ e) → IsTrue b ↔ IsAddedBy H e o
next-tells H e made q o b asked answered decides =
    subst (λ (p : Option Command). IsTrue b ↔ IsAddedBy H e p) (sym asked) (added-tells H e made q b answered decides)

-- a list with one more at its end isn't empty
pushed-some : {X : Type 0} (xs : List X) (x : X) → xs ++ x ∷ [] ≢ []
pushed-some xs x h = let none : length (xs ++ x ∷ []) ≡ 0 = ap length h in absurd (omega (arith, length-append xs (x ∷ []), none))

-- each beginning of a legal history with an entry is legal
pub beginning : (H : List Entry) (i : ℕ) (e : Entry) → i < length H → e ≡ get_or H i e → IsLegal H → IsLegal (take (i + 1) H)
beginning H i e below is legal =
    let some : take (i + 1) H ≢ [] = λ h. pushed-some (take i H) e (sym (take-at H i e below is) ∙ h) in
    IsLegal-first (take (i + 1) H) (drop (i + 1) H) some (subst IsLegal (sym (take-append-drop (i + 1) H)) legal)

-- a list stays legal with an entry that may come next
pub stays_legal : (list : List Entry) (i : ℕ) (e : Entry) → i < length list → e ≡ get_or list i e → IsLegal (take i list) →
    IsNext (take i list) e → IsLegal (take (i + 1) list)
stays_legal list i e below is legal next = subst IsLegal (sym (take-at list i e below is)) (IsLegal-push (take i list) e legal next)

-- and stops being so with one that may not
pub stops : (list : List Entry) (i : ℕ) (e : Entry) → i < length list → e ≡ get_or list i e → IsLegal (take i list) →
    (IsNext (take i list) e → ⊥) → StopsAt list i × (IsLegal list → ⊥)
stops list i e below is legal other =
    let here : IsLegal (take (i + 1) list) → ⊥ =
    λ longer. other (IsLegal-pushed (take i list) e legal (subst IsLegal (take-at list i e below is) longer)) in
    (record { before = inr legal; here = here }, λ whole. here (beginning list i e below is whole))
