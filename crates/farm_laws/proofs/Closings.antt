-- A closing is the last entry of its history.
use Rattle.std.proofs.Common.{◌≡◌, ◌≢◌, ℕ, ◌+◌, ◌<◌, Bool, false, ◌||◌, List, [], ◌∷◌, ◌++◌, length, get_or, take, sym, ap, subst, ◌∙◌, arith}
use Rattle.std.proofs.Math.Bool.{or-false}
use Rattle.std.proofs.lemmas.Bool.{or_parts}
use Rattle.std.proofs.lemmas.List.{take_all, take_more}
use Rattle.std.proofs.lemmas.List.Folds.{list_any-append}
use Rattle.farm_entry.specs.History.{is_closed, is_closing}
use Rattle.farm_entry.specs.Legal.{IsLegal, IsNext}
use Rattle.farm_entry.specs.declared.entry.Entry.{Entry}
use Rattle.farm_laws.proofs.Induct.{IsLegal-first, IsLegal-pushed}
use Rattle.farm_laws.proofs.Lists.{nil-cons}
use Rattle.farm_laws.proofs.Stepped.{stepped}

-- a history is closed after appending an entry where it was, or where that closes it
pub is_closed-grow : (H : List Entry) (e : Entry) → is_closed (H ++ e ∷ []) ≡ (is_closed H || is_closing e.what)
is_closed-grow H e =
    list_any-append (λ (x : Entry). is_closing x.what) H (e ∷ [])
    ∙ ap (λ (b : Bool). is_closed H || b) (or-false (is_closing e.what))

-- what isn't closed has no closing, neither behind nor before its last entry
pub is_closed-parts : (H : List Entry) (e : Entry) → is_closed (H ++ e ∷ []) ≡ false →
    (is_closed H ≡ false) × (is_closing e.what ≡ false)
is_closed-parts H e h = or_parts (is_closed H) (is_closing e.what) (sym (is_closed-grow H e) ∙ h)

-- nothing comes next where a farm is closed
pub unclosed-next : (H : List Entry) (e : Entry) → IsNext H e → is_closed H ≡ false
unclosed-next H e next = (stepped H e next).unclosed

pub unclosed-before : (H : List Entry) (e : Entry) → IsLegal (H ++ e ∷ []) → H ≢ [] → is_closed H ≡ false
unclosed-before H e legal some =
    unclosed-next H e (IsLegal-pushed H e (IsLegal-first H (e ∷ []) some legal) legal)

-- so the last entry tells whether it is
pub is_closed-last : (H : List Entry) (e : Entry) → IsLegal (H ++ e ∷ []) → is_closed (H ++ e ∷ []) ≡ is_closing e.what
is_closed-last [] e legal = or-false (is_closing e.what)
is_closed-last (f ∷ H) e legal =
    is_closed-grow (f ∷ H) e
    ∙ ap (λ (b : Bool). b || is_closing e.what) (unclosed-before (f ∷ H) e legal (λ same. nil-cons f H same))

-- the same of the entry at the last place
pub is_closed-at : (H : List Entry) (place : ℕ) (d : Entry) → IsLegal H → place + 1 ≡ length H →
    is_closed H ≡ is_closing (get_or H place d).what
is_closed-at H place d legal last =
    let below : place < length H = omega arith in
    let split : take place H ++ get_or H place d ∷ [] ≡ H =
    sym (take_more H place d below) ∙ take_all (place + 1) H (omega arith) in
    subst (λ (G : List Entry). is_closed G ≡ is_closing (get_or H place d).what) split
    (is_closed-last (take place H) (get_or H place d) (subst IsLegal (sym split) legal))
