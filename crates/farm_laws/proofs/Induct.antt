-- Facts that hold of a founding and stay with each entry more hold of each legal history.
use Rattle.std.proofs.Common.{◌≡◌, ◌≢◌, List, [], ◌∷◌, ◌++◌, refl, sym, subst, append_assoc, append-nil}
use Rattle.farm_entry.specs.Legal.{AreNext, IsFounding, IsLegal, IsNext}
use Rattle.farm_entry.specs.declared.entry.Entry.{Entry}
use Rattle.farm_laws.proofs.Stepped.{Stepped, stepped}

-- an entry and more of them, after a history
one-and-more : (H K : List Entry) (e : Entry) → H ++ e ∷ [] ++ K ≡ H ++ e ∷ K
one-and-more H K e = append_assoc H (e ∷ []) K

-- entries that may come next, and one more
pub AreNext-push : (H K : List Entry) (e : Entry) → AreNext H K → IsNext (H ++ K) e → AreNext H (K ++ e ∷ [])
AreNext-push H [] e all next = (subst (λ (L : List Entry). IsNext L e) (append-nil H) next, tt)
AreNext-push H (k ∷ K) e all next =
    (all.0, AreNext-push (H ++ k ∷ []) K e all.1 (subst (λ (L : List Entry). IsNext L e) (sym (one-and-more H K k)) next))

-- and back
pub AreNext-pushed : (H K : List Entry) (e : Entry) → AreNext H (K ++ e ∷ []) → AreNext H K × IsNext (H ++ K) e
AreNext-pushed H [] e all = (tt, subst (λ (L : List Entry). IsNext L e) (sym (append-nil H)) all.0)
AreNext-pushed H (k ∷ K) e all =
    let rest = AreNext-pushed (H ++ k ∷ []) K e all.1 in
    ((all.0, rest.0), subst (λ (L : List Entry). IsNext L e) (one-and-more H K k) rest.1)

-- the first part of entries that may come next
pub AreNext-first : (H K L : List Entry) → AreNext H (K ++ L) → AreNext H K
AreNext-first H [] L all = tt
AreNext-first H (k ∷ K) L all = (all.0, AreNext-first (H ++ k ∷ []) K L all.1)

-- and the rest
pub AreNext-rest : (H K L : List Entry) → AreNext H (K ++ L) → AreNext (H ++ K) L
AreNext-rest H [] L all = subst (λ (G : List Entry). AreNext G L) (sym (append-nil H)) all
AreNext-rest H (k ∷ K) L all =
    subst (λ (G : List Entry). AreNext G L) (one-and-more H K k) (AreNext-rest (H ++ k ∷ []) K L all.1)

-- a legal history and an entry that may come next
pub IsLegal-push : (H : List Entry) (e : Entry) → IsLegal H → IsNext H e → IsLegal (H ++ e ∷ [])
IsLegal-push [] e legal next = absurd legal
IsLegal-push (f ∷ H) e legal next = (legal.0, AreNext-push (f ∷ []) H e legal.1 next)

-- and back
pub IsLegal-pushed : (H : List Entry) (e : Entry) → IsLegal H → IsLegal (H ++ e ∷ []) → IsNext H e
IsLegal-pushed [] e legal longer = absurd legal
IsLegal-pushed (f ∷ H) e legal longer = (AreNext-pushed (f ∷ []) H e longer.1).1

-- the beginning of a legal history, and what follows it
pub IsLegal-first : (H K : List Entry) → H ≢ [] → IsLegal (H ++ K) → IsLegal H
IsLegal-first [] K some legal = absurd (some refl)
IsLegal-first (f ∷ H) K some legal = (legal.0, AreNext-first (f ∷ []) H K legal.1)

pub IsLegal-rest : (H K : List Entry) → H ≢ [] → IsLegal (H ++ K) → AreNext H K
IsLegal-rest [] K some legal = absurd (some refl)
IsLegal-rest (f ∷ H) K some legal = AreNext-rest (f ∷ []) H K legal.1

-- what holds of a legal history and stays with each entry more holds of each longer one
pub grown : (P : List Entry → Type 0) →
    ((H : List Entry) (e : Entry) → IsLegal H → P H → Stepped H e.at e.what → P (H ++ e ∷ [])) →
    (H K : List Entry) → IsLegal H → P H → AreNext H K → P (H ++ K)
grown P step H [] legal here all = subst P (sym (append-nil H)) here
grown P step H (k ∷ K) legal here all =
    subst P (one-and-more H K k)
    (grown P step (H ++ k ∷ []) K (IsLegal-push H k legal all.0) (step H k legal here (stepped H k all.0)) all.1)

-- what holds of a founding too holds of each legal history
pub each_legal : (P : List Entry → Type 0) → ((e : Entry) → IsFounding e.what → P (e ∷ [])) →
    ((H : List Entry) (e : Entry) → IsLegal H → P H → Stepped H e.at e.what → P (H ++ e ∷ [])) →
    (H : List Entry) → IsLegal H → P H
each_legal P founding step [] legal = absurd legal
each_legal P founding step (f ∷ H) legal = grown P step (f ∷ []) H (legal.0, tt) (founding f legal.0) legal.1
