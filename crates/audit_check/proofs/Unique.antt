-- There is one finding.
use Rattle.std.proofs.Common.{◌≡◌, ◌≢◌, ℕ, ◌+◌, ◌≤◌, ◌<◌, List, [], ◌∷◌, ◌++◌, length, take, drop, Result, Ok, Err, IfOk, sym, ap, subst, ◌∙◌, arith, ⊎_elim}
use Rattle.std.proofs.lemmas.Bool.{cases_lt}
use Rattle.std.proofs.lemmas.List.{length-take, take-append-drop, take-take}
use Rattle.farm_entry.specs.Legal.{IsLegal}
use Rattle.farm_entry.specs.declared.entry.Entry.{Entry}
use Rattle.farm_laws.proofs.Induct.{IsLegal-first}
use Rattle.plain_farm.specs.Stops.{StopsAt}
use Rattle.audit_check.specs.Told.{Told, broken, entries, unborn}
use Rattle.audit_check.specs.Verdict.{IsFindingBy, IsFindingOn}
use Rattle.audit_check.specs.declared.finding.Finding.{Finding}
use Rattle.audit_check.specs.declared.finding.Finding.TheVariants.{Broken, Illegal, Legal, Long, Unborn}

-- a legal history has an entry
legal-some : (H : List Entry) → IsLegal H → 0 < length H
legal-some [] legal = absurd legal
legal-some (e ∷ H) legal = omega arith

front-some : (H : List Entry) (p : ℕ) → 0 < length H → take (p + 1) H ≢ []
front-some H p some h =
    let none : length (take (p + 1) H) ≡ 0 = ap length h in absurd (omega (arith, length-take (p + 1) H, none, some))

-- each beginning of a legal beginning is legal
shorter : (H : List Entry) (p q : ℕ) → p < q → IsLegal (take q H) → IsLegal (take (p + 1) H)
shorter H p q lt legal =
    let L = take q H in
    let whole : IsLegal (take (p + 1) L ++ drop (p + 1) L) = subst IsLegal (sym (take-append-drop (p + 1) L)) legal in
    subst IsLegal (take-take (p + 1) q H (omega arith))
    (IsLegal-first (take (p + 1) L) (drop (p + 1) L) (front-some L p (legal-some L legal)) whole)

-- no list stops being legal at a place behind that where it stops
not_later : (H : List Entry) (p q : ℕ) → p < q → StopsAt H p → StopsAt H q → ⊥
not_later H p q lt a b =
    ⊎_elim (λ (zero : q ≡ 0). absurd (omega arith)) (λ (legal : IsLegal (take q H)). a.here (shorter H p q lt legal))
    b.before

stop-unique : (H : List Entry) (p q : ℕ) → StopsAt H p → StopsAt H q → p ≡ q
stop-unique H p q a b =
    ⊎_elim (λ (less : p < q). absurd (not_later H p q less a b))
    (λ (le : q ≤ p). ⊎_elim (λ (more : q < p). absurd (not_later H q p more b a)) (λ (same : p ≤ q). omega arith)
    (cases_lt q p)) (cases_lt p q)

on-unique : (H : List Entry) (f g : Finding) → IsFindingOn H f → IsFindingOn H g → f ≡ g
on-unique H Unborn g a b = absurd a
on-unique H (Broken o) g a b = absurd a
on-unique H (Long e) Unborn a b = absurd b
on-unique H (Long e) (Broken o) a b = absurd b
on-unique H (Long e) (Long k) a b = ap Long (a.1 ∙ sym b.1)
on-unique H (Long e) (Illegal q) a b = absurd (omega (arith, a.0, b.0))
on-unique H (Long e) (Legal k s o) a b = absurd (omega (arith, a.0, b.0))
on-unique H (Illegal p) Unborn a b = absurd b
on-unique H (Illegal p) (Broken o) a b = absurd b
on-unique H (Illegal p) (Long k) a b = absurd (omega (arith, a.0, b.0))
on-unique H (Illegal p) (Illegal q) a b = ap Illegal (stop-unique H p q a.1.0 b.1.0)
on-unique H (Illegal p) (Legal k s o) a b = absurd (a.1.1 b.1)
on-unique H (Legal e s o) Unborn a b = absurd b
on-unique H (Legal e s o) (Broken k) a b = absurd b
on-unique H (Legal e s o) (Long k) a b = absurd (omega (arith, a.0, b.0))
on-unique H (Legal e s o) (Illegal q) a b = absurd (b.1.1 a.1)
on-unique H (Legal e s o) (Legal k t u) a b =
    let entries_are : e ≡ k = a.2 ∙ sym b.2 in
    let searches_are : s ≡ t = a.3 ∙ sym b.3 in
    let orders_are : o ≡ u = a.4 ∙ sym b.4 in
    cc

pub finding-unique : (t : Told) (f g : Finding) → IsFindingBy t f → IsFindingBy t g → f ≡ g
finding-unique unborn f g a b = a ∙ sym b
finding-unique (broken o) f g a b = a ∙ sym b
finding-unique (entries H) f g a b = on-unique H f g a b

-- where entries were told, the finding on them is the one that is right
pub only-found : {E : Type 0} (t : Told) (H : List Entry) (r : Result Finding E) → t ≡ entries H → IfOk r (IsFindingOn H) →
    (g : Finding) → IsFindingBy t g → IfOk r (λ found. found ≡ g)
only-found t H (Ok f) same found g right =
    finding-unique (entries H) f g found (subst (λ (u : Told). IsFindingBy u g) same right)
only-found t H (Err stop) same found g right = tt
