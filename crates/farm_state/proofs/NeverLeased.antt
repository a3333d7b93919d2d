-- A search that was never leased stands at the place of the founding.
use Rattle.std.proofs.Common.{◌≡◌, ℕ, ◌+◌, ◌==◌, ◌≤◌, ◌⊎◌, inl, inr, Bool, true, false, if◌then◌else◌, List, [], ◌∷◌, ◌++◌, length, length-append, filter, Option, Some, None, refl, sym, ap, ◌∙◌, append-nil, arith}
use Rattle.std.specs.Prelude.{◌↔◌}
use Rattle.std.specs.List.{cons_option}
use Rattle.farm_entry.specs.History.{is_lease_for, is_of_search, last_lease, lease_in, leases}
use Rattle.farm_entry.specs.Legal.{IsLegal}
use Rattle.farm_entry.specs.declared.entry.Entry.{Entry}
use Rattle.farm_entry.specs.declared.lease.LeasedRun.{LeasedRun}
use Rattle.farm_laws.proofs.Filters.{leases-grow}
use Rattle.farm_laws.proofs.Induct.{each_legal}
use Rattle.farm_laws.proofs.Numbered.{no_lease}
use Rattle.farm_laws.proofs.OneMore.{last_lease-step}

-- the place of the last lease is the founding's exactly where there is no lease
abbrev IsNeverLeased : (search : ℕ) → List Entry → Type 0
IsNeverLeased s H = (last_lease H s ≡ 0) ↔ (leases H s ≡ [])

-- the lease of an entry is of a search, or the entry adds none to it
abbrev of_it : (search : ℕ) → Option LeasedRun → List LeasedRun
of_it s n = filter (λ l. l.search == s) (cons_option n [])

abbrev AddsOrNot : (search : ℕ) → Option LeasedRun → Type 0
AddsOrNot s n =
    ((is_of_search s n ≡ true) × (1 ≤ length (of_it s n))) ⊎ ((is_of_search s n ≡ false) × (of_it s n ≡ []))

adds-by : (s : ℕ) (l : LeasedRun) (b : Bool) → (l.search == s) ≡ b → AddsOrNot s (Some l)
adds-by s l true e =
    let one : length (of_it s (Some l)) ≡ 1 = ap (λ (b : Bool). length (if b then l ∷ [] else [])) e in
    inl (e, omega (arith, one))
adds-by s l false e = inr (e, ap (λ (b : Bool). if b then l ∷ [] else []) e)

adds-or_not : (s : ℕ) (n : Option LeasedRun) → AddsOrNot s n
adds-or_not s None = inr (refl, refl)
adds-or_not s (Some l) = adds-by s l (l.search == s) refl

some-length : (H : List Entry) → IsLegal H → 1 ≤ length H
some-length [] legal = absurd legal
some-length (e ∷ H) legal = omega arith

founded : (s : ℕ) (e : Entry) (n : Option LeasedRun) → lease_in e.what ≡ n → n ≡ None → IsNeverLeased s (e ∷ [])
founded s e n is none =
    let unleased : is_lease_for s e ≡ false = ap (is_of_search s) (is ∙ none) in
    let last : last_lease (e ∷ []) s ≡ 0 = ap (λ (b : Bool). if b then 0 else 0) unleased in
    let nothing : leases (e ∷ []) s ≡ [] = ap (of_it s) (is ∙ none) in
    (λ h. nothing, λ h. last)

leased : (s : ℕ) (G : List Entry) (e : Entry) → 1 ≤ length G → AddsOrNot s (lease_in e.what) → IsNeverLeased s G →
    IsNeverLeased s (G ++ e ∷ [])
leased s G e some (inl adds) before =
    let longer = G ++ e ∷ [] in
    let last : last_lease longer s ≡ length G =
    last_lease-step G e s ∙ ap (λ (b : Bool). if b then length G else last_lease G s) adds.0 in
    let long : length (leases longer s) ≡ length (leases G s) + length (of_it s (lease_in e.what)) =
    ap length (leases-grow G e s) ∙ length-append (leases G s) (of_it s (lease_in e.what)) in (
      λ zero_is. absurd (omega (arith, last, zero_is, some)),
      λ none. let nil : length (leases longer s) ≡ 0 = ap length none in absurd (omega (arith, long, nil, adds.1)),
    )
leased s G e some (inr adds) before =
    let longer = G ++ e ∷ [] in
    let last : last_lease longer s ≡ last_lease G s =
    last_lease-step G e s ∙ ap (λ (b : Bool). if b then length G else last_lease G s) adds.0 in
    let same : leases longer s ≡ leases G s =
    leases-grow G e s ∙ ap (λ (ls : List LeasedRun). leases G s ++ ls) adds.1 ∙ append-nil (leases G s) in
    (λ zero_is. same ∙ before.0 (sym last ∙ zero_is), λ none. last ∙ before.1 (sym same ∙ none))

pub never_leased : (H : List Entry) (s : ℕ) → IsLegal H → IsNeverLeased s H
never_leased H s legal =
    each_legal (IsNeverLeased s)
    (λ e founding. founded s e (lease_in e.what) refl (no_lease e.what founding))
    (λ G e is before step. leased s G e (some-length G is) (adds-or_not s (lease_in e.what)) before)
    H legal
