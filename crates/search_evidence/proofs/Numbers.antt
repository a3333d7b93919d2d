-- Runs are numbered from 1 in the order of their leases, so a number finds its lease at its place.
use Rattle.std.proofs.Common.{◌≡◌, ℕ, ◌+◌, ◌<◌, ◌==◌, List, length, map, get_or, find, Option, Some, None, refl, sym, ap, subst, ◌∙◌, arith}
use Rattle.std.specs.List.{range_with_len}
use Rattle.std.proofs.lemmas.Bool.Decides.{nat_tests}
use Rattle.std.proofs.lemmas.List.Elements.{Contains-get_or}
use Rattle.farm_entry.specs.declared.entry.Entry.{Entry}
use Rattle.farm_entry.specs.declared.lease.LeasedRun.{LeasedRun}
use Rattle.farm_laws.proofs.Numbered.{AreNumbered, find-numbered, find-there, leases-numbered, number-at}
use Rattle.search_evidence.specs.Kept.{AreLeases}

-- the item at a place has the number behind it
pub found-at : {X : Type 0} (number : X → ℕ) (xs : List X) (place wanted : ℕ) (d : X) →
    map number xs ≡ range_with_len 1 (length xs) →
    place < length xs → place + 1 ≡ wanted → find (λ (y : X). number y == wanted) xs ≡ Some (get_or xs place d)
found-at number xs place wanted d all below next =
    let there : number (get_or xs place d) ≡ wanted =
    omega (arith, number-at number 1 xs all place d below, next) in
    subst (λ (n : ℕ). find (λ (y : _). number y == n) xs ≡ Some (get_or xs place d)) there
    (find-numbered number xs (get_or xs place d) all (Contains-get_or xs place d below))

-- no item has a number that is behind no place
by-found : {X : Type 0} (number : X → ℕ) (xs : List X) (wanted : ℕ) (found : Option X) →
    map number xs ≡ range_with_len 1 (length xs) →
    ((place : ℕ) → place < length xs → 1 + place ≡ wanted → ⊥) → find (λ (y : X). number y == wanted) xs ≡ found →
    find (λ (y : X). number y == wanted) xs ≡ None
by-found number xs wanted None all out is = is
by-found number xs wanted (Some x) all out is =
    let there = find-there (λ (y : _). number y == wanted) xs x is in
    let wanted_is : number x ≡ wanted = grind (arith, nat_tests, there.1) in
    let place = there.0.0 in
    let at : number (get_or xs place x) ≡ 1 + place = number-at number 1 xs all place x there.0.1 in
    absurd (out place there.0.1 (sym at ∙ ap number there.0.2 ∙ wanted_is))

pub found-none : {X : Type 0} (number : X → ℕ) (xs : List X) (wanted : ℕ) →
    map number xs ≡ range_with_len 1 (length xs) →
    ((place : ℕ) → place < length xs → 1 + place ≡ wanted → ⊥) → find (λ (y : X). number y == wanted) xs ≡ None
found-none number xs wanted all out = by-found number xs wanted _ all out refl

-- all leases of a history are numbered
pub numbered-leases : {H : List Entry} {leases : List LeasedRun} → AreLeases H leases →
    map (λ (l : LeasedRun). l.run) leases ≡ range_with_len 1 (length leases)
numbered-leases {H} are =
    subst (AreNumbered (λ (l : LeasedRun). l.run)) (sym are.all) (leases-numbered H are.legal)
