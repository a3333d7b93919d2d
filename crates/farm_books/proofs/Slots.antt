-- The lease of a run in a book that is numbered from 1.
use Rattle.std.proofs.Common.{◌≡◌, ℕ, zero, suc, ◌+◌, ◌-◌, ◌<◌, ◌==◌, Bool, true, false, cond, if◌then◌else◌, List, [], ◌∷◌, length, map, find, slice_get, Option, Some, None, refl, sym, ap, ◌∙◌, ⊎_elim, arith}
use Rattle.std.specs.List.{range_with_len}
use Rattle.std.specs.Option.{option_map}
use Rattle.std.proofs.lemmas.Bool.{cases_eq}
use Rattle.std.proofs.lemmas.Bool.Decides.{nat_tests}
use Rattle.search_books.specs.Leases.{Held, lease_numbered}
use Rattle.search_books.specs.declared.lease.Lease.{Lease}
use Rattle.farm_entry.specs.History.{all_leases, lease_of}
use Rattle.farm_entry.specs.Legal.{IsLegal}
use Rattle.farm_entry.specs.declared.entry.Entry.{Entry}
use Rattle.farm_entry.specs.declared.lease.LeasedRun.{LeasedRun}
use Rattle.farm_laws.proofs.Numbered.{leases-numbered, tail_of}
use Rattle.farm_books.specs.Kept.{AreLeases, leased}
use Rattle.farm_books.proofs.Bookings.{leases_of}

abbrev head_or : List ℕ → ℕ
head_or [] = 0
head_or (n ∷ ns) = n

-- no lease of a list has a number below the first
find-below : (run a : ℕ) (ls : List LeasedRun) → run < a → map (λ (l : LeasedRun). l.run) ls ≡ range_with_len a (length ls) →
    find (λ (l : LeasedRun). l.run == run) ls ≡ None
find-below run a [] low all = refl
find-below run a (l ∷ ls) low all =
    let first : l.run ≡ a = ap head_or all in
    let other : l.run == run ≡ false = grind (arith, nat_tests, first, low) in
    ap (λ (b : Bool). cond b (Some l) (find (λ (x : LeasedRun). x.run == run) ls)) other
    ∙ find-below run (a + 1) ls (omega (arith, low)) (ap tail_of all)

-- the one with a number stands as far behind the first as its number is above the first's
find-slot : (a k run : ℕ) (ls : List LeasedRun) → run ≡ a + k →
    map (λ (l : LeasedRun). l.run) ls ≡ range_with_len a (length ls) →
    find (λ (l : LeasedRun). l.run == run) ls ≡ slice_get ls k
find-slot a k run [] at all = refl
find-slot a zero run (l ∷ ls) at all =
    let first : l.run ≡ a = ap head_or all in
    let this : l.run == run ≡ true = grind (arith, nat_tests, first, at) in
    ap (λ (b : Bool). cond b (Some l) (find (λ (x : LeasedRun). x.run == run) ls)) this
find-slot a (suc k) run (l ∷ ls) at all =
    let first : l.run ≡ a = ap head_or all in
    let other : l.run == run ≡ false = grind (arith, nat_tests, first, at) in
    ap (λ (b : Bool). cond b (Some l) (find (λ (x : LeasedRun). x.run == run) ls)) other
    ∙ find-slot (a + 1) k run ls (omega (arith, at)) (ap tail_of all)

-- a lease of the book as the history has it
abbrev pub lease_told : Option Lease → Option LeasedRun
lease_told o = option_map leased o

slot-map : (helds : List Held) (k : ℕ) →
    slice_get (leases_of helds) k ≡ lease_told (option_map (λ (held : Held). held.lease) (slice_get helds k))
slot-map [] k = refl
slot-map (held ∷ helds) zero = refl
slot-map (held ∷ helds) (suc k) = slot-map helds k

by_number : (H : List Entry) (helds : List Held) (run : ℕ) → IsLegal H → AreLeases H helds → (run ≡ 0 → ⊥) →
    lease_of H run ≡ lease_told (option_map (λ (held : Held). held.lease) (slice_get helds (run - 1)))
by_number H helds run legal are some =
    let at : run ≡ 1 + (run - 1) = omega (arith, some) in
    find-slot 1 (run - 1) run (all_leases H) at (leases-numbered H legal)
    ∙ ap (λ (ls : List LeasedRun). slice_get ls (run - 1)) (sym are.leases_are)
    ∙ slot-map helds (run - 1)

pub lease-looked_up : (H : List Entry) (helds : List Held) (run : ℕ) → IsLegal H → AreLeases H helds →
    lease_of H run ≡ lease_told (lease_numbered run helds)
lease-looked_up H helds run legal are =
    ⊎_elim
    (λ (none : run ≡ 0).
    let here : run == 0 ≡ true = grind (arith, nat_tests, none) in
    find-below run 1 (all_leases H) (omega (arith, none)) (leases-numbered H legal)
    ∙ sym (ap (λ (b : Bool). lease_told (option_map (λ (held : Held). held.lease)
    (if b then None else slice_get helds (run - 1)))) here))
    (λ (some : run ≡ 0 → ⊥).
    let other : run == 0 ≡ false = grind (arith, nat_tests, some) in
    by_number H helds run legal are some
    ∙ sym (ap (λ (b : Bool). lease_told (option_map (λ (held : Held). held.lease)
    (if b then None else slice_get helds (run - 1)))) other))
    (cases_eq run 0)
