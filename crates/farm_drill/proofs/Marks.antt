-- Marks that are made entry by entry: of keys, and of runs that are reported.
use Rattle.std.proofs.Common.{◌≡◌, ◌⊎◌, ℕ, zero, suc, ◌+◌, ◌<◌, ◌≤◌, ◌==◌, Bool, true, false, not, ◌||◌, List, [], ◌∷◌, ◌++◌, length, take, filter, get_or, replicate, All, Contains, Some, None, refl, sym, ap, subst, ◌∙◌, ⊎_elim, if◌then◌else◌, add-one, arith, true≢false, take-suc}
use Rattle.std.specs.List.{cons_option, list_any}
use Rattle.std.proofs.Math.Bool.{or-false, or-true}
use Rattle.std.proofs.lemmas.Bool.Decides.{nat_tests}
use Rattle.std.proofs.lemmas.List.{get_or-replicate, length-replicate, take_all}
use Rattle.std.proofs.lemmas.List.Elements.{All-cons, filter-append}
use Rattle.farm_types.specs.declared.key.Key.{Key}
use Rattle.farm_entry.specs.History.{all_leases, has_key, is_key, is_report_of, is_reported, key_in, lease_in, place_of_key}
use Rattle.farm_entry.specs.Legal.{IsLegal}
use Rattle.farm_entry.specs.declared.entry.Entry.{Entry}
use Rattle.farm_entry.specs.declared.lease.LeasedRun.{LeasedRun}
use Rattle.farm_entry.proofs.Growing.{all_leases-grow}
use Rattle.farm_drill.proofs.Free.{free-key}
use Rattle.farm_drill.specs.Free.{AreFree, AreMarked, key_numbered}
use Rattle.farm_drill.specs.Reported.{AreRunsMarked, is_marked, unmarked}
use Rattle.farm_drill.specs.declared.keys.Keys.{Keys}
use Rattle.farm_drill.proofs.Lists.{any-append, any-from_none, any-none}
use Rattle.farm_drill.proofs.Reports.{reported-any}

-- the entries up to a place and with it

pub take-at : {X : Type 0} (xs : List X) (i : ℕ) (x : X) → i < length xs → x ≡ get_or xs i x
    → take (i + 1) xs ≡ take i xs ++ x ∷ []
take-at xs i x below is =
    let longer : take (i + 1) xs ≡ take i xs ++ get_or xs i x ∷ [] = rw add-one (take-suc xs i x below) in
    longer ∙ ap (λ y. take i xs ++ y ∷ []) (sym is)

any-upto : {X : Type 0} (p : X → Bool) (xs : List X) (i : ℕ) (x : X) → i < length xs → x ≡ get_or xs i x
    → list_any p (take (i + 1) xs) ≡ (list_any p (take i xs) || p x)
any-upto p xs i x below is =
    ap (list_any p) (take-at xs i x below is) ∙ any-append p (take i xs) (x ∷ [])
    ∙ ap (λ (b : Bool). list_any p (take i xs) || b) (or-false (p x))

-- Keys.

keys-begin : (H : List Entry) (count : ℕ) → AreMarked (take 0 H) (replicate count false)
keys-begin H count n within = get_or-replicate count n false true (omega (arith, within, length-replicate count false))

pub keys-start : (H : List Entry) (count : ℕ) (used : List Bool) → used ≡ replicate count false
    → AreMarked (take 0 H) used
keys-start H count used is = subst (AreMarked (take 0 H)) (sym is) (keys-begin H count)

pub keys-end : (H : List Entry) (i : ℕ) (used : List Bool) → length H ≤ i → AreMarked (take i H) used → AreMarked H used
keys-end H i used past marked = subst (λ (G : List Entry). AreMarked G used) (take_all i H past) marked

pub keys-more : (H : List Entry) (i : ℕ) (e : Entry) (old new : List Bool) → i < length H → e ≡ get_or H i e
    → AreMarked (take i H) old → length new ≡ length old
    → ((n : ℕ) → n < length old → get_or new n true ≡ (get_or old n true || has_key (key_numbered n) e))
    → AreMarked (take (i + 1) H) new
keys-more H i e old new below is kept same marks n within =
    let p : Entry → Bool = has_key (key_numbered n) in
    let there : n < length old = omega (arith, same) in
    marks n there ∙ ap (λ (b : Bool). b || p e) (kept n there) ∙ sym (any-upto p H i e below is)

-- a key that isn't marked stands in no entry
pub free-marked : (H : List Entry) (keys : Keys) → AreMarked H keys.used.items → AreFree H keys
free-marked H keys marked n from within none =
    any-none (has_key (key_numbered n)) H (sym (marked n within) ∙ none)

-- some key isn't marked
pub some-unmarked : (H : List Entry) (used : List Bool) → IsLegal H → AreMarked H used → length used ≡ length H
    → ((n : ℕ) → 0 ≤ n → n < length used → get_or used n true ≡ true) → ⊥
some-unmarked H used legal marked same all =
    let free = free-key H legal in
    let within : free.key.0 < length used = omega (arith, free.below, same) in
    let there : list_any (has_key free.key) H ≡ true = sym (marked free.key.0 within)
    ∙ all free.key.0 (omega arith) within in
    let none : list_any (has_key free.key) H ≡ false = any-from_none (has_key free.key) H free.free in
    true≢false (sym there ∙ none)

-- a key that is taken stands in one more entry, and the others are free as before
pub free-next : (H : List Entry) (old new : Keys) (key : Key) (e : Entry) → AreFree H old
    → new.used.items ≡ old.used.items → new.next ≡ key.0 + 1 → old.next ≤ key.0 → key_in e.what ≡ Some key
    → AreFree (H ++ e ∷ []) new
free-next H old new key e free used next past keyed n from within none =
    let p : Entry → Bool = has_key (key_numbered n) in
    let other : key.0 == n ≡ false = grind (arith, nat_tests) in
    let here : p e ≡ false = ap (is_key (key_numbered n)) keyed ∙ other in
    let before : place_of_key H (key_numbered n) ≡ None =
    free n (omega arith) (omega (arith, ap length used))
    (sym (ap (λ (bs : List Bool). get_or bs n true) used) ∙ none) in
    any-none p (H ++ e ∷ [])
    (any-append p H (e ∷ []) ∙ ap (λ (b : Bool). b || (p e || false)) (any-from_none p H before)
    ∙ ap (λ (b : Bool). b || false) here)

pub free-still : (H : List Entry) (old new : Keys) (key : Key) → AreFree H old → new.used.items ≡ old.used.items
    → new.next ≡ key.0 + 1 → old.next ≤ key.0 → AreFree H new
free-still H old new key free used next past n from within none =
    free n (omega arith) (omega (arith, ap length used)) (sym (ap (λ (bs : List Bool). get_or bs n true) used) ∙ none)

-- Runs.

none-marked : (count run : ℕ) → is_marked (replicate count false) run ≡ false
none-marked zero run = refl
none-marked (suc count) zero = refl
none-marked (suc count) (suc run) = none-marked count run

runs-begin : (H : List Entry) (count : ℕ) → AreRunsMarked H (replicate count false)
runs-begin H count run marked = absurd (true≢false (sym marked ∙ none-marked count run))

pub runs-start : (H : List Entry) (count : ℕ) (marks : List Bool) → marks ≡ replicate count false
    → AreRunsMarked (take 0 H) marks
runs-start H count marks is = subst (AreRunsMarked (take 0 H)) (sym is) (runs-begin (take 0 H) count)

pub runs-end : (H : List Entry) (i : ℕ) (marks : List Bool) → length H ≤ i → AreRunsMarked (take i H) marks
    → AreRunsMarked H marks
runs-end H i marks past marked = subst (λ (G : List Entry). AreRunsMarked G marks) (take_all i H past) marked

pub runs-more : (H : List Entry) (i : ℕ) (e : Entry) (old new : List Bool) → i < length H → e ≡ get_or H i e
    → AreRunsMarked (take i H) old
    → ((run : ℕ) → is_marked new run ≡ true → (is_marked old run ≡ true) ⊎ (is_report_of run e ≡ true))
    → AreRunsMarked (take (i + 1) H) new
runs-more H i e old new below is kept marks run marked =
    let p : Entry → Bool = is_report_of run in
    let whole = reported-any run (take (i + 1) H) ∙ any-upto p H i e below is in
    ⊎_elim
    (λ (before : is_marked old run ≡ true).
    whole ∙ ap (λ (b : Bool). b || p e) (sym (reported-any run (take i H)) ∙ kept run before))
    (λ (now : p e ≡ true). whole ∙ ap (λ (b : Bool). list_any p (take i H) || b) now ∙ or-true (list_any p (take i H)))
    (marks run marked)

pub unmarked-more : (H : List Entry) (i : ℕ) (e : Entry) (marks : List Bool) → i < length H → e ≡ get_or H i e
    → unmarked marks (all_leases (take (i + 1) H))
    ≡ unmarked marks (all_leases (take i H)) ++ unmarked marks (cons_option (lease_in e.what) [])
unmarked-more H i e marks below is =
    let p : LeasedRun → Bool = λ l. not (is_marked marks l.run) in
    ap (λ (G : List Entry). unmarked marks (all_leases G)) (take-at H i e below is)
    ∙ ap (unmarked marks) (all_leases-grow (take i H) e)
    ∙ filter-append p (all_leases (take i H)) (cons_option (lease_in e.what) [])

-- those that pass a test are among the list, and each that passes is among them

filter-in_if : {X : Type 0} (p : X → Bool) (y : X) (xs : List X) (x : X) (b : Bool) → p y ≡ b
    → Contains (if b then y ∷ filter p xs else filter p xs) x → (Contains (filter p xs) x → Contains xs x)
    → Contains (y ∷ xs) x
filter-in_if p y xs x true is (zero, below, same) later = (zero, omega arith, same)
filter-in_if p y xs x true is (suc k, below, same) later =
    let rest = later (k, omega arith, same) in (suc rest.0, omega (arith, rest.1), rest.2)
filter-in_if p y xs x false is there later = let rest = later there in (suc rest.0, omega (arith, rest.1), rest.2)

pub filter-in : {X : Type 0} (p : X → Bool) (xs : List X) (x : X) → Contains (filter p xs) x → Contains xs x
filter-in p [] x there = there
filter-in p (y ∷ xs) x there = filter-in_if p y xs x (p y) refl there (filter-in p xs x)

all-of_if : {X : Type 0} (P : X → Type 0) (t : X → Bool) (y : X) (xs : List X) (b : Bool) → t y ≡ b
    → ((x : X) → t x ≡ true → P x)
    → All P (if not b then y ∷ filter (λ x. not (t x)) xs else filter (λ x. not (t x)) xs)
    → (All P (filter (λ x. not (t x)) xs) → All P xs) → All P (y ∷ xs)
all-of_if P t y xs true is passes others later = All-cons P y xs (passes y is) (later others)
all-of_if P t y xs false is passes others later = All-cons P y xs (others 0 y (omega arith))
    (later (λ k d within. others (suc k) d (omega arith)))

all-of : {X : Type 0} (P : X → Type 0) (t : X → Bool) (xs : List X) → ((x : X) → t x ≡ true → P x)
    → All P (filter (λ x. not (t x)) xs) → All P xs
all-of P t [] passes others = others
all-of P t (y ∷ xs) passes others = all-of_if P t y xs (t y) refl passes others (all-of P t xs passes)

-- each is reported, where those that are marked were, and all others are now
pub all-reported : (H new : List Entry) (marks : List Bool) → AreRunsMarked H marks
    → ((run : ℕ) → is_reported H run ≡ true → is_reported new run ≡ true) → all_leases new ≡ all_leases H
    → All (λ (l : LeasedRun). is_reported new l.run ≡ true) (unmarked marks (all_leases H))
    → All (λ (l : LeasedRun). is_reported new l.run ≡ true) (all_leases new)
all-reported H new marks marked stays same others =
    subst (All (λ (l : LeasedRun). is_reported new l.run ≡ true)) (sym same)
    (all-of (λ (l : LeasedRun). is_reported new l.run ≡ true) (λ (l : LeasedRun). is_marked marks l.run) (all_leases H)
    (λ l is. stays l.run (marked l.run is)) others)
