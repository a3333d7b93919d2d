-- A key below the number of entries that stands in none.
use Rattle.std.proofs.Common.{◌≡◌, ℕ, zero, suc, ◌+◌, ◌<◌, ◌≤◌, ◌==◌, Bool, true, false, ◌||◌, if◌then◌else◌, List, [], ◌∷◌, length, get_or, Option, Some, None, refl, sym, ap, ◌∙◌, ⊎_elim, arith, true≢false}
use Rattle.std.specs.List.{cons_option, filter_map, list_any}
use Rattle.std.specs.Option.{option_map}
use Rattle.std.proofs.lemmas.Bool.{cases_Bool, or_parts}
use Rattle.std.proofs.lemmas.Bool.Decides.{nat_tests}
use Rattle.farm_rules.specs.Due.{strike}
use Rattle.farm_types.proofs.FirstIndex.{position-none}
use Rattle.farm_types.specs.declared.key.Key.{Key}
use Rattle.farm_entry.specs.History.{has_key, is_key, key_in, place_of_key}
use Rattle.farm_entry.specs.Legal.{IsFounding, IsLegal}
use Rattle.farm_entry.specs.declared.entry.Entry.{Entry}
use Rattle.farm_entry.specs.declared.entry.What.{What}
use Rattle.farm_entry.specs.declared.entry.What.TheVariants.{Founded, Opened, Leased, Reported, Skipped, Cancelled, Ordered, Carried, Closed}

-- Of fewer numbers than n some number below n is not one.

abbrev is_in : List ℕ → ℕ → Bool
is_in ks k = list_any (λ n. n == k) ks

strike-shorter_if : (n x : ℕ) (ks : List ℕ) (b : Bool) → x == n ≡ b → (is_in ks n ≡ true →
    length (strike n ks) + 1 ≡ length ks) →
    (b || is_in ks n) ≡ true → length (if b then ks else x ∷ strike n ks) + 1 ≡ length (x ∷ ks)
strike-shorter_if n x ks true e later h = omega arith
strike-shorter_if n x ks false e later h = omega (arith, later h)

strike-shorter : (n : ℕ) (ks : List ℕ) → is_in ks n ≡ true → length (strike n ks) + 1 ≡ length ks
strike-shorter n [] h = absurd (true≢false (sym h))
strike-shorter n (x ∷ ks) h = strike-shorter_if n x ks (x == n) refl (strike-shorter n ks) h

-- what is struck was the number alone
others-kept_if : (n k x : ℕ) (ks : List ℕ) (b : Bool) → x == n ≡ b → n == k ≡ false →
    is_in (strike n ks) k ≡ is_in ks k →
    is_in (if b then ks else x ∷ strike n ks) k ≡ (x == k || is_in ks k)
others-kept_if n k x ks true e other later =
    let differs : x == k ≡ false = grind (arith, nat_tests) in
    sym (ap (λ (t : Bool). t || is_in ks k) differs)
others-kept_if n k x ks false e other later = ap (λ (t : Bool). x == k || t) later

others-kept : (n k : ℕ) (ks : List ℕ) → n == k ≡ false → is_in (strike n ks) k ≡ is_in ks k
others-kept n k [] other = refl
others-kept n k (x ∷ ks) other = others-kept_if n k x ks (x == n) refl other (others-kept n k ks other)

record FreeBelow (n : ℕ) (ks : List ℕ) : Type 0 where
  number : ℕ
  below : number < n
  free : is_in ks number ≡ false

free-below : (n : ℕ) (ks : List ℕ) → length ks < n → FreeBelow n ks
free-below zero ks few = absurd (omega arith)
free-below (suc n) ks few =
    ⊎_elim
    (λ (there : is_in ks n ≡ true).
    let shorter : length (strike n ks) + 1 ≡ length ks = strike-shorter n ks there in
    let rest = free-below n (strike n ks) (omega arith) in
    let low : rest.number < n = rest.below in
    let other : n == rest.number ≡ false = grind (arith, nat_tests) in
    record { number = rest.number; below = omega arith; free = sym (others-kept n rest.number ks other) ∙ rest.free })
    (λ (free : is_in ks n ≡ false). record { number = n; below = omega arith; free = free })
    (cases_Bool (is_in ks n))

-- The numbers of the keys of a history.

abbrev number_in : What → Option ℕ
number_in what = option_map (λ (key : Key). key.0) (key_in what)

abbrev numbers : List Entry → List ℕ
numbers H = filter_map (λ (e : Entry). number_in e.what) H

one-key : (k : Key) (o : Option Key) (ns : List ℕ) → is_in (cons_option (option_map (λ (key : Key).
    key.0) o) ns) k.0 ≡ (is_key k o || is_in ns k.0)
one-key k None ns = refl
one-key k (Some other) ns = refl

keys-numbers : (k : Key) (H : List Entry) → is_in (numbers H) k.0 ≡ list_any (has_key k) H
keys-numbers k [] = refl
keys-numbers k (e ∷ H) =
    one-key k (key_in e.what) (numbers H) ∙ ap (λ (b : Bool). is_key k (key_in e.what) || b) (keys-numbers k H)

any-at : {X : Type 0} (p : X → Bool) (xs : List X) (d : X) → list_any p xs ≡ false → (i : ℕ) → i < length xs →
    p (get_or xs i d) ≡ false
any-at p [] d h i below = absurd (omega arith)
any-at p (x ∷ xs) d h zero below = (or_parts (p x) (list_any p xs) h).0
any-at p (x ∷ xs) d h (suc i) below = any-at p xs d (or_parts (p x) (list_any p xs) h).1 i (omega arith)

few_if : (o : Option ℕ) (ns : List ℕ) → length (cons_option o ns) ≤ length ns + 1
few_if None ns = omega arith
few_if (Some n) ns = omega arith

few-numbers : (H : List Entry) → length (numbers H) ≤ length H
few-numbers [] = omega arith
few-numbers (e ∷ H) = omega (arith, few-numbers H, few_if (number_in e.what) (numbers H))

founded-number : (w : What) (ns : List ℕ) → IsFounding w → cons_option (number_in w) ns ≡ ns
founded-number (Founded s) ns h = refl
founded-number (Opened o) ns h = absurd h
founded-number (Leased k w r q t p d) ns h = absurd h
founded-number (Reported r v _) ns h = absurd h
founded-number (Skipped r _) ns h = absurd h
founded-number (Cancelled k q) ns h = absurd h
founded-number (Ordered k a n c q d) ns h = absurd h
founded-number (Carried c d) ns h = absurd h
founded-number Closed ns h = absurd h

-- a legal history has more entries than keys, as its founding has none
fewer-keys : (H : List Entry) → IsLegal H → length (numbers H) < length H
fewer-keys [] legal = absurd legal
fewer-keys (f ∷ H) legal = omega (arith, few-numbers H, ap length (founded-number f.what (numbers H) legal.0))

pub record FreeKey (H : List Entry) : Type 0 where
  pub key : Key
  pub below : key.0 < length H
  pub free : place_of_key H key ≡ None

nowhere : (H : List Entry) (k : Key) → IsLegal H → list_any (has_key k) H ≡ false → place_of_key H k ≡ None
nowhere [] k legal h = absurd legal
nowhere (f ∷ H) k legal h = position-none (has_key k) (f ∷ H) f (any-at (has_key k) (f ∷ H) f h)

pub free-key : (H : List Entry) → IsLegal H → FreeKey H
free-key H legal =
    let found = free-below (length H) (numbers H) (fewer-keys H legal) in
    let key : Key = record { 0 = found.number } in
    record { key = key; below = found.below; free = nowhere H key legal (sym (keys-numbers key H) ∙ found.free) }
