-- Histories that are legal, and that may be held.
use Rattle.std.proofs.Common.{◌≡◌, ◌≢◌, ℕ, ◌+◌, ◌≤◌, ◌<◌, List, [], ◌∷◌, ◌++◌, length, take, drop, get_or, refl, sym, ◌∙◌, ap, arith}
use Rattle.std.proofs.lemmas.Grind.{flat_map-append}
use Rattle.std.proofs.lemmas.List.{length-append, take-append-drop}
use Rattle.std.proofs.Math.Seq.{drop-cons}
use Rattle.std.proofs.Math.Numerals.{add-one}
use Rattle.entry_codec.specs.Spelling.{entry_bytes, spelling}
use Rattle.entry_codec.proofs.Sizes.{entry-long}
use Rattle.farm_entry.specs.Legal.{IsLegal}
use Rattle.farm_entry.specs.declared.entry.Entry.{Entry}
use Rattle.journal_follow.specs.Page.{MayBeHeld}

-- a legal history may be held
pub legal-may : (H : List Entry) → IsLegal H → MayBeHeld H
legal-may [] legal = tt
legal-may (e ∷ more) legal = legal

-- so may one that is legal where it has an entry
pub may-by : (H : List Entry) → (H ≢ [] → IsLegal H) → MayBeHeld H
may-by [] legal = tt
may-by (e ∷ more) legal = legal (λ none. not-none none)
  where
    not-none : e ∷ more ≡ [] → ⊥
    not-none none = cc

-- with an entry more it is legal
pub may-pushed : (H : List Entry) (e : Entry) → MayBeHeld (H ++ e ∷ []) → IsLegal (H ++ e ∷ [])
may-pushed [] e may = may
may-pushed (x ∷ more) e may = may

-- the entry of an index, between those before it and behind it
pub split-at : (xs : List Entry) (i : ℕ) (d : Entry) → i < length xs
    → xs ≡ take i xs ++ get_or xs i d ∷ drop (i + 1) xs
split-at xs i d below =
    sym (take-append-drop i xs)
    ∙ ap (λ (l : List Entry). take i xs ++ l) (drop-cons xs i d below
    ∙ ap (λ (n : ℕ). get_or xs i d ∷ drop n xs) (sym (add-one i)))

-- each entry takes a byte
pub spelling-long : (entries : List Entry) → length entries ≤ length (spelling entries)
spelling-long [] = omega arith
spelling-long (e ∷ more) =
    omega (arith, entry-long e, length-append (entry_bytes e) (spelling more), spelling-long more)

-- a part takes no more bytes than the whole
pub spelling-part : (n : ℕ) (entries : List Entry) → length (spelling (drop n entries)) ≤ length (spelling entries)
spelling-part n entries =
    let whole : spelling entries ≡ spelling (take n entries) ++ spelling (drop n entries) =
    ap spelling (sym (take-append-drop n entries)) ∙ flat_map-append entry_bytes (take n entries) (drop n entries) in
    omega (arith, ap length whole, length-append (spelling (take n entries)) (spelling (drop n entries)))
