-- The longest front of some entries that has at most so many bytes.
use Rattle.std.proofs.Common.{◌≡◌, ℕ, zero, suc, ◌+◌, ◌-◌, ◌<◌, ◌≤◌, Bool, true, false, List, [], ◌∷◌, ◌++◌, ◌≢◌, length, take, nat_le, if◌then◌else◌, refl, sym, ap, subst, ◌∙◌, arith}
use Rattle.std.proofs.lemmas.Bool.{le-leb, leb-false, leb-true, lt-leb}
use Rattle.std.proofs.lemmas.List.{length-append, take_all}
use Rattle.farm_entry.specs.declared.entry.Entry.{Entry}
use Rattle.entry_codec.specs.Grammar.{HasSpelling}
use Rattle.entry_codec.specs.LogPage.{IsLongestFront, front_within}
use Rattle.entry_codec.specs.Spelling.{entry_bytes, spelling}
use Rattle.entry_codec.specs.declared.limits.TheConstants.{MAX_ENTRY_BYTES}
use Rattle.entry_codec.proofs.Sizes.{entry-long, entry-short}

-- the size of entries by that of the first
spelling-size : (e : Entry) (entries : List Entry)
    → length (spelling (e ∷ entries)) ≡ length (entry_bytes e) + length (spelling entries)
spelling-size e entries = length-append (entry_bytes e) (spelling entries)

-- where the first entry fits
front-takes : (most : ℕ) (e : Entry) (entries : List Entry) → length (entry_bytes e) ≤ most
    → front_within most (e ∷ entries) ≡ e ∷ front_within (most - length (entry_bytes e)) entries
front-takes most e entries fits = rw (le-leb (length (entry_bytes e)) most fits) refl

-- where it doesn't
front-stops : (most : ℕ) (e : Entry) (entries : List Entry) → most < length (entry_bytes e)
    → front_within most (e ∷ entries) ≡ []
front-stops most e entries past = rw (lt-leb (length (entry_bytes e)) most past) refl

-- a front that fits, where it with the next entry doesn't, is the longest one
pub front-cut : (most : ℕ) (entries : List Entry) (i : ℕ) → length (spelling (take i entries)) ≤ most
    → most < length (spelling (take (suc i) entries)) → front_within most entries ≡ take i entries
front-cut most [] i fits past = absurd (omega (arith, fits, past))
front-cut most (e ∷ entries) zero fits past =
    front-stops most e entries (omega (arith, past, spelling-size e []))
front-cut most (e ∷ entries) (suc i) fits past =
    let whole = spelling-size e (take i entries) in
    let longer = spelling-size e (take (suc i) entries) in
    front-takes most e entries (omega (arith, fits, whole))
    ∙ ap (λ (l : List Entry). e ∷ l)
    (front-cut (most - length (entry_bytes e)) entries i (omega (arith, fits, whole)) (omega (arith, fits, past, whole, longer)))

-- entries that fit together are the longest front
pub front-all : (most : ℕ) (entries : List Entry) → length (spelling entries) ≤ most → front_within most entries ≡ entries
front-all most [] fits = refl
front-all most (e ∷ entries) fits =
    let whole = spelling-size e entries in
    front-takes most e entries (omega (arith, fits, whole))
    ∙ ap (λ (l : List Entry). e ∷ l) (front-all (most - length (entry_bytes e)) entries (omega (arith, fits, whole)))

-- entries without a byte are none
pub spelling-none : (entries : List Entry) → spelling entries ≡ [] → entries ≡ []
spelling-none [] none = refl
spelling-none (e ∷ entries) none =
    absurd (omega (arith, spelling-size e entries, ap length none, entry-long e))

front-grows : (most : ℕ) (e : Entry) (entries : List Entry) → length (entry_bytes e) ≤ most
    → IsLongestFront (most - length (entry_bytes e)) entries (front_within (most - length (entry_bytes e)) entries)
    → IsLongestFront most (e ∷ entries) (e ∷ front_within (most - length (entry_bytes e)) entries)
front-grows most e entries first found =
    let front = front_within (most - length (entry_bytes e)) entries in
    record {
      rest = found.rest;
      begins = ap (λ (l : List Entry). e ∷ l) found.begins;
      fits = omega (arith, first, found.fits, spelling-size e front);
      longest = go;
    }
  where
    go : (longer more : List Entry) → e ∷ entries ≡ longer ++ more → length (spelling longer) ≤ most
        → length longer ≤ length (e ∷ front_within (most - length (entry_bytes e)) entries)
    go [] more is fits = omega arith
    go (f ∷ longer) more is fits =
        let same : e ≡ f = cc in
        let rest : entries ≡ longer ++ more = cc in
        let size = spelling-size f longer in
        let width : length (entry_bytes e) ≡ length (entry_bytes f) = ap (λ (x : Entry). length (entry_bytes x)) same in
        omega (arith, found.longest longer more rest (omega (arith, fits, size, width)))

none-longest : (most : ℕ) (e : Entry) (entries : List Entry) → most < length (entry_bytes e)
    → IsLongestFront most (e ∷ entries) []
none-longest most e entries past = record { rest = e ∷ entries; begins = refl; fits = omega arith; longest = go }
  where
    go : (longer more : List Entry) → e ∷ entries ≡ longer ++ more → length (spelling longer) ≤ most
        → length longer ≤ 0
    go [] more is fits = omega arith
    go (f ∷ longer) more is fits =
        let same : e ≡ f = cc in
        let width : length (entry_bytes e) ≡ length (entry_bytes f) = ap (λ (x : Entry). length (entry_bytes x)) same in
        absurd (omega (arith, past, fits, width, spelling-size f longer))

nothing-longest : (most : ℕ) → IsLongestFront most [] []
nothing-longest most = record { rest = []; begins = refl; fits = omega arith; longest = go }
  where
    go : (longer more : List Entry) → [] ≡ longer ++ more → length (spelling longer) ≤ most → length longer ≤ 0
    go [] more is fits = omega arith
    go (f ∷ longer) more is fits = cc

first-longest : (most : ℕ) (e : Entry) (entries : List Entry)
    → IsLongestFront (most - length (entry_bytes e)) entries (front_within (most - length (entry_bytes e)) entries)
    → (b : Bool) → nat_le (length (entry_bytes e)) most ≡ b
    → IsLongestFront most (e ∷ entries) (if b then e ∷ front_within (most - length (entry_bytes e)) entries else [])
first-longest most e entries rest true is =
    front-grows most e entries (leb-true (length (entry_bytes e)) most is) rest
first-longest most e entries rest false is = none-longest most e entries (leb-false (length (entry_bytes e)) most is)

pub front-longest : (most : ℕ) (entries : List Entry) → IsLongestFront most entries (front_within most entries)
front-longest most [] = nothing-longest most
front-longest most (e ∷ entries) =
    first-longest most e entries (front-longest (most - length (entry_bytes e)) entries)
    (nat_le (length (entry_bytes e)) most) refl

-- What was written of some entries: those up to a place, and the next one behind them.
module _ (most : ℕ) (entries : List Entry) (i : ℕ) (out : List ℕ) (so_far : out ≡ spelling (take i entries))
    (fits : length out ≤ most) where
  -- with the next entry it is too long
  pub front-next : (longer : List ℕ) → longer ≡ spelling (take (i + 1) entries) → most < length longer
      → front_within most entries ≡ take i entries
  front-next longer is past =
      let next : i + 1 ≡ suc i = omega arith in
      front-cut most entries i (subst (λ (l : List ℕ). length l ≤ most) so_far fits)
      (subst (λ (n : ℕ). most < length (spelling (take n entries))) next
      (subst (λ (l : List ℕ). most < length l) is past))

  -- there is no other entry
  pub front-end : length entries ≤ i → front_within most entries ≡ take i entries
  front-end last =
      let all : take i entries ≡ entries = take_all i entries last in
      front-all most entries
      (subst (λ (es : List Entry). length (spelling es) ≤ most) all (subst (λ (l : List ℕ). length l ≤ most) so_far fits))
      ∙ sym all

  -- nothing was written where there is nothing
  pub none-end : length entries ≤ i → out ≡ [] → entries ≡ []
  none-end last none = sym (take_all i entries last) ∙ spelling-none (take i entries) (sym so_far ∙ none)

-- an entry that has a spelling fits alone
pub first-fits : (most : ℕ) (e : Entry) (out : List ℕ) → HasSpelling e.what → MAX_ENTRY_BYTES ≤ most
    → most < length (out ++ entry_bytes e) → out ≢ []
first-fits most e out spelled room past none =
    let short = entry-short e spelled in
    omega (arith, short, room, past, length-append out (entry_bytes e), ap length none)
