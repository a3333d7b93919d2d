-- The places of the entries that open searches.
use Rattle.std.proofs.Common.{◌≡◌, ℕ, zero, suc, ◌+◌, ◌-◌, ◌<◌, if◌then◌else◌, List, [], ◌∷◌, ◌++◌, length, map, get_or, take, Option, Some, None, refl, sym, ap, ◌∙◌, append-nil, arith, length-append}
use Rattle.std.specs.List.{cons_option}
use Rattle.std.specs.Option.{is_some, option_map}
use Rattle.std.proofs.lemmas.List.{length-map, map-append, take-map}
use Rattle.std.proofs.Math.Seq.{map-set_same, take-append_seam}
use Rattle.farm_entry.specs.History.{opening_in, openings}
use Rattle.farm_entry.specs.declared.entry.Entry.{Entry}
use Rattle.farm_entry.specs.declared.lease.LeasedRun.{LeasedRun}
use Rattle.farm_entry.specs.declared.opening.Opening.{Opening}
use Rattle.farm_entry.proofs.Growing.{openings-grow}
use Rattle.farm_ledger.specs.Rows.{blank, one_less, one_more, opening_places, with_lease, with_row, without_lease, without_row}
use Rattle.farm_ledger.specs.declared.notes.Row.{Row}

-- the place of an opening, if there is one
abbrev pub place_of : Option Opening → ℕ → Option ℕ
place_of x place = option_map (λ (o : Opening). place) x

abbrev pub places_in : List Row → List ℕ
places_in rows = map (λ (row : Row). row.place) rows

-- One entry more.

cons-append : {X : Type 0} (x : Option X) (xs ys : List X) → cons_option x (xs ++ ys) ≡ cons_option x xs ++ ys
cons-append None xs ys = refl
cons-append (Some x) xs ys = refl

pub places-grow : (a : ℕ) (H : List Entry) (e : Entry) →
    opening_places a (H ++ e ∷ []) ≡ opening_places a H ++ cons_option (place_of (opening_in e.what) (a + length H)) []
places-grow a [] e =
    let here : a ≡ a + 0 = omega arith in ap (λ (n : ℕ). cons_option (place_of (opening_in e.what) n) []) here
places-grow a (f ∷ H) e =
    let first = place_of (opening_in f.what) a in
    let rest = opening_places (a + 1) H in
    let next : a + 1 + length H ≡ a + length (f ∷ H) = omega arith in
    ap (cons_option first) (places-grow (a + 1) H e)
    ∙ cons-append first rest (cons_option (place_of (opening_in e.what) (a + 1 + length H)) [])
    ∙ ap (λ (n : ℕ). cons_option first rest ++ cons_option (place_of (opening_in e.what) n) []) next

-- how many there are
cons-long : (x : Option Opening) (a : ℕ) (ps : List ℕ) (os : List Opening) → length ps ≡ length os →
    length (cons_option (place_of x a) ps) ≡ length (cons_option x os)
cons-long None a ps os same = same
cons-long (Some o) a ps os same = ap (λ (n : ℕ). suc n) same

pub places-count : (a : ℕ) (H : List Entry) → length (opening_places a H) ≡ length (openings H)
places-count a [] = refl
places-count a (e ∷ H) = cons-long (opening_in e.what) a (opening_places (a + 1) H) (openings H) (places-count (a + 1) H)

pub openings-count : (H : List Entry) (e : Entry) →
    length (openings (H ++ e ∷ [])) ≡ length (openings H) + (if is_some (opening_in e.what) then 1 else 0)
openings-count H e =
    ap length (openings-grow H e) ∙ length-append (openings H) (cons_option (opening_in e.what) [])
    ∙ ap (λ (n : ℕ). length (openings H) + n) (one (opening_in e.what))
  where
    one : (x : Option Opening) → length (cons_option x []) ≡ (if is_some x then 1 else 0)
    one None = refl
    one (Some o) = refl

-- Rows that are changed.

leased-places : (rows : List Row) (lease : Option LeasedRun) → places_in (with_lease rows lease) ≡ places_in rows
leased-places rows None = refl
leased-places rows (Some l) =
    map-set_same (λ (row : Row). row.place) rows (l.search - 1) (one_more (get_or rows (l.search - 1) blank)) blank refl

unleased-places : (rows : List Row) (lease : Option LeasedRun) → places_in (without_lease rows lease) ≡ places_in rows
unleased-places rows None = refl
unleased-places rows (Some l) =
    map-set_same (λ (row : Row). row.place) rows (l.search - 1) (one_less (get_or rows (l.search - 1) blank)) blank refl

opened-places : (rows : List Row) (x : Option Opening) (place : ℕ) →
    places_in (with_row rows (is_some x) place) ≡ places_in rows ++ cons_option (place_of x place) []
opened-places rows None place = sym (append-nil (places_in rows))
opened-places rows (Some o) place = map-append (λ (row : Row). row.place) rows (record { place = place; leases = 0 } ∷ [])

pub pushed-places : (H : List Entry) (e : Entry) (rows : List Row) (lease : Option LeasedRun) (place : ℕ) → place ≡ length H →
    places_in rows ≡ opening_places 0 H →
    places_in (with_row (with_lease rows lease) (is_some (opening_in e.what)) place) ≡ opening_places 0 (H ++ e ∷ [])
pushed-places H e rows lease place at are =
    let from_start : length H ≡ 0 + length H = omega arith in
    opened-places (with_lease rows lease) (opening_in e.what) place
    ∙ ap (λ (ps : List ℕ). ps ++ cons_option (place_of (opening_in e.what) place) []) (leased-places rows lease ∙ are)
    ∙ ap (λ (n : ℕ). opening_places 0 H ++ cons_option (place_of (opening_in e.what) n) []) (at ∙ from_start)
    ∙ sym (places-grow 0 H e)

-- One entry less.

front : (xs ys : List ℕ) (y : ℕ) → xs ≡ ys ++ y ∷ [] → take (length xs - 1) xs ≡ ys
front xs ys y same =
    let long : length (ys ++ y ∷ []) ≡ length ys + 1 = length-append ys (y ∷ []) in
    let less : length xs - 1 ≡ length ys = omega (arith, long, ap length same) in
    ap (take (length xs - 1)) same
    ∙ ap (λ (n : ℕ). take n (ys ++ y ∷ [])) less
    ∙ take-append_seam ys (y ∷ [])

closed-places : (rows : List Row) (x : Option Opening) (ps : List ℕ) (place : ℕ) →
    places_in rows ≡ ps ++ cons_option (place_of x place) [] → places_in (without_row rows (is_some x)) ≡ ps
closed-places rows None ps place are = are ∙ append-nil ps
closed-places rows (Some o) ps place are =
    let long : length (places_in rows) ≡ length rows = length-map rows (λ (row : Row). row.place) in
    sym (take-map (λ (row : Row). row.place) (length rows - 1) rows)
    ∙ ap (λ (n : ℕ). take (n - 1) (places_in rows)) (sym long)
    ∙ front (places_in rows) ps place are

pub popped-places : (G : List Entry) (e : Entry) (rows : List Row) (lease : Option LeasedRun) →
    places_in rows ≡ opening_places 0 (G ++ e ∷ []) →
    places_in (without_row (without_lease rows lease) (is_some (opening_in e.what))) ≡ opening_places 0 G
popped-places G e rows lease are =
    closed-places (without_lease rows lease) (opening_in e.what) (opening_places 0 G) (0 + length G)
    (unleased-places rows lease ∙ are ∙ places-grow 0 G e)

-- how many rows there are
pub rows-count : (H : List Entry) (rows : List Row) → places_in rows ≡ opening_places 0 H → length rows ≡ length (openings H)
rows-count H rows are =
    sym (length-map rows (λ (row : Row). row.place)) ∙ ap length are ∙ places-count 0 H

-- What stands at a place.

pub record IsAt (H : List Entry) (a place : ℕ) (o : Opening) : Type 0 where
  pub index : ℕ
  pub at : place ≡ a + index
  pub below : index < length H
  pub opens : (d : Entry) → opening_in (get_or H index d).what ≡ Some o

is-later : (e : Entry) (H : List Entry) (a place : ℕ) (o : Opening) → IsAt H (a + 1) place o → IsAt (e ∷ H) a place o
is-later e H a place o is = record {
  index = suc is.index;
  at = omega (arith, is.at);
  below = omega (arith, is.below);
  opens = is.opens;
}

pub place-at : (a : ℕ) (H : List Entry) (k : ℕ) (o : Opening) → k < length (openings H) → get_or (openings H) k o ≡ o →
    IsAt H a (get_or (opening_places a H) k 0) o
place-at a [] k o below is = absurd (omega (arith, below))
place-at a (e ∷ H) k o below is = by (opening_in e.what) k refl below is (λ j low same. place-at (a + 1) H j o low same)
  where
    by : (x : Option Opening) (k : ℕ) → opening_in e.what ≡ x → k < length (cons_option x (openings H)) →
        get_or (cons_option x (openings H)) k o ≡ o →
        ((j : ℕ) → j < length (openings H) → get_or (openings H) j o ≡ o → IsAt H (a + 1) (get_or (opening_places (a + 1) H) j 0) o) →
        IsAt (e ∷ H) a (get_or (cons_option (place_of x a) (opening_places (a + 1) H)) k 0) o
    by None k opens low same later = is-later e H a _ o (later k low same)
    by (Some y) zero opens low same later = record {
      index = 0;
      at = omega arith;
      below = omega arith;
      opens = λ d. opens ∙ ap Some same;
    }
    by (Some y) (suc k) opens low same later = is-later e H a _ o (later k (omega (arith, low)) same)
