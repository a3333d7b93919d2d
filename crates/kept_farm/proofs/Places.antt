-- The places of the orders, where the history grows by an entry or loses its last, and the orders that stand there.
use Rattle.std.proofs.Common.{◌≡◌, ℕ, suc, ◌+◌, ◌-◌, ◌<◌, List, [], ◌∷◌, ◌++◌, length, get_or, slice_get, take, Option, Some, None, refl, sym, ap, ◌∙◌, append-nil, arith, length-append}
use Rattle.std.specs.List.{cons_option}
use Rattle.std.specs.Option.{is_some, option_and_then, option_map}
use Rattle.std.proofs.lemmas.List.{take_more}
use Rattle.std.proofs.lemmas.List.Elements.{filter_map-append}
use Rattle.std.proofs.Math.Seq.{take-append_seam}
use Rattle.farm_entry.specs.History.{order_in, order_lines}
use Rattle.farm_entry.specs.declared.entry.Entry.{Entry}
use Rattle.farm_entry.specs.declared.order_page.OrderLine.{OrderLine}
use Rattle.kept_farm.specs.Places.{line_at, lines_at, order_places, with_place, without_place}

-- the place of an order, if there is one
abbrev pub place_of : Option OrderLine → ℕ → Option ℕ
place_of x place = option_map (λ (line : OrderLine). place) x

cons-append : {X : Type 0} (x : Option X) (xs ys : List X) → cons_option x (xs ++ ys) ≡ cons_option x xs ++ ys
cons-append None xs ys = refl
cons-append (Some x) xs ys = refl

-- One entry more.

places-grow : (a : ℕ) (H : List Entry) (e : Entry) →
    order_places a (H ++ e ∷ []) ≡ order_places a H ++ cons_option (place_of (order_in e.what) (a + length H)) []
places-grow a [] e =
    let here : a ≡ a + 0 = omega arith in ap (λ (n : ℕ). cons_option (place_of (order_in e.what) n) []) here
places-grow a (f ∷ H) e =
    let first = place_of (order_in f.what) a in
    let rest = order_places (a + 1) H in
    let next : a + 1 + length H ≡ a + length (f ∷ H) = omega arith in
    ap (cons_option first) (places-grow (a + 1) H e)
    ∙ cons-append first rest (cons_option (place_of (order_in e.what) (a + 1 + length H)) [])
    ∙ ap (λ (n : ℕ). cons_option first rest ++ cons_option (place_of (order_in e.what) n) []) next

put-place : (places : List ℕ) (x : Option OrderLine) (place : ℕ) →
    with_place places (is_some x) place ≡ places ++ cons_option (place_of x place) []
put-place places None place = sym (append-nil places)
put-place places (Some line) place = refl

pub pushed-places : (H : List Entry) (e : Entry) (places : List ℕ) (place : ℕ) → place ≡ length H →
    places ≡ order_places 0 H → with_place places (is_some (order_in e.what)) place ≡ order_places 0 (H ++ e ∷ [])
pushed-places H e places place at are =
    let from_start : length H ≡ 0 + length H = omega arith in
    put-place places (order_in e.what) place
    ∙ ap (λ (ps : List ℕ). ps ++ cons_option (place_of (order_in e.what) place) []) are
    ∙ ap (λ (n : ℕ). order_places 0 H ++ cons_option (place_of (order_in e.what) n) []) (at ∙ from_start)
    ∙ sym (places-grow 0 H e)

-- One entry less.

front : (xs ys : List ℕ) (y : ℕ) → xs ≡ ys ++ y ∷ [] → take (length xs - 1) xs ≡ ys
front xs ys y same =
    let long : length (ys ++ y ∷ []) ≡ length ys + 1 = length-append ys (y ∷ []) in
    let less : length xs - 1 ≡ length ys = omega (arith, long, ap length same) in
    ap (take (length xs - 1)) same
    ∙ ap (λ (n : ℕ). take n (ys ++ y ∷ [])) less
    ∙ take-append_seam ys (y ∷ [])

take-place : (places ps : List ℕ) (x : Option OrderLine) (place : ℕ) →
    places ≡ ps ++ cons_option (place_of x place) [] → without_place places (is_some x) ≡ ps
take-place places ps None place are = are ∙ append-nil ps
take-place places ps (Some line) place are = front places ps place are

pub popped-places : (G : List Entry) (e : Entry) (places : List ℕ) → places ≡ order_places 0 (G ++ e ∷ []) →
    without_place places (is_some (order_in e.what)) ≡ order_places 0 G
popped-places G e places are =
    take-place places (order_places 0 G) (order_in e.what) (0 + length G) (are ∙ places-grow 0 G e)

-- What stands there.

-- a list that begins at a place of the history has its orders at the places from there on
lines-from : (G : List Entry) (a : ℕ) (H : List Entry) → ((k : ℕ) → slice_get G (a + k) ≡ slice_get H k) →
    lines_at G (order_places a H) ≡ order_lines H
lines-from G a [] stands = refl
lines-from G a (e ∷ H) stands =
    let here : a + 0 ≡ a = omega arith in
    let line : line_at G a ≡ order_in e.what =
    ap (λ (k : ℕ). line_at G k) (sym here) ∙ ap (option_and_then (λ (x : Entry). order_in x.what)) (stands 0) in
    let later : lines_at G (order_places (a + 1) H) ≡ order_lines H =
    lines-from G (a + 1) H (λ k. (let next : a + 1 + k ≡ a + suc k = omega arith in
    ap (slice_get G) next ∙ stands (suc k))) in
    by (order_in e.what) line later
  where
    by : (x : Option OrderLine) → line_at G a ≡ x → lines_at G (order_places (a + 1) H) ≡ order_lines H →
        lines_at G (cons_option (place_of x a) (order_places (a + 1) H)) ≡ cons_option x (order_lines H)
    by None line later = later
    by (Some l) line later =
        ap (λ (x : Option OrderLine). cons_option x (lines_at G (order_places (a + 1) H))) line
        ∙ ap (λ (ls : List OrderLine). l ∷ ls) later

-- the orders at the first places up to one and with it
pub lines-upto : (H : List Entry) (places : List ℕ) (i : ℕ) (x : Option OrderLine) → i < length places →
    x ≡ line_at H (get_or places i 0) →
    lines_at H (take (i + 1) places) ≡ lines_at H (take i places) ++ cons_option x []
lines-upto H places i x below is =
    ap (lines_at H) (take_more places i 0 below)
    ∙ filter_map-append (line_at H) (take i places) (get_or places i 0 ∷ [])
    ∙ ap (λ (o : Option OrderLine). lines_at H (take i places) ++ cons_option o []) (sym is)

pub lines-there : (H : List Entry) (places : List ℕ) → places ≡ order_places 0 H → lines_at H places ≡ order_lines H
lines-there H places are =
    ap (lines_at H) are ∙ lines-from H 0 H (λ k. (let here : 0 + k ≡ k = omega arith in ap (slice_get H) here))
