-- Lists of a history that are looked up at places: what one page of them shows.
use Rattle.std.proofs.Common.{◌≡◌, ⊎_elim, ℕ, suc, ◌+◌, ◌-◌, ◌<◌, ◌≤◌, Bool, true, false, if◌then◌else◌, List, [], ◌∷◌, ◌++◌, length, map, drop, take, find, get_or, min, slice_get, Option, Some, None, refl, sym, ap, ◌∙◌, append-nil, arith}
use Rattle.std.specs.List.{cons_option, filter_map, position, position_from, position_or_len}
use Rattle.std.specs.Option.{is_some, option_and_then, option_map}
use Rattle.std.specs.Prelude.{cond, nat_lt}
use Rattle.std.proofs.lemmas.Bool.Decides.{nat_tests}
use Rattle.std.proofs.Math.Nat.{min-eq_left, min-eq_right}
use Rattle.std.proofs.lemmas.Bool.{cases_lt}
use Rattle.std.proofs.lemmas.List.{drop-map, drop_all, take-map, take_all, take_more, take_rest}
use Rattle.std.proofs.lemmas.List.Elements.{filter_map-append}
use Rattle.std.proofs.lemmas.List.Folds.{find_at}
use Rattle.std.proofs.lemmas.Option.{slice_get_past}
use Rattle.farm_entry.specs.RunPages.{lines_from}
use Rattle.farm_entry.specs.declared.entry.Entry.{Entry}
use Rattle.farm_entry.specs.declared.limits.TheConstants.{PAGE_LINES}
use Rattle.search_books.specs.SearchRows.{first_of}

-- Parts of a list that are as long as it at most.

drop-min : {X : Type 0} (n : ℕ) (xs : List X) → drop (min n (length xs)) xs ≡ drop n xs
drop-min n xs = ⊎_elim
    (λ (within : n < length xs). ap (λ (k : ℕ). drop k xs)
    (min-eq_left {n = n} {m = length xs} (omega (arith, within))))
    (λ (past : length xs ≤ n).
    ap (λ (k : ℕ). drop k xs) (min-eq_right {n = length xs} {m = n} past)
    ∙ drop_all (length xs) xs (omega arith)
    ∙ sym (drop_all n xs past))
    (cases_lt n (length xs))

take-min : {X : Type 0} (n : ℕ) (xs : List X) → take (min (length xs) n) xs ≡ take n xs
take-min n xs = ⊎_elim
    (λ (within : n < length xs). ap (λ (k : ℕ). take k xs)
    (min-eq_right {n = n} {m = length xs} (omega (arith, within))))
    (λ (past : length xs ≤ n).
    ap (λ (k : ℕ). take k xs) (min-eq_left {n = length xs} {m = n} past)
    ∙ take_all (length xs) xs (omega arith)
    ∙ sym (take_all n xs past))
    (cases_lt n (length xs))

-- Where each look-up finds something.

found-all : {X Y : Type 0} (look : X → Option Y) (xs : List X) (ys : List Y) → map look xs ≡ map Some ys →
    filter_map look xs ≡ ys
found-all {X} {Y} look [] [] is = refl
found-all {X} {Y} look [] (y ∷ ys) is = absurd (cc)
found-all {X} {Y} look (x ∷ xs) [] is = absurd (cc)
found-all {X} {Y} look (x ∷ xs) (y ∷ ys) is =
    let first : look x ≡ Some y = cc in
    let rest : map look xs ≡ map Some ys = cc in
    ap (λ (o : Option Y). cons_option o (filter_map look xs)) first
    ∙ ap (λ (l : List Y). y ∷ l) (found-all look xs ys rest)

map-lines : {X Y : Type 0} (f : X → Y) (from : ℕ) (xs : List X) →
    lines_from from (map f xs) ≡ map f (lines_from from xs)
map-lines f from xs = ap (take PAGE_LINES) (drop-map f (from - 1) xs) ∙ take-map f PAGE_LINES (drop (from - 1) xs)

-- a page of what is found is what is found of a page
pub lines-found : {X Y : Type 0} (look : X → Option Y) (from : ℕ) (xs : List X) (ys : List Y) →
    map look xs ≡ map Some ys →
    filter_map look (lines_from from xs) ≡ lines_from from ys
lines-found look from xs ys is =
    found-all look (lines_from from xs) (lines_from from ys)
    (sym (map-lines look from xs) ∙ ap (lines_from from) is ∙ map-lines Some from ys)

-- a page as it is taken: what follows the first items, and so many of it at most
pub page-taken : {X : Type 0} (from first count : ℕ) (items : List X) → first ≡ min (from - 1) (length items) →
    count ≡ min (length (take (length items - first) (drop first items))) PAGE_LINES →
    take count (take (length items - first) (drop first items)) ≡ lines_from from items
page-taken {X} from first count items first_is count_is =
    let rest : take (length items - first) (drop first items) ≡ drop first items = take_rest items first in
    let behind : drop first items ≡ drop (from - 1) items =
    ap (λ (n : ℕ). drop n items) first_is ∙ drop-min (from - 1) items in
    ap (take count) rest
    ∙ ap (λ (n : ℕ). take n (drop first items)) (count_is ∙ ap (λ (xs : List X). min (length xs) PAGE_LINES) rest)
    ∙ take-min PAGE_LINES (drop first items)
    ∙ ap (take PAGE_LINES) behind

-- what is found up to one and with it
pub found-upto : {X Y : Type 0} (look : X → Option Y) (xs : List X) (i : ℕ) (d : X) (x : Option Y) → i < length xs →
    x ≡ look (get_or xs i d) → filter_map look (take (i + 1) xs) ≡ filter_map look (take i xs) ++ cons_option x []
found-upto {X} {Y} look xs i d x below is =
    ap (filter_map look) (take_more xs i d below)
    ∙ filter_map-append look (take i xs) (get_or xs i d ∷ [])
    ∙ ap (λ (o : Option Y). filter_map look (take i xs) ++ cons_option o []) (sym is)

-- The places of entries that pass a test.

-- in a list that begins at a place
abbrev pub places_of : (test : Entry → Bool) → (place : ℕ) → List Entry → List ℕ
places_of test place [] = []
places_of test place (e ∷ H) = if test e then place ∷ places_of test (place + 1) H else places_of test (place + 1) H

-- what is read of the entry at a place
abbrev pub read_at : {Y : Type 0} → (Entry → Option Y) → List Entry → (place : ℕ) → Option Y
read_at f G place = option_and_then f (slice_get G place)

-- what some entries make is read at their places
pub made-there : {Y : Type 0} (f : Entry → Option Y) (test : Entry → Bool) → ((e : Entry) → is_some (f e) ≡ test e) →
    (G : List Entry) (a : ℕ) (H : List Entry) → ((k : ℕ) → slice_get G (a + k) ≡ slice_get H k) →
    map (read_at f G) (places_of test a H) ≡ map Some (filter_map f H)
made-there {Y} f test is G a [] stands = refl
made-there {Y} f test is G a (e ∷ H) stands =
    let here : a + 0 ≡ a = omega arith in
    let this : read_at f G a ≡ f e = ap (read_at f G) (sym here) ∙ ap (option_and_then f) (stands 0) in
    by (f e) (test e) (is e) this
    (made-there f test is G (a + 1) H (λ k. (let next : a + 1 + k ≡ a + suc k = omega arith in
    ap (slice_get G) next ∙ stands (suc k))))
  where
    by : (x : Option Y) (b : Bool) → is_some x ≡ b → read_at f G a ≡ x →
        map (read_at f G) (places_of test (a + 1) H) ≡ map Some (filter_map f H) →
        map (read_at f G) (if b then a ∷ places_of test (a + 1) H else places_of test (a + 1) H)
        ≡ map Some (cons_option x (filter_map f H))
    by None false same this later = later
    by None true same this later = absurd (cc)
    by (Some y) false same this later = absurd (cc)
    by (Some y) true same this later =
        ap (λ (x : Option Y). x ∷ map (read_at f G) (places_of test (a + 1) H)) this
        ∙ ap (λ (l : List (Option Y)). Some y ∷ l) later

pub made-all : {Y : Type 0} (f : Entry → Option Y) (test : Entry → Bool) → ((e : Entry) → is_some (f e) ≡ test e) →
    (H : List Entry) → map (read_at f H) (places_of test 0 H) ≡ map Some (filter_map f H)
made-all f test is H = made-there f test is H 0 H (λ k. (let here : 0 + k ≡ k = omega arith in ap (slice_get H) here))

-- One entry more.

places-grow : (test : Entry → Bool) (a : ℕ) (H : List Entry) (e : Entry) →
    places_of test a (H ++ e ∷ []) ≡ places_of test a H ++ (if test e then (a + length H) ∷ [] else [])
places-grow test a [] e =
    let here : a ≡ a + 0 = omega arith in ap (λ (n : ℕ). if test e then n ∷ [] else []) here
places-grow test a (f ∷ H) e =
    let next : a + 1 + length H ≡ a + length (f ∷ H) = omega arith in
    by (test f) (places-grow test (a + 1) H e
    ∙ ap (λ (n : ℕ). places_of test (a + 1) H ++ (if test e then n ∷ [] else [])) next)
  where
    last : List ℕ
    last = if test e then (a + length (f ∷ H)) ∷ [] else []

    by : (b : Bool) → places_of test (a + 1) (H ++ e ∷ []) ≡ places_of test (a + 1) H ++ last →
        (if b then a ∷ places_of test (a + 1) (H ++ e ∷ []) else places_of test (a + 1) (H ++ e ∷ []))
        ≡ (if b then a ∷ places_of test (a + 1) H else places_of test (a + 1) H) ++ last
    by true later = ap (λ (l : List ℕ). a ∷ l) later
    by false later = later

pub places-more : (test : Entry → Bool) (H : List Entry) (e : Entry) → test e ≡ true →
    places_of test 0 (H ++ e ∷ []) ≡ places_of test 0 H ++ length H ∷ []
places-more test H e passes =
    let here : 0 + length H ≡ length H = omega arith in
    places-grow test 0 H e
    ∙ ap (λ (b : Bool). places_of test 0 H ++ (if b then (0 + length H) ∷ [] else [])) passes
    ∙ ap (λ (n : ℕ). places_of test 0 H ++ n ∷ []) here

pub places-same : (test : Entry → Bool) (H : List Entry) (e : Entry) → test e ≡ false →
    places_of test 0 (H ++ e ∷ []) ≡ places_of test 0 H
places-same test H e fails =
    places-grow test 0 H e
    ∙ ap (λ (b : Bool). places_of test 0 H ++ (if b then (0 + length H) ∷ [] else [])) fails
    ∙ append-nil (places_of test 0 H)

-- The first place of an entry that passes a test.

first-by : (test : Entry → Bool) (a : ℕ) (H : List Entry) (e : Entry) (b : Bool) → test e ≡ b →
    position_from test a (H ++ e ∷ [])
    ≡ (if b then first_of (position_from test a H) (a + length H) else position_from test a H)
first-by test a [] e b is = by b is
  where
    by : (b : Bool) → test e ≡ b → cond (test e) (Some a) None ≡ (if b then Some (a + 0) else None)
    by true is =
        let here : a ≡ a + 0 = omega arith in
        ap (λ (t : Bool). cond t (Some a) None) is ∙ ap (λ (n : ℕ). Some n) here
    by false is = ap (λ (t : Bool). cond t (Some a) None) is
first-by test a (f ∷ H) e b is =
    let next : a + 1 + length H ≡ a + length (f ∷ H) = omega arith in
    by (test f) b (first-by test (a + 1) H e b is
    ∙ ap (λ (n : ℕ). if b then first_of (position_from test (a + 1) H) n else position_from test (a + 1) H) next)
  where
    by : (t b : Bool) →
        position_from test (a + 1) (H ++ e ∷ [])
        ≡ (if b then first_of (position_from test (a + 1) H) (a + length (f ∷ H)) else position_from test (a + 1) H) →
        cond t (Some a) (position_from test (a + 1) (H ++ e ∷ []))
        ≡ (if b then first_of (cond t (Some a) (position_from test (a + 1) H)) (a + length (f ∷ H))
        else cond t (Some a) (position_from test (a + 1) H))
    by true true later = refl
    by true false later = refl
    by false true later = later
    by false false later = later

pub first-more : (test : Entry → Bool) (H : List Entry) (e : Entry) → test e ≡ true →
    position_from test 0 (H ++ e ∷ []) ≡ first_of (position_from test 0 H) (length H)
first-more test H e passes =
    let here : 0 + length H ≡ length H = omega arith in
    first-by test 0 H e true passes ∙ ap (first_of (position_from test 0 H)) here

pub first-same : (test : Entry → Bool) (H : List Entry) (e : Entry) → test e ≡ false →
    position_from test 0 (H ++ e ∷ []) ≡ position_from test 0 H
first-same test H e fails = first-by test 0 H e false fails

-- An element that passes a test, by its index.

pub found-at : {X : Type 0} (p : X → Bool) (xs : List X) → option_and_then (slice_get xs) (position p xs) ≡ find p xs
found-at p xs = by (nat_lt (position_or_len p xs) (length xs)) refl
  where
    by : (b : Bool) → nat_lt (position_or_len p xs) (length xs) ≡ b →
        option_and_then (slice_get xs) (cond b (Some (position_or_len p xs)) None) ≡ find p xs
    by true is = sym (find_at p xs)
    by false is =
        let past : length xs ≤ position_or_len p xs = grind (arith, nat_tests, is) in
        sym (slice_get_past xs (position_or_len p xs) past) ∙ sym (find_at p xs)
