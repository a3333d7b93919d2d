-- What is found in a history, an entry at a time.
use Rattle.std.proofs.Common.{◌≡◌, ℕ, ◌+◌, ◌<◌, List, [], ◌∷◌, ◌++◌, length, map, get_or, take, Option, Some, None, refl, ap, ◌∙◌}
use Rattle.std.specs.List.{cons_option, filter_map}
use Rattle.std.specs.Option.{option_and_then, option_map}
use Rattle.std.proofs.lemmas.List.{map-append}
use Rattle.std.proofs.lemmas.List.Elements.{filter_map-append}
use Rattle.farm_entry.specs.History.{opening_in, openings, order_in, order_lines}
use Rattle.farm_entry.specs.declared.entry.Entry.{Entry}
use Rattle.farm_entry.specs.declared.opening.Opening.{Opening}
use Rattle.farm_entry.specs.declared.order_page.OrderLine.{OrderLine}
use Rattle.farm_entry.proofs.Growing.{openings-grow, order_lines-grow}
use Rattle.plain_history.proofs.Items.{take-at}

-- the openings up to a place and with it
pub openings-upto : (H : List Entry) (i : ℕ) (e : Entry) (o : Option Opening) → i < length H → e ≡ get_or H i e → opening_in e.what ≡ o →
    openings (take (i + 1) H) ≡ openings (take i H) ++ cons_option o []
openings-upto H i e o below is holds =
    ap openings (take-at H i e below is) ∙ openings-grow (take i H) e ∙ ap (λ x. openings (take i H) ++ cons_option x []) holds

-- the orders up to a place and with it
pub order_lines-upto : (H : List Entry) (i : ℕ) (e : Entry) (o : Option OrderLine) → i < length H → e ≡ get_or H i e → order_in e.what ≡ o →
    order_lines (take (i + 1) H) ≡ order_lines (take i H) ++ cons_option o []
order_lines-upto H i e o below is holds =
    ap order_lines (take-at H i e below is) ∙ order_lines-grow (take i H) e ∙ ap (λ x. order_lines (take i H) ++ cons_option x []) holds

-- what is made of the searches up to a place and with it

option-filtered : {Y : Type 0} (f : Opening → Option Y) (o : Option Opening) → filter_map f (cons_option o []) ≡ cons_option (option_and_then f o) []
option-filtered f None = refl
option-filtered f (Some o) = refl

pub made-upto : {Y : Type 0} (f : Opening → Option Y) (H : List Entry) (i : ℕ) (e : Entry) → i < length H → e ≡ get_or H i e →
    filter_map f (openings (take (i + 1) H)) ≡ filter_map f (openings (take i H)) ++ cons_option (option_and_then f (opening_in e.what)) []
made-upto f H i e below is =
    ap (filter_map f) (openings-upto H i e (opening_in e.what) below is refl)
    ∙ filter_map-append f (openings (take i H)) (cons_option (opening_in e.what) [])
    ∙ ap (λ ys. filter_map f (openings (take i H)) ++ ys) (option-filtered f (opening_in e.what))

pub option-mapped : {X Y : Type 0} (f : X → Y) (o : Option X) → map f (cons_option o []) ≡ cons_option (option_map f o) []
option-mapped f None = refl
option-mapped f (Some o) = refl

pub mapped-upto : {Y : Type 0} (f : Opening → Y) (H : List Entry) (i : ℕ) (e : Entry) → i < length H → e ≡ get_or H i e →
    map f (openings (take (i + 1) H)) ≡ map f (openings (take i H)) ++ cons_option (option_map f (opening_in e.what)) []
mapped-upto f H i e below is =
    ap (map f) (openings-upto H i e (opening_in e.what) below is refl)
    ∙ map-append f (openings (take i H)) (cons_option (opening_in e.what) [])
    ∙ ap (λ ys. map f (openings (take i H)) ++ ys) (option-mapped f (opening_in e.what))

-- what is made of the items of a list up to a place and with it
pub filtered-upto : {X Y : Type 0} (f : X → Option Y) (xs : List X) (i : ℕ) (x : X) → i < length xs → x ≡ get_or xs i x →
    filter_map f (take (i + 1) xs) ≡ filter_map f (take i xs) ++ cons_option (f x) []
filtered-upto f xs i x below is = ap (filter_map f) (take-at xs i x below is) ∙ filter_map-append f (take i xs) (x ∷ [])
