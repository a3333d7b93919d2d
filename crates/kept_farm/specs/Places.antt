-- Where the orders stand in a history.
use Rattle.std.specs.Prelude.{ℕ, ◌+◌, ◌-◌, Bool, true, false, List, [], ◌∷◌, ◌++◌, length, slice_get, take, Option}
use Rattle.std.specs.List.{cons_option, filter_map}
use Rattle.std.specs.Option.{option_and_then, option_map}
use Rattle.farm_entry.specs.History.{order_in}
use Rattle.farm_entry.specs.declared.entry.Entry.{Entry}
use Rattle.farm_entry.specs.declared.order_page.OrderLine.{OrderLine}

-- the places of the entries that record an order, where the list begins at a place
abbrev pub order_places : (place : ℕ) → List Entry → List ℕ
order_places place [] = []
order_places place (e ∷ H) = cons_option (option_map (λ line. place) (order_in e.what)) (order_places (place + 1) H)

-- the order that the entry at a place records
abbrev pub line_at : List Entry → (place : ℕ) → Option OrderLine
line_at H place = option_and_then (λ e. order_in e.what) (slice_get H place)

-- the orders that the entries at these places record
abbrev pub lines_at : List Entry → (places : List ℕ) → List OrderLine
lines_at H places = filter_map (line_at H) places

-- What appending an entry makes of the places, and what is left where it is taken away.

abbrev pub with_place : List ℕ → (is_order : Bool) → (place : ℕ) → List ℕ
with_place places false place = places
with_place places true place = places ++ place ∷ []

abbrev pub without_place : List ℕ → (is_order : Bool) → List ℕ
without_place places false = places
without_place places true = take (length places - 1) places
