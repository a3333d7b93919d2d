-- The totals of a history as a row of numbers.
use Rattle.std.specs.Prelude.{ℕ, List, [], ◌∷◌, slice_index}
use Rattle.farm_entry.specs.Pages.{totals}
use Rattle.farm_entry.specs.declared.entry.Entry.{Entry}
use Rattle.farm_entry.specs.declared.reply.Totals.{Totals}

-- totals as numbers, in the order of their fields
abbrev pub numbers_of : Totals → List ℕ
numbers_of t =
    t.entries ∷ t.searches ∷ t.searching ∷ t.verifying ∷ t.confirmed ∷ t.ended ∷ t.counted ∷ t.orders ∷ []

-- the row of a history's totals
abbrev pub row_of : List Entry → List ℕ
row_of H = numbers_of (totals H)

-- the number at a place in the row of a history's totals
abbrev pub number_of : List Entry → ℕ → ℕ
number_of H place = slice_index (row_of H) place

-- numbers as totals
abbrev pub totals_from : List ℕ → Totals
totals_from numbers = record {
  entries = slice_index numbers 0;
  searches = slice_index numbers 1;
  searching = slice_index numbers 2;
  verifying = slice_index numbers 3;
  confirmed = slice_index numbers 4;
  ended = slice_index numbers 5;
  counted = slice_index numbers 6;
  orders = slice_index numbers 7;
}
