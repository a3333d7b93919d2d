-- Where keys stand, and the table that finds them.
use Rattle.std.specs.Prelude.{ℕ, refl, ◌≡◌, ◌<◌, ◌≤◌, List, map, length, get_or}
use Rattle.std.specs.Ordering.{nat_cmp}
use Rattle.std.specs.FinMap.{FinMap, from_entries, code}
use Rattle.std.specs.Coded.{Coded, code_by, coded×, coded_ℕ}
use Rattle.search_books.specs.KeyChains.{IsWhole}
use Rattle.search_books.specs.declared.key_chains.Item.{Item}

-- a map from keys to places, and how many more keys it takes without memory
pub record KeyPlaces : Type 0 where
  pub places : FinMap nat_cmp ℕ
  pub room : ℕ

-- it is stored as the pair of its fields
abbrev pub key_places_code : Coded KeyPlaces
key_places_code =
    code_by (FinMap nat_cmp ℕ × ℕ) (coded× (code coded_ℕ coded_ℕ) coded_ℕ) (λ b. (b.places, b.room))
    (λ p. record { places = p.0; room = p.1 }) (λ _. refl)

-- an item's key and place
abbrev pub entry_of : Item → ℕ × ℕ
entry_of item = (item.key, item.place)

abbrev pub entries_of : List Item → List (ℕ × ℕ)
entries_of items = map entry_of items

abbrev pub places_of : List Item → FinMap nat_cmp ℕ
places_of items = from_entries (entries_of items)

-- no two entries have one key
abbrev pub AreApart : List (ℕ × ℕ) → Type 0
AreApart entries =
    (i j : ℕ) → i < length entries → j < length entries → (get_or entries i (0, 0)).0 ≡ (get_or entries j (0, 0)).0
    → i ≡ j

-- what holds of the table
pub record IsTable (heads : List ℕ) (items : List Item) (capacity : ℕ) : Type 0 where
  pub size : 0 < capacity → 0 < length heads
  pub fits : length items ≤ capacity
  pub linked : IsWhole heads items
  pub apart : AreApart (entries_of items)

-- a table of the same entries with so many buckets and places
pub record IsGrown (old : List Item) (size : ℕ) (heads : List ℕ) (items : List Item) (capacity : ℕ) : Type 0 where
  pub buckets : length heads ≡ size
  pub places : capacity ≡ size
  pub linked : IsWhole heads items
  pub same : entries_of items ≡ entries_of old
  pub len : length items ≡ length old
