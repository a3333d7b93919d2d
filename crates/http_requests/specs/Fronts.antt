-- Items at the front of a connection's bytes: some of its items, from the first on.
use Rattle.std.specs.Prelude.{ℕ, ◌≡◌, ◌⊎◌, true, false, List, [], ◌∷◌, drop, ⊤}
use Rattle.http_requests.specs.Items.{Item, IsNext}

-- The items at the front, which need not be all: no item is read behind one that closes.
abbrev pub Fronts : List ℕ → List Item → Type 0
Fronts bytes [] = ⊤
Fronts bytes (item ∷ items) =
    IsNext bytes item
    × (((item.closes ≡ true) × (items ≡ [])) ⊎ ((item.closes ≡ false) × Fronts (drop item.size bytes) items))

-- the same, where none of them closes
abbrev pub Opens : List ℕ → List Item → Type 0
Opens bytes [] = ⊤
Opens bytes (item ∷ items) = IsNext bytes item × (item.closes ≡ false) × Opens (drop item.size bytes) items

-- the bytes behind these items
abbrev pub behind : List ℕ → List Item → List ℕ
behind bytes [] = bytes
behind bytes (item ∷ items) = behind (drop item.size bytes) items
