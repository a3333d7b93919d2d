-- What the laws of items speak of.
use Rattle.std.specs.Prelude.{ℕ, ◌≡◌, true, false, List, [], ◌∷◌, ◌++◌, drop}
use Rattle.http_requests.specs.Items.{Item, IsNext}

-- the item that closes is the same whatever follows
abbrev pub IsSettled : List ℕ → List Item → Type 0
IsSettled bytes [] = ⊥
IsSettled bytes (item ∷ items) =
    (item.closes ≡ true → (more : List ℕ) → IsNext (bytes ++ more) item)
    × (item.closes ≡ false → IsSettled (drop item.size bytes) items)
