-- The chains of the table: of each bucket, its items from the newest to the oldest.
use Rattle.std.specs.Prelude.{ℕ, zero, suc, ◌≡◌, ◌≢◌, ◌<◌, ◌≤◌, ◌+◌, cond, nat_eq, List, length, get_or}
use Rattle.search_books.specs.Bucket.{home_of}
use Rattle.search_books.specs.declared.key_chains.Item.{Item}

-- no item
abbrev pub blank : Item
blank = record { key = 0; place = 0; below = 0 }

-- the bucket of each item by its index
abbrev pub homes : ℕ → List Item → ℕ → ℕ
homes size items i = home_of size (get_or items i blank).key

-- one more than the greatest index below n whose bucket is b, and 0 where there is none
abbrev pub top : (ℕ → ℕ) → ℕ → ℕ → ℕ
top h b zero = 0
top h b (suc n) = cond (nat_eq (h n) b) (suc n) (top h b n)

-- Each pointer leads to the next item of its bucket, where h tells the buckets. What leads on from the item `skip`
-- isn't said
pub record IsLinked (h : ℕ → ℕ) (skip : ℕ) (heads : List ℕ) (items : List Item) : Type 0 where
  pub head : (b : ℕ) → b < length heads → get_or heads b 0 ≡ top h b (length items)
  pub below : (i : ℕ) → i < length items → i ≢ skip → (get_or items i blank).below ≡ top h (h i) i
  pub home : (i : ℕ) → i < length items → i ≢ skip → h i < length heads

-- each pointer leads to the next item of its bucket
abbrev pub IsWhole : List ℕ → List Item → Type 0
IsWhole heads items = IsLinked (homes (length heads) items) (length items) heads items

-- each pointer leads down
pub record IsDown (heads : List ℕ) (items : List Item) : Type 0 where
  pub head : (b : ℕ) → b < length heads → get_or heads b 0 ≤ length items
  pub below : (i : ℕ) → i < length items → (get_or items i blank).below ≤ i

-- The pointer of bucket b's chain that leads to an index up to `at`: the head where above is 0, else that of the item
-- above - 1
pub record IsAbove (h : ℕ → ℕ) (b at n above next : ℕ) : Type 0 where
  pub from_head : above ≡ 0 → next ≡ top h b n
  pub from_item : (m : ℕ) → above ≡ m + 1 → (at < m) × (m < n) × (h m ≡ b) × (next ≡ top h b m)

-- h and k tell the same buckets but of the item `at`, and there nothing but bucket b, or none of `size`
pub record IsMoved (h k : ℕ → ℕ) (at b size : ℕ) : Type 0 where
  pub others : (i : ℕ) → i ≢ at → k i ≡ h i
  pub before : h at ≢ b → size ≤ h at
  pub after : k at ≢ b → size ≤ k at
