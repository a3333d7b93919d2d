-- The table that finds an order by its commit: of each bucket, a chain of its items from the newest to the oldest.
use Rattle.std.specs.Prelude.{ℕ, zero, suc, ◌≡◌, ◌<◌, ◌≤◌, ◌+◌, ◌*◌, ◌%◌, ◌^◌, cond, nat_eq, List, length, map, get_or, slice_index, replicate, refl}
use Rattle.std.proofs.Math.Facts.{leb_yes}
use Rattle.farm_rules.specs.Orders.{Ordered, orders_of}
use Rattle.farm_types.specs.CommitId.{id_bytes}
use Rattle.farm_types.specs.declared.commit_id.CommitId.{CommitId}
use Rattle.farm_rules.specs.Book.{IsOnePerCommit, ordered}
use Rattle.farm_rules.specs.declared.order_chains.Item.{Item}

-- the bucket of a commit among so many, by the last two bytes of its id
abbrev pub home_of : ℕ → CommitId → ℕ
home_of size commit = (slice_index (id_bytes commit) 18 * 256 + slice_index (id_bytes commit) 19) % size

pub zeros-are_bytes : (count i : ℕ) → slice_index (replicate count 0) i < 256
zeros-are_bytes zero i = leb_yes tt
zeros-are_bytes (suc count) zero = leb_yes tt
zeros-are_bytes (suc count) (suc i) = zeros-are_bytes count i

-- no item
abbrev pub blank : Item
blank = record {
  commit = record { bytes = replicate 20 0; whole = refl; fits = zeros-are_bytes 20 };
  day = 0;
  below = 0;
}

-- the bucket of each item by its index
abbrev pub homes : ℕ → List Item → ℕ → ℕ
homes size items i = home_of size (get_or items i blank).commit

-- one more than the greatest index below n whose bucket is b, and 0 where there is none
abbrev pub top : (ℕ → ℕ) → ℕ → ℕ → ℕ
top h b zero = 0
top h b (suc n) = cond (nat_eq (h n) b) (suc n) (top h b n)

-- each pointer leads to the next older item of its bucket
pub record IsLinked (heads : List ℕ) (items : List Item) : Type 0 where
  pub head : (b : ℕ) → b < length heads → get_or heads b 0 ≡ top (homes (length heads) items) b (length items)
  pub below : (i : ℕ) → i < length items →
      (get_or items i blank).below ≡ top (homes (length heads) items) (homes (length heads) items i) i

-- the orders that items stand for
abbrev pub orders_in : List Item → List Ordered
orders_in items = map (λ item. ordered item.commit item.day) items

-- what holds of the table, where so many of its items were given here, and so many are of the last one's day
pub record IsTable (heads : List ℕ) (items : List Item) (given capacity last_day on_last_day : ℕ) : Type 0 where
  pub size : 0 < capacity → 0 < length heads
  pub fits : length items ≤ capacity
  pub linked : IsLinked heads items
  pub apart : IsOnePerCommit (orders_in items)
  pub few : length items < 2 ^ 32
  pub given_here : given ≤ length items
  pub counted : on_last_day ≡ orders_of last_day (orders_in items)

-- a table of the same orders with so many buckets, and room for as many items
pub record IsGrown (old : List Item) (size : ℕ) (heads : List ℕ) (items : List Item) (capacity : ℕ) : Type 0 where
  pub buckets : length heads ≡ size
  pub capacity_is : capacity ≡ size
  pub linked : IsLinked heads items
  pub same : orders_in items ≡ orders_in old
  pub len : length items ≡ length old
