-- The index by which the rows of a test at a commit are found: of each bucket, a chain of the places of its rows, the
-- first in front.
use Rattle.std.specs.Prelude.{ℕ, ◌≡◌, ◌≢◌, ◌<◌, ◌≤◌, ◌+◌, ◌*◌, ◌%◌, List, [], ◌∷◌, length, map, get_or}
use Rattle.test_runners.specs.Rows.{TableRow}
use Rattle.test_runners.specs.declared.index.TheConstants.{HASH_FACTOR, HASH_SIZE}

-- a hash of bytes that come after others with this hash: 31 times what was there, and the next byte, as Java hashes a
-- string
abbrev pub hash_after : (hash : ℕ) → List ℕ → ℕ
hash_after hash [] = hash
hash_after hash (b ∷ bs) = hash_after ((hash * HASH_FACTOR + b) % HASH_SIZE) bs

-- the bucket of a test at a commit among so many
abbrev pub bucket_of : (size : ℕ) → (test commit : List ℕ) → ℕ
bucket_of size test commit = hash_after (hash_after 0 commit) test % size

-- the bucket of each row
abbrev pub buckets : (size : ℕ) → List TableRow → List ℕ
buckets size rows = map (λ row. bucket_of size row.test row.commit) rows

-- the first place from this one on at which a bucket stands, or one that is past all of them
pub record IsFirst (homes : List ℕ) (bucket from at : ℕ) : Type 0 where
  pub later : from ≤ at
  pub others : (j : ℕ) → from ≤ j → j < at → get_or homes j 0 ≢ bucket
  pub there : at < length homes → get_or homes at 0 ≡ bucket

-- the chains of the rows from a place on
pub record IsLinked (homes : List ℕ) (from : ℕ) (heads next : List ℕ) : Type 0 where
  pub head : (b : ℕ) → b < length heads → IsFirst homes b from (get_or heads b 0)
  pub behind : (i : ℕ) → from ≤ i → i < length homes → IsFirst homes (get_or homes i 0) (i + 1) (get_or next i 0)
  pub count : length next ≡ length homes

-- what holds of the index of some rows
pub record IsIndex (rows : List TableRow) (heads next : List ℕ) : Type 0 where
  pub size : 0 < length heads
  pub linked : IsLinked (buckets (length heads) rows) 0 heads next
