-- The rows of the book: of each search, a chain of leases from the newest to the oldest, with all that wait for an
-- answer.
use Rattle.std.specs.Prelude.{ℕ, zero, suc, ◌≡◌, ◌≢◌, ◌<◌, ◌≤◌, ◌+◌, cond, nat_eq, Bool, true, false, List, [], ◌∷◌, length, map, get_or}
use Rattle.farm_types.specs.declared.stage.Stage.TheVariants.{Search}
use Rattle.search_books.specs.Leases.{Held}
use Rattle.search_books.specs.declared.lease.Lease.{Lease}
use Rattle.search_books.specs.declared.lease_chains.Row.{Row}

-- what a row keeps beside its pointer
pub record Kept : Type 0 where
  pub lease : Lease
  pub is_answered : Bool
  pub is_linked : Bool
  pub greatest : ℕ

abbrev pub kept_of : Row → Kept
kept_of row = record {
  lease = row.lease;
  is_answered = row.is_answered;
  is_linked = row.is_linked;
  greatest = row.greatest;
}

abbrev pub kepts : List Row → List Kept
kepts rows = map kept_of rows

abbrev pub held_of : Kept → Held
held_of kept = record { lease = kept.lease; is_answered = kept.is_answered }

-- the leases that rows stand for
abbrev pub helds : List Kept → List Held
helds kept = map held_of kept

-- no lease
abbrev pub no_lease : Lease
no_lease = record { run = 0; search = 0; stage = Search; position = 0; deadline = 0 }

-- no row
abbrev pub blank : Row
blank = record { lease = no_lease; is_answered = false; is_linked = false; greatest = 0; below = 0 }

abbrev pub none : Kept
none = kept_of blank

-- a row's marks, written anew
abbrev pub with_marks : (is_answered is_linked : Bool) → Kept → Kept
with_marks told linked kept =
    record { lease = kept.lease; is_answered = told; is_linked = linked; greatest = kept.greatest }

-- what is kept, where the row at an index has these marks
abbrev pub kept_marked : (is_answered is_linked : Bool) → (index : ℕ) → List Kept → List Kept
kept_marked told linked index [] = []
kept_marked told linked zero (kept ∷ rest) = with_marks told linked kept ∷ rest
kept_marked told linked (suc index) (kept ∷ rest) = kept ∷ kept_marked told linked index rest

-- the chain of a row: one more than its search where it is linked, else 0, which is no chain
abbrev pub chain_of : Kept → ℕ
chain_of kept = cond kept.is_linked (suc kept.lease.search) 0

-- the chain of each row by its index
abbrev pub chains : List Kept → ℕ → ℕ
chains kept i = chain_of (get_or kept i none)

-- one more than the greatest index below n in chain b, and 0 where there is none
abbrev pub top : (ℕ → ℕ) → ℕ → ℕ → ℕ
top h b zero = 0
top h b (suc n) = cond (nat_eq (h n) b) (suc n) (top h b n)

-- Each pointer leads to the next row of its chain, where h tells the chains. What leads on from the row `skip`, and
-- from rows in no chain, isn't said
pub record IsLinked (h : ℕ → ℕ) (skip : ℕ) (heads : List ℕ) (rows : List Row) : Type 0 where
  pub head : (s : ℕ) → s < length heads → get_or heads s 0 ≡ top h (suc s) (length rows)
  pub below : (i : ℕ) → i < length rows → i ≢ skip → h i ≢ 0 → (get_or rows i blank).below ≡ top h (h i) i

-- each pointer leads to the next row of its chain
abbrev pub IsWhole : List ℕ → List Row → Type 0
IsWhole heads rows = IsLinked (chains (kepts rows)) (length rows) heads rows

-- The pointer of chain b that leads to an index up to `at`: the head where above is 0, else that of the row above - 1
pub record IsAbove (h : ℕ → ℕ) (b at n above next : ℕ) : Type 0 where
  pub from_head : above ≡ 0 → next ≡ top h b n
  pub from_row : (m : ℕ) → above ≡ m + 1 → (at < m) × (m < n) × (h m ≡ b) × (next ≡ top h b m)

-- h and k tell the same chains but of the row `at`, and there nothing but chain b, or none
pub record IsMoved (h k : ℕ → ℕ) (at b : ℕ) : Type 0 where
  pub others : (i : ℕ) → i ≢ at → k i ≡ h i
  pub before : h at ≢ b → h at ≡ 0
  pub after : k at ≢ b → k at ≡ 0

-- what waits for an answer is linked
abbrev pub AreWaiting : List Kept → Type 0
AreWaiting kept =
    (i : ℕ) → i < length kept → (get_or kept i none).is_answered ≡ false → (get_or kept i none).is_linked ≡ true

-- no deadline up to a row is later than the row says
abbrev pub AreTimed : List Kept → Type 0
AreTimed kept =
    (k i : ℕ) → k ≤ i → i < length kept → (get_or kept k none).lease.deadline ≤ (get_or kept i none).greatest

-- what is kept of leases: runs are numbered from 1, and searches are below a bound
pub record AreKept (kept : List Kept) (bound : ℕ) : Type 0 where
  pub numbered : (i : ℕ) → i < length kept → (get_or kept i none).lease.run ≡ i + 1
  pub searches : (i : ℕ) → i < length kept → (get_or kept i none).lease.search < bound
  pub waiting : AreWaiting kept
  pub timed : AreTimed kept

-- what holds of a book
pub record IsBook (heads : List ℕ) (rows : List Row) (capacity : ℕ) : Type 0 where
  pub linked : IsWhole heads rows
  pub kept : AreKept (kepts rows) (length heads)
  pub fits : length rows ≤ capacity
