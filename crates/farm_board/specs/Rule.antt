-- The rule of a board's row, which holds between any two steps of all threads together. One seat posts: it makes the
-- version odd, writes the numbers, and makes the version even again.
use Rattle.std.specs.Prelude.{◌≡◌, ◌<◌, ◌≤◌, ◌+◌, ◌%◌, ◌⊎◌, ℕ, List, [], length, slice_index, true, false, IfSome}
use mathlib.Core.Option.{some}
use lib.ListN.{get_elem?}
use Rattle.atomic_table.specs.Table.{State}
use Rattle.farm_entry.specs.Legal.{IsLegal}
use Rattle.farm_entry.specs.declared.entry.Entry.{Entry}
use Rattle.common_types.specs.Prefix.{IsPrefix}
use Rattle.farm_board.specs.declared.row.TheConstants.{NUMBERS, VERSION}
use Rattle.farm_board.specs.declared.row.View.{View}

abbrev pub version_of : {S : Type 0} → State S View → ℕ
version_of s = slice_index s.words VERSION

-- a seat has a view
abbrev pub At : {S : Type 0} → State S View → ℕ → View → Type 0
At s seat v = get_elem? s.views seat ≡ some v

-- a history is legal, or the one before the first post
abbrev pub IsPosted : List Entry → Type 0
IsPosted H = (H ≡ []) ⊎ IsLegal H

-- what a seat has seen begins with what each of two seats had that it was made from, where it isn't told that yet
abbrev pub IsJoined : View → Type 0
IsJoined v = IfSome v.joined (λ two. IsPrefix two.0 v.seen × IsPrefix two.1 v.seen)

module _ (number : List Entry → ℕ → ℕ) where
  -- numbers are those of a history's row, as far as they go
  abbrev pub AreOf : List Entry → List ℕ → Type 0
  AreOf H numbers = (k : ℕ) → k < length numbers → slice_index numbers k ≡ number H k

  -- what a seat in the middle of a look knows, at this version and with the totals of that history posted: unless a
  -- post came between, the numbers that it has read are those of the history
  pub record IsReading (version : ℕ) (posted : List Entry) (v : View) : Type 0 where
    pub even : v.version % 2 ≡ 0
    pub past : v.version ≤ version
    pub begins : IsPrefix v.seen v.at
    pub legal : IsPosted v.at
    pub same : v.version ≡ version → (v.at ≡ posted) × AreOf v.at v.numbers

  pub record IsKept {S : Type 0} (s : State S View) : Type 0 where
    pub words : length s.words ≡ NUMBERS + 1
    -- the one seat that posts
    pub poster : ℕ
    pub view : View
    pub at : At s poster view
    pub posts : view.posts ≡ true
    pub only : (seat : ℕ) (v : View) → At s seat v → v.posts ≡ true → seat ≡ poster
    pub version : view.version ≡ version_of s
    pub legal : IsPosted view.seen
    -- it has seen what each seat has seen
    pub seen : (seat : ℕ) (v : View) → At s seat v → IsPrefix v.seen view.seen
    -- between two posts the row is that of its history
    pub rest : view.writes ≡ false
        → (version_of s % 2 ≡ 0) × ((k : ℕ) → k < NUMBERS → slice_index s.words (k + 1) ≡ number view.seen k)
    -- and in a post it is what the seat that posts knows
    pub work : view.writes ≡ true
        → (version_of s % 2 ≡ 1) ×
        ((k : ℕ) → k < length view.numbers → slice_index s.words (k + 1) ≡ slice_index view.numbers k)
    pub reading : (seat : ℕ) (v : View) → At s seat v → v.reads ≡ true → IsReading (version_of s) view.seen v
    pub joined : (seat : ℕ) (v : View) → At s seat v → IsJoined v
