-- Where a list of entries stops being a history that a farm can have.
use Rattle.std.specs.Prelude.{◌≡◌, ℕ, ◌+◌, ◌⊎◌, List, take, Option, Some, None}
use Rattle.farm_entry.specs.Legal.{IsLegal}
use Rattle.farm_entry.specs.declared.entry.Entry.{Entry}

-- A list stops being legal at a place: the entries before it, if there are any, are a legal history, and with the entry
-- at the place they are not. An empty list stops at once
pub record StopsAt (list : List Entry) (place : ℕ) : Type 0 where
  pub before : (place ≡ 0) ⊎ IsLegal (take place list)
  pub here : ¬ IsLegal (take (place + 1) list)

-- what is said of a list: that it is legal, or at which place it stops being so
abbrev pub IsFirstIllegal : List Entry → Option ℕ → Type 0
IsFirstIllegal list None = IsLegal list
IsFirstIllegal list (Some place) = StopsAt list place × ¬ IsLegal list
