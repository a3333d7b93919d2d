-- A list whose end is taken away.
use Rattle.std.specs.Prelude.{◌≡◌, ◌≤◌, ℕ, List, length, take}
use Rattle.farm_entry.specs.declared.entry.Entry.{Entry}

-- a list is a beginning of another one, with at least a count of entries
pub record IsCutFrom (all some : List Entry) (count : ℕ) : Type 0 where
  pub enough : count ≤ length some
  pub front : take count some ≡ take count all
