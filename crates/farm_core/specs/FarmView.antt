-- What contracts see of a farm.
use Rattle.std.specs.Prelude.{List}
use Rattle.farm_entry.specs.declared.entry.Entry.{Entry}

-- the history, and the entries that may be committed next, in their order
pub record FarmView : Type 0 where
  pub history : List Entry
  pub ready : List Entry
