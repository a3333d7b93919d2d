-- What is kept beside each entry of a history.
use Rattle.std.specs.Prelude.{◌≡◌, ℕ, ◌+◌, ◌<◌, List, length, take, slice_get, Some}
use Rattle.farm_entry.specs.declared.entry.Entry.{Entry}

-- beside each entry stands what a function gives of the history up to it and with it
pub record AreBeside {X : Type 0} (gives : List Entry → X) (H : List Entry) (kept : List X) : Type 0 where
  pub as_many : length kept ≡ length H
  pub each : (k : ℕ) → k < length H → slice_get kept k ≡ Some (gives (take (k + 1) H))
