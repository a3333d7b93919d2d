-- What a counter of steps is opened on.
use Rattle.std.specs.Prelude.{◌≡◌, ◌≤◌, ℕ}
use Rattle.std.specs.declared.sync.ledger.Blank.{Blank}

-- a blank can count for the ledger of this name, which has so many parts
pub record CanCount (blank : Blank) (name parts : ℕ) : Type 0 where
  pub named : blank.name ≡ name
  pub cut : blank.parts ≡ parts
  pub some : 1 ≤ parts
