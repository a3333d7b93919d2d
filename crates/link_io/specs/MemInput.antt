-- What contracts see of an input in memory.
use Rattle.std.specs.Prelude.{ℕ, List, [], Bool, false}

-- the bytes that are left and those that were taken, whether the last take answered that the input has ended, and the
-- sizes of the pieces that the bytes are given in
pub record InputInMemory : Type 0 where
  pub left : List ℕ
  pub taken : List ℕ
  pub ended : Bool
  pub pieces : List ℕ

-- an input of which nothing was taken yet
abbrev pub fresh_input : List ℕ → List ℕ → InputInMemory
fresh_input bytes pieces = record { left = bytes; taken = []; ended = false; pieces = pieces }
