-- What reading an input to its end gives.
use Rattle.std.specs.Prelude.{◌≡◌, ◌<◌, ℕ, List, [], length, Option}
use Rattle.std.specs.Option.{ForSome}
use Rattle.std.specs.Io.KnownBytes.{prepend_known}
use Rattle.link_io.specs.declared.source.TheConstants.{INPUT_LIMIT}

-- these bytes were left before, none are left after, and they are fewer than the limit
pub record WasRead (before after : Option (List ℕ)) (bytes : List ℕ) : Type 0 where
  pub taken : before ≡ prepend_known bytes after
  pub ended : ForSome after (λ rest. rest ≡ [])
  pub few : length bytes < INPUT_LIMIT
