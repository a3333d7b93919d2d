-- What is held of one connection.
use Rattle.std.specs.Prelude.{ℕ, ◌≡◌, ◌⊎◌, Bool, true, false, List, ◌++◌, length}
use Rattle.connection_laws.specs.Moments.{Given}
use Rattle.http_requests.specs.Fronts.{Opens}
use Rattle.http_requests.specs.Items.{Item, Items, End, closed}
use Rattle.link_io.specs.declared.source.TheConstants.{INPUT_LIMIT}
use Rattle.common_types.specs.Prefix.{IsPrefix}
use Rattle.connection_laws.specs.Answers.{transcript}
use Rattle.connection_laws.specs.Progress.{Progress, progress_after, progress_at, IsWithin}
use Rattle.connection_laws.specs.Marks.{Mark}
use Rattle.connection_laws.specs.Outcomes.{Step}
use Rattle.connection_laws.specs.Steps.{AreSteps}
use Rattle.connection_laws.specs.Told.{AreSaid, Saying, if_put}

-- a connection closes whatever follows its bytes: all longer bytes have the same items
pub record StaysClosed (taken : List ℕ) (items : List Item) (end : End) : Type 0 where
  pub closes : end ≡ closed
  pub stays : (more : List ℕ) → Items (taken ++ more) items closed

-- no more had to be taken: the input was read to its end or to its limit, or the connection closes whatever follows
abbrev pub IsReadOut : List ℕ → List Item → End → Bool → Type 0
IsReadOut taken items end ended = (ended ≡ true) ⊎ ((length taken ≡ INPUT_LIMIT) ⊎ StaysClosed taken items end)

-- all items of what was taken were answered, and nothing else was put
pub record IsWhole (taken put : List ℕ) (ended : Bool) (items : List Item) (steps : List Step) : Type 0 where
  pub end : End
  pub items_are : Items taken items end
  pub read : IsReadOut taken items end ended
  pub put_is : put ≡ transcript items steps

-- what was put is a prefix of the answers to all items of what was taken
pub record IsPart (taken put : List ℕ) (items : List Item) (steps : List Step) : Type 0 where
  pub end : End
  pub items_are : Items taken items end
  pub begins : IsPrefix put (transcript items steps)

-- the whole is meant, or a prefix
abbrev pub IsPut : (whole : Bool) → List ℕ → List ℕ → Bool → List Item → List Step → Type 0
IsPut true taken put ended items steps = IsWhole taken put ended items steps
IsPut false taken put ended items steps = IsPart taken put items steps

-- What is held of a connection, from what its pass and its reader knew at entry: there are items, and what they came
-- to, within what is seen at exit; and of each answer of which a byte was put this is said.
pub record HeldFrom (start : Progress) (final : Mark) (gives : Given → Type 0) (said : Saying) (taken put : List ℕ)
    (ended whole : Bool) : Type 0 where
  pub items : List Item
  pub steps : List Step
  pub are_steps : AreSteps gives start items steps
  pub ends : IsWithin (progress_after start steps) final
  pub is_put : IsPut whole taken put ended items steps
  pub told : AreSaid (if_put (length put) said) 0 items steps

-- What is held of a connection, from a history and a count at entry to those at exit.
abbrev pub Held : (start final : Mark) → (Given → Type 0) → Saying → (taken put : List ℕ) → (ended whole : Bool)
    → Type 0
Held start final gives said taken put ended whole = HeldFrom (progress_at start) final gives said taken put ended whole

-- what a connection has come to between two items: each item so far was answered whole, and none of them closes
pub record IsSoFar (start : Progress) (gives : Given → Type 0) (said : Saying) (taken put : List ℕ) (items : List Item)
    (steps : List Step) : Type 0 where
  pub opens : Opens taken items
  pub are_steps : AreSteps gives start items steps
  pub put_is : put ≡ transcript items steps
  pub told : AreSaid said 0 items steps
