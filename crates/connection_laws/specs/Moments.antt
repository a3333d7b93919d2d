-- What is given to a connection from outside: the moments of its commands, and the counts of its farm's disk.
use Rattle.std.specs.Prelude.{ℕ, ◌≡◌, Option, ⊤}
use Rattle.std.specs.Option.{ForSome}
use Rattle.farm_types.specs.declared.moment.Moment.{Moment}
use Rattle.link_io.specs.declared.clock.Clock as clock

-- the moment is the one that the clock shows, where it tells that
abbrev pub IsTold : Option Moment → Moment → Type 0
IsTold told at = ForSome told (λ one. at ≡ one)

-- The clock may give the moment: it may show it, and it is the one that the clock shows, where it tells that.
abbrev pub MayGive : {C : Type 0} → clock.Ghosts C → C → Moment → Type 0
MayGive C c at = C.shows c at × IsTold (C.told c) at

-- a disk may have this count of faults: one of its type has
pub record MayCount {D : Type 0} (count : D → ℕ) (faults : ℕ) : Type 0 where
  pub disk : D
  pub is : count disk ≡ faults

-- what is given: the moment of a command, or a count of the disk's faults
pub data Given : Type 0 where
  at_moment : Moment → Given
  at_count : (faults : ℕ) → Given

-- by moments and counts that may be given
abbrev pub given_by : (Moment → Type 0) → (ℕ → Type 0) → Given → Type 0
given_by moments counts (at_moment at) = moments at
given_by moments counts (at_count faults) = counts faults

-- by a clock, and by a disk of which this is the count
abbrev pub GivenBy : {C D : Type 0} → clock.Ghosts C → C → (count : D → ℕ) → Given → Type 0
GivenBy C c count = given_by (MayGive C c) (MayCount count)

-- by moments that may be given, and any count
abbrev pub with_counts : (Moment → Type 0) → Given → Type 0
with_counts moments = given_by moments (λ _. ⊤)
