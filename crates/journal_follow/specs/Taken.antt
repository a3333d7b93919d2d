-- What a follower answers to a page.
use Rattle.std.specs.Prelude.{◌≡◌, ◌≤◌, ℕ, Result, Ok, Err, ⊤}
use Rattle.common_types.specs.Counts.{Rose}
use Rattle.journal_follow.specs.Taking.{Came, foreign, gap, stored, undecided, unrepaired, unstored}
use Rattle.journal_follow.specs.declared.fault.FollowFault.{FollowFault}
use Rattle.journal_follow.specs.declared.fault.FollowFault.TheVariants.{Damaged, Foreign, Gap, Memory, StoreFault}

-- The answer, by what taking the page came to. A fault in the repair is that of the disk, or of the opening that
-- stands for it; a disk that turns out to hold something where nothing was created is damaged from its start on.
abbrev pub Answers : Came → Result ℕ FollowFault → Type 0
Answers (stored count) (Ok n) = n ≡ count
Answers (gap from have) (Err (Gap first held)) = (first ≡ from) × (held ≡ have)
Answers (foreign place) (Err (Foreign p)) = p ≡ place
Answers unrepaired (Err (StoreFault before after)) = ⊤
Answers unrepaired (Err (Damaged o)) = ⊤
Answers unrepaired (Err Memory) = ⊤
Answers undecided (Err (StoreFault before after)) = ⊤
Answers unstored (Err (Damaged o)) = o ≡ 0
Answers unstored (Err Memory) = ⊤
Answers came answer = ⊥

-- a fault of the disk tells the disk's counts before the call and after it, and the count rose
abbrev pub HasCause : {T : Type 0} → Result T FollowFault → (first last : ℕ) → Type 0
HasCause (Err (StoreFault before after)) first last = (before ≡ first) × (after ≡ last) × Rose first last
HasCause answer first last = ⊤

-- the same where the call was one of several, between these counts
abbrev pub HasCauseWithin : {T : Type 0} → Result T FollowFault → (first last : ℕ) → Type 0
HasCauseWithin (Err (StoreFault before after)) first last = (first ≤ before) × (after ≡ last) × Rose before after
HasCauseWithin answer first last = ⊤

-- no disk is found damaged that tells what it holds
abbrev pub IsSoundly : {T : Type 0} → Result T FollowFault → Type 0
IsSoundly (Err (Damaged o)) = ⊥
IsSoundly answer = ⊤

-- what holds where memory ran out
abbrev pub OnMemory : {T : Type 0} → Result T FollowFault → Type 0 → Type 0
OnMemory (Err Memory) P = P
OnMemory answer P = ⊤
