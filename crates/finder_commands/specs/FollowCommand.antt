-- What the subcommand `follow JOURNAL ADDRESS ROUNDS` does.
use Rattle.std.specs.Prelude.{◌≡◌, ◌≢◌, ◌⊎◌, ◌++◌, ℕ, Bool, true, false, List, [], ◌∷◌, Result, Ok, Err, codes, decimal}
use Rattle.farm_disk.specs.Images.{IsSettled, LeavesOnly, LeavesSinceSync}
use Rattle.farm_entry.specs.declared.entry.Entry.{Entry}
use Rattle.outside_seen.specs.Outside.{NetworkSeen, Outside, OutputSeen}
use Rattle.common_types.specs.Counts.{Rose}
use Rattle.journal_follow.specs.Taking.{Held}
use Rattle.journal_follow.specs.Following.{Follows}
use Rattle.journal_follow.specs.Shown.{IsKept, Shows, ShowsBetween}
use Rattle.journal_follow.specs.declared.fault.FollowFault.{FollowFault}
use Rattle.journal_follow.specs.declared.fault.FollowFault.TheVariants as fault
use Rattle.journal_follow.specs.declared.following.Followed.{Followed}
use Rattle.common_types.specs.Prefix.{IsPrefix}
use Rattle.finder_commands.specs.Opening.{IsNotOpened}
use Rattle.finder_commands.specs.TextPut.{TextPut}
use Rattle.finder_commands.specs.declared.status.Status.{Status}
use Rattle.finder_commands.specs.declared.status.Status.TheVariants.{Done, StoreFault, Damaged, Unborn, NetFault, Memory, Peer, Foreign}

-- whether the leader had no more, as the line says it
abbrev pub extent_word : (whole : Bool) → List ℕ
extent_word true = codes "whole"
extent_word false = codes "more"

-- the line of how far a leader was followed
abbrev pub follow_line : Followed → List ℕ
follow_line followed =
    codes "followed " ++ decimal followed.entries ++ codes " entries " ++ extent_word followed.whole ++ 10 ∷ []

-- how a call ends by why a leader was not followed on; no page is ever past the entry behind those held
abbrev pub EndsBy : FollowFault → Status → Type 0
EndsBy (fault.Gap from have) status = ⊥
EndsBy (fault.Foreign place) status = status ≡ Foreign place
EndsBy (fault.StoreFault first last) status = (before : ℕ) × (after : ℕ) × (status ≡ StoreFault before after)
EndsBy (fault.Damaged offset) status = status ≡ Damaged offset
EndsBy fault.NetFault status = status ≡ NetFault
EndsBy (fault.Peer answer) status = status ≡ Peer answer
EndsBy fault.Memory status = status ≡ Memory

-- What is said of what following came to. Where it came to an end, its line is put; else the status says why, and
-- nothing is written.
abbrev pub SaysFollow : Result Followed FollowFault → Status → OutputSeen → OutputSeen → Type 0
SaysFollow (Ok followed) status before after = TextPut (follow_line followed) status before after
SaysFollow (Err fault) status before after = EndsBy fault status × (after ≡ before)

-- A leader was followed for so many rounds by a follower that held this at first, to what it holds last, and what was
-- written of it. A fault of the network is answered only where it failed in this call.
pub record LeaderFollowed (rounds : ℕ) (status : Status) (first last : Held) (network network' : NetworkSeen)
    (before after : OutputSeen) : Type 0 where
  pub result : Result Followed FollowFault
  pub follows : Follows rounds first last network.told network'.told result
  pub says : SaysFollow result status before after
  pub net_fault : status ≡ NetFault → Rose network.faults network'.faults

-- The journal held a first history, or nothing was created there, which is the empty one; and from there a leader was
-- followed, to a last one, with what a fault of the disk left pending. No entry of the first was taken back.
--
-- At exit a read and each crash give the last history, or it with what is pending. A crash at any moment since the sync
-- with which opening begins leaves a history that begins with the first one, and of which the last one with what is
-- pending is a continuation; and so since the call's start, where the one image was then what a read gave.
pub record JournalFollowed (rounds : ℕ) (status : Status) (old new : Outside) : Type 0 where
  pub first : List Entry
  pub last : Held
  pub held : old.disk.tells ≡ true → Shows first old.disk.told.bytes
  pub followed : LeaderFollowed rounds status (record { history = first; pending = [] }) last old.network new.network
      old.output new.output
  pub longer : IsPrefix first last.history
  pub sound : old.disk.tells ≡ true → (offset : ℕ) → status ≢ Damaged offset
  pub at_exit : old.disk.tells ≡ true → IsKept last new.disk.told
  pub since_sync : old.disk.tells ≡ true
      → LeavesSinceSync old.disk.told new.disk.told (ShowsBetween (record { history = first; pending = [] }) last)
  pub any_moment : old.disk.tells ≡ true → IsSettled old.disk.told
      → LeavesOnly old.disk.told new.disk.told (ShowsBetween (record { history = first; pending = [] }) last)

-- What a status says: the journal was not opened, no connection was made and nothing was put; or a leader was followed.
-- That nothing was created is never a reason.
abbrev pub FollowEnds : (rounds : ℕ) → Status → (old new : Outside) → Type 0
FollowEnds rounds status old new =
    ((status ≢ Unborn) × IsNotOpened {V = NetworkSeen × OutputSeen} status (old.network, old.output)
    (new.network, new.output) old.disk new.disk)
    ⊎ JournalFollowed rounds status old new

-- Where neither the network nor the output nor the disk fails and memory is there, a leader is followed to an end by a
-- journal that holds a history, or where nothing was created; or the journal is none of the leader's, or what the
-- leader answers is none that followers are answered.
abbrev pub FollowCompletes : Status → (old new : Outside) → Type 0
FollowCompletes status old new =
    ¬ Rose old.network.faults new.network.faults → ¬ Rose old.output.faults new.output.faults
    → ¬ Rose old.disk.faults new.disk.faults → old.disk.tells ≡ true
    → (history : List Entry) → Shows history old.disk.told.bytes
    → (status ≡ Memory) ⊎ (status ≡ Done) ⊎ ((place : ℕ) × (status ≡ Foreign place))
    ⊎ ((answer : ℕ) × (status ≡ Peer answer))

-- what is said of a call: how it ends, and that it does its work
pub record FollowSays (rounds : ℕ) (status : Status) (old new : Outside) : Type 0 where
  pub ends : FollowEnds rounds status old new
  pub completes : FollowCompletes status old new
