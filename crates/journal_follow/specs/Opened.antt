-- What opening a follower answers.
use Rattle.std.specs.Prelude.{◌≡◌, ◌≢◌, ◌≤◌, ℕ, Bool, true, [], Result, Ok, Err}
use Rattle.farm_disk.specs.Images.{DiskState}
use Rattle.farm_journal.specs.Opened.{OpeningCause}
use Rattle.farm_journal.specs.ReadsOnly.{ReadsOnly}
use Rattle.farm_journal.specs.declared.fault.OpeningFault.{OpeningFault}
use Rattle.farm_journal.specs.declared.fault.OpeningFault.TheVariants.{Unborn}
use Rattle.farm_store.specs.Opened.{IsMissedBy}
use Rattle.journal_follow.specs.Shown.{IsKept, Shows}
use Rattle.journal_follow.specs.State.{FollowerState}

-- what opening a follower on a disk gives: the follower, or the disk again and why
abbrev pub FollowerOpening : Type 0 → Type 0
FollowerOpening D = Result FollowerState (D × OpeningFault)

module _ {D : Type 0} (tells : D → Bool) (told : D → DiskState) (count : D → ℕ) where
  -- the follower holds what the disk's bytes stand for, with nothing pending, and so does each crash from then on
  pub record IsOpened (disk : D) (follower : FollowerState) : Type 0 where
    pub same : follower.tells ≡ tells disk
    pub none : follower.held.pending ≡ []
    pub shows : tells disk ≡ true → Shows follower.held.history (told disk).bytes
    pub kept : tells disk ≡ true → IsKept follower.held follower.disk
    pub only : tells disk ≡ true → ReadsOnly (told disk) follower.disk
    pub never_falls : count disk ≤ follower.count

  -- The disk is handed back as it was, and the cause is told, which is never that nothing was created.
  pub record IsUnopened (disk again : D) (fault : OpeningFault) : Type 0 where
    pub same : tells again ≡ tells disk
    pub born : fault ≢ Unborn
    pub cause : tells disk ≡ true → IsMissedBy (told disk).bytes fault
    pub counts : OpeningCause fault (count disk) (count again)
    pub only : tells disk ≡ true → ReadsOnly (told disk) (told again)
    pub never_falls : count disk ≤ count again

  -- what opening comes to
  abbrev pub Opens : D → FollowerOpening D → Type 0
  Opens disk (Ok follower) = IsOpened disk follower
  Opens disk (Err missed) = IsUnopened disk missed.0 missed.1
