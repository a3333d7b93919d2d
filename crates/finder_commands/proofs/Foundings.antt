-- A journal that was founded.
use Rattle.std.proofs.Common.{◌≡◌, true, [], inr, subst, sym}
use Rattle.farm_disk.specs.declared.disk.Disk as disk
use Rattle.farm_journal.specs.Layout.{is_unborn}
use Rattle.farm_store.specs.Founded.{founding}
use Rattle.farm_store.specs.State.{IsStored, StoreState}
use Rattle.farm_types.specs.declared.moment.Moment.{Moment}
use Rattle.outside_seen.specs.Outside.{OutputSeen, disk_seen}
use Rattle.finder_commands.specs.TextPut.{TextPut}
use Rattle.finder_commands.specs.declared.status.Status.{Status}
use Rattle.farm_entry.specs.declared.settings.Settings.{Settings}
use Rattle.finder_commands.specs.Found.{FoundEnds, FoundLeaves, founded_text}

-- a journal that was founded, and then the text was put
pub founded-ends : {D : Type 0} (meant : disk.Ghosts D) (settings : Settings) (at : Moment) (status : Status)
    (before after : OutputSeen) (old : D) (store : StoreState D) (left : D) → left ≡ store.disk
    → (meant.tells old ≡ true → is_unborn (meant.told old).bytes ≡ true)
    → (meant.tells old ≡ true → IsStored (founding settings at) [] (meant.told store.disk))
    → FoundLeaves settings at (disk_seen meant old) (disk_seen meant store.disk)
    → TextPut founded_text status before after
    → FoundEnds settings at status before after (disk_seen meant old) (disk_seen meant left)
    × FoundLeaves settings at (disk_seen meant old) (disk_seen meant left)
founded-ends {D} meant settings at status before after old store left is unborn stored leaves put =
    subst (λ (d : D). FoundEnds settings at status before after (disk_seen meant old) (disk_seen meant d)
    × FoundLeaves settings at (disk_seen meant old) (disk_seen meant d)) (sym is)
    (inr (record { was_unborn = unborn; stored = stored; text = put }), leaves)
