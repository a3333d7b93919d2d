-- How a call of `follow` ends.
use Rattle.std.proofs.Common.{◌≡◌, ◌≢◌, ◌∙◌, ◌⊎◌, ⊎_elim, inl, inr, ◌++◌, ℕ, true, List, [], ◌∷◌, Result, Ok, Err, refl, sym, ap, subst}
use Rattle.farm_disk.specs.Images.{DiskState, LeavesOnly}
use Rattle.farm_disk.specs.declared.disk.Disk as disk
use Rattle.farm_entry.specs.declared.entry.Entry.{Entry}
use Rattle.farm_journal.specs.Layout.{damaged, holds, opens, unborn}
use Rattle.farm_journal.specs.declared.fault.OpeningFault.{OpeningFault}
use Rattle.farm_journal.specs.declared.fault.OpeningFault.TheVariants as opening
use Rattle.outside_seen.specs.Outside.{DiskSeen, NetworkSeen, Outside, OutputSeen, disk_seen, outside}
use Rattle.farm_store.proofs.Excluded.{stands-not_damaged}
use Rattle.farm_store.specs.Damage.{IsDamagedAt}
use Rattle.farm_store.specs.Opened.{IsMissedBy}
use Rattle.common_types.specs.Counts.{Rose}
use Rattle.journal_follow.specs.Taking.{Held}
use Rattle.journal_follow.specs.Opened.{IsOpened}
use Rattle.journal_follow.specs.Shown.{IsKept, Shows, ShowsBetween}
use Rattle.journal_follow.specs.State.{FollowerState}
use Rattle.journal_follow.specs.declared.fault.FollowFault.{FollowFault}
use Rattle.journal_follow.specs.declared.fault.FollowFault.TheVariants as fault
use Rattle.journal_follow.specs.declared.following.Followed.{Followed}
use Rattle.common_types.specs.Prefix.{IsPrefix}
use Rattle.common_types.proofs.Prefixes.{IsPrefix-append, IsPrefix-refl, IsPrefix-trans}
use Rattle.finder_commands.proofs.Completing.{no-store_fault, text-completes}
use Rattle.outside_seen.proofs.Openings.{any_moment-opened, since_sync-opened}
use Rattle.finder_commands.proofs.Unread.{unread-not_opened}
use Rattle.finder_commands.specs.Disks.{HasStoreCause}
use Rattle.finder_commands.specs.FollowCommand.{EndsBy, FollowCompletes, FollowEnds, JournalFollowed, LeaderFollowed, SaysFollow, follow_line}
use Rattle.finder_commands.specs.Opening.{IsNotOpened, status_of_opening}
use Rattle.finder_commands.specs.TextPut.{TextPut}
use Rattle.finder_commands.specs.declared.status.Status.{Status}
use Rattle.finder_commands.specs.declared.status.Status.TheVariants.{Done, StoreFault, Damaged, Unborn, NetFault, Memory, Peer, Foreign}

-- nothing is pending
abbrev pub only_held : List Entry → Held
only_held H = record { history = H; pending = [] }

only-held-is : (h : Held) → h.pending ≡ [] → h ≡ only_held h.history
only-held-is h none = ap (λ (l : List Entry). record { history = h.history; pending = l }) none

-- Opened, and then followed.

shown-first : (first : List Entry) (last : Held) (bytes : List ℕ) → IsPrefix first last.history → Shows first bytes
    → ShowsBetween (only_held first) last bytes
shown-first first last bytes longer shows = (
  first,
  IsPrefix-refl first,
  inl (IsPrefix-trans first last.history (last.history ++ last.pending) longer
      (IsPrefix-append last.history last.pending)),
  shows,
)

pub journal-followed : {D : Type 0} (meant : disk.Ghosts D) (rounds : ℕ) (status : Status) (network network' : NetworkSeen)
    (before after : OutputSeen) (old left : D) (opened last : FollowerState)
    → IsOpened meant.tells meant.told meant.count old opened
    → LeaderFollowed rounds status opened.held last.held network network' before after
    → IsPrefix opened.held.history last.held.history
    → (opened.tells ≡ true → (offset : ℕ) → status ≢ Damaged offset)
    → (opened.tells ≡ true → LeavesOnly opened.disk last.disk (ShowsBetween opened.held last.held))
    → last.tells ≡ opened.tells → meant.told left ≡ last.disk → (last.tells ≡ true → IsKept last.held last.disk)
    → JournalFollowed rounds status (outside network before (disk_seen meant old))
    (outside network' after (disk_seen meant left))
journal-followed meant rounds status network network' before after old left opened last was followed longer sound leaves same
    is kept =
    let first = opened.held.history in
    let one : opened.held ≡ only_held first = only-held-is opened.held was.none in
    let P : List ℕ → Type 0 = ShowsBetween (only_held first) last.held in
    let holds : meant.tells old ≡ true → P (meant.told old).bytes =
    λ t. shown-first first last.held (meant.told old).bytes longer (was.shows t) in
    let each : meant.tells old ≡ true → LeavesOnly opened.disk (meant.told left) P =
    λ t. subst (λ (d : DiskState). LeavesOnly opened.disk d P) (sym is)
    (subst (λ (h : Held). LeavesOnly opened.disk last.disk (ShowsBetween h last.held)) one (leaves (was.same ∙ t))) in
    record {
      first = first;
      last = last.held;
      held = was.shows;
      followed = subst (λ (h : Held). LeaderFollowed rounds status h last.held network network' before after) one followed;
      longer = longer;
      sound = λ t. sound (was.same ∙ t);
      at_exit = λ t. subst (λ (d : DiskState). IsKept last.held d) (sym is) (kept (same ∙ was.same ∙ t));
      since_sync = λ t. since_sync-opened (meant.told old) opened.disk (meant.told left) P (holds t) (was.only t) (each t);
      any_moment = λ t settled. any_moment-opened (meant.told old) opened.disk (meant.told left) P (holds t) (was.only t)
          (each t) settled;
    }

-- Not opened.

pub born-status : (fault : OpeningFault) (status : Status) → fault ≢ opening.Unborn → status ≡ status_of_opening fault
    → status ≢ Unborn
born-status opening.Unborn status born is same = born refl
born-status (opening.Damaged o) status born is same = cc
born-status (opening.StoreFault before after) status born is same = cc
born-status opening.Memory status born is same = cc

-- where memory ran out to read the words
pub unread-follow : (rounds : ℕ) (seen : Outside) → FollowEnds rounds Memory seen seen
unread-follow rounds seen =
    inl (λ is. memory-not is, unread-not_opened {V = NetworkSeen × OutputSeen} (seen.network, seen.output) seen.disk)
  where
    memory-not : Memory ≡ Unborn → ⊥
    memory-not is = cc

-- Causes.

-- a text that is put doesn't end by a fault of the network
pub put-no_net : (text : List ℕ) (status : Status) (before after : OutputSeen) → TextPut text status before after
    → status ≡ NetFault → ⊥
put-no_net text status before after put e =
    let at : TextPut text NetFault before after = subst (λ (s : Status). TextPut text s before after) e put in
    at

pub put-no_damage : (text : List ℕ) (status : Status) (before after : OutputSeen) (o : ℕ) → TextPut text status before after
    → status ≡ Damaged o → ⊥
put-no_damage text status before after o put e =
    let at : TextPut text (Damaged o) before after = subst (λ (s : Status). TextPut text s before after) e put in
    at

-- the same, where the counts are known otherwise
pub cause-counts : (status : Status) (old other new left : DiskSeen) → other.faults ≡ old.faults → new.faults ≡ left.faults
    → HasStoreCause status other new → HasStoreCause status old left
cause-counts (StoreFault b a) old other new left first last cause = (
  cause.0 ∙ first,
  cause.1 ∙ last,
  subst (λ (n : ℕ). Rose old.faults n) last (subst (λ (n : ℕ). Rose n new.faults) first cause.2),
)
cause-counts _ old other new left first last cause = tt

-- no other than these faults has these statuses
pub net-from_fault : (f : FollowFault) (status : Status) → EndsBy f status → status ≡ NetFault → f ≡ fault.NetFault
net-from_fault (fault.Gap a b) status ends is = absurd ends
net-from_fault (fault.Foreign p) status ends is = cc
net-from_fault (fault.StoreFault a b) status ends is = let same = ends.2 in cc
net-from_fault (fault.Damaged o) status ends is = cc
net-from_fault fault.NetFault status ends is = refl
net-from_fault (fault.Peer s) status ends is = cc
net-from_fault fault.Memory status ends is = cc

-- Where nothing fails.

no-damage : (bytes : List ℕ) (offset : ℕ) → opens bytes ≡ unborn → IsDamagedAt bytes offset → ⊥
no-damage bytes offset none (inl same) = let both : damaged offset ≡ unborn = sym same ∙ none in cc
no-damage bytes offset none (inr unfit) =
    let both : holds unfit.payloads ≡ unborn = sym unfit.opened ∙ none in
    let is = unfit.payloads in
    cc

shown-not_damaged : (history : List Entry) (bytes : List ℕ) (offset : ℕ) → Shows history bytes → IsDamagedAt bytes offset → ⊥
shown-not_damaged [] bytes offset shows at = no-damage bytes offset shows at
shown-not_damaged (e ∷ more) bytes offset shows at = stands-not_damaged (e ∷ more) bytes offset shows at

not_opened-shown : (f : OpeningFault) (status : Status) (old new : DiskSeen) (history : List Entry)
    → status ≡ status_of_opening f → status ≢ Unborn → IsMissedBy old.told.bytes f → HasStoreCause status old new
    → ¬ Rose old.faults new.faults → Shows history old.told.bytes → status ≡ Memory
not_opened-shown opening.Unborn status old new history is born missed cause steady shows = absurd (born is)
not_opened-shown (opening.Damaged o) status old new history is born missed cause steady shows =
    absurd (shown-not_damaged history old.told.bytes o shows missed)
not_opened-shown (opening.StoreFault b a) status old new history is born missed cause steady shows =
    absurd (no-store_fault status b a old new is cause steady)
not_opened-shown opening.Memory status old new history is born missed cause steady shows = is

abbrev Ended : Status → Type 0
Ended status =
    (status ≡ Memory) ⊎ (status ≡ Done) ⊎ ((place : ℕ) × (status ≡ Foreign place))
    ⊎ ((answer : ℕ) × (status ≡ Peer answer))

by_text : (status : Status) → (status ≡ Memory) ⊎ (status ≡ Done) → Ended status
by_text status (inl memory) = inl memory
by_text status (inr done) = inr (inl done)

says-ended : (result : Result Followed FollowFault) (status : Status) (before after : OutputSeen) (old new : DiskSeen)
    → SaysFollow result status before after → (status ≡ NetFault → ⊥) → ((offset : ℕ) → status ≢ Damaged offset)
    → HasStoreCause status old new → ¬ Rose old.faults new.faults → ¬ Rose before.faults after.faults → Ended status
says-ended (Ok followed) status before after old new says net sound cause steady calm =
    by_text status (text-completes (follow_line followed) status before after says calm)
says-ended (Err (fault.Gap a b)) status before after old new says net sound cause steady calm = absurd says.0
says-ended (Err (fault.Foreign p)) status before after old new says net sound cause steady calm =
    inr (inr (inl (p, says.0)))
says-ended (Err (fault.StoreFault a b)) status before after old new says net sound cause steady calm =
    absurd (no-store_fault status says.0.0 says.0.1 old new says.0.2 cause steady)
says-ended (Err (fault.Damaged o)) status before after old new says net sound cause steady calm =
    absurd (sound o says.0)
says-ended (Err fault.NetFault) status before after old new says net sound cause steady calm = absurd (net says.0)
says-ended (Err (fault.Peer s)) status before after old new says net sound cause steady calm =
    inr (inr (inr (s, says.0)))
says-ended (Err fault.Memory) status before after old new says net sound cause steady calm = inl says.0

-- where nothing fails and memory is there, a leader is followed to an end
pub follow-completes : (rounds : ℕ) (status : Status) (old new : Outside) → FollowEnds rounds status old new
    → HasStoreCause status old.disk new.disk → FollowCompletes status old new
follow-completes rounds status old new ends cause net out disk tell history shows = ⊎_elim
    (λ (missed : (status ≢ Unborn) × IsNotOpened {V = NetworkSeen × OutputSeen} status (old.network, old.output)
    (new.network, new.output) old.disk new.disk).
    inl (not_opened-shown missed.1.0 status old.disk new.disk history missed.1.1 missed.0 (missed.1.2.cause tell) cause disk
    shows))
    (λ (ran : JournalFollowed rounds status old new).
    says-ended ran.followed.result status old.output new.output old.disk new.disk ran.followed.says
    (λ is. net (ran.followed.net_fault is)) (ran.sound tell) cause disk out)
    ends
