-- A journal that carries orders over.
use Rattle.std.proofs.Common.{◌≡◌, ◌⊎◌, ⊎_elim, ℕ, ◌<◌, ◌≤◌, true, [], inl, inr, List, length, Result, Ok, Err, refl, sym, ap, ◌∙◌, subst, arith}
use Rattle.std.specs.Io.KnownBytes.{prepend_known}
use Rattle.std.specs.Result.{IsErrAnd}
use Rattle.std.specs.Prelude.{IfErr}
use Rattle.farm_disk.specs.declared.disk.Disk as disk
use Rattle.farm_entry.specs.Settings.{settings_daily, settings_lease_ms, settings_zone_minutes}
use Rattle.farm_entry.specs.declared.settings.Settings.{Settings}
use Rattle.farm_handover.specs.Handover.{handed_over}
use Rattle.farm_handover.specs.declared.fault.HandoverFault.{HandoverFault}
use Rattle.farm_handover.specs.declared.fault.HandoverFault.TheVariants as handover
use Rattle.farm_journal.specs.Layout.{is_unborn}
use Rattle.farm_rules.specs.Orders.{Ordered}
use Rattle.farm_store.specs.Inherited.{inheriting}
use Rattle.farm_store.specs.State.{IsStored, StoreState}
use Rattle.farm_types.specs.declared.moment.Moment.{Moment}
use Rattle.common_types.specs.Counts.{Rose}
use Rattle.link_io.specs.Streams.{Streams}
use Rattle.link_io.specs.declared.source.TheConstants.{INPUT_LIMIT}
use Rattle.outside_seen.specs.Outside.{DiskSeen, InputSeen, disk_seen}
use Rattle.finder_commands.specs.Disks.{HasStoreCause}
use Rattle.finder_commands.specs.Found.{HasNumbers, founded_text}
use Rattle.finder_commands.specs.InheritCommand.{InheritingEnds, InheritingLeaves, InheritingTried, NotRead, NothingRead, WasHandedOver, output_of}
use Rattle.finder_commands.specs.RanOut.{RanOut}
use Rattle.finder_commands.specs.ReadInput.{WasRead}
use Rattle.finder_commands.specs.Statuses.{status_of_handover, status_of_input}
use Rattle.finder_commands.specs.TextPut.{TextPut}
use Rattle.finder_commands.specs.declared.read_input.InputFault.{InputFault}
use Rattle.finder_commands.specs.declared.read_input.InputFault.TheVariants as input
use Rattle.finder_commands.specs.declared.status.Status.{Status}
use Rattle.finder_commands.specs.declared.status.Status.TheVariants.{StoreFault}
use Rattle.finder_commands.proofs.Taken.{read_front, read_whole}

-- what holds of a status holds of the fault that carries it
pub fault-carried : {X : Type 0} (P : Status → Type 0) (answer : Result X Status) (status : Status)
    → IsErrAnd answer (λ s. s ≡ status) → P status → IfErr answer P
fault-carried P (Ok x) status is holds = absurd is
fault-carried P (Err s) status is holds = subst P (sym is) holds

-- where nothing was read, the status is no fault of the store
pub unread-cause : (status : Status) (before after : InputSeen) (old new : DiskSeen) → NothingRead status before after
    → HasStoreCause status old new
unread-cause (StoreFault b a) before after old new why = absurd why
unread-cause _ before after old new why = tt

-- the input was not read
pub unread-input : (before after : InputSeen) (fault : InputFault)
    → (fault ≡ input.AtLimit → (bytes : List ℕ) × (length bytes ≡ INPUT_LIMIT)
    × (before.left ≡ prepend_known bytes after.left))
    → (fault ≡ input.Failed → Rose before.faults after.faults) → NothingRead (status_of_input fault) before after
unread-input before after input.Failed at_limit rises = rises refl
unread-input before after input.AtLimit at_limit rises =
    let taken = at_limit refl in
    λ all told. read_front all taken.0 INPUT_LIMIT _ _ told taken.2 taken.1
unread-input before after input.Memory at_limit rises = tt

-- the input was read, and is outside the form
pub unread-lines : (before after : InputSeen) (bytes : List ℕ) (fault : HandoverFault)
    → WasRead before.left after.left bytes
    → ((line : ℕ) → fault ≡ handover.BadInput line → handed_over bytes ≡ Err line)
    → NothingRead (status_of_handover fault) before after
unread-lines before after bytes (handover.BadInput line) read bad = λ all told.
    let whole = read_whole all bytes _ _ told read.taken read.ended in
    (omega (arith, read.few, ap length whole.1), whole.0, ap handed_over whole.1 ∙ bad line refl)
unread-lines before after bytes handover.Memory read bad = tt

-- it hands orders over
pub read-lines : (before after : InputSeen) (bytes : List ℕ) (orders : List Ordered) → WasRead before.left after.left bytes
    → handed_over bytes ≡ Ok orders → WasHandedOver orders before after
read-lines before after bytes orders read good = λ all told.
    let whole = read_whole all bytes _ _ told read.taken read.ended in
    (omega (arith, read.few, ap length whole.1), whole.0, ap handed_over whole.1 ∙ good)

-- a journal that was founded with them, and then the text was put
pub inherited-ends : {D : Type 0} (meant : disk.Ghosts D) (settings : Settings) (at : Moment) (orders : List Ordered)
    (status : Status) (before after : Streams) (old : D) (store : StoreState D) (left : D) → left ≡ store.disk
    → (meant.tells old ≡ true → is_unborn (meant.told old).bytes ≡ true)
    → (meant.tells old ≡ true → IsStored (inheriting settings at orders) [] (meant.told store.disk))
    → InheritingLeaves settings at orders (disk_seen meant old) (disk_seen meant store.disk)
    → TextPut founded_text status (output_of before) (output_of after)
    → InheritingEnds settings at orders status before after (disk_seen meant old) (disk_seen meant left)
    × InheritingLeaves settings at orders (disk_seen meant old) (disk_seen meant left)
inherited-ends {D} meant settings at orders status before after old store left is unborn stored leaves put =
    subst (λ (d : D). InheritingEnds settings at orders status before after (disk_seen meant old) (disk_seen meant d)
    × InheritingLeaves settings at orders (disk_seen meant old) (disk_seen meant d)) (sym is)
    (inr (record { was_unborn = unborn; stored = stored; text = put }), leaves)

-- what is said of a call whose words have the numbers of these settings
pub inherit-says : (settings : Settings) (clock : Moment → Type 0) (status : Status) (before after : Streams)
    (old new : DiskSeen)
    → NotRead status before after old new ⊎ InheritingTried clock settings status before after old new
    → RanOut {V = Streams × DiskSeen} status (before, old) (after, new)
    ⊎ NotRead status before after old new
    ⊎ ((s : Settings) × HasNumbers s (settings_lease_ms settings) (settings_daily settings)
    (settings_zone_minutes settings) × InheritingTried clock s status before after old new)
inherit-says settings clock status before after old new ends = ⊎_elim
    (λ (missed : NotRead status before after old new). inr (inl missed))
    (λ (tried : InheritingTried clock settings status before after old new).
    inr (inr (settings, record { lease = refl; orders = refl; zone = refl }, tried)))
    ends
