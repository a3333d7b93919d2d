-- Where nothing fails and memory is there, a call over a journal does its work.
use Rattle.std.proofs.Common.{◌≡◌, ◌∙◌, ◌⊎◌, ⊎_elim, inl, inr, ℕ, ◌<◌, ◌≤◌, Bool, true, false, List, [], length, Option, Some, None, Result, Ok, Err, refl, sym, ap, subst, arith}
use Rattle.std.proofs.lemmas.Bool.{cases_Bool}
use Rattle.std.proofs.lemmas.Option.{none-some, same_Some}
use Rattle.farm_entry.specs.History.{is_closed}
use Rattle.farm_entry.specs.declared.entry.Entry.{Entry}
use Rattle.farm_entry.specs.declared.settings.Settings.{Settings}
use Rattle.farm_handover.specs.Handover.{handed_over, handover_of}
use Rattle.farm_journal.specs.Layout.{is_unborn}
use Rattle.farm_journal.specs.declared.fault.CreateFault.{CreateFault}
use Rattle.farm_journal.specs.declared.fault.CreateFault.TheVariants as creating
use Rattle.farm_journal.specs.declared.fault.OpeningFault.{OpeningFault}
use Rattle.farm_journal.specs.declared.fault.OpeningFault.TheVariants as opening
use Rattle.farm_rules.specs.Orders.{Ordered}
use Rattle.farm_script.specs.FarmRule.{farm_rule}
use Rattle.farm_script.specs.RunEnds.{RunEnds}
use Rattle.farm_script.specs.declared.run_end.RunEnd.{RunEnd}
use Rattle.farm_script.specs.declared.run_end.RunEnd.TheVariants as script
use Rattle.farm_store.proofs.Excluded.{stands-born, stands-not_damaged}
use Rattle.farm_store.proofs.Standing.{stands-unique}
use Rattle.farm_store.specs.Bytes.{StandsFor}
use Rattle.farm_store.specs.Closed.{after_closing}
use Rattle.farm_store.specs.Founded.{IsRefusedBy}
use Rattle.farm_store.specs.Opened.{IsMissedBy}
use Rattle.farm_types.specs.declared.moment.Moment.{Moment}
use Rattle.common_types.specs.Counts.{Rose}
use Rattle.search_evidence.specs.Evidence.{evidence_text}
use Rattle.link_io.specs.Streams.{Streams}
use Rattle.link_io.specs.declared.source.TheConstants.{INPUT_LIMIT}
use Rattle.outside_seen.specs.Outside.{DiskSeen, OutputSeen}
use Rattle.finder_commands.specs.CloseCommand.{CloseCompletes, CloseEnds, ClosingCame, ClosingTried, status_of_closing}
use Rattle.finder_commands.specs.Disks.{HasStoreCause}
use Rattle.finder_commands.specs.EvidenceCommand.{EvidenceCompletes, EvidenceEnds, EvidencePut, EvidenceShown, status_of_evidence}
use Rattle.finder_commands.specs.Found.{FoundCompletes, FoundEnds, JournalFounded, NotFounded, founded_text, status_of_creating}
use Rattle.finder_commands.specs.InheritCommand.{InheritCompletes, InheritDone, InheritingEnds, InheritingTried, IsInheritedBy, JournalInherited, NotInherited, NotRead, NothingRead, input_of, output_of}
use Rattle.finder_commands.specs.Opening.{IsNotOpened, status_of_opening}
use Rattle.finder_commands.specs.RunJournal.{JournalRan, JournalRunCompletes, JournalRunEnds, journal_end, over_journal}
use Rattle.finder_commands.specs.Show.{JournalShown, ShowCompletes}
use Rattle.finder_commands.specs.TextPut.{TextPut}
use Rattle.finder_commands.specs.declared.status.Status.{Status}
use Rattle.finder_commands.specs.declared.status.Status.TheVariants.{Done, ReadFault, WriteFault, StoreFault, AlreadyBorn, Memory, BadInput, InputLimit, Busy}
use Rattle.finder_commands.proofs.Taken.{read_front, read_whole}

-- a text is put whole where the output doesn't fail
pub text-completes : (text : List ℕ) (status : Status) (before after : OutputSeen) → TextPut text status before after
    → ¬ Rose before.faults after.faults → (status ≡ Memory) ⊎ (status ≡ Done)
text-completes text Done before after put calm = inr refl
text-completes text WriteFault before after put calm = absurd (calm put.0)
text-completes text Memory before after put calm = inl refl
text-completes text _ before after put calm = absurd put

-- a fault of the store comes only where the disk failed
pub no-store_fault : (status : Status) (b a : ℕ) (old new : DiskSeen) → status ≡ StoreFault b a
    → HasStoreCause status old new → ¬ Rose old.faults new.faults → ⊥
no-store_fault status b a old new is cause steady =
    let told : HasStoreCause (StoreFault b a) old new = subst (λ (s : Status). HasStoreCause s old new) is cause in
    steady told.2

-- where the disk doesn't fail, nothing is founded only where something is there
not_founded-completes : (fault : CreateFault) (status : Status) (old new : DiskSeen) → status ≡ status_of_creating fault
    → IsRefusedBy old.told.bytes fault → HasStoreCause status old new → ¬ Rose old.faults new.faults
    → (status ≡ Memory) ⊎ ((is_unborn old.told.bytes ≡ true) × (status ≡ Done))
    ⊎ ((is_unborn old.told.bytes ≡ false) × (status ≡ AlreadyBorn))
not_founded-completes creating.AlreadyBorn status old new is refused cause steady = inr (inr (refused, is))
not_founded-completes (creating.StoreFault b a) status old new is refused cause steady =
    absurd (no-store_fault status b a old new is cause steady)
not_founded-completes creating.Memory status old new is refused cause steady = inl is

pub found-completes : (settings : Settings) (at : Moment) (status : Status) (before after : OutputSeen)
    (old new : DiskSeen) → FoundEnds settings at status before after old new → HasStoreCause status old new
    → FoundCompletes status before after old new
found-completes settings at status before after old new ends cause calm steady tell = ⊎_elim
    (λ (missed : (fault : CreateFault) × (status ≡ status_of_creating fault) × NotFounded fault before after old).
    not_founded-completes missed.0 status old new missed.1 (missed.2.cause tell) cause steady)
    (λ (founded : JournalFounded settings at status before after old new). ⊎_elim
    (λ (memory : status ≡ Memory). inl memory)
    (λ (done : status ≡ Done). inr (inl (founded.was_unborn tell, done)))
    (text-completes founded_text status before after founded.text calm))
    ends

-- where the disk doesn't fail, a journal that holds a history is opened, unless memory runs out
not_opened-completes : (fault : OpeningFault) (status : Status) (old new : DiskSeen) (history : List Entry)
    → status ≡ status_of_opening fault → IsMissedBy old.told.bytes fault → HasStoreCause status old new
    → ¬ Rose old.faults new.faults → StandsFor history old.told.bytes → status ≡ Memory
not_opened-completes opening.Unborn status old new history is missed cause steady stands =
    absurd (stands-born history old.told.bytes stands missed)
not_opened-completes (opening.Damaged o) status old new history is missed cause steady stands =
    absurd (stands-not_damaged history old.told.bytes o stands missed)
not_opened-completes (opening.StoreFault b a) status old new history is missed cause steady stands =
    absurd (no-store_fault status b a old new is cause steady)
not_opened-completes opening.Memory status old new history is missed cause steady stands = is

pub shown-completes : (text_of : List Entry → List ℕ) (status : Status) (before after : OutputSeen) (old new : DiskSeen)
    → IsNotOpened status before after old new ⊎ JournalShown text_of status before after old new
    → HasStoreCause status old new → ShowCompletes status before after old new
shown-completes text_of status before after old new ends cause calm steady tell history stands = ⊎_elim
    (λ (missed : IsNotOpened status before after old new). inl
    (not_opened-completes missed.0 status old new history missed.1 (missed.2.cause tell) cause steady stands))
    (λ (shown : JournalShown text_of status before after old new).
    text-completes (text_of shown.history) status before after shown.text calm)
    ends

-- the evidence of a search that is there is put whole where the output doesn't fail
evidence_put-completes : (search : ℕ) (text : Option (List ℕ)) (status : Status) (before after : OutputSeen)
    → EvidencePut search text status before after → ¬ Rose before.faults after.faults
    → (status ≡ Memory) ⊎ (status ≡ status_of_evidence search text)
evidence_put-completes search (Some text) status before after put calm = text-completes text status before after put calm
evidence_put-completes search None status before after put calm = put.0

pub evidence-completes : (search : ℕ) (status : Status) (before after : OutputSeen) (old new : DiskSeen)
    → EvidenceEnds search status before after old new → HasStoreCause status old new
    → EvidenceCompletes search status before after old new
evidence-completes search status before after old new ends cause calm steady tell history stands = ⊎_elim
    (λ (missed : IsNotOpened status before after old new). inl
    (not_opened-completes missed.0 status old new history missed.1 (missed.2.cause tell) cause steady stands))
    (λ (shown : EvidenceShown search status before after old new).
    let same : shown.history ≡ history = stands-unique shown.history history old.told.bytes (shown.held tell) stands in
    subst (λ (h : List Entry). (status ≡ Memory) ⊎ (status ≡ status_of_evidence search (evidence_text h search))) same
    (evidence_put-completes search (evidence_text shown.history search) status before after shown.put calm))
    ends

-- a farm is closed, or its status says that it is busy
came-completes : (history : List Entry) (at : Moment) (status : Status) (before after : OutputSeen) (old new : DiskSeen)
    → ClosingCame history at status before after old new → HasStoreCause status old new
    → ¬ Rose before.faults after.faults → ¬ Rose old.faults new.faults
    → (status ≡ Memory) ⊎ (status ≡ status_of_closing history)
came-completes history at status before after old new (inl closed) cause calm steady =
    let done : Done ≡ status_of_closing history = ⊎_elim
    (λ (was : is_closed history ≡ true). rw was refl)
    (λ (was : is_closed history ≡ false). rw (was, closed.idle was) refl)
    (cases_Bool (is_closed history)) in
    ⊎_elim (λ (memory : status ≡ Memory). inl memory) (λ (is : status ≡ Done). inr (is ∙ done))
    (text-completes (handover_of (after_closing history at)) status before after closed.text calm)
came-completes history at status before after old new (inr (inl busy)) cause calm steady =
    let is : Busy ≡ status_of_closing history = rw (busy.unclosed, busy.busy) refl in
    inr (busy.says ∙ is)
came-completes history at status before after old new (inr (inr (inl undecided))) cause calm steady =
    absurd (no-store_fault status old.faults new.faults old new undecided.says cause steady)
came-completes history at status before after old new (inr (inr (inr open_still))) cause calm steady =
    inl open_still.says

pub close-completes : (clock : Moment → Type 0) (status : Status) (before after : OutputSeen) (old new : DiskSeen)
    → CloseEnds clock status before after old new → HasStoreCause status old new
    → CloseCompletes status before after old new
close-completes clock status before after old new ends cause calm steady tell history stands = ⊎_elim
    (λ (missed : IsNotOpened status before after old new). inl
    (not_opened-completes missed.0 status old new history missed.1 (missed.2.cause tell) cause steady stands))
    (λ (tried : ClosingTried clock status before after old new).
    let same : tried.history ≡ history = stands-unique tried.history history old.told.bytes (tried.held tell) stands in
    subst (λ (h : List Entry). (status ≡ Memory) ⊎ (status ≡ status_of_closing h)) same
    (came-completes tried.history tried.at status before after old new tried.came cause calm steady))
    ends

-- where nothing was read, the status says why
unread-completes : (status : Status) (before after : Streams) (unborn : Bool) (all : List ℕ)
    → NothingRead status (input_of before) (input_of after) → ¬ Rose before.read_faults after.read_faults
    → before.left ≡ Some all → InheritDone status unborn all
unread-completes ReadFault before after unborn all why reads told = absurd (reads why)
unread-completes InputLimit before after unborn all why reads told = inr (inl ((why all told).0, refl))
unread-completes Memory before after unborn all why reads told = inl refl
unread-completes (BadInput line) before after unborn all why reads told =
    let bad = why all told in
    inr (inr (bad.0, subst (λ (r : Result (List Ordered) ℕ). IsInheritedBy (BadInput line) unborn r) (sym bad.2) refl))
unread-completes _ before after unborn all why reads told = absurd why

-- where orders were handed over, a journal is founded with them, or there is one
handed-completes : (status : Status) (unborn : Bool) (all : List ℕ) (orders : List Ordered) → length all < INPUT_LIMIT
    → handed_over all ≡ Ok orders
    → (status ≡ Memory) ⊎ ((unborn ≡ true) × (status ≡ Done)) ⊎ ((unborn ≡ false) × (status ≡ AlreadyBorn))
    → InheritDone status unborn all
handed-completes status unborn all orders few good ends = ⊎_elim
    (λ (memory : status ≡ Memory). inl memory)
    (λ (done : ((unborn ≡ true) × (status ≡ Done)) ⊎ ((unborn ≡ false) × (status ≡ AlreadyBorn))).
    inr (inr (few, subst (λ (r : Result (List Ordered) ℕ). IsInheritedBy status unborn r) (sym good) done)))
    ends

-- the same by how the founding ended
inheriting-completes : (settings : Settings) (at : Moment) (orders : List Ordered) (status : Status)
    (before after : Streams) (old new : DiskSeen) → InheritingEnds settings at orders status before after old new
    → HasStoreCause status old new → ¬ Rose before.write_faults after.write_faults → ¬ Rose old.faults new.faults
    → old.tells ≡ true
    → (status ≡ Memory) ⊎ ((is_unborn old.told.bytes ≡ true) × (status ≡ Done))
    ⊎ ((is_unborn old.told.bytes ≡ false) × (status ≡ AlreadyBorn))
inheriting-completes settings at orders status before after old new ends cause writes steady tell = ⊎_elim
    (λ (missed : (fault : CreateFault) × (status ≡ status_of_creating fault) × NotInherited fault before after old).
    not_founded-completes missed.0 status old new missed.1 (missed.2.cause tell) cause steady)
    (λ (founded : JournalInherited settings at orders status before after old new). ⊎_elim
    (λ (memory : status ≡ Memory). inl memory)
    (λ (done : status ≡ Done). inr (inl (founded.was_unborn tell, done)))
    (text-completes founded_text status (output_of before) (output_of after) founded.text writes))
    ends

pub inherit-completes : (clock : Moment → Type 0) (settings : Settings) (status : Status) (before after : Streams)
    (old new : DiskSeen)
    → NotRead status before after old new ⊎ InheritingTried clock settings status before after old new
    → HasStoreCause status old new → InheritCompletes status before after old new
inherit-completes clock settings status before after old new ends cause reads writes steady tell all told = ⊎_elim
    (λ (missed : NotRead status before after old new).
    unread-completes status before after (is_unborn old.told.bytes) all missed.why reads told)
    (λ (tried : InheritingTried clock settings status before after old new).
    let read = tried.read all told in
    handed-completes status (is_unborn old.told.bytes) all tried.orders read.0 read.2
    (inheriting-completes settings tried.at tried.orders status before after old new tried.ends cause writes steady tell))
    ends

-- what the end of a script's run says, in a status that stands for it
ended-as : (status : Status) (end as_end : RunEnd) (before after : Streams) (first last pending : List Entry)
    → journal_end status ≡ Some end → journal_end status ≡ Some as_end
    → RunEnds farm_rule end (over_journal before first []) (over_journal after last pending)
    → RunEnds farm_rule as_end (over_journal before first []) (over_journal after last pending)
ended-as status end as_end before after first last pending stands said ends =
    subst (λ (e : RunEnd). RunEnds farm_rule e (over_journal before first []) (over_journal after last pending))
    (same_Some end as_end (sym stands ∙ said)) ends

-- where nothing fails, a script is run to its end or to the limit, unless memory runs out
ran-completes : (status : Status) (end : RunEnd) (before after : Streams) (old new : DiskSeen)
    (first last pending : List Entry)
    → journal_end status ≡ Some end
    → RunEnds farm_rule end (over_journal before first []) (over_journal after last pending)
    → HasStoreCause status old new → ¬ Rose before.read_faults after.read_faults
    → ¬ Rose before.write_faults after.write_faults → ¬ Rose old.faults new.faults
    → (all : List ℕ) → before.left ≡ Some all
    → (status ≡ Memory) ⊎ ((length all < INPUT_LIMIT) × (status ≡ Done))
    ⊎ ((INPUT_LIMIT ≤ length all) × (status ≡ InputLimit))
ran-completes Done end before after old new first last pending stands ends cause reads writes steady all told =
    let done = ended-as Done end script.Done before after first last pending stands refl ends in
    let whole = read_whole all done.0 before.left after.left told done.1.bytes (done.1.ended refl) in
    inr (inl (omega (arith, done.2, ap length whole.1), refl))
ran-completes ReadFault end before after old new first last pending stands ends cause reads writes steady all told =
    let failed = ended-as ReadFault end script.ReadFault before after first last pending stands refl ends in
    absurd (reads failed.0)
ran-completes WriteFault end before after old new first last pending stands ends cause reads writes steady all told =
    let failed = ended-as WriteFault end script.WriteFault before after first last pending stands refl ends in
    absurd (writes failed.0)
ran-completes (StoreFault b a) end before after old new first last pending stands ends cause reads writes steady all
    told =
    absurd (steady cause.2)
ran-completes Memory end before after old new first last pending stands ends cause reads writes steady all told =
    inl refl
ran-completes InputLimit end before after old new first last pending stands ends cause reads writes steady all told =
    let limit = ended-as InputLimit end script.InputLimit before after first last pending stands refl ends in
    let front = read_front all limit.0 INPUT_LIMIT before.left after.left told limit.1.bytes limit.2 in
    inr (inr (front.0, refl))
ran-completes _ end before after old new first last pending stands ends cause reads writes steady all told =
    absurd (none-some end stands)

pub run_journal-completes : (status : Status) (before after : Streams) (old new : DiskSeen)
    → JournalRunEnds status before after old new → HasStoreCause status old new
    → JournalRunCompletes status before after old new
run_journal-completes status before after old new ends cause reads writes steady tell history stands all told = ⊎_elim
    (λ (missed : IsNotOpened status before after old new). inl
    (not_opened-completes missed.0 status old new history missed.1 (missed.2.cause tell) cause steady stands))
    (λ (ran : (end : RunEnd) × (journal_end status ≡ Some end) × JournalRan end before after old new).
    ran-completes status ran.0 before after old new ran.2.first ran.2.last ran.2.pending ran.1 ran.2.ends cause reads
    writes steady all told)
    ends
