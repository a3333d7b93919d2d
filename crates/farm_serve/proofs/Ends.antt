-- How a service ended.
use Rattle.std.proofs.Common.{◌≡◌, ◌⊎◌, ⊎_elim, inl, inr, [], ℕ, List, length, Option, Result, Ok, Err, Bool, true, false, if◌then◌else◌, sym, refl, subst, ap, ◌∙◌}
use Rattle.std.proofs.Math.Seq.{take-length}
use Rattle.std.specs.Io.KnownBytes.{append_known}
use Rattle.connection_laws.specs.Marks.{Mark, mark_with}
use Rattle.farm_disk.proofs.Moments.{leaves_only-weaker}
use Rattle.farm_disk.specs.Images.{IsSettled, LeavesOnly, LeavesSinceSync}
use Rattle.farm_disk.specs.declared.disk.Disk as disk
use Rattle.farm_entry.specs.Legal.{IsLegal}
use Rattle.farm_entry.specs.declared.entry.Entry.{Entry}
use Rattle.farm_journal.specs.declared.fault.OpeningFault.TheVariants as opening
use Rattle.farm_store.proofs.Excluded.{stands-born, stands-not_damaged}
use Rattle.farm_store.specs.Bytes.{StandsFor}
use Rattle.farm_store.specs.State.{IsStored, StoreState}
use Rattle.connection_laws.specs.Told.{Saying}
use Rattle.link_io.specs.Notes.{Note}
use Rattle.farm_types.specs.declared.moment.Moment.{Moment}
use Rattle.common_types.specs.Counts.{Rose}
use Rattle.link_io.specs.declared.sink.PutFault.{PutFault}
use Rattle.link_io.specs.declared.sink.PutFault.TheVariants as put
use Rattle.link_io.specs.Events.{NetworkEvent}
use Rattle.shared_farm.specs.Rests.{AreTurns, CameBy, Rest, begun_of, rest_of}
use Rattle.farm_serve.proofs.Counts.{IfSome-map, Rose-from}
use Rattle.farm_serve.proofs.Crashes.{IsReached, mark_of_rest, turns-kept, turns-reached, within-first, within-from}
use Rattle.farm_serve.proofs.Steps.{AreHeldBack-longer}
use Rattle.farm_serve.proofs.Marks.{Follows-refl, IsSaidBy-refl}
use Rattle.outside_seen.proofs.Openings.{WasOpened, any_moment-opened, since_sync-opened}
use Rattle.farm_serve.specs.Acknowledged.{acknowledged_by}
use Rattle.farm_serve.specs.Crashes.{StandsWithin, WentByTurns}
use Rattle.farm_serve.specs.Ending.{is_memory, ending_by_line, ending_of, TellsFailure, HasNetCause}
use Rattle.farm_serve.specs.Gained.{has_failed}
use Rattle.farm_serve.specs.LastLine.{EndSays, IsPartPut, LinePut, LineSays, farm_line}
use Rattle.outside_seen.specs.Outside.{DiskSeen, NetworkSeen, Outside, OutputSeen, disk_seen, outside}
use Rattle.farm_serve.specs.ServeEnds.{FarmServed, LinksServed, ServeCompletes, ServeEnds, mark_at}
use Rattle.farm_serve.specs.Serving.{AreServed, ComesTo, store_mark}
use Rattle.farm_serve.specs.declared.ending.Ending.{Ending}
use Rattle.farm_serve.specs.declared.ending.Ending.TheVariants.{Done, NetFault, WriteFault, Memory, NotOpened}
use Rattle.farm_serve.specs.declared.standing.ServeState.{ServeState}

abbrev Line : Type 0
Line = Result (Unit {0}) PutFault

-- how it ends, by running out of memory, an accept that failed, and what became of the line
abbrev by : Bool → Bool → Line → Ending
by short failed line = if short then Memory else ending_by_line failed line

short_of : (short failed : Bool) (line : Line) → is_memory (by short failed line) ≡ false → short ≡ false
short_of true failed line fine = absurd cc
short_of false failed line fine = refl

memory_of : (short failed : Bool) (line : Line) → short ≡ true → is_memory (by short failed line) ≡ true
memory_of true failed line is = refl
memory_of false failed line is = absurd cc

tells_failure : (short failed known : Bool) (line : Line) → known ≡ failed → TellsFailure (by short failed line) known
tells_failure true failed known line is = tt
tells_failure false true known (Ok done) is = is
tells_failure false false known (Ok done) is = is
tells_failure false failed known (Err put.Failed) is = tt
tells_failure false failed known (Err put.Memory) is = tt

part_put : (line : Line) (text : List ℕ) (before after : OutputSeen) → LineSays text line before after
    → IsPartPut text before after
part_put (Ok done) text before after says =
    (length text, says ∙ ap (λ (t : List ℕ). append_known before.written t) (sym (take-length text)))
part_put (Err put.Failed) text before after says = (says.1.0, says.1.2)
part_put (Err put.Memory) text before after says = says

line_put : (short failed : Bool) (line : Line) (text : List ℕ) (before after : OutputSeen)
    → LineSays text line before after → LinePut text (by short failed line) before after
line_put true failed line text before after says = part_put line text before after says
line_put false true (Ok done) text before after says = says
line_put false false (Ok done) text before after says = says
line_put false failed (Err put.Failed) text before after says = says
line_put false failed (Err put.Memory) text before after says = says

net_cause : (short failed : Bool) (line : Line) (before after : ℕ) → (failed ≡ true → Rose before after)
    → HasNetCause (by short failed line) before after
net_cause true failed line before after rose = tt
net_cause false true (Ok done) before after rose = rose refl
net_cause false false (Ok done) before after rose = tt
net_cause false failed (Err put.Failed) before after rose = tt
net_cause false failed (Err put.Memory) before after rose = tt

farm_ends : (short failed : Bool) (line : Line) (links : ℕ) (clock : Moment → Type 0) (old new : Outside)
    → FarmServed links clock (by short failed line) old new → ServeEnds links clock (by short failed line) old new
farm_ends true failed line links clock old new h = h
farm_ends false true (Ok done) links clock old new h = h
farm_ends false false (Ok done) links clock old new h = h
farm_ends false failed (Err put.Failed) links clock old new h = h
farm_ends false failed (Err put.Memory) links clock old new h = h

links_served : (start final : Mark) (clock : Moment → Type 0)
    (said : List Note → Saying) (links : ℕ) (s : ServeState) (line : Line)
    (before : List NetworkEvent) (now : Option (List NetworkEvent))
    → AreServed start final clock said links s before now
    → LinksServed start final clock said links (ending_of s line) before now
links_served start final clock said links s line before now h = record {
  gained = h.gained;
  is = h.is;
  accepts = λ fine. h.accepts (short_of s.short s.failed line fine);
  asked = h.asked;
  back = h.back;
  owned = h.owned;
  places = h.places;
  whose = h.whose;
  held = AreHeldBack-longer start final final clock clock said said s.short (is_memory (ending_of s line)) h.owned
      [] h.gained
      (Follows-refl final) (λ at m. m) (IsSaidBy-refl final said) (memory_of s.short s.failed line) h.held;
  fault = tells_failure s.short s.failed (has_failed h.gained) line h.faults;
}

-- what is known of each crash of a service, from the disk at entry to the one at exit
pub record AreCrashes (first last pending : List Entry) (old new : DiskSeen) : Type 0 where
  pub decided : old.tells ≡ true → (pending ≡ []) ⊎ Rose old.faults new.faults
  pub since_sync : old.tells ≡ true → LeavesSinceSync old.told new.told
      (StandsWithin (mark_at first old) (mark_at last new))
  pub any_moment : old.tells ≡ true → IsSettled old.told
      → LeavesOnly old.told new.told (StandsWithin (mark_at first old) (mark_at last new))
  pub by_turns : old.tells ≡ true → WentByTurns (mark_at first old) (mark_at last new) pending old.told new.told

-- a farm was served from a first history to a last one
pub ends : (first last pending : List Entry) (links : ℕ) (clock : Moment → Type 0) (s : ServeState) (ending : Ending)
    (old new : Outside) → (old.disk.tells ≡ true → StandsFor first old.disk.told.bytes) → IsLegal first → IsLegal last
    → (old.disk.tells ≡ true → IsStored last pending new.disk.told) → AreCrashes first last pending old.disk new.disk
    → ComesTo (mark_at first old.disk) (mark_at last new.disk) clock
    (acknowledged_by old.disk.tells new.disk.told) links s old.network new.network
    → EndSays s (farm_line last) ending old.output new.output → ServeEnds links clock ending old new
ends first last pending links clock s ending old new held legal legal_after at_exit crashed comes says =
    subst (λ (e : Ending). ServeEnds links clock e old new) (sym says.is)
    (farm_ends s.short s.failed says.line links clock old new record {
      first = first;
      last = last;
      pending = pending;
      held = held;
      legal = legal;
      follows = comes.follows;
      legal_after = legal_after;
      at_exit = at_exit;
      decided = crashed.decided;
      since_sync = crashed.since_sync;
      any_moment = crashed.any_moment;
      by_turns = crashed.by_turns;
      text = line_put s.short s.failed says.line (farm_line last) old.output new.output says.says;
      served = IfSome-map old.network.told
          (λ before. AreServed (mark_at first old.disk) (mark_at last new.disk) clock
          (acknowledged_by old.disk.tells new.disk.told) links s before new.network.told)
          (λ before. LinksServed (mark_at first old.disk) (mark_at last new.disk) clock
          (acknowledged_by old.disk.tells new.disk.told) links (ending_of s says.line) before new.network.told)
          (λ before h. links_served (mark_at first old.disk) (mark_at last new.disk) clock
          (acknowledged_by old.disk.tells new.disk.told) links s says.line before new.network.told h) comes.served;
      cause = net_cause s.short s.failed says.line old.network.faults new.network.faults comes.rose;
    })

-- of a store that was opened on a disk and came on by turns
crashes : {D : Type 0} (meant : disk.Ghosts D) (old : D) (store given : StoreState D) → WasOpened meant store old
    → CameBy meant (begun_of meant store) given
    → AreCrashes store.history given.history given.pending (disk_seen meant old) (disk_seen meant given.disk)
crashes {D} meant old store given opened came =
    let first : Rest = rest_of meant store in
    let last : Rest = rest_of meant given in
    let before : Mark = mark_at store.history (disk_seen meant old) in
    let after : Mark = mark_at given.history (disk_seen meant given.disk) in
    let told : meant.tells old ≡ true → AreTurns first came.turns last = λ tell. came.turned (opened.same ∙ tell) in
    let stored : meant.tells old ≡ true → IsStored store.history store.pending (meant.told store.disk) =
    λ tell. subst (λ (p : List Entry). IsStored store.history p (meant.told store.disk)) (sym opened.none)
    (opened.stored tell) in
    let reached : meant.tells old ≡ true → IsReached first last =
    λ tell. turns-reached first came.turns last opened.none (stored tell) (told tell) in
    let holds : meant.tells old ≡ true → StandsWithin before after (meant.told old).bytes =
    λ tell. within-first before after (meant.told old).bytes (reached tell).follows.longer (opened.held tell) in
    let leaves : meant.tells old ≡ true → LeavesOnly (meant.told store.disk) (meant.told given.disk)
    (StandsWithin before after) =
    λ tell. leaves_only-weaker (meant.told store.disk) (meant.told given.disk)
    (StandsWithin (mark_of_rest first) (mark_of_rest last)) (StandsWithin before after)
    (λ c w. within-from store.history (meant.count old) (meant.count store.disk) after c opened.never_falls w)
    (reached tell).leaves in
    record {
      decided = λ tell. ⊎_elim (λ (none : given.pending ≡ []). inl none)
          (λ (rose : Rose (meant.count store.disk) (meant.count given.disk)).
          inr (Rose-from (meant.count old) (meant.count store.disk) (meant.count given.disk) opened.never_falls rose))
          (reached tell).decided;
      since_sync = λ tell. since_sync-opened (meant.told old) (meant.told store.disk) (meant.told given.disk)
          (StandsWithin before after) (holds tell) (opened.only tell) (leaves tell);
      any_moment = λ tell settled. any_moment-opened (meant.told old) (meant.told store.disk) (meant.told given.disk)
          (StandsWithin before after) (holds tell) (opened.only tell) (leaves tell) settled;
      by_turns = λ tell. record {
        opened = first;
        turns = came.turns;
        history = refl;
        decided = opened.none;
        faults = opened.never_falls;
        only = opened.only tell;
        turned = told tell;
        kept = turns-kept first came.turns last (told tell);
      };
    }

-- The same over a store that was opened on a disk and given back: `back` is the disk that the service gives back.
pub opened-ends : {D : Type 0} (meant : disk.Ghosts D) (clock : Moment → Type 0) (links : ℕ) (old back : D) (before : ℕ)
    (store given : StoreState D) (s : ServeState) (ending : Ending) (net net_after : NetworkSeen)
    (out out_after : OutputSeen)
    → before ≡ meant.count old → WasOpened meant store old
    → ComesTo (mark_with store.history before) (store_mark meant.count given) clock
    (acknowledged_by (meant.tells given.disk) (meant.told given.disk)) links s net net_after
    → CameBy meant (begun_of meant store) given → EndSays s (farm_line given.history) ending out out_after
    → IsLegal given.history → back ≡ given.disk
    → (meant.tells given.disk ≡ true → IsStored given.history given.pending (meant.told back))
    → ServeEnds links clock ending (outside net out (disk_seen meant old))
    (outside net_after out_after (disk_seen meant back))
opened-ends {D} meant clock links old back before store given s ending net net_after out out_after counted opened comes
    came says legal_after is_back stored =
    subst (λ (d : D). ServeEnds links clock ending (outside net out (disk_seen meant old))
    (outside net_after out_after (disk_seen meant d))) (sym is_back)
    (ends store.history given.history given.pending links clock s ending (outside net out (disk_seen meant old))
    (outside net_after out_after (disk_seen meant given.disk)) opened.held opened.legal legal_after
    (λ tell. subst (λ (d : D). IsStored given.history given.pending (meant.told d)) is_back
    (stored (came.same ∙ (opened.same ∙ tell))))
    (crashes meant old store given opened came)
    (subst (λ (t : Bool). ComesTo (mark_with store.history (meant.count old))
    (store_mark meant.count given) clock (acknowledged_by t (meant.told given.disk)) links s net net_after)
    (came.same ∙ opened.same)
    (subst (λ (n : ℕ). ComesTo (mark_with store.history n) (store_mark meant.count given) clock
    (acknowledged_by (meant.tells given.disk) (meant.told given.disk)) links s net net_after) counted comes))
    says)

-- where nothing fails and the journal holds a history, only memory may have run out
pub completes : (links : ℕ) (clock : Moment → Type 0) (ending : Ending) (old new : Outside)
    → ServeEnds links clock ending old new
    → ServeCompletes ending old new
completes links clock Done old new e net out disk tell history stands = inl refl
completes links clock NetFault old new e net out disk tell history stands = absurd (net e.cause)
completes links clock WriteFault old new e net out disk tell history stands = absurd (out e.text.0)
completes links clock Memory old new e net out disk tell history stands = inr (inl refl)
completes links clock (NotOpened opening.Unborn) old new e net out disk tell history stands =
    absurd (stands-born history old.disk.told.bytes stands (e.cause tell))
completes links clock (NotOpened (opening.Damaged o)) old new e net out disk tell history stands =
    absurd (stands-not_damaged history old.disk.told.bytes o stands (e.cause tell))
completes links clock (NotOpened (opening.StoreFault b a)) old new e net out disk tell history stands =
    absurd (disk e.counts.2)
completes links clock (NotOpened opening.Memory) old new e net out disk tell history stands = inr (inr refl)
