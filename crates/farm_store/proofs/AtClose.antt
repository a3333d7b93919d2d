-- When a farm may be closed, and what closing it comes to.
use Rattle.std.proofs.Common.{◌≡◌, ⊎_elim, ℕ, ◌+◌, ◌≤◌, nat_le, not, ◌&&◌, Bool, true, false, true≢false, if◌then◌else◌, List, [], ◌∷◌, ◌++◌, length, get_or, Some, None, ◌-◌, refl, sym, ◌∙◌, ap, subst, arith}
use Rattle.std.specs.Prelude.{Err, OnOk, slice_get}
use Rattle.std.proofs.lemmas.Bool.{and_parts, cases_Bool, le-leb}
use Rattle.std.proofs.lemmas.List.{append-nil, length-append}
use Rattle.std.proofs.lemmas.Option.{get_or_from_slice_get, none-some, slice_get-get_or}
use Rattle.entry_codec.specs.Spelling.{entry_bytes, spelling}
use Rattle.entry_codec.proofs.Sizes.{entry-short}
use Rattle.farm_disk.specs.declared.disk.Disk as disk
use Rattle.farm_types.specs.Moment.{moment_ms}
use Rattle.farm_types.specs.declared.moment.Moment.{Moment}
use Rattle.farm_entry.specs.Closing.{is_busy}
use Rattle.farm_entry.specs.Decision.{last_moment, later, moment_used}
use Rattle.farm_entry.specs.History.{is_closed, is_closing}
use Rattle.farm_entry.specs.Legal.{IsLegal, IsNext}
use Rattle.farm_entry.specs.declared.entry.Entry.{Entry}
use Rattle.farm_entry.specs.declared.entry.What.{What}
use Rattle.farm_entry.specs.declared.entry.What.TheVariants.{Founded, Opened, Leased, Reported, Skipped, Cancelled, Ordered, Carried, Closed}
use Rattle.farm_laws.proofs.Closings.{is_closed-at}
use Rattle.farm_laws.proofs.Induct.{IsLegal-push, IsLegal-pushed}
use Rattle.farm_journal.specs.Faults.{HasCause}
use Rattle.farm_journal.specs.declared.fault.JournalFault.{JournalFault}
use Rattle.farm_journal.specs.declared.fault.JournalFault.TheVariants as journal_fault
use Rattle.farm_store.specs.Admitted.{Admits, IsAdmitted, IsStuckAt}
use Rattle.farm_store.specs.Closed.{Closes, HasCloseCause, IsBusyNow, IsClosedNow, OnClosedOrBusy, after_closing, as_close, closing_at}
use Rattle.farm_store.specs.Keeping.{KeepsStore}
use Rattle.farm_store.specs.State.{IsAsBefore, StoreState}
use Rattle.farm_store.specs.declared.asking.TheConstants.{MAX_RECORD_BYTES}
use Rattle.farm_store.proofs.Ahead.{legal-some}

-- a chain of three tests
all-true : (a b c : Bool) → a ≡ true → b ≡ true → c ≡ true → (a && b && c) ≡ true
all-true a b c p q r = rw (p, q, r) refl

not-false : (b : Bool) → b ≡ false → not b ≡ true
not-false b is = rw is refl

false-not : (b : Bool) → not b ≡ true → b ≡ false
false-not true is = cc
false-not false is = refl

-- the later of two moments isn't before the first
later-first : (a b : Moment) → nat_le (moment_ms a) (moment_ms (later a b)) ≡ true
later-first a b = ⊎_elim
    (λ (before : nat_le (moment_ms a) (moment_ms b) ≡ true).
    ap (λ (m : Moment). nat_le (moment_ms a) (moment_ms m))
    (ap (λ (test : Bool). if test then b else a) before) ∙ before)
    (λ (after : nat_le (moment_ms a) (moment_ms b) ≡ false).
    ap (λ (m : Moment). nat_le (moment_ms a) (moment_ms m))
    (ap (λ (test : Bool). if test then b else a) after) ∙ le-leb (moment_ms a) (moment_ms a) (omega arith))
    (cases_Bool (nat_le (moment_ms a) (moment_ms b)))

-- the moment that is used isn't before the last entry
used-last : (H : List Entry) (m : Moment)
    → nat_le (moment_ms (last_moment (moment_used H m) H)) (moment_ms (moment_used H m)) ≡ true
used-last [] m = le-leb (moment_ms (moment_used [] m)) (moment_ms (moment_used [] m)) (omega arith)
used-last (e ∷ H) m = later-first (last_moment e.at H) m

module _ (H : List Entry) (m : Moment) where
  -- where a farm isn't closed and isn't busy, its closing may come next
  closing-next : is_closed H ≡ false → is_busy H ≡ false → IsNext H (closing_at H m)
  closing-next unclosed idle = all-true (not (is_closed H)) (not (is_busy H))
      (nat_le (moment_ms (last_moment (moment_used H m) H)) (moment_ms (moment_used H m)))
      (not-false (is_closed H) unclosed) (not-false (is_busy H) idle) (used-last H m)

  pub closing-legal : IsLegal H → is_closed H ≡ false → is_busy H ≡ false → IsLegal (H ++ closing_at H m ∷ [])
  closing-legal legal unclosed idle = IsLegal-push H (closing_at H m) legal (closing-next unclosed idle)

  -- and only there
  tests : IsLegal H → IsLegal (H ++ closing_at H m ∷ [])
      → ((not (is_closed H) && not (is_busy H)) ≡ true)
      × (nat_le (moment_ms (last_moment (moment_used H m) H)) (moment_ms (moment_used H m)) ≡ true)
  tests legal longer = and_parts (not (is_closed H) && not (is_busy H)) _ (IsLegal-pushed H (closing_at H m) legal longer)

  pub closing-unclosed : IsLegal H → IsLegal (H ++ closing_at H m ∷ []) → is_closed H ≡ false
  closing-unclosed legal longer =
      false-not (is_closed H) (and_parts (not (is_closed H)) (not (is_busy H)) (tests legal longer).0).0

  pub closing-idle : IsLegal H → IsLegal (H ++ closing_at H m ∷ []) → is_busy H ≡ false
  closing-idle legal longer =
      false-not (is_busy H) (and_parts (not (is_closed H)) (not (is_busy H)) (tests legal longer).0).1

  -- where the closing may not come next and none is there, the farm is busy
  pub closing-busy : IsLegal H → (IsLegal (H ++ closing_at H m ∷ []) → ⊥) → is_closed H ≡ false → is_busy H ≡ true
  closing-busy legal none unclosed = ⊎_elim
      (λ (busy : is_busy H ≡ true). busy)
      (λ (idle : is_busy H ≡ false). absurd (none (closing-legal legal unclosed idle)))
      (cases_Bool (is_busy H))

  -- the history after a closing
  pub after-unclosed : is_closed H ≡ false → after_closing H m ≡ H ++ closing_at H m ∷ []
  after-unclosed unclosed = ap (λ (b : Bool). if b then H else H ++ closing_at H m ∷ []) unclosed

  pub after-closed : is_closed H ≡ true → after_closing H m ≡ H
  after-closed closed = ap (λ (b : Bool). if b then H else H ++ closing_at H m ∷ []) closed

-- a closing fits a record
pub closing-fits : (H : List Entry) (m : Moment) → length (spelling (closing_at H m ∷ [])) ≤ MAX_RECORD_BYTES
closing-fits H m =
    omega (arith, length-append (entry_bytes (closing_at H m)) [], entry-short (closing_at H m) tt)

-- one entry, taken apart
only-first : (x e : Entry) (before behind : List Entry) → x ∷ [] ≡ before ++ e ∷ behind → (before ≡ []) × (e ≡ x)
only-first x e [] behind split = (refl, same-head e x behind [] (sym split))
  where
    same-head : (a b : Entry) (l m : List Entry) → a ∷ l ≡ b ∷ m → a ≡ b
    same-head a b l m same = cc
only-first x e (y ∷ before) behind split =
    absurd (omega (arith, ap length split, length-append before (e ∷ behind)))

-- The last entry tells whether a farm is closed.

pub last-not_none : (H : List Entry) → IsLegal H → None ≡ slice_get H (length H - 1) → ⊥
last-not_none [] legal is = legal
last-not_none (e ∷ more) legal is =
    none-some (get_or (e ∷ more) (length (e ∷ more) - 1) e)
    (is ∙ slice_get-get_or (e ∷ more) (length (e ∷ more) - 1) e (omega arith))

pub last-closes : (H : List Entry) (e : Entry) → IsLegal H → Some e ≡ slice_get H (length H - 1)
    → is_closed H ≡ is_closing e.what
last-closes H e legal is =
    let some = legal-some H legal in
    is_closed-at H (length H - 1) e legal (omega (arith, some))
    ∙ ap (λ (x : Entry). is_closing x.what) (get_or_from_slice_get H (length H - 1) e e (sym is))

pub not-closing : (w : What) → (w ≡ Closed → ⊥) → is_closing w ≡ false
not-closing (Founded settings) other = refl
not-closing (Opened o) other = refl
not-closing (Leased key worker run search stage position deadline) other = refl
not-closing (Reported run verdict _) other = refl
not-closing (Skipped run _) other = refl
not-closing (Cancelled key search) other = refl
not-closing (Ordered key agent order commit search day) other = refl
not-closing (Carried commit day) other = refl
not-closing Closed other = absurd (other refl)

-- What closing a store came to, from what admitting its closing came to.
module _ {D : Type 0} (m : Moment) (old new : StoreState D) (entries : List Entry)
    (is : entries ≡ closing_at old.history m ∷ []) (legal : IsLegal old.history) where
  longer-legal : (H pending : List Entry) → H ++ pending ≡ old.history ++ entries → IsLegal (H ++ pending)
      → IsLegal (old.history ++ closing_at old.history m ∷ [])
  longer-legal H pending whole legal' =
      subst IsLegal (whole ∙ ap (λ (l : List Entry). old.history ++ l) is) legal'

  -- it was stored
  pub closes-stored : IsLegal (new.history ++ new.pending) → IsAdmitted entries old new → IsClosedNow m old new
  closes-stored legal' says =
      let whole : new.history ++ new.pending ≡ old.history ++ entries =
      ap (λ (l : List Entry). new.history ++ l) says.decided ∙ append-nil new.history ∙ says.history in
      let next = longer-legal new.history new.pending whole legal' in
      let counted = says.recorded in
      record {
        idle = λ unclosed. closing-idle old.history m legal next;
        history = says.history ∙ ap (λ (l : List Entry). old.history ++ l) is
            ∙ sym (after-unclosed old.history m (closing-unclosed old.history m legal next));
        recorded = omega (arith, counted, ap length says.history, length-append old.history entries);
        decided = says.decided;
      }

  -- the farm was closed before
  pub closes-closed : IsAsBefore old new → is_closed new.history ≡ true → IsClosedNow m old new
  closes-closed says closed =
      let before : is_closed old.history ≡ true = ap is_closed (sym says.history) ∙ closed in
      let none = says.none in
      record {
        idle = λ unclosed. absurd (true≢false (sym before ∙ unclosed));
        history = says.history ∙ sym (after-closed old.history m before);
        recorded = omega (arith, none, ap length says.history);
        decided = says.decided;
      }

  -- it is busy
  pub closes-busy : (i : ℕ) → IsStuckAt old.history entries i → IsAsBefore old new → is_closed new.history ≡ false
      → new.disk ≡ old.disk → IsBusyNow old new
  closes-busy i stuck says open_still disk =
      let unclosed : is_closed old.history ≡ false = ap is_closed (sym says.history) ∙ open_still in
      let one = only-first (closing_at old.history m) stuck.entry stuck.before stuck.behind (sym is ∙ stuck.split) in
      let misfit : IsLegal (old.history ++ closing_at old.history m ∷ []) → ⊥ =
      λ next. stuck.misfit (subst (λ (e : Entry). IsLegal (old.history ++ stuck.before ++ e ∷ [])) (sym one.1)
      (subst (λ (l : List Entry). IsLegal (l ++ closing_at old.history m ∷ []))
      (sym (ap (λ (l : List Entry). old.history ++ l) one.0 ∙ append-nil old.history)) next)) in
      record {
        unclosed = unclosed;
        busy = closing-busy old.history m legal misfit unclosed;
        history = says.history;
        decided = says.decided;
        none = says.none;
        disk = disk;
      }

  -- the disk failed, or memory ran out
  pub closes-missed : (f : JournalFault) → IsLegal (new.history ++ new.pending) → Admits entries (Err f) old new
      → Closes m (Err (as_close f)) old new
  closes-missed (journal_fault.StoreFault before after) legal' says =
      let whole : new.history ++ new.pending ≡ old.history ++ entries =
      ap (λ (l : List Entry). l ++ new.pending) says.history
      ∙ ap (λ (l : List Entry). old.history ++ l) says.pending in
      let next = longer-legal new.history new.pending whole legal' in
      record {
        unclosed = closing-unclosed old.history m legal next;
        idle = closing-idle old.history m legal next;
        history = says.history;
        pending = says.pending ∙ is;
        none = says.none;
      }
  closes-missed journal_fault.Memory legal' says = says

-- its counts
pub cause-close : (T : Type 0) (f : JournalFault) (first last : ℕ) → HasCause {T = T} (Err f) first last
    → HasCloseCause (Err (as_close f)) first last
cause-close T (journal_fault.StoreFault before after) first last cause = cause
cause-close T journal_fault.Memory first last cause = tt

-- what such a call keeps
pub keeps-close : {D : Type 0} (T : Type 0) (meant : disk.Ghosts D) (f : JournalFault) (old new : StoreState D)
    → KeepsStore meant (λ (P : Type 0). OnOk {T = T} {E = JournalFault} (Err f) P) old new
    → KeepsStore meant (λ (P : Type 0). OnClosedOrBusy (Err (as_close f)) P) old new
keeps-close T meant (journal_fault.StoreFault before after) old new keeps = keeps
keeps-close T meant journal_fault.Memory old new keeps = keeps
