-- What a call came to, from what its repair and its decisions came to.
use Rattle.std.proofs.Common.{◌≡◌, ◌≢◌, inl, inr, ⊎_elim, ℕ, ◌+◌, ◌≤◌, ◌<◌, Bool, true, List, [], ◌∷◌, ◌++◌, length, Option, Some, None, refl, sym, ◌∙◌, ap, subst, arith}
use Rattle.std.specs.Prelude.{Result, Ok, Err, OnOk}
use Rattle.std.proofs.lemmas.Bool.{cases_lt}
use Rattle.std.proofs.lemmas.List.{append-nil, append_assoc, length-append}
use Rattle.farm_disk.specs.Images.{DiskState, LeavesOnly}
use Rattle.farm_disk.proofs.Moments.{leaves_only-trans, leaves_only-weaker}
use Rattle.farm_core.specs.FarmView.{FarmView}
use Rattle.farm_entry.specs.Decision.{decide}
use Rattle.farm_entry.specs.Legal.{IsLegal}
use Rattle.farm_entry.specs.Playing.{after}
use Rattle.farm_entry.specs.declared.decision.Decision.{Decision}
use Rattle.farm_entry.specs.declared.decision.Decision.TheVariants as decision
use Rattle.farm_entry.specs.declared.entry.Entry.{Entry}
use Rattle.farm_journal.specs.Layout.{version_of}
use Rattle.farm_journal.specs.State.{JournalState}
use Rattle.farm_journal.specs.declared.fault.JournalFault.{JournalFault}
use Rattle.farm_journal.specs.declared.fault.JournalFault.TheVariants as fault
use Rattle.farm_store.specs.Answering.{IsUndecided, IsUnrepaired, Settles, history_after}
use Rattle.farm_store.specs.Bytes.{StandsFor}
use Rattle.farm_store.specs.State.{StoreState, IsLeft, IsRepaired, IsStored, IsWithOrWithout}
use Rattle.farm_store.specs.StoreInside.{IsStore, store_view, undecided}
use Rattle.farm_store.specs.declared.asking.Ask.{Ask}
use Rattle.farm_store.proofs.Spellings.{keeps-push}
use Rattle.farm_store.proofs.Standing.{stored-held, stored-pending}

-- a decision adds one entry or none
pub record Grows (H K : List Entry) (most : ℕ) : Type 0 where
  pub more : List Entry
  pub longer : K ≡ H ++ more
  pub few : length more ≤ most

pub after-grows : (H : List Entry) (d : Decision) → Grows H (after H d) 1
after-grows H (decision.Refuse cause) = record { more = []; longer = sym (append-nil H); few = omega arith }
after-grows H (decision.Repeat place) = record { more = []; longer = sym (append-nil H); few = omega arith }
after-grows H (decision.Show page) = record { more = []; longer = sym (append-nil H); few = omega arith }
after-grows H (decision.New e) = record { more = e ∷ []; longer = refl; few = omega arith }

pub grows-none : (H : List Entry) → Grows H H 0
grows-none H = record { more = []; longer = sym (append-nil H); few = omega arith }

pub grows-on : (H K L : List Entry) (m n : ℕ) → Grows H K m → Grows K L n → Grows H L (m + n)
grows-on H K L m n one two =
    let a = one.few in
    let b = two.few in
    record {
      more = one.more ++ two.more;
      longer = two.longer ∙ ap (λ (l : List Entry). l ++ two.more) one.longer ∙ append_assoc H one.more two.more;
      few = omega (arith, a, b, length-append one.more two.more);
    }

pub history_after-grows : (H : List Entry) (asks : List Ask) → Grows H (history_after H asks) (length asks)
history_after-grows H [] = grows-none H
history_after-grows H (ask ∷ asks) =
    let step = after-grows H (decide H ask.command ask.at) in
    let rest = history_after-grows (after H (decide H ask.command ask.at)) asks in
    let both = grows-on H (after H (decide H ask.command ask.at)) (history_after H (ask ∷ asks)) 1 (length asks) step
    rest in
    let few = both.few in
    record { more = both.more; longer = both.longer; few = omega (arith, few) }

-- a repair that had nothing to do
pub repaired-idle : {D : Type 0} (mid : StoreState D) (H : List Entry) → mid.pending ≡ [] → IsRepaired mid H
    → H ≡ mid.history
repaired-idle mid H none found = ⊎_elim (λ (same : H ≡ mid.history). same)
    (λ (more : H ≡ mid.history ++ mid.pending).
    more ∙ ap (λ (l : List Entry). mid.history ++ l) none ∙ append-nil mid.history)
    found

-- the history never gets shorter
pub longer-repaired : {D : Type 0} (old : StoreState D) (H : List Entry) → IsRepaired old H
    → (more : List Entry) × (H ≡ old.history ++ more)
longer-repaired old H found = ⊎_elim
    (λ (same : H ≡ old.history). ([], same ∙ sym (append-nil old.history)))
    (λ (more : H ≡ old.history ++ old.pending). (old.pending, more))
    found

pub says-longer : {D T : Type 0} (asks : List Ask) (Given : T → List Entry → Type 0) (result : Result T JournalFault)
    (old new : StoreState D) → Settles asks Given result old new
    → (more : List Entry) × (new.history ≡ old.history ++ more)
says-longer asks Given (Ok given) old new says =
    let first = longer-repaired old says.repaired says.found in
    let then = history_after-grows says.repaired asks in (
      first.0 ++ then.more,
      says.history ∙ then.longer ∙ ap (λ (l : List Entry). l ++ then.more) first.1
          ∙ append_assoc old.history first.0 then.more,
    )
says-longer asks Given (Err (fault.StoreFault before after)) old new says = ⊎_elim
    (λ (failed : IsUnrepaired old new). ([], failed.history ∙ sym (append-nil old.history)))
    (λ (torn : IsUndecided asks old new). longer-repaired old new.history torn.found)
    says
says-longer asks Given (Err fault.Memory) old new says = longer-repaired old new.history says.found

-- what an answer comes to
on_ok-weaker : {T E : Type 0} (r : Result T E) (P Q : Type 0) → (P → Q) → OnOk r P → OnOk r Q
on_ok-weaker (Ok x) P Q weaker held = weaker held
on_ok-weaker (Err e) P Q weaker held = tt

pub on_ok-always : {T E : Type 0} (r : Result T E) (P : Type 0) → P → OnOk r P
on_ok-always (Ok x) P held = held
on_ok-always (Err e) P held = tt

-- nothing was added
pub more-none : (H more : List Entry) → length (H ++ more) ≤ length H → H ++ more ≡ H
more-none H [] few = append-nil H
more-none H (e ∷ more) few = absurd (omega (arith, few, length-append H (e ∷ more)))

module _ {D : Type 0} (old mid new : StoreState D) (none : mid.pending ≡ [])
    (repaired : IsRepaired old mid.history) where
  pub repaired-on : (H : List Entry) → IsRepaired mid H → IsRepaired old H
  repaired-on H found = subst (λ (l : List Entry). IsRepaired old l) (sym (repaired-idle mid H none found)) repaired

  module _ {T : Type 0} (asks : List Ask) (Given : T → List Entry → Type 0) (result : Result T JournalFault) where
    -- what was decided after a repair
    pub says-on : Settles asks Given result mid new → Settles asks Given result old new
    says-on = by result
      where
        by : (r : Result T JournalFault) → Settles asks Given r mid new → Settles asks Given r old new
        by (Ok given) says = record {
          repaired = says.repaired;
          found = repaired-on says.repaired says.found;
          answers = says.answers;
          history = says.history;
          recorded = says.recorded;
          decided = says.decided;
        }
        by (Err (fault.StoreFault before after)) says = ⊎_elim
            (λ (failed : IsUnrepaired mid new). absurd (failed.some none))
            (λ (torn : IsUndecided asks mid new). inr (record {
              found = repaired-on new.history torn.found;
              some = torn.some;
              all = torn.all;
              none = torn.none;
            }))
            says
        by (Err fault.Memory) says = record {
          found = repaired-on new.history says.found;
          decided = says.decided;
          none = says.none;
        }

    -- a call that recorded nothing leaves the disk as its repair left it
    pub disk-repaired : Settles asks Given result mid new
        → (new.history ≡ mid.history → OnOk result (new.disk ≡ mid.disk))
        → (P : D → Type 0) → P mid.disk → new.recorded ≡ 0 → OnOk result (P new.disk)
    disk-repaired = by result
      where
        by : (r : Result T JournalFault) → Settles asks Given r mid new
            → (new.history ≡ mid.history → OnOk r (new.disk ≡ mid.disk)) → (P : D → Type 0) → P mid.disk
            → new.recorded ≡ 0 → OnOk r (P new.disk)
        by (Ok given) says untouched P held zero =
            let H : says.repaired ≡ mid.history = repaired-idle mid says.repaired none says.found in
            let grows = history_after-grows says.repaired asks in
            let whole : new.history ≡ mid.history ++ grows.more =
            says.history ∙ grows.longer ∙ ap (λ (l : List Entry). l ++ grows.more) H in
            let counted = says.recorded in
            let few : length (mid.history ++ grows.more) ≤ length mid.history =
            omega (arith, ap length (sym whole), ap length H, counted, zero) in
            subst P (sym (untouched (whole ∙ more-none mid.history grows.more few))) held
        by (Err f) says untouched P held zero = tt

    -- the version that is read after a call by which the history has grown
    pub newer-on : (told : D → DiskState) → Settles asks Given result mid new
        → (new.history ≡ mid.history → OnOk result (new.disk ≡ mid.disk))
        → (length old.history < length mid.history → version_of (told mid.disk).bytes ≡ 2)
        → (length mid.history < length new.history → OnOk result (version_of (told new.disk).bytes ≡ 2))
        → length old.history < length new.history → OnOk result (version_of (told new.disk).bytes ≡ 2)
    newer-on told says untouched before after more = ⊎_elim
        (λ (grown : length mid.history < length new.history). after grown)
        (λ (still : length new.history ≤ length mid.history).
        let longer = says-longer asks Given result mid new says in
        let few : length (mid.history ++ longer.0) ≤ length mid.history =
        omega (arith, ap length (sym longer.1), still) in
        let same : new.history ≡ mid.history = longer.1 ∙ more-none mid.history longer.0 few in
        on_ok-weaker result (new.disk ≡ mid.disk) (version_of (told new.disk).bytes ≡ 2)
        (λ is. subst (λ (d : D). version_of (told d).bytes ≡ 2) (sym is)
        (before (omega (arith, more, still))))
        (untouched same))
        (cases_lt (length mid.history) (length new.history))

    -- a call behind a repair that had nothing to do leaves the disk where it leaves the history
    pub untouched-on : (new.history ≡ mid.history → OnOk result (new.disk ≡ mid.disk))
        → (old.pending ≡ [] → mid.disk ≡ old.disk) → old.pending ≡ [] → new.history ≡ old.history
        → OnOk result (new.disk ≡ old.disk)
    untouched-on untouched idle rests same =
        let before : mid.history ≡ old.history = repaired-idle old mid.history rests repaired in
        on_ok-weaker result (new.disk ≡ mid.disk) (new.disk ≡ old.disk) (λ is. is ∙ idle rests)
        (untouched (same ∙ sym before))

  left-repaired : (c : List ℕ) → StandsFor mid.history c → IsLeft old new c
  left-repaired c stands = ⊎_elim
      (λ (same : mid.history ≡ old.history). inl (inl (subst (λ (l : List Entry). StandsFor l c) same stands)))
      (λ (more : mid.history ≡ old.history ++ old.pending).
      inl (inr (subst (λ (l : List Entry). StandsFor l c) more stands)))
      repaired

  left-on : (c : List ℕ) → IsLeft mid new c → IsLeft old new c
  left-on c left = ⊎_elim
      (λ (before : IsWithOrWithout mid.history mid.pending c). ⊎_elim
      (λ (one : StandsFor mid.history c). left-repaired c one)
      (λ (two : StandsFor (mid.history ++ mid.pending) c). left-repaired c
      (subst (λ (l : List Entry). StandsFor l c)
      (ap (λ (l : List Entry). mid.history ++ l) none ∙ append-nil mid.history) two))
      before)
      (λ (now : StandsFor (new.history ++ new.pending) c). inr now)
      left

  left-first : (c : List ℕ) → IsLeft old mid c → IsLeft old new c
  left-first c left = ⊎_elim
      (λ (before : IsWithOrWithout old.history old.pending c). inl before)
      (λ (now : StandsFor (mid.history ++ mid.pending) c). left-repaired c
      (subst (λ (l : List Entry). StandsFor l c)
      (ap (λ (l : List Entry). mid.history ++ l) none ∙ append-nil mid.history) now))
      left

  -- what a crash may leave in the repair and then
  pub leaves-on : (a b d : DiskState) → LeavesOnly a b (IsLeft old mid) → LeavesOnly b d (IsLeft mid new)
      → LeavesOnly a d (IsLeft old new)
  leaves-on a b d one two = leaves_only-trans a b d (IsLeft old new)
      (leaves_only-weaker a b (IsLeft old mid) (IsLeft old new) left-first one)
      (leaves_only-weaker b d (IsLeft mid new) (IsLeft old new) left-on two)

-- the view of a store, by whether something is pending
pub undecided-none : (pending : Option (List ℕ)) (ready : List Entry) → pending ≡ None → undecided pending ready ≡ []
undecided-none pending ready none = ap (λ (p : Option (List ℕ)). undecided p ready) none

pub undecided-some : (pending : Option (List ℕ)) (ready : List Entry) → pending ≢ None → undecided pending ready ≡ ready
undecided-some None ready some = absurd (some refl)
undecided-some (Some p) ready some = refl

-- what an invariant says of the disk and of the history
module _ {D : Type 0} (tells : D → Bool) (told : D → DiskState) (farm : FarmView) where
  legal-by : (pending : Option (List ℕ)) (journal : JournalState D) → journal.pending ≡ pending
      → IsStore tells told farm journal → IsLegal (farm.history ++ undecided pending farm.ready)
  legal-by None journal is store = subst IsLegal (sym (append-nil farm.history)) store.keeps.legal
  legal-by (Some p) journal is store = (store.undecided p is).legal

  pub legal-store : (journal : JournalState D) → IsStore tells told farm journal
      → IsLegal (farm.history ++ undecided journal.pending farm.ready)
  legal-store journal store = legal-by journal.pending journal refl store

  stored-by : (pending : Option (List ℕ)) (journal : JournalState D) → journal.pending ≡ pending
      → IsStore tells told farm journal → tells journal.disk ≡ true
      → IsStored farm.history (undecided pending farm.ready) (told journal.disk)
  stored-by None journal is store t =
      stored-held journal.payloads farm.history (told journal.disk) store.keeps (store.rests is t)
  stored-by (Some p) journal is store t =
      let more = store.undecided p is in
      stored-pending journal.payloads p farm.history farm.ready (told journal.disk) store.keeps
      (keeps-push journal.payloads farm.history farm.ready p store.keeps more.spelled more.is more.some more.legal)
      more.some (store.waits p is t)

  pub stored-store : (journal : JournalState D) → IsStore tells told farm journal → tells journal.disk ≡ true
      → IsStored farm.history (undecided journal.pending farm.ready) (told journal.disk)
  stored-store journal store t = stored-by journal.pending journal refl store t

  -- the same of the view
  pub stored-view : (journal : JournalState D) (recorded : ℕ) (s : StoreState D) → store_view farm journal recorded ≡ s
      → IsStore tells told farm journal → tells s.disk ≡ true → IsStored s.history s.pending (told s.disk)
  stored-view journal recorded s view store =
      subst (λ (x : StoreState D). tells x.disk ≡ true → IsStored x.history x.pending (told x.disk)) view
      (stored-store journal store)

  pub legal-view : (journal : JournalState D) (recorded : ℕ) (s : StoreState D) → store_view farm journal recorded ≡ s
      → IsStore tells told farm journal → IsLegal (s.history ++ s.pending)
  legal-view journal recorded s view store =
      subst (λ (x : StoreState D). IsLegal (x.history ++ x.pending)) view (legal-store journal store)
