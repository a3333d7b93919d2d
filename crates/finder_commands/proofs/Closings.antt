-- The farm of a journal that was opened, and was to be closed.
use Rattle.std.proofs.Common.{◌≡◌, ◌⊎◌, ⊎_elim, inl, inr, ℕ, Bool, true, false, List, [], ◌∷◌, ◌++◌, Result, Ok, Err, refl, sym, ap, ◌∙◌, subst, append-nil}
use Rattle.std.specs.Prelude.{if◌then◌else◌}
use Rattle.farm_disk.proofs.Moments.{leaves_only-weaker}
use Rattle.farm_disk.specs.Images.{LeavesOnly}
use Rattle.farm_disk.specs.declared.disk.Disk as disk
use Rattle.farm_entry.specs.History.{is_closed}
use Rattle.farm_entry.specs.declared.entry.Entry.{Entry}
use Rattle.farm_handover.specs.Handover.{handover_of}
use Rattle.farm_journal.specs.ReadsOnly.{ReadsOnly}
use Rattle.farm_store.specs.Bytes.{StandsFor}
use Rattle.farm_store.specs.Closed.{Closes, HasCloseCause, OnClosedOrBusy, after_closing, closing_at}
use Rattle.farm_store.specs.Keeping.{KeepsStore}
use Rattle.farm_store.specs.State.{IsLeft, IsStored, IsWithOrWithout, StoreState}
use Rattle.farm_store.specs.declared.closing.CloseFault.{CloseFault}
use Rattle.farm_store.specs.declared.closing.CloseFault.TheVariants as fault
use Rattle.farm_types.specs.declared.moment.Moment.{Moment}
use Rattle.outside_seen.proofs.Openings.{WasOpened, any_moment-opened, since_sync-opened}
use Rattle.outside_seen.specs.Outside.{OutputSeen, disk_seen}
use Rattle.finder_commands.specs.CloseCommand.{ClosingCame, ClosingTried, IsOpenOrClosed, status_of_unclosed}
use Rattle.finder_commands.specs.TextPut.{TextPut}
use Rattle.finder_commands.specs.declared.status.Status.{Status}

-- an open farm with its closing
unclosed-after : (H : List Entry) (at : Moment) → is_closed H ≡ false → H ++ closing_at H at ∷ [] ≡ after_closing H at
unclosed-after H at unclosed = sym (ap (λ (t : Bool). if t then H else H ++ closing_at H at ∷ []) unclosed)

closed-after : (H : List Entry) (at : Moment) → is_closed H ≡ true → after_closing H at ≡ H
closed-after H at closed = ap (λ (t : Bool). if t then H else H ++ closing_at H at ∷ []) closed

-- what there is with what is pending: the history, or it with its closing
closes-either : {D : Type 0} (at : Moment) (r : Result (Unit {0}) CloseFault) (old new : StoreState D)
    → Closes at r old new
    → (new.history ++ new.pending ≡ old.history) ⊎ (new.history ++ new.pending ≡ after_closing old.history at)
closes-either at (Ok done) old new closes =
    inr (ap (λ (p : List Entry). new.history ++ p) closes.decided ∙ append-nil new.history ∙ closes.history)
closes-either at (Err fault.Busy) old new closes =
    inl (ap (λ (p : List Entry). new.history ++ p) closes.decided ∙ append-nil new.history ∙ closes.history)
closes-either at (Err (fault.StoreFault b a)) old new closes =
    inr (ap (λ (p : List Entry). new.history ++ p) closes.pending
    ∙ ap (λ (h : List Entry). h ++ closing_at old.history at ∷ []) closes.history
    ∙ unclosed-after old.history at closes.unclosed)
closes-either at (Err fault.Memory) old new closes =
    inl (ap (λ (p : List Entry). new.history ++ p) closes.decided ∙ append-nil new.history ∙ closes.history)

-- what a crash leaves as the farm is closed
left-either : {D : Type 0} (at : Moment) (old new : StoreState D) (c : List ℕ) → old.pending ≡ []
    → (new.history ++ new.pending ≡ old.history) ⊎ (new.history ++ new.pending ≡ after_closing old.history at)
    → IsLeft old new c → IsOpenOrClosed old.history at c
left-either {D} at old new c none either left = ⊎_elim
    (λ (before : IsWithOrWithout old.history old.pending c). ⊎_elim
    (λ (without : StandsFor old.history c). inl without)
    (λ (with_all : StandsFor (old.history ++ old.pending) c).
    inl (subst (λ (h : List Entry). StandsFor h c)
    (ap (λ (p : List Entry). old.history ++ p) none ∙ append-nil old.history) with_all))
    before)
    (λ (now : StandsFor (new.history ++ new.pending) c). ⊎_elim
    (λ (same : new.history ++ new.pending ≡ old.history). inl (subst (λ (h : List Entry). StandsFor h c) same now))
    (λ (closed : new.history ++ new.pending ≡ after_closing old.history at).
    inr (subst (λ (h : List Entry). StandsFor h c) closed now))
    either)
    left

-- the farm of a store that was opened was to be closed
pub closing-tried : {D : Type 0} (meant : disk.Ghosts D) (clock : Moment → Type 0) (at : Moment) (status : Status)
    (before after : OutputSeen) (store new : StoreState D) (old left : D) (r : Result (Unit {0}) CloseFault)
    → left ≡ new.disk → clock at → WasOpened meant store old → Closes at r store new
    → KeepsStore meant (λ P. OnClosedOrBusy r P) store new
    → ClosingCame store.history at status before after (disk_seen meant old) (disk_seen meant new.disk)
    → ClosingTried clock status before after (disk_seen meant old) (disk_seen meant left)
closing-tried {D} meant clock at status before after store new old left r is given opened closes keeps came =
    let H = store.history in
    let P : List ℕ → Type 0 = IsOpenOrClosed H at in
    let first : meant.tells old ≡ true → P (meant.told old).bytes = λ tell. inl (opened.held tell) in
    let leaves : meant.tells old ≡ true → LeavesOnly (meant.told store.disk) (meant.told new.disk) P =
    λ tell. leaves_only-weaker (meant.told store.disk) (meant.told new.disk) (IsLeft store new) P
    (λ c one. left-either at store new c opened.none (closes-either at r store new closes) one)
    (keeps.any_moment (opened.same ∙ tell)) in
    subst (λ (d : D). ClosingTried clock status before after (disk_seen meant old) (disk_seen meant d)) (sym is)
    (record {
      history = H;
      held = opened.held;
      legal = opened.legal;
      at = at;
      given = given;
      came = came;
      since_sync = λ tell. since_sync-opened (meant.told old) (meant.told store.disk) (meant.told new.disk) P
          (first tell) (opened.only tell) (leaves tell);
      any_moment = λ tell settled. any_moment-opened (meant.told old) (meant.told store.disk) (meant.told new.disk) P
          (first tell) (opened.only tell) (leaves tell) settled;
    })

-- it is closed: what it hands over was put
pub came-closed : {D : Type 0} (meant : disk.Ghosts D) (at : Moment) (status : Status) (before after : OutputSeen)
    (store new : StoreState D) (old : D) (r : Result (Unit {0}) CloseFault) (done : Unit {0}) → r ≡ Ok done
    → WasOpened meant store old → Closes at r store new → KeepsStore meant (λ P. OnClosedOrBusy r P) store new
    → TextPut (handover_of new.history) status before after
    → ClosingCame store.history at status before after (disk_seen meant old) (disk_seen meant new.disk)
came-closed {D} meant at status before after store new old (Err f) done is opened closes keeps put = absurd (cc)
came-closed {D} meant at status before after store new old (Ok u) done is opened closes keeps put =
    let H = store.history in
    inl (record {
      idle = closes.idle;
      stored = λ tell. subst (λ (h : List Entry). IsStored h [] (meant.told new.disk)) closes.history
          (subst (λ (p : List Entry). IsStored new.history p (meant.told new.disk)) closes.decided
          (keeps.stored (opened.same ∙ tell)));
      only = λ tell closed. subst (λ (d : D). ReadsOnly (meant.told old) (meant.told d))
          (sym (keeps.untouched opened.none (closes.history ∙ closed-after H at closed))) (opened.only tell);
      text = subst (λ (h : List Entry). TextPut (handover_of h) status before after) closes.history put;
    })

-- it isn't: nothing was put
pub came-unclosed : {D : Type 0} (meant : disk.Ghosts D) (at : Moment) (status : Status) (seen : OutputSeen)
    (store new : StoreState D) (old : D) (r : Result (Unit {0}) CloseFault) (f : CloseFault) → r ≡ Err f
    → status ≡ status_of_unclosed f (meant.count old) → WasOpened meant store old → Closes at r store new
    → KeepsStore meant (λ P. OnClosedOrBusy r P) store new
    → HasCloseCause r (meant.count store.disk) (meant.count new.disk)
    → ClosingCame store.history at status seen seen (disk_seen meant old) (disk_seen meant new.disk)
came-unclosed {D} meant at status seen store new old (Ok u) f is says opened closes keeps cause = absurd (cc)
came-unclosed {D} meant at status seen store new old (Err fault.Busy) f is says opened closes keeps cause =
    let same : fault.Busy ≡ f = cc in
    inr (inl (record {
      says = says ∙ ap (λ (g : CloseFault). status_of_unclosed g (meant.count old)) (sym same);
      unclosed = closes.unclosed;
      busy = closes.busy;
      untouched = refl;
      only = λ tell. subst (λ (d : D). ReadsOnly (meant.told old) (meant.told d)) (sym closes.disk) (opened.only tell);
    }))
came-unclosed {D} meant at status seen store new old (Err (fault.StoreFault b a)) f is says opened closes keeps cause =
    let same : fault.StoreFault b a ≡ f = cc in
    inr (inr (inl (record {
      says = says ∙ ap (λ (g : CloseFault). status_of_unclosed g (meant.count old)) (sym same)
          ∙ ap (λ (n : ℕ). status_of_unclosed (fault.StoreFault b n) (meant.count old)) cause.1;
      unclosed = closes.unclosed;
      idle = closes.idle;
      untouched = refl;
      stored = λ tell. subst (λ (h : List Entry). IsStored h (closing_at store.history at ∷ []) (meant.told new.disk))
          closes.history
          (subst (λ (p : List Entry). IsStored new.history p (meant.told new.disk)) closes.pending
          (keeps.stored (opened.same ∙ tell)));
    })))
came-unclosed {D} meant at status seen store new old (Err fault.Memory) f is says opened closes keeps cause =
    let same : fault.Memory ≡ f = cc in
    inr (inr (inr (record {
      says = says ∙ ap (λ (g : CloseFault). status_of_unclosed g (meant.count old)) (sym same);
      untouched = refl;
      stored = λ tell. subst (λ (h : List Entry). IsStored h [] (meant.told new.disk)) closes.history
          (subst (λ (p : List Entry). IsStored new.history p (meant.told new.disk)) closes.decided
          (keeps.stored (opened.same ∙ tell)));
    })))
