-- What deciding asks came to, from what storing their new entries came to.
use Rattle.std.proofs.Common.{◌≡◌, ◌≢◌, ◌⊎◌, inl, inr, ⊎_elim, ℕ, ◌+◌, ◌-◌, ◌≤◌, ◌<◌, Bool, true, List, [], ◌∷◌, ◌++◌, length, take, drop, Option, Some, None, refl, sym, ◌∙◌, ap, subst, arith}
use Rattle.std.specs.Prelude.{Ok, Err}
use Rattle.std.proofs.lemmas.List.{append-nil, length-append, take_at, drop_at}
use Rattle.std.proofs.lemmas.Option.{none-some}
use Rattle.farm_disk.specs.Images.{DiskState, LeavesOnly}
use Rattle.farm_disk.proofs.Moments.{leaves_only-weaker}
use Rattle.farm_types.specs.declared.moment.Moment.{Moment}
use Rattle.entry_codec.specs.Grammar.{AreSpelled}
use Rattle.entry_codec.specs.Spelling.{spelling}
use Rattle.farm_core.specs.FarmView.{FarmView}
use Rattle.farm_entry.specs.Decision.{decide}
use Rattle.farm_entry.specs.Legal.{IsLegal}
use Rattle.farm_entry.specs.Playing.{after}
use Rattle.farm_entry.specs.declared.command.Command.{Command}
use Rattle.farm_entry.specs.declared.decision.Decision.{Decision}
use Rattle.farm_entry.specs.declared.decision.Decision.TheVariants as decision
use Rattle.farm_entry.specs.declared.entry.Entry.{Entry}
use Rattle.farm_journal.specs.Faults.{OnMemory, OnStoreFault}
use Rattle.farm_journal.specs.Layout.{version_of}
use Rattle.farm_journal.specs.State.{JournalState}
use Rattle.farm_journal.specs.declared.fault.JournalFault.{JournalFault}
use Rattle.farm_journal.specs.declared.fault.JournalFault.TheVariants as fault
use Rattle.farm_laws.proofs.Induct.{IsLegal-push}
use Rattle.farm_laws.proofs.Recorded.{recorded}
use Rattle.farm_store.specs.Answering.{Settles, history_after}
use Rattle.farm_store.specs.Bytes.{StandsFor}
use Rattle.farm_store.specs.Recorded.{LeavesNew}
use Rattle.farm_store.specs.State.{StoreState, IsLeft, IsWithOrWithout}
use Rattle.farm_store.specs.StoreInside.{IsAhead, IsStore, Keeps, store_view, undecided}
use Rattle.farm_store.specs.declared.asking.Ask.{Ask}
use Rattle.farm_store.specs.Sizes.{entries_size}
use Rattle.farm_store.specs.declared.asking.TheConstants.{MAX_RECORD_BYTES}
use Rattle.farm_store.proofs.Calls.{Grows, history_after-grows, undecided-none, undecided-some}
use Rattle.farm_store.proofs.Repairs.{leaves-idle-view}
use Rattle.farm_store.proofs.Sizes.{rest-short}

-- a decision keeps a history legal
pub after-legal : (H : List Entry) (q : Command) (m : Moment) (d : Decision) → decide H q m ≡ d → IsLegal H
    → IsLegal (after H d)
after-legal H q m (decision.Refuse cause) is legal = legal
after-legal H q m (decision.Repeat place) is legal = legal
after-legal H q m (decision.Show page) is legal = legal
after-legal H q m (decision.New e) is legal = IsLegal-push H e legal (recorded H q m e is)

pub history_after-legal : (H : List Entry) (asks : List Ask) → IsLegal H → IsLegal (history_after H asks)
history_after-legal H [] legal = legal
history_after-legal H (ask ∷ asks) legal =
    history_after-legal (after H (decide H ask.command ask.at)) asks
    (after-legal H ask.command ask.at (decide H ask.command ask.at) refl legal)

-- asks add one entry each at most
pub grows-by : (H K : List Entry) (asks : List Ask) → K ≡ history_after H asks → Grows H K (length asks)
grows-by H K asks is = subst (λ (l : List Entry). Grows H l (length asks)) (sym is) (history_after-grows H asks)

module _ {D : Type 0} (tells : D → Bool) (told : D → DiskState) (farm : FarmView) (journal : JournalState D)
    (store : IsStore tells told farm journal) (count : ℕ) (s : StoreState D)
    (view : store_view farm journal count ≡ s) (decided : s.pending ≡ []) where
  -- nothing is pending in the journal
  idle-by : (o : Option (List ℕ)) → journal.pending ≡ o → undecided o farm.ready ≡ [] → o ≡ None
  idle-by None is none = refl
  idle-by (Some p) is none = absurd ((store.undecided p is).some none)

  pub idle : journal.pending ≡ None
  idle = idle-by journal.pending refl (ap (λ (x : StoreState D). x.pending) view ∙ decided)

  same-history : farm.history ≡ s.history
  same-history = ap (λ (x : StoreState D). x.history) view

  -- only the farm's history counts
  pub kept-same : (farm' : FarmView) → farm'.history ≡ farm.history → IsStore tells told farm' journal
  kept-same farm' same = record {
    keeps = subst (λ (l : List Entry). Keeps journal.payloads l) (sym same) store.keeps;
    undecided = λ p waits. absurd (none-some p (sym idle ∙ waits));
    rests = store.rests;
    waits = λ p waits t. absurd (none-some p (sym idle ∙ waits));
  }

  -- nothing was done on the disk
  pub leaves-still : (new : StoreState D) → tells s.disk ≡ true
      → LeavesOnly (told s.disk) (told journal.disk) (IsLeft s new)
  leaves-still new t = leaves_only-weaker (told s.disk) (told journal.disk) (IsWithOrWithout s.history s.pending)
      (IsLeft s new) (λ c before. inl before)
      (leaves-idle-view tells told farm journal store count s view t)

  module _ (farm' : FarmView) (most : ℕ) (grows : Grows farm.history farm'.history most) where
    front : take (length farm.history) farm'.history ≡ farm.history
    front = ap (λ (l : List Entry). take (length farm.history) l) grows.longer
        ∙ take_at farm.history grows.more (length farm.history) refl

    rest : drop (length farm.history) farm'.history ≡ grows.more
    rest = ap (λ (l : List Entry). drop (length farm.history) l) grows.longer
        ∙ drop_at farm.history grows.more (length farm.history) refl

    long : length farm'.history ≡ length farm.history + length grows.more
    long = ap length grows.longer ∙ length-append farm.history grows.more

    -- the farm is ahead of its journal by what was added
    pub ahead-by : (start : ℕ) → start ≡ length farm.history
        → (AreSpelled grows.more → length (spelling grows.more) ≤ MAX_RECORD_BYTES)
        → IsLegal farm'.history → IsAhead tells told start farm' journal
    ahead-by start is fits legal =
        subst (λ (k : ℕ). IsAhead tells told k farm' journal) (sym is) (record {
          keeps = subst (λ (l : List Entry). Keeps journal.payloads l) (sym front) store.keeps;
          legal = legal;
          within = omega (arith, long);
          fits = subst (λ (l : List Entry). AreSpelled l → length (spelling l) ≤ MAX_RECORD_BYTES) (sym rest) fits;
          idle = idle;
          rests = store.rests idle;
        })

    -- what was added fits by its kinds
    pub ahead : (start : ℕ) → start ≡ length farm.history
        → entries_size farm'.history ≤ entries_size farm.history + MAX_RECORD_BYTES
        → IsLegal farm'.history → IsAhead tells told start farm' journal
    ahead start is most legal = ahead-by start is
        (rest-short farm.history grows.more farm'.history MAX_RECORD_BYTES grows.longer most) legal

    pub front-at : (start : ℕ) → start ≡ length farm.history → take start farm'.history ≡ farm.history
    front-at start is = ap (λ (k : ℕ). take k farm'.history) is ∙ front

    pub rest-at : (start : ℕ) → start ≡ length farm.history → drop start farm'.history ≡ grows.more
    rest-at start is = ap (λ (k : ℕ). drop k farm'.history) is ∙ rest

    -- the record was stored
    module _ (start : ℕ) (is : start ≡ length farm.history) (farm'' : FarmView) (journal'' : JournalState D) where
      pub counted : farm''.history ≡ farm'.history → start ≤ length farm''.history
      counted same = let both = ap length same in omega (arith, both, long, is)

      pub says-stored : {T : Type 0} (asks : List Ask) (Given : T → List Entry → Type 0) (given : T)
          → farm'.history ≡ history_after farm.history asks → Given given farm.history
          → farm''.history ≡ farm'.history → journal''.pending ≡ None
          → Settles asks Given (Ok given) s (store_view farm'' journal'' (length farm''.history - start))
      says-stored asks Given given history right same none =
          let both = ap length same in
          let low = counted same in
          record {
            repaired = farm.history;
            found = inl same-history;
            answers = right;
            history = same ∙ history;
            recorded = omega (arith, both, long, is, low);
            decided = undecided-none journal''.pending farm''.ready none;
          }

      pub leaves-stored : (counts : ℕ) → farm''.history ≡ farm'.history → journal''.pending ≡ None
          → (tells journal.disk ≡ true → LeavesOnly (told journal.disk) (told journal''.disk)
          (LeavesNew (take start farm'.history) (drop start farm'.history) (Ok tt)))
          → tells s.disk ≡ true → LeavesOnly (told s.disk) (told journal''.disk)
          (IsLeft s (store_view farm'' journal'' counts))
      leaves-stored counts same none leaves =
          let pending = undecided-none journal''.pending farm''.ready none in
          let now : take start farm'.history ++ drop start farm'.history
          ≡ farm''.history ++ undecided journal''.pending farm''.ready =
          ap (λ (l : List Entry). l ++ drop start farm'.history) (front-at start is)
          ∙ ap (λ (l : List Entry). farm.history ++ l) (rest-at start is)
          ∙ sym grows.longer
          ∙ sym same
          ∙ sym (append-nil farm''.history)
          ∙ ap (λ (l : List Entry). farm''.history ++ l) (sym pending) in
          subst (λ (d : D). tells d ≡ true → LeavesOnly (told d) (told journal''.disk)
          (IsLeft s (store_view farm'' journal'' counts))) (ap (λ (x : StoreState D). x.disk) view)
          (λ t. leaves_only-weaker (told journal.disk) (told journal''.disk)
          (λ c. StandsFor (take start farm'.history) c
          ⊎ StandsFor (take start farm'.history ++ drop start farm'.history) c)
          (IsLeft s (store_view farm'' journal'' counts))
          (λ c one. ⊎_elim
          (λ (old : StandsFor (take start farm'.history) c).
          inl (inl (subst (λ (l : List Entry). StandsFor l c) (front-at start is ∙ same-history) old)))
          (λ (new : StandsFor (take start farm'.history ++ drop start farm'.history) c).
          inr (subst (λ (l : List Entry). StandsFor l c) now new))
          one)
          (leaves t))

      -- nothing was added, and nothing done
      pub untouched : farm''.history ≡ farm'.history → farm''.history ≡ s.history
          → drop start farm'.history ≡ []
      untouched same old =
          rest-at start is ∙ none-more (grows.more) (omega (arith, sizes, long))
        where
          sizes : length farm'.history ≡ length farm.history
          sizes = ap length (sym same ∙ old ∙ sym same-history)

          none-more : (xs : List Entry) → length xs ≡ 0 → xs ≡ []
          none-more [] zero = refl
          none-more (x ∷ xs) zero = absurd (omega (arith, zero))

      -- something was added
      grown : farm''.history ≡ farm'.history → length s.history < length farm''.history → drop start farm'.history ≢ []
      grown same more none =
          let added = ap length (sym (rest-at start is) ∙ none) in
          absurd (omega (arith, added, long, ap length same, ap length same-history, more))

      -- and the file is of version 2
      pub newer : farm''.history ≡ farm'.history
          → (drop start farm'.history ≢ [] → tells journal.disk ≡ true → version_of (told journal''.disk).bytes ≡ 2)
          → tells s.disk ≡ true → length s.history < length farm''.history
          → version_of (told journal''.disk).bytes ≡ 2
      newer same version t more = version (grown same more)
          (subst (λ (d : D). tells d ≡ true) (sym (ap (λ (x : StoreState D). x.disk) view)) t)

      -- it was not
      pub says-missed : {T : Type 0} (asks : List Ask) (Given : T → List Entry → Type 0) (f : JournalFault) → count ≡ 0
          → farm'.history ≡ history_after farm.history asks
          → farm''.history ≡ take start farm'.history
          → OnStoreFault {T = Unit {0}} (Err f) (farm''.ready ≡ drop start farm'.history)
          → OnStoreFault {T = Unit {0}} (Err f) (journal''.pending ≢ None)
          → OnMemory {T = Unit {0}} (Err f) (journal''.pending ≡ None)
          → IsStore tells told farm'' journal''
          → Settles asks Given (Err f) s (store_view farm'' journal'' count)
      says-missed asks Given (fault.StoreFault before after) zero history back ready pending memory kept =
          let shown = undecided-some journal''.pending farm''.ready pending in
          let H : farm''.history ≡ farm.history = back ∙ front-at start is in
          let some : farm''.ready ≢ [] = some-by journal''.pending refl in
          inr (record {
            found = inl (H ∙ same-history);
            some = λ none. some (sym shown ∙ none);
            all = ap (λ (l : List Entry). l ++ undecided journal''.pending farm''.ready) H
                ∙ ap (λ (l : List Entry). farm.history ++ l) (shown ∙ ready ∙ rest-at start is)
                ∙ sym grows.longer
                ∙ history
                ∙ ap (λ (l : List Entry). history_after l asks) (sym H);
            none = zero;
          })
        where
          some-by : (o : Option (List ℕ)) → journal''.pending ≡ o → farm''.ready ≢ []
          some-by None is' = absurd (pending is')
          some-by (Some p) is' = (kept.undecided p is').some
      says-missed asks Given fault.Memory zero history back ready pending memory kept = record {
        found = inl (back ∙ front-at start is ∙ same-history);
        decided = undecided-none journal''.pending farm''.ready memory;
        none = zero;
      }

      pub leaves-missed : (f : JournalFault)
          → farm''.history ≡ take start farm'.history
          → OnStoreFault {T = Unit {0}} (Err f) (farm''.ready ≡ drop start farm'.history)
          → OnStoreFault {T = Unit {0}} (Err f) (journal''.pending ≢ None)
          → (tells journal.disk ≡ true → LeavesOnly (told journal.disk) (told journal''.disk)
          (LeavesNew (take start farm'.history) (drop start farm'.history) (Err f)))
          → tells s.disk ≡ true → LeavesOnly (told s.disk) (told journal''.disk)
          (IsLeft s (store_view farm'' journal'' count))
      leaves-missed f back ready pending leaves =
          subst (λ (d : D). tells d ≡ true → LeavesOnly (told d) (told journal''.disk)
          (IsLeft s (store_view farm'' journal'' count))) (ap (λ (x : StoreState D). x.disk) view)
          (λ t. leaves_only-weaker (told journal.disk) (told journal''.disk)
          (LeavesNew (take start farm'.history) (drop start farm'.history) (Err f))
          (IsLeft s (store_view farm'' journal'' count))
          (λ c one. left-missed f ready pending c one)
          (leaves t))
        where
          left-old : (c : List ℕ) → StandsFor (take start farm'.history) c
              → IsLeft s (store_view farm'' journal'' count) c
          left-old c old =
              inl (inl (subst (λ (l : List Entry). StandsFor l c) (front-at start is ∙ same-history) old))

          left-missed : (f : JournalFault)
              → OnStoreFault {T = Unit {0}} (Err f) (farm''.ready ≡ drop start farm'.history)
              → OnStoreFault {T = Unit {0}} (Err f) (journal''.pending ≢ None) → (c : List ℕ)
              → LeavesNew (take start farm'.history) (drop start farm'.history) (Err f) c
              → IsLeft s (store_view farm'' journal'' count) c
          left-missed (fault.StoreFault before after) ready' pending' c one = ⊎_elim
              (λ (old : StandsFor (take start farm'.history) c). left-old c old)
              (λ (new : StandsFor (take start farm'.history ++ drop start farm'.history) c).
              inr (subst (λ (l : List Entry). StandsFor l c)
              (ap (λ (l : List Entry). l ++ drop start farm'.history) (sym back)
              ∙ ap (λ (l : List Entry). farm''.history ++ l)
              (sym ready' ∙ sym (undecided-some journal''.pending farm''.ready pending'))) new))
              one
          left-missed fault.Memory ready' pending' c one = left-old c one
