-- A farm that is ahead of its journal, before and after the new entries are stored.
use Rattle.std.proofs.Common.{◌≡◌, ◌≢◌, ◌⊎◌, inl, ⊎_elim, ℕ, ◌-◌, ◌≤◌, ◌<◌, Bool, true, false, true≢false, List, [], ◌∷◌, ◌++◌, length, take, drop, Some, All, refl, sym, ◌∙◌, ap, subst, arith}
use Rattle.std.specs.Prelude.{Ok, Err, Contains, ◌==◌}
use Rattle.std.proofs.lemmas.List.{append-nil, take-append-drop, length-take-le}
use Rattle.std.proofs.lemmas.List.Elements.{All-drop}
use Rattle.std.proofs.lemmas.Option.{none-some, same_Some}
use Rattle.farm_disk.specs.Images.{DiskState, LeavesOnly}
use Rattle.farm_disk.proofs.Moments.{leaves_only-start, leaves_only-weaker}
use Rattle.entry_codec.specs.Grammar.{AreSpelled, IsWithinLimits}
use Rattle.entry_codec.specs.Spelling.{spelling}
use Rattle.entry_codec.proofs.Openings.{within-from_openings}
use Rattle.farm_core.specs.FarmView.{FarmView}
use Rattle.farm_entry.specs.History.{openings}
use Rattle.farm_entry.specs.Legal.{IsLegal}
use Rattle.farm_entry.specs.declared.entry.Entry.{Entry}
use Rattle.farm_entry.specs.declared.opening.Opening.{Opening}
use Rattle.farm_journal.specs.Layout.{holds, opens}
use Rattle.farm_journal.specs.declared.fault.JournalFault.{JournalFault}
use Rattle.farm_journal.specs.declared.fault.JournalFault.TheVariants as fault
use Rattle.farm_journal.specs.State.{JournalState, IsBeforeOrAfter, IsHeld, IsPending}
use Rattle.farm_laws.proofs.OpenLimits.{open_within}
use Rattle.farm_store.specs.Bytes.{StandsFor}
use Rattle.farm_store.specs.Recorded.{IsOpen, IsTorn, IsUntouched, IsUnwritten, IsWritten, LeavesNew, Wrote}
use Rattle.farm_store.specs.StoreInside.{IsAhead, IsStore, IsUndecidedAs, Keeps}
use Rattle.farm_store.proofs.Spellings.{keeps-push, keeps-room}
use Rattle.farm_store.proofs.Standing.{stands-either, stands-kept}

-- what is pending, in other words
undecided-same : (p q : List ℕ) (H K new more : List Entry) → p ≡ q → H ≡ K → new ≡ more → IsUndecidedAs q K more
    → IsUndecidedAs p H new
undecided-same p q H K new more one two three pending =
    subst (λ (l : List ℕ). IsUndecidedAs l H new) (sym one)
    (subst (λ (l : List Entry). IsUndecidedAs q l new) (sym two)
    (subst (λ (l : List Entry). IsUndecidedAs q K l) (sym three) pending))

-- the entries of a legal history can be written
pub legal-within : (H : List Entry) → IsLegal H → All (λ (e : Entry). IsWithinLimits e.what) H
legal-within H legal = within-from_openings H (λ (o : Opening) (there : Contains (openings H) o).
    let within = open_within H o legal there in
    record { miss = within.miss; width = within.width; reruns = within.reruns })

-- a history that is legal has an entry
pub legal-some : (H : List Entry) → IsLegal H → 1 ≤ length H
legal-some [] legal = absurd legal
legal-some (e ∷ more) legal = omega arith

-- a test for no entries
pub some-test : (entries : List Entry) (b : Bool) → b ≡ (length entries == 0) → b ≡ false → entries ≢ []
some-test [] b is other none = absurd (true≢false (sym is ∙ other))
some-test (e ∷ more) b is other none = cc

module _ {D : Type 0} (tells : D → Bool) (told : D → DiskState) where
  -- where nothing was written
  pub unwritten-still : (journal : JournalState D) → IsOpen tells told journal
      → IsUnwritten tells told journal journal
  unwritten-still journal opened = record {
    payloads = refl;
    idle = opened.idle;
    held = opened.held;
    images = λ t. let held = opened.held t in
        leaves_only-start (told journal.disk) (λ c. opens c ≡ holds journal.payloads)
        (λ c image. ap opens (held.settled c image) ∙ held.reads);
  }

module _ {D : Type 0} (tells : D → Bool) (told : D → DiskState) (start : ℕ) (farm : FarmView)
    (journal : JournalState D) (ahead : IsAhead tells told start farm journal) where
  pub opened : IsOpen tells told journal
  opened = record {
    idle = ahead.idle;
    room = keeps-room journal.payloads (take start farm.history) ahead.keeps;
    held = ahead.rests;
  }

  pub within : All (λ (e : Entry). IsWithinLimits e.what) (drop start farm.history)
  within = All-drop (λ (e : Entry). IsWithinLimits e.what) start farm.history (legal-within farm.history ahead.legal)

  -- some entries stand before the new ones
  pub back : length farm.history - start < length farm.history
  back =
      let some = legal-some (take start farm.history) ahead.keeps.legal in
      let long : length (take start farm.history) ≡ start = length-take-le start farm.history ahead.within in
      let low = ahead.within in
      omega (arith, some, long, low)

  -- how far they reach
  pub back-start : length farm.history - (length farm.history - start) ≡ start
  back-start = let low = ahead.within in omega (arith, low)

  parted : take start farm.history ++ drop start farm.history ≡ farm.history
  parted = take-append-drop start farm.history

  idle-not : (p : List ℕ) → journal.pending ≡ Some p → ⊥
  idle-not p waits = none-some p (sym ahead.idle ∙ waits)

  keeps-more : drop start farm.history ≢ [] → (p : List ℕ) → p ≡ spelling (drop start farm.history)
      → AreSpelled (drop start farm.history)
      → Keeps (journal.payloads ++ p ∷ []) (take start farm.history ++ drop start farm.history)
  keeps-more some p is spelled = keeps-push journal.payloads (take start farm.history) (drop start farm.history) p
      ahead.keeps spelled is some (subst IsLegal (sym parted) ahead.legal)

  -- there was nothing to store
  kept-untouched : (farm' : FarmView) (journal' : JournalState D) → farm'.history ≡ farm.history
      → IsUntouched tells told (drop start farm.history) journal journal' → IsStore tells told farm' journal'
  kept-untouched farm' journal' same untouched =
      let whole : take start farm.history ≡ farm'.history =
      sym (append-nil (take start farm.history))
      ∙ ap (λ (l : List Entry). take start farm.history ++ l) (sym untouched.none)
      ∙ parted
      ∙ sym same in
      subst (λ (j : JournalState D). IsStore tells told farm' j) (sym untouched.same) (record {
        keeps = subst (λ (l : List Entry). Keeps journal.payloads l) whole ahead.keeps;
        undecided = λ p waits. absurd (idle-not p waits);
        rests = λ idle t. ahead.rests t;
        waits = λ p waits t. absurd (idle-not p waits);
      })

  -- all of it was stored
  kept-written : (farm' : FarmView) (journal' : JournalState D) → farm'.history ≡ farm.history
      → tells journal'.disk ≡ tells journal.disk
      → IsWritten tells told (drop start farm.history) journal journal' → IsStore tells told farm' journal'
  kept-written farm' journal' same telling written =
      let new = drop start farm.history in
      let more = keeps-more written.some (spelling new) refl written.spelled in
      record {
        keeps = subst (λ (l : List (List ℕ)). Keeps l farm'.history) (sym written.payloads)
            (subst (λ (l : List Entry). Keeps (journal.payloads ++ spelling new ∷ []) l) (parted ∙ sym same) more);
        undecided = λ p waits. absurd (none-some p (sym written.idle ∙ waits));
        rests = λ idle t. subst (λ (l : List (List ℕ)). IsHeld l (told journal'.disk)) (sym written.payloads)
            (written.held (sym telling ∙ t));
        waits = λ p waits t. absurd (none-some p (sym written.idle ∙ waits));
      }

  pub kept-stored : (farm' : FarmView) (journal' : JournalState D) → farm'.history ≡ farm.history
      → tells journal'.disk ≡ tells journal.disk
      → Wrote tells told (drop start farm.history) (Ok tt) journal journal' → IsStore tells told farm' journal'
  kept-stored farm' journal' same telling wrote = ⊎_elim
      (λ (untouched : IsUntouched tells told (drop start farm.history) journal journal').
      kept-untouched farm' journal' same untouched)
      (λ (written : IsWritten tells told (drop start farm.history) journal journal').
      kept-written farm' journal' same telling written)
      wrote

  -- it is undecided whether it was
  kept-torn : (farm' : FarmView) (journal' : JournalState D) → farm'.history ≡ take start farm.history
      → farm'.ready ≡ drop start farm.history → tells journal'.disk ≡ tells journal.disk
      → IsTorn tells told (drop start farm.history) journal journal' → IsStore tells told farm' journal'
  kept-torn farm' journal' same ready telling torn =
      let new = drop start farm.history in
      let which : (p : List ℕ) → journal'.pending ≡ Some p → p ≡ spelling new =
      λ p waits. same_Some p (spelling new) (sym waits ∙ torn.pending) in
      record {
        keeps = subst (λ (l : List (List ℕ)). Keeps l farm'.history) (sym torn.payloads)
            (subst (λ (l : List Entry). Keeps journal.payloads l) (sym same) ahead.keeps);
        undecided = λ p waits. undecided-same p (spelling new) farm'.history (take start farm.history) farm'.ready new
            (which p waits) same ready (record {
              some = torn.some;
              spelled = torn.spelled;
              is = refl;
              legal = subst IsLegal (sym parted) ahead.legal;
            });
        rests = λ idle t. absurd (none-some (spelling new) (sym idle ∙ torn.pending));
        waits = λ p waits t.
            subst (λ (l : List (List ℕ)). IsPending l p (told journal'.disk)) (sym torn.payloads)
            (subst (λ (l : List ℕ). IsPending journal.payloads l (told journal'.disk)) (sym (which p waits))
            (torn.waits (sym telling ∙ t)));
      }

  -- nothing of it was
  kept-unwritten : (farm' : FarmView) (journal' : JournalState D) → farm'.history ≡ take start farm.history
      → tells journal'.disk ≡ tells journal.disk
      → IsUnwritten tells told journal journal' → IsStore tells told farm' journal'
  kept-unwritten farm' journal' same telling unwritten = record {
    keeps = subst (λ (l : List (List ℕ)). Keeps l farm'.history) (sym unwritten.payloads)
        (subst (λ (l : List Entry). Keeps journal.payloads l) (sym same) ahead.keeps);
    undecided = λ p waits. absurd (none-some p (sym unwritten.idle ∙ waits));
    rests = λ idle t. subst (λ (l : List (List ℕ)). IsHeld l (told journal'.disk)) (sym unwritten.payloads)
        (unwritten.held (sym telling ∙ t));
    waits = λ p waits t. absurd (none-some p (sym unwritten.idle ∙ waits));
  }

  pub kept-missed : (farm' : FarmView) (journal' : JournalState D) (f : JournalFault)
      → farm'.history ≡ take start farm.history → farm'.ready ≡ drop start farm.history
      → tells journal'.disk ≡ tells journal.disk
      → Wrote tells told (drop start farm.history) (Err f) journal journal' → IsStore tells told farm' journal'
  kept-missed farm' journal' (fault.StoreFault before after) same ready telling wrote =
      kept-torn farm' journal' same ready telling wrote
  kept-missed farm' journal' fault.Memory same ready telling wrote = kept-unwritten farm' journal' same telling wrote

  -- what a crash may leave on the way
  leaves-either : (journal' : JournalState D) → drop start farm.history ≢ []
      → AreSpelled (drop start farm.history)
      → LeavesOnly (told journal.disk) (told journal'.disk)
      (IsBeforeOrAfter journal.payloads (spelling (drop start farm.history)))
      → LeavesOnly (told journal.disk) (told journal'.disk)
      (λ c. StandsFor (take start farm.history) c
      ⊎ StandsFor (take start farm.history ++ drop start farm.history) c)
  leaves-either journal' some spelled leaves =
      let new = drop start farm.history in
      leaves_only-weaker (told journal.disk) (told journal'.disk) (IsBeforeOrAfter journal.payloads (spelling new))
      (λ c. StandsFor (take start farm.history) c ⊎ StandsFor (take start farm.history ++ new) c)
      (λ c one. stands-either journal.payloads (spelling new) (take start farm.history) new c ahead.keeps
      (keeps-more some (spelling new) refl spelled) one) leaves

  -- the history before stands in each image where nothing is done
  leaves-still : tells journal.disk ≡ true → LeavesOnly (told journal.disk) (told journal.disk)
      (λ c. StandsFor (take start farm.history) c
      ⊎ StandsFor (take start farm.history ++ drop start farm.history) c)
  leaves-still t =
      let held = ahead.rests t in
      let H = take start farm.history in
      let P : List ℕ → Type 0 = λ c. StandsFor H c ⊎ StandsFor (H ++ drop start farm.history) c in
      leaves_only-start (told journal.disk) P (λ c image. inl (subst (λ (l : List ℕ). StandsFor H l)
      (sym (held.settled c image)) (stands-kept journal.payloads H _ ahead.keeps held.reads)))

  pub leaves-stored : (journal' : JournalState D)
      → Wrote tells told (drop start farm.history) (Ok tt) journal journal' → tells journal.disk ≡ true
      → LeavesOnly (told journal.disk) (told journal'.disk)
      (λ c. StandsFor (take start farm.history) c
      ⊎ StandsFor (take start farm.history ++ drop start farm.history) c)
  leaves-stored journal' wrote t = ⊎_elim
      (λ (untouched : IsUntouched tells told (drop start farm.history) journal journal').
      subst (λ (j : JournalState D). LeavesOnly (told journal.disk) (told j.disk)
      (λ c. StandsFor (take start farm.history) c
      ⊎ StandsFor (take start farm.history ++ drop start farm.history) c)) (sym untouched.same) (leaves-still t))
      (λ (written : IsWritten tells told (drop start farm.history) journal journal').
      leaves-either journal' written.some written.spelled (written.images t))
      wrote

  pub leaves-missed : (journal' : JournalState D) (f : JournalFault)
      → Wrote tells told (drop start farm.history) (Err f) journal journal' → tells journal.disk ≡ true
      → LeavesOnly (told journal.disk) (told journal'.disk)
      (LeavesNew (take start farm.history) (drop start farm.history) (Err f))
  leaves-missed journal' (fault.StoreFault before after) wrote t =
      leaves-either journal' wrote.some wrote.spelled (wrote.images t)
  leaves-missed journal' fault.Memory wrote t =
      leaves_only-weaker (told journal.disk) (told journal'.disk) (λ c. opens c ≡ holds journal.payloads)
      (StandsFor (take start farm.history))
      (λ c opened. stands-kept journal.payloads (take start farm.history) c ahead.keeps opened) (wrote.images t)
