-- What admitting entries into a store came to, from what storing them came to.
use Rattle.std.proofs.Common.{◌≡◌, ◌≢◌, ℕ, ◌≤◌, Bool, List, [], ◌∷◌, ◌++◌, length, take, drop, None, refl, sym, ◌∙◌, ap, subst, arith}
use Rattle.std.specs.Prelude.{Result, Ok, Err, OnOk}
use Rattle.std.proofs.lemmas.List.{append-nil, length-append}
use Rattle.farm_core.specs.FarmView.{FarmView}
use Rattle.farm_disk.specs.Images.{DiskState}
use Rattle.farm_entry.specs.declared.entry.Entry.{Entry}
use Rattle.farm_journal.specs.Faults.{OnMemory, OnStoreFault}
use Rattle.farm_journal.specs.State.{JournalState}
use Rattle.farm_journal.specs.declared.fault.JournalFault.{JournalFault}
use Rattle.farm_journal.specs.declared.fault.JournalFault.TheVariants as fault
use Rattle.farm_store.specs.Admitted.{Admits, IsAdmitted, IsStuckAt}
use Rattle.farm_store.specs.State.{IsAsBefore, StoreState}
use Rattle.farm_store.specs.StoreInside.{IsStore, store_view}
use Rattle.farm_store.proofs.Admissions.{refused-index, taken-not_refused}
use Rattle.farm_store.proofs.Calls.{Grows, more-none, undecided-none, undecided-some}
use Rattle.farm_store.proofs.Decided.{front-at, idle, rest-at}

-- they are what is added
pub admitted-grows : (H K entries : List Entry) → K ≡ H ++ entries → Grows H K (length entries)
admitted-grows H K entries is = record { more = entries; longer = is; few = omega arith }

pub admitted-more : (H K entries : List Entry) (is : K ≡ H ++ entries) → (admitted-grows H K entries is).more ≡ entries
unfolding admitted-grows
admitted-more H K entries is = refl

module _ {D : Type 0} (tells : D → Bool) (told : D → DiskState) (farm : FarmView) (journal : JournalState D)
    (store : IsStore tells told farm journal) (count : ℕ) (s : StoreState D)
    (view : store_view farm journal count ≡ s) (decided : s.pending ≡ []) where
  the-same : farm.history ≡ s.history
  the-same = ap (λ (x : StoreState D). x.history) view

  -- none of them was added
  pub admits-none : (farm' : FarmView) → farm'.history ≡ farm.history → IsAsBefore s (store_view farm' journal 0)
  admits-none farm' same = record {
    history = same ∙ the-same;
    decided = undecided-none journal.pending farm'.ready (idle tells told farm journal store count s view decided);
    none = refl;
  }

  module _ (entries : List Entry) (farm' : FarmView) (added : farm'.history ≡ farm.history ++ entries)
      (farm'' : FarmView) (journal'' : JournalState D) where
    -- all were stored
    pub admits-stored : (n : ℕ) → n ≡ length entries → farm''.history ≡ farm'.history → journal''.pending ≡ None
        → IsAdmitted entries s (store_view farm'' journal'' n)
    admits-stored n long same none = record {
      history = same ∙ added ∙ ap (λ (l : List Entry). l ++ entries) the-same;
      recorded = long;
      decided = undecided-none journal''.pending farm''.ready none;
    }

    -- the disk failed, or memory ran out
    pub admits-missed : (start : ℕ) → start ≡ length farm.history → (f : JournalFault)
        → farm''.history ≡ take start farm'.history
        → OnStoreFault {T = Unit {0}} (Err f) (farm''.ready ≡ drop start farm'.history)
        → OnStoreFault {T = Unit {0}} (Err f) (journal''.pending ≢ None)
        → OnMemory {T = Unit {0}} (Err f) (journal''.pending ≡ None)
        → Admits entries (Err f) s (store_view farm'' journal'' 0)
    unfolding admitted-grows
    admits-missed start is f back = by f
      where
        grows : Grows farm.history farm'.history (length entries)
        grows = admitted-grows farm.history farm'.history entries added

        front : farm''.history ≡ s.history
        front = back
            ∙ front-at tells told farm journal store count s view decided farm' (length entries) grows start is
            ∙ the-same

        by : (f : JournalFault)
            → OnStoreFault {T = Unit {0}} (Err f) (farm''.ready ≡ drop start farm'.history)
            → OnStoreFault {T = Unit {0}} (Err f) (journal''.pending ≢ None)
            → OnMemory {T = Unit {0}} (Err f) (journal''.pending ≡ None)
            → Admits entries (Err f) s (store_view farm'' journal'' 0)
        by (fault.StoreFault before after) ready pending memory = record {
          history = front;
          pending = undecided-some journal''.pending farm''.ready pending
              ∙ ready
              ∙ rest-at tells told farm journal store count s view decided farm' (length entries) grows start is;
          none = refl;
        }
        by fault.Memory ready pending memory = record {
          history = front;
          decided = undecided-none journal''.pending farm''.ready memory;
          none = refl;
        }

-- What a call keeps in which entries were to be admitted.
module _ {D : Type 0} (entries : List Entry) (old new : StoreState D) where
  -- the history never gets shorter
  pub admits-longer : (result : Result (Result (Unit {0}) ℕ) JournalFault) → Admits entries result old new
      → (more : List Entry) × (new.history ≡ old.history ++ more)
  admits-longer (Ok (Ok _)) says = (entries, says.history)
  admits-longer (Ok (Err i)) says = ([], says.1.history ∙ sym (append-nil old.history))
  admits-longer (Err (fault.StoreFault before after)) says = ([], says.history ∙ sym (append-nil old.history))
  admits-longer (Err fault.Memory) says = ([], says.history ∙ sym (append-nil old.history))

  -- one that recorded nothing leaves the disk as it was
  pub admits-only : (result : Result (Result (Unit {0}) ℕ) JournalFault) → Admits entries result old new
      → (new.history ≡ old.history → OnOk result (new.disk ≡ old.disk))
      → (P : D → Type 0) → P old.disk → new.recorded ≡ 0 → OnOk result (P new.disk)
  admits-only (Ok (Ok _)) says untouched P held zero =
      let counted = says.recorded in
      let few : length (old.history ++ entries) ≤ length old.history =
      omega (arith, length-append old.history entries, counted, zero) in
      subst P (sym (untouched (says.history ∙ more-none old.history entries few))) held
  admits-only (Ok (Err i)) says untouched P held zero = subst P (sym (untouched says.1.history)) held
  admits-only (Err f) says untouched P held zero = tt

  -- what it came to, by its answer
  pub admitted-of : (r : Result (Unit {0}) ℕ) (u : Unit {0}) → r ≡ Ok u → Admits entries (Ok r) old new
      → IsAdmitted entries old new
  admitted-of (Ok v) u is says = says
  admitted-of (Err i) u is says = absurd (taken-not_refused u i (sym is))

  pub refused-of : (r : Result (Unit {0}) ℕ) (i : ℕ) → r ≡ Err i → Admits entries (Ok r) old new
      → IsStuckAt old.history entries i × IsAsBefore old new
  refused-of (Ok u) i is says = absurd (taken-not_refused u i is)
  refused-of (Err j) i is says =
      (subst (λ (n : ℕ). IsStuckAt old.history entries n) (refused-index j i is) says.0, says.1)
