-- What a repair leaves of a store.
use Rattle.std.proofs.Common.{◌≡◌, ℕ, Bool, true, true≢false, List, [], ◌∷◌, ◌++◌, Option, Some, None, refl, sym, ◌∙◌, subst}
use Rattle.std.specs.Prelude.{IfErr, IsSome, OnOk, Result, Ok, Err}
use Rattle.std.proofs.lemmas.List.{append-nil}
use Rattle.std.proofs.lemmas.Option.{none-some}
use Rattle.farm_disk.specs.Images.{DiskState, LeavesOnly}
use Rattle.farm_disk.proofs.Moments.{leaves_only-weaker}
use Rattle.farm_core.specs.FarmView.{FarmView}
use Rattle.farm_entry.specs.declared.entry.Entry.{Entry}
use Rattle.farm_journal.specs.ReadsOnly.{ReadsOnly}
use Rattle.farm_journal.specs.State.{JournalState, IsBeforeOrAfter, IsHeld}
use Rattle.farm_journal.specs.declared.fault.JournalFault.{JournalFault}
use Rattle.farm_journal.specs.declared.fault.JournalFault.TheVariants as fault
use Rattle.farm_store.specs.Answering.{IsUnrepairedBy, Repairs}
use Rattle.farm_store.specs.State.{StoreState, IsRepaired, IsWithOrWithout}
use Rattle.farm_store.specs.StoreInside.{IsStore, Keeps, store_view, undecided}
use Rattle.farm_store.proofs.Calls.{longer-repaired, stored-store}
use Rattle.farm_store.proofs.Spellings.{keeps-push}
use Rattle.farm_store.proofs.Standing.{leaves-stored, stands-either}

-- what is pending
pub record SomePayload (pending : Option (List ℕ)) : Type 0 where
  pub payload : List ℕ
  pub is : pending ≡ Some payload

pub some-is : (pending : Option (List ℕ)) → IsSome pending → SomePayload pending
some-is None some = absurd (true≢false (sym some))
some-is (Some p) some = record { payload = p; is = refl }

-- what a call on the journal did to the disk, in the words of the store
pub reads-view : {D : Type 0} (tells : D → Bool) (told : D → DiskState) (farm : FarmView) (journal : JournalState D)
    (recorded : ℕ) (s : StoreState D) → store_view farm journal recorded ≡ s → (b : DiskState)
    → (tells journal.disk ≡ true → ReadsOnly (told journal.disk) b) → tells s.disk ≡ true → ReadsOnly (told s.disk) b
reads-view {D = D} tells told farm journal recorded s view b reads =
    subst (λ (x : StoreState D). tells x.disk ≡ true → ReadsOnly (told x.disk) b) view reads

module _ {D : Type 0} (tells : D → Bool) (told : D → DiskState) (farm : FarmView) (journal : JournalState D)
    (store : IsStore tells told farm journal) where
  -- nothing was done
  leaves-idle : tells journal.disk ≡ true → LeavesOnly (told journal.disk) (told journal.disk)
      (IsWithOrWithout farm.history (undecided journal.pending farm.ready))
  leaves-idle t = leaves-stored farm.history (undecided journal.pending farm.ready) (told journal.disk)
      (stored-store tells told farm journal store t)

  pub leaves-idle-view : (recorded : ℕ) (s : StoreState D) → store_view farm journal recorded ≡ s
      → tells s.disk ≡ true → LeavesOnly (told s.disk) (told journal.disk) (IsWithOrWithout s.history s.pending)
  leaves-idle-view recorded s view =
      subst (λ (x : StoreState D). tells x.disk ≡ true
      → LeavesOnly (told x.disk) (told journal.disk) (IsWithOrWithout x.history x.pending)) view leaves-idle

  module _ (some : SomePayload journal.pending) where
    keeps-all : Keeps (journal.payloads ++ some.payload ∷ []) (farm.history ++ farm.ready)
    keeps-all =
        let more = store.undecided some.payload some.is in
        keeps-push journal.payloads farm.history farm.ready some.payload store.keeps more.spelled more.is more.some
        more.legal

    -- what was pending was kept
    pub kept-found : (farm' : FarmView) (journal' : JournalState D) → farm'.history ≡ farm.history ++ farm.ready
        → journal'.pending ≡ None → journal'.payloads ≡ journal.payloads ++ some.payload ∷ []
        → tells journal'.disk ≡ tells journal.disk
        → (tells journal.disk ≡ true → IsHeld journal'.payloads (told journal'.disk))
        → IsStore tells told farm' journal'
    kept-found farm' journal' same idle payloads telling held = record {
      keeps = subst (λ (l : List (List ℕ)). Keeps l farm'.history) (sym payloads)
          (subst (λ (l : List Entry). Keeps (journal.payloads ++ some.payload ∷ []) l) (sym same) keeps-all);
      undecided = λ p waits. absurd (none-some p (sym idle ∙ waits));
      rests = λ none t. held (sym telling ∙ t);
      waits = λ p waits t. absurd (none-some p (sym idle ∙ waits));
    }

    -- what a crash may leave in the repair
    leaves-repair : (b : DiskState) → LeavesOnly (told journal.disk) b (IsBeforeOrAfter journal.payloads some.payload)
        → LeavesOnly (told journal.disk) b (IsWithOrWithout farm.history (undecided journal.pending farm.ready))
    leaves-repair b leaves =
        subst (λ (o : Option (List ℕ)). LeavesOnly (told journal.disk) b
        (IsWithOrWithout farm.history (undecided o farm.ready))) (sym some.is)
        (leaves_only-weaker (told journal.disk) b (IsBeforeOrAfter journal.payloads some.payload)
        (IsWithOrWithout farm.history farm.ready)
        (λ c one. stands-either journal.payloads some.payload farm.history farm.ready c store.keeps keeps-all one)
        leaves)

    pub leaves-repair-view : (recorded : ℕ) (s : StoreState D) → store_view farm journal recorded ≡ s → (b : DiskState)
        → (tells journal.disk ≡ true
        → LeavesOnly (told journal.disk) b (IsBeforeOrAfter journal.payloads some.payload))
        → tells s.disk ≡ true → LeavesOnly (told s.disk) b (IsWithOrWithout s.history s.pending)
    leaves-repair-view recorded s view b leaves =
        subst (λ (x : StoreState D). tells x.disk ≡ true
        → LeavesOnly (told x.disk) b (IsWithOrWithout x.history x.pending)) view (λ t. leaves-repair b (leaves t))

  -- what was pending was dropped
  pub kept-dropped : (farm' : FarmView) (journal' : JournalState D) → farm'.history ≡ farm.history
      → journal'.pending ≡ None → journal'.payloads ≡ journal.payloads
      → tells journal'.disk ≡ tells journal.disk
      → (tells journal.disk ≡ true → IsHeld journal'.payloads (told journal'.disk))
      → IsStore tells told farm' journal'
  kept-dropped farm' journal' same idle payloads telling held = record {
    keeps = subst (λ (l : List (List ℕ)). Keeps l farm'.history) (sym payloads)
        (subst (λ (l : List Entry). Keeps journal.payloads l) (sym same) store.keeps);
    undecided = λ p waits. absurd (none-some p (sym idle ∙ waits));
    rests = λ none t. held (sym telling ∙ t);
    waits = λ p waits t. absurd (none-some p (sym idle ∙ waits));
  }

-- what a repair came to, by its answer
pub repairs-by : {D : Type 0} (r : Result (Unit {0}) JournalFault) (old new : StoreState D)
    → OnOk r (IsRepaired old new.history) → OnOk r (new.pending ≡ []) → new.recorded ≡ 0
    → IfErr r (λ (f : JournalFault). IsUnrepairedBy f old new) → Repairs r old new
repairs-by (Ok done) old new found decided none failed = record { found = found; decided = decided; none = none }
repairs-by (Err f) old new found decided none failed = failed

-- the history never gets shorter
pub repairs-longer : {D : Type 0} (r : Result (Unit {0}) JournalFault) (old new : StoreState D) → Repairs r old new
    → (more : List Entry) × (new.history ≡ old.history ++ more)
repairs-longer (Ok done) old new says = longer-repaired old new.history says.found
repairs-longer (Err (fault.StoreFault before after)) old new says = ([], says.history ∙ sym (append-nil old.history))
repairs-longer (Err fault.Memory) old new says = absurd says
