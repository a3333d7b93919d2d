-- What creating a store leaves, with a history of one record, from what creating its journal leaves.
use Rattle.std.proofs.Common.{◌≡◌, inl, inr, ⊎_elim, ℕ, Bool, true, None, ◌≤◌, List, [], ◌∷◌, length, refl, sym, ◌∙◌, subst, arith}
use Rattle.std.proofs.lemmas.List.{length-append}
use Rattle.std.proofs.lemmas.Option.{none-some}
use Rattle.farm_disk.specs.Images.{DiskState, EachImage, LeavesOnly, LeavesSinceSync}
use Rattle.farm_disk.proofs.Moments.{leaves-weaker, leaves_only-start, leaves_only-weaker, synced-le}
use Rattle.farm_types.specs.declared.moment.Moment.{Moment}
use Rattle.entry_codec.specs.Grammar.{AreSpelled}
use Rattle.entry_codec.specs.Spelling.{entry_bytes, spelling}
use Rattle.entry_codec.proofs.Sizes.{founded-length}
use Rattle.farm_entry.specs.Legal.{IsLegal}
use Rattle.farm_entry.specs.declared.settings.Settings.{Settings}
use Rattle.farm_entry.specs.declared.entry.What.TheVariants.{Founded}
use Rattle.farm_journal.specs.Created.{IsUnborn, IsUnbornOrFirst}
use Rattle.farm_journal.specs.Layout.{IsPayload, holds, opens, unborn}
use Rattle.farm_core.specs.FarmView.{FarmView}
use Rattle.farm_journal.specs.State.{IsHeld, JournalState}
use Rattle.farm_entry.specs.declared.entry.Entry.{Entry}
use Rattle.farm_store.specs.Bytes.{StandsFor}
use Rattle.farm_store.specs.Founded.{IsUnbornOr, founding}
use Rattle.farm_store.specs.State.{IsStored}
use Rattle.farm_store.specs.StoreInside.{IsStore, Keeps}
use Rattle.farm_store.specs.declared.asking.TheConstants.{MAX_RECORD_BYTES}
use Rattle.farm_store.proofs.Admissions.{legal-not_nil}
use Rattle.farm_store.proofs.Spellings.{keeps-first, record-fits}
use Rattle.farm_store.proofs.Standing.{stands-kept, stored-held}

-- a founding fits a record
pub founding-fits : (settings : Settings) (at : Moment)
    → length (spelling (founding settings at)) ≤ MAX_RECORD_BYTES
founding-fits settings at =
    let e : Entry = record { at = at; what = Founded settings } in
    omega (arith, length-append (entry_bytes e) [], founded-length e settings refl)

module _ (H : List Entry) (legal : IsLegal H) (p : List ℕ) (is : p ≡ spelling H) (spelled : AreSpelled H) where
  kept : Keeps (p ∷ []) H
  kept = keeps-first H p spelled is (legal-not_nil H legal) legal

  pub first-fits : length (spelling H) ≤ MAX_RECORD_BYTES → IsPayload p
  first-fits fits = record-fits H p is (legal-not_nil H legal) fits

  first-stands : (c : List ℕ) → IsUnbornOrFirst p c → IsUnbornOr H c
  first-stands c one = ⊎_elim
      (λ (none : opens c ≡ unborn). inl none)
      (λ (first : opens c ≡ holds (p ∷ [])). inr (stands-kept (p ∷ []) H c kept first))
      one

  pub first-stored : (disk : DiskState) → IsHeld (p ∷ []) disk → IsStored H [] disk
  first-stored disk held = stored-held (p ∷ []) H disk kept held

  pub store-founded : {D : Type 0} (tells : D → Bool) (told : D → DiskState) (farm : FarmView)
      (journal : JournalState D) → farm.history ≡ H → journal.payloads ≡ p ∷ [] → journal.pending ≡ None
      → (tells journal.disk ≡ true → IsHeld (p ∷ []) (told journal.disk)) → IsStore tells told farm journal
  store-founded tells told farm journal same payloads idle held = record {
    keeps = subst (λ (l : List (List ℕ)). Keeps l farm.history) (sym payloads)
        (subst (λ (l : List Entry). Keeps (p ∷ []) l) (sym same) kept);
    undecided = λ q waits. absurd (none-some q (sym idle ∙ waits));
    rests = λ none t. subst (λ (l : List (List ℕ)). IsHeld l (told journal.disk)) (sym payloads) (held t);
    waits = λ q waits t. absurd (none-some q (sym idle ∙ waits));
  }

  pub first-since : (old new : DiskState) → LeavesSinceSync old new (IsUnbornOrFirst p)
      → LeavesSinceSync old new (IsUnbornOr H)
  first-since old new leaves = λ t later synced.
      leaves-weaker t new.steps (IsUnbornOrFirst p) (IsUnbornOr H) first-stands (leaves t later synced)

  pub first-moments : (old new : DiskState) → LeavesOnly old new (IsUnbornOrFirst p)
      → LeavesOnly old new (IsUnbornOr H)
  first-moments old new leaves =
      leaves_only-weaker old new (IsUnbornOrFirst p) (IsUnbornOr H) first-stands leaves

-- before the first call
pub since-start : (disk : DiskState) (P : List ℕ → Type 0) → LeavesSinceSync disk disk P
since-start disk P = λ t later synced.
    let low : t ≤ length disk.steps = synced-le disk.steps t synced in absurd (omega (arith, later, low))

pub moments-start : (H : List Entry) (disk : DiskState) → EachImage disk.steps IsUnborn
    → LeavesOnly disk disk (IsUnbornOr H)
moments-start H disk each = leaves_only-start disk (IsUnbornOr H) (λ c image. inl (each c image))
