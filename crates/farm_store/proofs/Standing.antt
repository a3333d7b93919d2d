-- Which history the bytes of a journal stand for.
use Rattle.std.proofs.Common.{◌≡◌, inl, inr, ⊎_elim, ℕ, List, [], ◌∷◌, ◌++◌, sym, ◌∙◌, subst}
use Rattle.farm_disk.specs.Images.{DiskState, LeavesOnly}
use Rattle.farm_disk.proofs.Moments.{leaves_only-start}
use Rattle.farm_journal.specs.Layout.{holds, opens}
use Rattle.farm_journal.specs.declared.fault.OpeningFault.{OpeningFault}
use Rattle.farm_journal.specs.declared.fault.OpeningFault.TheVariants as opening
use Rattle.farm_journal.specs.Opened.{OnRead}
use Rattle.farm_journal.specs.State.{IsBeforeOrAfter, IsHeld, IsPending}
use Rattle.farm_entry.specs.declared.entry.Entry.{Entry}
use Rattle.farm_store.specs.Admitted.{IsMissed}
use Rattle.farm_store.specs.Bytes.{Spells, StandsFor}
use Rattle.farm_store.specs.Opened.{IsMissedBy}
use Rattle.farm_store.specs.State.{IsStored, IsWithOrWithout}
use Rattle.farm_store.specs.StoreInside.{Keeps}
use Rattle.farm_store.proofs.Spellings.{spells-unique}

holds-same : (ps qs : List (List ℕ)) → holds ps ≡ holds qs → ps ≡ qs
holds-same ps qs same = cc

-- bytes stand for one history
pub stands-unique : (H K : List Entry) (bytes : List ℕ) → StandsFor H bytes → StandsFor K bytes → H ≡ K
stands-unique H K bytes one two =
    let same = holds-same one.payloads two.payloads (sym one.opened ∙ two.opened) in
    spells-unique two.payloads H K (subst (λ (l : List (List ℕ)). Spells l H) same one.spells) two.spells

-- bytes that open to payloads stand for the history that these spell
pub stands-kept : (ps : List (List ℕ)) (H : List Entry) (bytes : List ℕ) → Keeps ps H → opens bytes ≡ holds ps
    → StandsFor H bytes
stands-kept ps H bytes keeps opened = record {
  payloads = ps;
  opened = opened;
  spells = keeps.spells;
  legal = keeps.legal;
}

-- before or after a record more
pub stands-either : (ps : List (List ℕ)) (p : List ℕ) (H new : List Entry) (bytes : List ℕ) → Keeps ps H
    → Keeps (ps ++ p ∷ []) (H ++ new) → IsBeforeOrAfter ps p bytes → IsWithOrWithout H new bytes
stands-either ps p H new bytes before after one = ⊎_elim
    (λ (old : opens bytes ≡ holds ps). inl (stands-kept ps H bytes before old))
    (λ more. inr (stands-kept (ps ++ p ∷ []) (H ++ new) bytes after more.0))
    one

-- what is stored where nothing is pending
pub stored-held : (ps : List (List ℕ)) (H : List Entry) (disk : DiskState) → Keeps ps H → IsHeld ps disk
    → IsStored H [] disk
stored-held ps H disk keeps held =
    let reads : StandsFor H disk.bytes = stands-kept ps H disk.bytes keeps held.reads in
    record {
      reads = inl reads;
      images = λ c image. inl (subst (λ (l : List ℕ). StandsFor H l) (sym (held.settled c image)) reads);
      settled = λ none. held.settled;
    }

-- what is stored where something is pending
pub stored-pending : (ps : List (List ℕ)) (p : List ℕ) (H new : List Entry) (disk : DiskState) → Keeps ps H
    → Keeps (ps ++ p ∷ []) (H ++ new) → (new ≡ [] → ⊥) → IsPending ps p disk → IsStored H new disk
stored-pending ps p H new disk before after some pending = record {
  reads = stands-either ps p H new disk.bytes before after pending.reads;
  images = λ c image. stands-either ps p H new c before after (pending.images c image);
  settled = λ none. absurd (some none);
}

-- where nothing is done, each crash leaves what is stored
pub leaves-stored : (H P : List Entry) (disk : DiskState) → IsStored H P disk
    → LeavesOnly disk disk (IsWithOrWithout H P)
leaves-stored H P disk stored = leaves_only-start disk (IsWithOrWithout H P) stored.images

-- why payloads make no farm is why the bytes stand for no history
pub missed-by : (ps : List (List ℕ)) (bytes : List ℕ) (f : OpeningFault) → opens bytes ≡ holds ps → IsMissed ps f
    → IsMissedBy bytes f
missed-by ps bytes opening.Unborn opened missed = absurd missed
missed-by ps bytes (opening.Damaged o) opened missed = inr (record {
  payloads = ps;
  opened = opened;
  unfit = missed;
})
missed-by ps bytes (opening.StoreFault before after) opened missed = tt
missed-by ps bytes opening.Memory opened missed = tt

-- where the bytes were read
pub read-settled : (f : OpeningFault) (P : Type 0) → P → OnRead f P
read-settled opening.Unborn P held = held
read-settled (opening.Damaged o) P held = held
read-settled (opening.StoreFault before after) P held = tt
read-settled opening.Memory P held = tt
