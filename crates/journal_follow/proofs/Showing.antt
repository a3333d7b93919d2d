-- What the bytes of a follower's disk show, from what a store is.
use Rattle.std.proofs.Common.{◌≡◌, inl, inr, ⊎_elim, ℕ, List, [], ◌∷◌, ◌++◌, refl, sym, ◌∙◌, ap, subst}
use Rattle.std.proofs.lemmas.List.{append-nil}
use Rattle.farm_disk.specs.Images.{DiskState}
use Rattle.farm_entry.specs.declared.entry.Entry.{Entry}
use Rattle.farm_journal.specs.Created.{IsUnborn}
use Rattle.farm_journal.specs.Layout.{opens, unborn}
use Rattle.farm_store.specs.Bytes.{StandsFor}
use Rattle.farm_store.specs.Founded.{IsUnbornOr}
use Rattle.farm_store.specs.State.{IsStored, IsWithOrWithout, StoreState}
use Rattle.farm_store.specs.State as store
use Rattle.journal_follow.specs.Taking.{Held, IsDecided, IsLeft}
use Rattle.journal_follow.specs.Inside.{IsBegunDisk, IsUnbornDisk}
use Rattle.journal_follow.specs.Shown.{IsKept, Shows, ShowsDecided, ShowsLeft}

-- nothing is pending
abbrev pub just : List Entry → Held
just H = record { history = H; pending = [] }

abbrev pub with_pending : (H new : List Entry) → Held
with_pending H new = record { history = H; pending = new }

-- bytes that stand for a history show it
pub stands-shows : (H : List Entry) (bytes : List ℕ) → StandsFor H bytes → Shows H bytes
stands-shows [] bytes stands = absurd stands.legal
stands-shows (e ∷ more) bytes stands = stands

pub stored-shows : (H new : List Entry) (bytes : List ℕ) → IsWithOrWithout H new bytes
    → ShowsDecided (with_pending H new) bytes
stored-shows H new bytes one = ⊎_elim
    (λ (without : StandsFor H bytes). (H, inl refl, stands-shows H bytes without))
    (λ (all : StandsFor (H ++ new) bytes). (H ++ new, inr refl, stands-shows (H ++ new) bytes all))
    one

pub stored-kept : (H new : List Entry) (disk : DiskState) → IsStored H new disk → IsKept (with_pending H new) disk
stored-kept H new disk stored = record {
  reads = stored-shows H new disk.bytes stored.reads;
  images = λ c image. stored-shows H new c (stored.images c image);
}

-- nothing was created
pub unborn-shows : (bytes : List ℕ) → opens bytes ≡ unborn → ShowsDecided (just []) bytes
unborn-shows bytes none = ([], inl refl, none)

pub unborn-kept : (disk : DiskState) → IsUnbornDisk disk → IsKept (just []) disk
unborn-kept disk none = record {
  reads = unborn-shows disk.bytes none.reads;
  images = λ c image. unborn-shows c (none.images c image);
}

-- nothing, or a store that was begun
pub begun-shows : (H : List Entry) (bytes : List ℕ) → IsUnbornOr H bytes → ShowsDecided (with_pending [] H) bytes
begun-shows H bytes one = ⊎_elim
    (λ (none : IsUnborn bytes). ([], inl refl, none))
    (λ (stands : StandsFor H bytes). (H, inr refl, stands-shows H bytes stands))
    one

pub begun-kept : (H : List Entry) (disk : DiskState) → IsBegunDisk H disk → IsKept (with_pending [] H) disk
begun-kept H disk begun = record {
  reads = begun-shows H disk.bytes begun.reads;
  images = λ c image. begun-shows H c (begun.images c image);
}

-- what is held and decided, is left
pub decided-left : (old new : Held) (bytes : List ℕ) → ShowsDecided old bytes → ShowsLeft old new bytes
decided-left old new bytes shows = (shows.0, inl shows.1, shows.2)

-- what is held now with what is pending now, is left
pub now-left : (old new : Held) (bytes : List ℕ) → Shows (new.history ++ new.pending) bytes → ShowsLeft old new bytes
now-left old new bytes shows = (new.history ++ new.pending, inr refl, shows)

-- what was decided in between
pub decided-twice : (old mid : Held) (H : List Entry) → IsDecided old mid.history → mid.pending ≡ [] → IsDecided mid H
    → IsDecided old H
decided-twice old mid H first none found = ⊎_elim
    (λ (same : H ≡ mid.history). subst (λ (l : List Entry). IsDecided old l) (sym same) first)
    (λ (all : H ≡ mid.history ++ mid.pending). subst (λ (l : List Entry). IsDecided old l)
    (sym (all ∙ ap (λ (l : List Entry). mid.history ++ l) none ∙ append-nil mid.history)) first)
    found

pub left-on : (old mid new : Held) (bytes : List ℕ) → IsDecided old mid.history → mid.pending ≡ []
    → ShowsLeft mid new bytes → ShowsLeft old new bytes
left-on old mid new bytes first none shows =
    let left : IsLeft old new shows.0 = ⊎_elim
    (λ (before : IsDecided mid shows.0). inl (decided-twice old mid shows.0 first none before))
    (λ (now : shows.0 ≡ new.history ++ new.pending). inr now)
    shows.1 in
    (shows.0, left, shows.2)

-- what is left where it is decided in between
pub left-first : (old mid new : Held) (bytes : List ℕ) → IsDecided old mid.history → mid.pending ≡ []
    → ShowsLeft old mid bytes → ShowsLeft old new bytes
left-first old mid new bytes first none shows =
    let left : IsLeft old new shows.0 = ⊎_elim
    (λ (before : IsDecided old shows.0). inl before)
    (λ (now : shows.0 ≡ mid.history ++ mid.pending). inl (decided-twice old mid shows.0 first none (inr now)))
    shows.1 in
    (shows.0, left, shows.2)

-- what a call on a store leaves, shows what is left
pub store-left : {D : Type 0} (old new : StoreState D) (bytes : List ℕ) → store.IsLeft old new bytes
    → ShowsLeft (with_pending old.history old.pending) (with_pending new.history new.pending) bytes
store-left old new bytes left = ⊎_elim
    (λ (before : IsWithOrWithout old.history old.pending bytes).
    decided-left (with_pending old.history old.pending) (with_pending new.history new.pending) bytes
    (stored-shows old.history old.pending bytes before))
    (λ (now : StandsFor (new.history ++ new.pending) bytes).
    now-left (with_pending old.history old.pending) (with_pending new.history new.pending) bytes
    (stands-shows (new.history ++ new.pending) bytes now))
    left
