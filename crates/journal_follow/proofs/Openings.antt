-- What opening a follower answers, from what opening its store does.
use Rattle.std.proofs.Common.{◌≡◌, ◌≢◌, ◌≤◌, ℕ, Bool, true, List, [], refl, sym, ◌∙◌, ap, subst}
use Rattle.farm_disk.specs.Images.{DiskState, IsSettled}
use Rattle.farm_entry.specs.Legal.{IsLegal}
use Rattle.farm_entry.specs.declared.entry.Entry.{Entry}
use Rattle.farm_journal.specs.Created.{IsUnborn}
use Rattle.farm_journal.specs.Layout.{opens}
use Rattle.farm_journal.specs.ReadsOnly.{ReadsOnly}
use Rattle.farm_store.specs.Bytes.{StandsFor}
use Rattle.farm_store.specs.State.{IsStored, StoreState}
use Rattle.journal_follow.specs.Inside.{IsUnbornDisk, on_disk}
use Rattle.journal_follow.specs.Opened.{IsOpened}
use Rattle.journal_follow.proofs.Showing.{stands-shows, stored-kept, unborn-kept}

-- what a read gives, each crash leaves, and nothing is there
pub unborn-read : (old new : DiskState) → ReadsOnly old new → IsSettled new → IsUnborn old.bytes → IsUnbornDisk new
unborn-read old new only settled none =
    let reads : IsUnborn new.bytes = ap opens only.bytes ∙ none in
    record { reads = reads; images = λ c image. ap opens (settled c image) ∙ reads }

module _ {D : Type 0} (tells : D → Bool) (told : D → DiskState) (count : D → ℕ) (disk : D) where
  pub is-opened : (store : StoreState D) → tells store.disk ≡ tells disk
      → (tells disk ≡ true → StandsFor store.history (told disk).bytes) → store.pending ≡ []
      → (tells disk ≡ true → IsStored store.history [] (told store.disk))
      → (tells disk ≡ true → ReadsOnly (told disk) (told store.disk)) → count disk ≤ count store.disk
      → IsOpened tells told count disk (on_disk tells told count store.disk store.history store.pending)
  is-opened store same stands none stored only falls = record {
    same = same;
    none = none;
    shows = λ t. stands-shows store.history (told disk).bytes (stands t);
    kept = λ t. stored-kept store.history store.pending (told store.disk)
        (subst (λ (l : List Entry). IsStored store.history l (told store.disk)) (sym none) (stored t));
    only = only;
    never_falls = falls;
  }

  -- nothing was created yet
  pub is-unborn : (again : D) → tells again ≡ tells disk → (tells disk ≡ true → IsUnborn (told disk).bytes)
      → (tells disk ≡ true → ReadsOnly (told disk) (told again))
      → (tells disk ≡ true → IsSettled (told again)) → count disk ≤ count again
      → IsOpened tells told count disk (on_disk tells told count again [] [])
  is-unborn again same none only settled falls = record {
    same = same;
    none = refl;
    shows = none;
    kept = λ t. unborn-kept (told again) (unborn-read (told disk) (told again) (only t) (settled t) (none t));
    only = only;
    never_falls = falls;
  }
