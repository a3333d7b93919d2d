-- What storing new entries does to a journal.
use Rattle.std.specs.Prelude.{◌≡◌, ◌≢◌, ◌<◌, ◌⊎◌, Bool, true, ℕ, List, [], ◌∷◌, ◌++◌, Some, None, Result, Ok, Err}
use Rattle.farm_disk.specs.Images.{DiskState, LeavesOnly}
use Rattle.farm_journal.specs.Layout.{gate_of, holds, opens}
use Rattle.farm_journal.specs.State.{JournalState, IsBeforeOrAfter, IsHeld, IsPending}
use Rattle.farm_journal.specs.declared.fault.JournalFault.{JournalFault}
use Rattle.farm_journal.specs.declared.fault.JournalFault.TheVariants as fault
use Rattle.farm_journal.specs.declared.layout.TheConstants.{GATE_LIMIT}
use Rattle.entry_codec.specs.Grammar.{AreSpelled}
use Rattle.entry_codec.specs.Spelling.{spelling}
use Rattle.farm_entry.specs.declared.entry.Entry.{Entry}
use Rattle.farm_store.specs.Bytes.{StandsFor}

module _ {D : Type 0} (tells : D → Bool) (told : D → DiskState) where
  -- nothing is pending, there is room for a record, and each crash leaves the payloads
  pub record IsOpen (journal : JournalState D) : Type 0 where
    pub idle : journal.pending ≡ None
    pub room : gate_of journal.payloads < GATE_LIMIT
    pub held : tells journal.disk ≡ true → IsHeld journal.payloads (told journal.disk)

  -- the entries are stored in one record
  pub record IsWritten (entries : List Entry) (old new : JournalState D) : Type 0 where
    pub some : entries ≢ []
    pub spelled : AreSpelled entries
    pub payloads : new.payloads ≡ old.payloads ++ spelling entries ∷ []
    pub idle : new.pending ≡ None
    pub held : tells old.disk ≡ true → IsHeld (old.payloads ++ spelling entries ∷ []) (told new.disk)
    pub images : tells old.disk ≡ true
        → LeavesOnly (told old.disk) (told new.disk) (IsBeforeOrAfter old.payloads (spelling entries))

  -- it is undecided whether they are
  pub record IsTorn (entries : List Entry) (old new : JournalState D) : Type 0 where
    pub some : entries ≢ []
    pub spelled : AreSpelled entries
    pub payloads : new.payloads ≡ old.payloads
    pub pending : new.pending ≡ Some (spelling entries)
    pub waits : tells old.disk ≡ true → IsPending old.payloads (spelling entries) (told new.disk)
    pub images : tells old.disk ≡ true
        → LeavesOnly (told old.disk) (told new.disk) (IsBeforeOrAfter old.payloads (spelling entries))

  -- nothing was stored, and no crash leaves anything of them
  pub record IsUnwritten (old new : JournalState D) : Type 0 where
    pub payloads : new.payloads ≡ old.payloads
    pub idle : new.pending ≡ None
    pub held : tells old.disk ≡ true → IsHeld old.payloads (told new.disk)
    pub images : tells old.disk ≡ true → LeavesOnly (told old.disk) (told new.disk) (λ c. opens c ≡ holds old.payloads)

  -- there was nothing to store
  pub record IsUntouched (entries : List Entry) (old new : JournalState D) : Type 0 where
    pub none : entries ≡ []
    pub same : new ≡ old

  -- what storing entries did, by its answer
  abbrev pub Wrote : List Entry → Result (Unit {0}) JournalFault → (old new : JournalState D) → Type 0
  Wrote entries (Ok _) old new = IsUntouched entries old new ⊎ IsWritten entries old new
  Wrote entries (Err (fault.StoreFault before after)) old new = IsTorn entries old new
  Wrote entries (Err fault.Memory) old new = IsUnwritten old new

-- each crash leaves these payloads' history, or the one with these entries, where they may have been stored
abbrev pub LeavesNew : (H new : List Entry) → Result (Unit {0}) JournalFault → List ℕ → Type 0
LeavesNew H new (Err fault.Memory) bytes = StandsFor H bytes
LeavesNew H new _ bytes = StandsFor H bytes ⊎ StandsFor (H ++ new) bytes
