-- What opening a store answers.
use Rattle.std.specs.Prelude.{◌≡◌, ℕ, List, Result, Ok, Err, ⊤}
use Rattle.farm_journal.specs.Layout.{unborn, opens}
use Rattle.farm_journal.specs.declared.fault.OpeningFault.{OpeningFault}
use Rattle.farm_journal.specs.declared.fault.OpeningFault.TheVariants.{Unborn, Damaged, StoreFault, Memory}
use Rattle.farm_store.specs.Bytes.{StandsFor}
use Rattle.farm_store.specs.Damage.{IsDamagedAt}
use Rattle.farm_store.specs.State.{StoreState}

-- what opening a store on a disk gives: the store, or the disk again and why
abbrev pub StoreOpening : Type 0 → Type 0
StoreOpening D = Result (StoreState D) (D × OpeningFault)

-- the disk afterwards
abbrev pub disk_opened : {D : Type 0} → StoreOpening D → D
disk_opened (Ok store) = store.disk
disk_opened (Err missed) = missed.0

-- why it wasn't opened is what the bytes are; a fault of the disk and running out of memory say nothing of them
abbrev pub IsMissedBy : List ℕ → OpeningFault → Type 0
IsMissedBy bytes Unborn = opens bytes ≡ unborn
IsMissedBy bytes (Damaged o) = IsDamagedAt bytes o
IsMissedBy bytes (StoreFault before after) = ⊤
IsMissedBy bytes Memory = ⊤

-- the answer is what the bytes stand for
abbrev pub OpensTo : {D : Type 0} → List ℕ → StoreOpening D → Type 0
OpensTo bytes (Ok store) = StandsFor store.history bytes
OpensTo bytes (Err missed) = IsMissedBy bytes missed.1
