-- What founding with the orders of a farm before it leaves, as creating does with the history of such a founding.
use Rattle.std.proofs.Common.{◌≡◌, ◌≤◌, true, List, [], length, subst, sym}
use Rattle.std.specs.Prelude.{IfOk}
use Rattle.entry_codec.specs.Spelling.{spelling}
use Rattle.farm_disk.specs.Images.{LeavesOnly, LeavesSinceSync}
use Rattle.farm_entry.specs.declared.entry.Entry.{Entry}
use Rattle.farm_store.specs.Founded.{IsUnbornOr, disk_founded}
use Rattle.farm_store.specs.State.{IsStored, StoreState}
use Rattle.farm_store.specs.declared.asking.TheConstants.{MAX_RECORD_BYTES}
use Rattle.farm_store.specs.Inherited.{inheriting}
use Rattle.farm_entry.specs.Legal.{IsLegal}
use Rattle.farm_store.proofs.Calls.{on_ok-always}
use Rattle.farm_store.proofs.CarriedOver.{inheriting-fits, legal-inheriting}
use Rattle.farm_store.proofs.Foundings.{moments-start, since-start}
use Rattle.farm_store.proofs.store.Store.inherit.Goals as goal

pub returns-in-Err-clause-since_sync : goal.returns-in-Err-clause-since_sync
returns-in-Err-clause-since_sync g c = λ t unborn. since-start (g.D.Disk.told c.args.disk) _

pub returns-in-Err-clause-any_moment : goal.returns-in-Err-clause-any_moment
returns-in-Err-clause-any_moment g c = λ t unborn each. moments-start (inheriting c.args.settings c.args.at c.args.orders.now) _ each

pub create-requires : goal.create-requires
create-requires g c =
    subst (λ (l : List Entry). length (spelling l) ≤ MAX_RECORD_BYTES) (sym c.in-Ok.ensures) (inheriting-fits c.args.settings c.args.at c.args.orders.now c.requires)

pub returns-in-Ok-clause-history : goal.returns-in-Ok-clause-history
returns-in-Ok-clause-history g c =
    subst (λ (l : List Entry). IfOk c.create.result (λ (s : StoreState g.row.D.Denot). s.history ≡ l)) c.in-Ok.ensures
    c.create.ensures.history

pub returns-in-Ok-clause-stored : goal.returns-in-Ok-clause-stored
returns-in-Ok-clause-stored g c =
    subst (λ (l : List Entry). IfOk c.create.result (λ (s : StoreState g.row.D.Denot). g.D.Disk.tells c.args.disk ≡ true
    → IsStored l [] (g.D.Disk.told s.disk))) c.in-Ok.ensures c.create.ensures.stored

pub returns-in-Ok-clause-since_sync : goal.returns-in-Ok-clause-since_sync
returns-in-Ok-clause-since_sync g c = λ t unborn.
    subst (λ (l : List Entry). LeavesSinceSync (g.D.Disk.told c.args.disk) (g.D.Disk.told (disk_founded c.create.result))
    (IsUnbornOr l)) c.in-Ok.ensures (c.create.ensures.since_sync t unborn)

pub returns-in-Ok-clause-any_moment : goal.returns-in-Ok-clause-any_moment
returns-in-Ok-clause-any_moment g c = λ t unborn each.
    subst (λ (l : List Entry). LeavesOnly (g.D.Disk.told c.args.disk) (g.D.Disk.told (disk_founded c.create.result))
    (IsUnbornOr l)) c.in-Ok.ensures (c.create.ensures.any_moment t unborn each)

pub returns-in-Ok-clause-legal : goal.returns-in-Ok-clause-legal
returns-in-Ok-clause-legal g c = on_ok-always c.create.result (IsLegal (inheriting c.args.settings c.args.at c.args.orders.now))
    (legal-inheriting c.args.settings c.args.at c.args.orders.now c.requires)
