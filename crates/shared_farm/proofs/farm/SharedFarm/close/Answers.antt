use Rattle.std.proofs.Common.{List, ap, sym, subst, ◌∙◌}
use Rattle.farm_entry.specs.declared.entry.Entry.{Entry}
use Rattle.farm_store.specs.State.{StoreState}
use Rattle.common_types.specs.Rows.{AreAmong}
use Rattle.turn_lock.specs.Known.{IsOwned, IsSettled}
use Rattle.shared_farm.specs.Logs.{LockedState}
use Rattle.shared_farm.proofs.Logging.{logged-among}
use Rattle.shared_farm.proofs.farm.SharedFarm.close.Goals as goal

pub returns-clause-logged : goal.returns-clause-logged
returns-clause-logged g c = λ tell.
    let store = c.into_store.result in
    let locked = c.into_inner.result in
    logged-among store.history (g.D.Disk.told store.disk) c.args.pass.rows locked.log
    (subst (λ (l : LockedState g.row.D.Denot). AreAmong c.args.pass.rows l.log) (sym c.into_inner.ensures)
    c.close.ensures.rows) (c.into_store.ensures.logged tell)

pub returns-clause-owned : goal.returns-clause-owned
returns-clause-owned g c = λ all.
    let pass = c.args.pass in
    subst (λ (H : List Entry). IsOwned pass.mine pass.stake.undecided H)
    (ap (λ (l : LockedState g.row.D.Denot). l.store.history) (sym c.into_inner.ensures)
    ∙ ap (λ s. s.history) (sym c.into_store.ensures.same))
    (c.close.ensures.owned all)

pub returns-clause-settled : goal.returns-clause-settled
returns-clause-settled g c =
    let pass = c.args.pass in
    subst (λ (s : StoreState g.row.D.Denot). IsSettled pass.pending pass.faults (g.D.Disk.count s.disk) s.pending)
    (ap (λ (l : LockedState g.row.D.Denot). l.store) (sym c.into_inner.ensures) ∙ sym c.into_store.ensures.same)
    c.close.ensures.settled
