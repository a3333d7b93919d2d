use Rattle.std.proofs.Common.{sym, ap, subst, ◌∙◌}
use Rattle.farm_store.specs.State.{IsStored, StoreState}
use Rattle.farm_store.proofs.Calls.{stored-view}
use Rattle.farm_store.proofs.store.Store.into_disk.Goals as goal

pub returns-clause-stored : goal.returns-clause-stored
returns-clause-stored g c t =
    let same = c.into_disk.ensures ∙ ap (λ (s : StoreState g.row.D.Denot). s.disk) c.self.view_is in
    subst (λ (d : g.row.D.Denot). IsStored c.args.self.history c.args.self.pending (g.D.Disk.told d)) (sym same)
    (stored-view g.D.Disk.tells g.D.Disk.told c.self.inside.farm c.self.inside.journal c.self.inside.recorded
    c.args.self c.self.view_is c.self.invariant t)
