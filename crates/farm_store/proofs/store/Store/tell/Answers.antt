use Rattle.farm_store.proofs.Calls.{legal-view, stored-view}
use Rattle.farm_store.proofs.store.Store.tell.Goals as goal

pub returns-clause-legal : goal.returns-clause-legal
returns-clause-legal g c = legal-view g.D.Disk.tells g.D.Disk.told c.self.inside.farm c.self.inside.journal
    c.self.inside.recorded c.args.self.now c.self.view_is c.self.invariant

pub returns-clause-stored : goal.returns-clause-stored
returns-clause-stored g c = stored-view g.D.Disk.tells g.D.Disk.told c.self.inside.farm c.self.inside.journal
    c.self.inside.recorded c.args.self.now c.self.view_is c.self.invariant
