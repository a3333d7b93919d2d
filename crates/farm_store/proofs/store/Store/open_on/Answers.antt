-- What opening finds, from what its journal and its payloads are.
use Rattle.std.proofs.Common.{◌≡◌, true, sym, subst}
use Rattle.farm_disk.specs.Images.{IsSettled}
use Rattle.farm_store.proofs.Standing.{missed-by, read-settled, stored-held}
use Rattle.farm_store.proofs.store.Store.open_on.Goals as goal

pub returns-in-Ok-farm_of-clause-stored : goal.returns-in-Ok-farm_of-clause-stored
returns-in-Ok-farm_of-clause-stored g c = λ t.
    stored-held c.in-Ok.payloads c.in-Ok-farm_of.farm.history (g.D.Disk.told c.in-Ok.journal.disk)
    c.in-Ok-farm_of.ensures.farm (c.in-Ok.ensures.held t)

pub returns-in-Ok-clause-answers : goal.returns-in-Ok-clause-answers
returns-in-Ok-clause-answers g c = λ t.
    missed-by c.in-Ok.payloads (g.D.Disk.told c.args.disk).bytes c.in-Err-farm_of.fault
    (c.in-Ok.ensures.answers t) c.in-Err-farm_of.ensures.missed

pub returns-in-Ok-clause-settled : goal.returns-in-Ok-clause-settled
returns-in-Ok-clause-settled g c =
    read-settled c.in-Err-farm_of.fault (g.D.Disk.tells c.args.disk ≡ true → IsSettled (g.D.Disk.told c.into_disk.result))
    (λ t. subst (λ (d : g.row.D.Denot). IsSettled (g.D.Disk.told d)) (sym c.into_disk.ensures) (c.in-Ok.ensures.held t).settled)
