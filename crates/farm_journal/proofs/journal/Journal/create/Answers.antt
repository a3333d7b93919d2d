use Rattle.std.proofs.Common.{◌∙◌, rules}
use Rattle.std.specs.Result.{IsErrOf}
use Rattle.farm_disk.proofs.Moments.{leaves_only-now}
use Rattle.farm_journal.specs.Created.{IsUnborn}
use Rattle.farm_journal.specs.declared.disk_calls.DiskFault.TheVariants.{Memory}
use Rattle.farm_journal.proofs.Journals.{created-held, created-new}
use Rattle.farm_journal.proofs.journal.Journal.create.Goals as goal

pub returns-in-Ok-true-clause-held : goal.returns-in-Ok-true-clause-held
returns-in-Ok-true-clause-held g c tells =
    created-held (g.D.Disk.told c.found.new.disk) c.in-Ok-true.field-0 c.bytes.result.now c.args.payload.items
    c.in-Ok-true.field-0-test
    (c.bytes.ensures ∙ c.of-payload.ensures) (λ is. c.in-Ok-true.ensures.done is tells)

pub returns-in-Ok-true-clause-new_version : goal.returns-in-Ok-true-clause-new_version
returns-in-Ok-true-clause-new_version g c tells =
    created-new (g.D.Disk.told c.found.new.disk) c.in-Ok-true.field-0 c.bytes.result.now c.in-Ok-true.field-0-test
    (λ is. c.in-Ok-true.ensures.done is tells)

pub returns-in-Err-Memory-clause-memory : goal.returns-in-Err-Memory-clause-memory
returns-in-Err-Memory-clause-memory g c tells test each =
    let wanting : IsErrOf c.found.result Memory = search rules in
    leaves_only-now (g.D.Disk.told c.args.disk) (g.D.Disk.told c.found.new.disk) IsUnborn
    (c.found.ensures.memory wanting tells test each)
