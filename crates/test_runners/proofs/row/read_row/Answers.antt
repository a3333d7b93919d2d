use Rattle.farm_types.specs.CommitId.{id_bytes}
use Rattle.test_runners.proofs.Rows.{read-row}
use Rattle.test_runners.proofs.row.read_row.Goals as goal

pub returns : goal.returns
returns c =
    read-row c.args.line.now (id_bytes c.in-Some.commit) c.read_tested.result c.in-Some.ensures.commit
    c.read_tested.ensures
