use Rattle.std.proofs.Common.{refl}
use Rattle.test_runners.proofs.Rows.{name-other}
use Rattle.test_runners.proofs.row.read_test.Goals as goal

pub returns-in_default : goal.returns-in_default
returns-in_default c = rw (name-other c.args.test.now c.in_default.ensures.cases.0) refl
