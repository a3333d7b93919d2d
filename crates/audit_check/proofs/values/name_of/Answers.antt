use Rattle.entry_codec.proofs.Made.{name_of-other}
use Rattle.audit_check.proofs.values.name_of.Goals as goal

pub returns-in_default : goal.returns-in_default
returns-in_default c = name_of-other c.args.bytes.now c.in_default.ensures.cases.0
