use Rattle.entry_codec.proofs.Made.{id_of-made}
use Rattle.audit_check.proofs.values.id_of.Goals as goal

pub returns : goal.returns
returns c = id_of-made c.args.bytes.now c.of.result c.of.ensures
