use Rattle.std.proofs.Common.{sym}
use Rattle.entry_codec.proofs.Made.{moment_of-made}
use Rattle.audit_check.proofs.values.moment_of.Goals as goal

pub returns-in-Ok : goal.returns-in-Ok
returns-in-Ok c = sym (moment_of-made c.args.ms c.in-Ok.moment c.in-Ok.ensures.kept)
