use Rattle.std.proofs.Common.{sym, ◌∙◌}
use Rattle.entry_codec.proofs.Made.{bar_of-made}
use Rattle.audit_check.proofs.values.bar_of.Goals as goal

pub returns-in-Ok : goal.returns-in-Ok
returns-in-Ok c =
    let given = c.in-Ok.ensures.as_given in
    sym (bar_of-made c.args.t c.args.u c.in-Ok.bar (given.0 ∙ c.from.ensures) (given.1 ∙ c.from-2.ensures))
