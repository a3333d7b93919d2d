use Rattle.std.proofs.Common.{sym, ◌∙◌}
use Rattle.entry_codec.proofs.Made.{lowest_rate-made}
use Rattle.audit_check.proofs.values.rate_of.Goals as goal

pub returns-then-b : goal.returns-then-b
returns-then-b c =
    sym (lowest_rate-made c.args.a c.args.b c.in-Ok.rate (sym c.a.ensures ∙ c.if-a.true ∙ c.from-a.ensures)
    (sym c.b.ensures ∙ c.if-b.true ∙ c.from-b.ensures))
