use Rattle.std.proofs.Common.{sym, ◌∙◌}
use Rattle.entry_codec.proofs.Made.{lowest_miss-made}
use Rattle.audit_check.proofs.values.lowest_miss.Goals as goal

pub returns-then-d : goal.returns-then-d
returns-then-d c =
    sym (lowest_miss-made c.args.c c.args.d c.in-Ok.miss (sym c.c.ensures ∙ c.if-c.true ∙ c.from-c.ensures)
    (sym c.d.ensures ∙ c.if-d.true ∙ c.from-d.ensures))
