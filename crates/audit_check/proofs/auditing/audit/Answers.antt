use Rattle.std.proofs.Common.{sym, ap, ◌∙◌}
use Rattle.audit_check.specs.Held.{told_in}
use Rattle.audit_check.specs.Told.{entries, told}
use Rattle.audit_check.proofs.Unique.{only-found}
use Rattle.audit_check.proofs.auditing.audit.Goals as goal

pub returns-in-Entries-clause-only : goal.returns-in-Entries-clause-only
returns-in-Entries-clause-only c = λ finding right.
    only-found (told c.args.bytes.now) c.deref.result.now c.finding_on.result
    (sym c.in_ok-tell.ensures ∙ ap told_in c.in-Entries.is ∙ ap entries (sym c.deref.ensures.value))
    c.finding_on.ensures finding right
