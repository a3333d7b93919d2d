use Rattle.std.proofs.Common.{sym, ◌∙◌}
use Rattle.farm_drill.proofs.Out.{out-lease, out-other, out-report}
use Rattle.farm_drill.proofs.look.note_run.Goals as goal

pub returns-in-Some : goal.returns-in-Some
returns-in-Some c noted H before =
    out-lease H c.args.entry.now c.in-Some.lease c.args.out.now.items c.put_mark.new.out.items
    (sym c.lease.ensures ∙ c.in-Some.is) (c.put_mark.ensures.here noted) c.put_mark.ensures.others before

pub returns-in-Some-told : goal.returns-in-Some-told
returns-in-Some-told c noted H before =
    out-report H c.args.entry.now c.in-Some-told.run' c.args.out.now.items
    c.put_mark-in-Some-told.new.out.items (sym c.lease.ensures ∙ c.in-None.is)
    (sym c.told.ensures ∙ c.in-Some-told.is) c.put_mark-in-Some-told.ensures.others before

pub returns-in_default : goal.returns-in_default
returns-in_default c noted H before =
    out-other H c.args.entry.now c.args.out.now.items (sym c.lease.ensures ∙ c.in-None.is) before
