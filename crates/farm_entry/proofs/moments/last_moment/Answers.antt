use Rattle.std.proofs.Common.{◌-◌, ◌∙◌, length, arith, ap, sym}
use Rattle.farm_entry.specs.declared.entry.Entry.{Entry}
use Rattle.farm_entry.proofs.Growing.{last_moment-last}
use Rattle.farm_entry.proofs.moments.last_moment.Goals as goal

pub returns-in-len1-up : goal.returns-in-len1-up
returns-in-len1-up c =
    let H = c.args.history.now in
    let last = c.last-item.result in
    ap (λ (e : Entry). e.at) c.last-item.is
    ∙ sym (last_moment-last c.args.at H (length H - 1) last (omega (arith, c.in-len1-up.len_at_least)))
