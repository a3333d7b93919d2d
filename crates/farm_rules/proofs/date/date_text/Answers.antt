use Rattle.std.proofs.Common.{◌≡◌, ◌∙◌, ap, arith, length, pos, w64, to_z, ℕ, List}
use Rattle.std.proofs.lemmas.Int.{to_z_pos}
use Rattle.farm_rules.proofs.Dates.{can_add-first, date_add-first, length-date_text}
use Rattle.farm_rules.proofs.date.date_text.Goals as goal

pub unreachable-requires : goal.unreachable-requires
unreachable-requires c =
    let same : to_z w64 c.args.day ≡ pos c.args.day = to_z_pos w64 c.args.day (omega arith) in
    let can = can_add-first c.date.result c.date.ensures c.args.day _ c.days.result c.days.ensures same c.requires in
    let found = c.in_default.ensures.succeeds.1 can in
    cc

pub returns-clause-date : goal.returns-clause-date
returns-clause-date c =
    let same : to_z w64 c.args.day ≡ pos c.args.day = to_z_pos w64 c.args.day (omega arith) in
    let day = c.in-Ok.ensures.value ∙ date_add-first c.date.result c.date.ensures c.args.day _ c.days.result c.days.ensures same in
    (c.in-Ok.found, day, c.in_ok-format.ensures.ok)

pub returns-clause-len : goal.returns-clause-len
returns-clause-len c =
    let same : to_z w64 c.args.day ≡ pos c.args.day = to_z_pos w64 c.args.day (omega arith) in
    let day = c.in-Ok.ensures.value ∙ date_add-first c.date.result c.date.ensures c.args.day _ c.days.result c.days.ensures same in
    ap (λ (text : List ℕ). length text) c.in_ok-format.ensures.ok ∙ length-date_text c.date.result c.date.ensures c.in-Ok.found c.args.day day
