use Rattle.std.proofs.Common.{◌≡◌, sym, ◌∙◌, arith}
use Rattle.farm_types.specs.Moment.{moment_ms}
use Rattle.plain_farm.proofs.Begun.{carried-on, carry-kept}
use Rattle.plain_farm.proofs.beginning.carries_on.Goals as goal

pub keep-requires : goal.keep-requires
keep-requires c =
    carry-kept c.args.history.now c.args.at c.args.orders.now c.in-Carried.commit c.in-Carried.day c.requires
    (sym c.may_follow.ensures ∙ c.if-not-may_follow.false)

pub returns-in_ok-keep-in-Carried : goal.returns-in_ok-keep-in-Carried
returns-in_ok-keep-in-Carried c =
    let same : moment_ms c.args.entry.now.at ≡ moment_ms c.args.at =
    omega (arith, c.ms.ensures.number, c.ms-in-Carried.ensures.number, c.if-ms.false) in
    λ kept. carried-on c.args.history.now c.args.entry.now c.args.at c.args.orders.now c.keep.new.orders
    c.in-Carried.commit c.in-Carried.day c.requires c.in-Carried.is same
    (sym c.may_follow.ensures ∙ c.if-not-may_follow.false) c.in_ok-keep-in-Carried.ensures
