use Rattle.std.proofs.Common.{◌≡◌, ◌+◌, ◌-◌, ◌<◌, List, length, subst, arith}
use Rattle.plain_farm.specs.declared.rows.Row.{Row}
use Rattle.plain_farm.proofs.Steps.{long-before, step-leased, step-leased_none}
use Rattle.plain_farm.proofs.Taking.{HasNoRow}
use Rattle.plain_farm.proofs.rows.take_lease.Goals as goal

pub returns-in_ok-lease_row : goal.returns-in_ok-lease_row
returns-in_ok-lease_row c =
    let H = c.args.history.now in
    let at = c.in-Some.ensures.found in
    let below = subst (λ (rows : List Row). c.in-Some.index < length rows) c.deref.ensures.value at.1 in
    let long = long-before H c.args.entry.now c.args.rows.now.items c.requires.step in
    let last : length H - 1 + 1 ≡ length H = omega (arith, long) in
    step-leased H c.args.entry.now c.args.rows.now.items c.requires.step c.args.lease c.requires.leased c.in-Some.index
    c.index_mut.result.now c.lease_row.new.row (length H - 1) at.0 below c.index_mut.ensures.value last
    c.in_ok-lease_row.ensures

pub returns-in_default : goal.returns-in_default
returns-in_default c =
    step-leased_none c.args.history.now c.args.entry.now c.args.rows.now.items c.requires.step c.args.lease
    c.requires.leased
    (subst (λ (rows : List Row). HasNoRow rows c.args.lease.search) c.deref.ensures.value c.in_default.ensures.none)
