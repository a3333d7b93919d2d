use Rattle.std.proofs.Common.{◌≡◌, ◌&&◌, true, nat_lt, Bool, List, Option, length, refl, sym, ap, ◌∙◌, arith, lt-ltb}
use Rattle.std.specs.Option.{is_some}
use Rattle.farm_rules.specs.Orders.{candidates, earliest}
use Rattle.farm_rules.specs.declared.orders.Candidate.{Candidate}
use Rattle.farm_entry.specs.Closing.{has_order_to_take}
use Rattle.farm_entry.specs.Orders.{confirmed_searches, orders}
use Rattle.farm_entry.specs.declared.entry.Entry.{Entry}
use Rattle.farm_laws.proofs.Bounds.{openings-bounded}
use Rattle.farm_ledger.specs.Waiting.{IsLowest}
use Rattle.farm_ledger.proofs.Earliest.{order-to_take}
use Rattle.farm_ledger.proofs.Lows.{lows-last}
use Rattle.farm_ledger.proofs.ledger.Ledger.has_order_to_take.Goals as goal

pub overflow_add-low : goal.overflow_add-low
overflow_add-low c =
    let s = c.self.inside in
    let H : List Entry = s.register in
    let h = c.self.invariant in
    let count : c.len.result ≡ length s.lows.items = omega (arith, c.len.ensures) in
    let low : IsLowest H c.index-low.result.now =
    lows-last H s.lows.items c.len.result c.index-low.result.now h.legal h.lows count c.index-low.ensures in
    omega (arith, low.served.within, openings-bounded H h.legal)

pub returns-then-daily_limit-gt0 : goal.returns-then-daily_limit-gt0
returns-then-daily_limit-gt0 c =
    let s = c.self.inside in
    let H : List Entry = s.register in
    let h = c.self.invariant in
    let count : c.len.result ≡ length s.lows.items = omega (arith, c.len.ensures) in
    let low : IsLowest H c.index-low.result.now =
    lows-last H s.lows.items c.len.result c.index-low.result.now h.legal h.lows count c.index-low.ensures in
    let first : Option Candidate = c.waiting.result in
    let some : nat_lt 0 c.daily_limit.result ≡ true =
    lt-ltb 0 c.daily_limit.result (omega (arith, c.if-daily_limit-gt0.true)) in
    c.is_some.ensures
    ∙ ap (λ (b : Bool). b && is_some first) (sym some)
    ∙ order-to_take H c.daily_limit.result first c.daily_limit.ensures (c.waiting.ensures ∙ low.first)
    ∙ ap has_order_to_take c.self.view_is

pub returns-else-daily_limit-gt0 : goal.returns-else-daily_limit-gt0
returns-else-daily_limit-gt0 c =
    let H : List Entry = c.self.inside.register in
    let first : Option Candidate = earliest (candidates (confirmed_searches H) (orders H)) in
    let none : c.daily_limit.result ≡ 0 = omega (arith, c.if-daily_limit-gt0.false) in
    ap (nat_lt 0) none
    ∙ sym (ap (λ (b : Bool). b && is_some first) (ap (nat_lt 0) none))
    ∙ order-to_take H c.daily_limit.result first c.daily_limit.ensures refl
    ∙ ap has_order_to_take c.self.view_is
