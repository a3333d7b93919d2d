use Rattle.std.proofs.Common.{◌≡◌, List, length, ◌∙◌, arith}
use Rattle.farm_entry.specs.declared.entry.Entry.{Entry}
use Rattle.farm_laws.proofs.Bounds.{openings-bounded}
use Rattle.farm_ledger.specs.Waiting.{IsLowest}
use Rattle.farm_ledger.proofs.Lows.{lows-last}
use Rattle.farm_ledger.proofs.ledger.Ledger.next_order.Goals as goal

pub overflow_add-low : goal.overflow_add-low
overflow_add-low c =
    let s = c.self.inside in
    let H : List Entry = s.register in
    let h = c.self.invariant in
    let count : c.len.result ≡ length s.lows.items = omega (arith, c.len.ensures) in
    let low : IsLowest H c.index-low.result.now =
    lows-last H s.lows.items c.len.result c.index-low.result.now h.legal h.lows count c.index-low.ensures in
    omega (arith, low.served.within, openings-bounded H h.legal)

pub next_order-requires : goal.next_order-requires
next_order-requires c =
    let s = c.self.inside in
    let H : List Entry = s.register in
    let h = c.self.invariant in
    let count : c.len.result ≡ length s.lows.items = omega (arith, c.len.ensures) in
    let low : IsLowest H c.index-low.result.now =
    lows-last H s.lows.items c.len.result c.index-low.result.now h.legal h.lows count c.index-low.ensures in
    c.waiting-first.ensures ∙ low.first
