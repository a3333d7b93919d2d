use Rattle.std.proofs.Common.{◌≡◌, ◌≤◌, length, false, true, ap, arith}
use Rattle.farm_entry.specs.History.{order_lines}
use Rattle.farm_entry.specs.declared.limits.TheConstants.{MAX_ENTRIES}
use Rattle.farm_entry.specs.declared.reply.Totals.{Totals}
use Rattle.farm_drill.proofs.Counts.{days-few, orders-bounded}
use Rattle.farm_drill.proofs.reverts.next_revert_moment.Goals as goal

pub overflow_add-orders : goal.overflow_add-orders
overflow_add-orders c =
    let few : length (order_lines c.args.store.now.history) ≤ MAX_ENTRIES =
    orders-bounded c.args.store.now.history c.history-history.ensures.legal in
    let same : c.totals-orders.result.orders ≡ length (order_lines c.args.store.now.history) =
    ap (λ (t : Totals). t.orders) c.totals-orders.ensures in
    let days = days-few c.totals-orders.result.orders c.from.result c.from.ensures (omega arith) in
    omega arith

pub overflow_mul-orders : goal.overflow_mul-orders
overflow_mul-orders c =
    let few : length (order_lines c.args.store.now.history) ≤ MAX_ENTRIES =
    orders-bounded c.args.store.now.history c.history-history.ensures.legal in
    let same : c.totals-orders.result.orders ≡ length (order_lines c.args.store.now.history) =
    ap (λ (t : Totals). t.orders) c.totals-orders.ensures in
    let days = days-few c.totals-orders.result.orders c.from.result c.from.ensures (omega arith) in
    omega arith

pub unreachable-requires : goal.unreachable-requires
unreachable-requires c =
    let few : length (order_lines c.args.store.now.history) ≤ MAX_ENTRIES =
    orders-bounded c.args.store.now.history c.history-history.ensures.legal in
    let same : c.totals-orders.result.orders ≡ length (order_lines c.args.store.now.history) =
    ap (λ (t : Totals). t.orders) c.totals-orders.ensures in
    let days = days-few c.totals-orders.result.orders c.from.result c.from.ensures (omega arith) in
    let taken : false ≡ true = c.in_default.ensures.taken.1 (omega arith, omega arith) in
    cc taken
