use Rattle.std.proofs.Common.{◌∙◌, arith}
use Rattle.plain_farm.proofs.Few.{few_of_day, few_orders}
use Rattle.plain_farm.proofs.orders.next_order_by.Goals as goal

pub overflow_cast-count : goal.overflow_cast-count
overflow_cast-count c =
    omega (
      arith,
      c.orders_of-count.ensures,
      few_of_day c.args.history.now c.day_in-day.result c.deref-4.result.now c.requires.legal (c.deref-4.ensures.value ∙ c.in_ok-orders.ensures),
    )

pub overflow_cast-result : goal.overflow_cast-result
overflow_cast-result c = omega (arith, c.orders_count.ensures, few_orders c.args.history.now c.requires.legal)

pub overflow_add-result : goal.overflow_add-result
overflow_add-result c = omega (arith, c.orders_count.ensures, few_orders c.args.history.now c.requires.legal)
