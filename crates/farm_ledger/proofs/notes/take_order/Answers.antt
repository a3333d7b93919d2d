use Rattle.std.proofs.Common.{◌-◌, Bool, Option, Some, None, sym, ap, ◌∙◌, true≢false}
use Rattle.std.specs.Option.{IfSome, IsSome}
use Rattle.farm_ledger.specs.Booked.{one_if}
use Rattle.farm_ledger.proofs.notes.take_order.Goals as goal

-- what holds where there is a value, where there is one
holds-some : {X P : Type 0} (x : Option X) → IsSome x → IfSome x (λ _. P) → P
holds-some None some holds = absurd (true≢false (sym some))
holds-some (Some y) some holds = holds

pub returns-then-is_order-clause-given : goal.returns-then-is_order-clause-given
returns-then-is_order-clause-given c =
    holds-some c.take_last-last.result
    (c.take_last-last.ensures.found.1 (c.requires c.if-is_order.true))
    c.take_last-last.ensures.given
    ∙ ap (λ (b : Bool). c.args.orders.now.given - one_if b) (sym c.if-is_order.true)
