-- Each order in turn may be carried over, by the lemmas of `CarriedOver`.
use Rattle.std.proofs.Common.{◌≡◌, ◌∙◌, List, [], ◌∷◌, ◌++◌, take, sym, subst, arith}
use Rattle.farm_entry.specs.Legal.{IsLegal}
use Rattle.farm_entry.specs.declared.entry.Entry.{Entry}
use Rattle.farm_rules.specs.Orders.{Ordered}
use Rattle.farm_store.specs.Inherited.{carried_at, inheriting}
use Rattle.farm_store.proofs.CarriedOver.{legal-more, legal-taken}
use Rattle.farm_store.proofs.founding.inherit.Goals as goal

pub carry-requires : goal.carry-requires
carry-requires c =
    let all = c.args.orders.now in
    let i = c.loop-order.order-index in
    let within = c.loop-order-test.true in
    let o : Ordered = c.order-item.result in
    subst (λ (H : List Entry). IsLegal (H ++ carried_at c.args.at o ∷ [])) (sym c.loop-order.invariant)
    (subst (λ (x : Ordered).
    IsLegal (inheriting c.args.settings c.args.at (take i all) ++ carried_at c.args.at x ∷ [])) (sym c.order-item.is)
    (legal-more c.args.settings c.args.at all c.requires i o within
    (legal-taken c.args.settings c.args.at all c.requires i (omega (arith, within)))))
