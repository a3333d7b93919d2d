use Rattle.std.proofs.Common.{ap, sym, ◌∙◌, ◌≡◌, ◌++◌, ◌∷◌, [], arith, ℕ, List}
use Rattle.search_books.specs.Order.{has}
use Rattle.search_books.proofs.Lists.{push-apart}
use Rattle.search_books.proofs.active.ActiveOrder.open.Goals as goal

pub invariant_of-self : goal.invariant_of-self
invariant_of-self c =
    let n_is : c.open.result ≡ c.open-number.result =
    omega (arith, c.open.ensures.number, c.open-number.ensures.number, c.self.invariant.same_count) in
    record {
      same_count = omega (
        arith,
        c.push.ensures.count,
        c.open-number.ensures.count,
        c.open.ensures.count,
        c.self.invariant.same_count,
      );
      apart = push-apart c.self.inside.never.order c.self.inside.leased.order c.push.new.self.order
          c.open.new.self.order c.open-number.result
          (c.push.ensures.order ∙ ap
          (λ (xs : List ℕ). xs ++ c.open-number.result ∷ []) c.open-number.ensures.order) c.open.ensures.order
          (ap (λ (n : ℕ). has n c.self.inside.leased.order) (sym n_is) ∙ c.open.ensures.fresh) c.self.invariant.apart;
    }
