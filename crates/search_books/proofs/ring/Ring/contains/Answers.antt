use Rattle.std.proofs.Common.{ap, ◌∙◌, ◌≡◌, not, nat_eq, arith, ℕ, List}
use Rattle.search_books.specs.declared.links.Link.{Link}
use Rattle.search_books.specs.Order.{has}
use Rattle.search_books.specs.Rings.{Order, after_of, order_of}
use Rattle.search_books.proofs.RingSteps.{ring-contains}
use Rattle.search_books.proofs.ring.Ring.contains.Goals as goal

pub returns-clause-has : goal.returns-clause-has
returns-clause-has c =
    let links = c.self.inside.links.items in
    let xs = order_of links in
    let view : xs ≡ c.args.self.now.order = ap (λ (o : Order). o.order) c.self.view_is in
    let s = c.args.number in
    let read : c.after.result ≡ after_of links s = c.after.ensures
    ∙ ap (λ (ls : List Link). after_of ls s) c.deref.ensures.value in
    ap (λ (n : ℕ). not (nat_eq n s)) read
    ∙ (ring-contains links xs s c.self.invariant (omega (arith, c.if-number-eq0.false))
    (omega (arith, c.if-number-len.false, c.len.ensures))
    ∙ ap (λ (ys : List ℕ). has s ys) view)
