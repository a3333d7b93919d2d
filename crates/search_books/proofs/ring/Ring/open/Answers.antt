use Rattle.std.proofs.Common.{ap, sym, subst, ◌∙◌, ◌≡◌, arith, List, length}
use Rattle.search_books.specs.declared.links.Link.{Link}
use Rattle.search_books.specs.Rings.{Order, order_of, IsRing}
use Rattle.search_books.proofs.RingSteps.{order-is, ring-seen, ring-open}
use Rattle.search_books.proofs.ring.Ring.open.Goals as goal

pub invariant_of-self : goal.invariant_of-self
invariant_of-self c =
    let links = c.self.inside.links.items in
    let xs = order_of links in
    let view : xs ≡ c.args.self.now.order = ap (λ (o : Order). o.order) c.self.view_is in
    let count : length links ≡ c.args.self.now.count = ap (λ (o : Order). o.count) c.self.view_is in
    let new : Link = record { after = c.len-number.result; before = c.len-number.result } in
    let n_is : c.len-number.result ≡ length links = omega (arith, c.len-number.ensures) in
    let ring = subst (λ (ls : List Link). IsRing ls xs) (sym c.push_reserved.ensures.items)
    (ring-open links new xs c.self.invariant n_is n_is) in
    ring-seen c.push_reserved.new.self.items xs ring

pub returns-clause-order : goal.returns-clause-order
returns-clause-order c =
    let links = c.self.inside.links.items in
    let xs = order_of links in
    let view : xs ≡ c.args.self.now.order = ap (λ (o : Order). o.order) c.self.view_is in
    let count : length links ≡ c.args.self.now.count = ap (λ (o : Order). o.count) c.self.view_is in
    let new : Link = record { after = c.len-number.result; before = c.len-number.result } in
    let n_is : c.len-number.result ≡ length links = omega (arith, c.len-number.ensures) in
    let ring = subst (λ (ls : List Link). IsRing ls xs) (sym c.push_reserved.ensures.items)
    (ring-open links new xs c.self.invariant n_is n_is) in
    order-is c.push_reserved.new.self.items xs ring ∙ view
