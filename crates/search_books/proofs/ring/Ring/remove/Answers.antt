use Rattle.std.proofs.Common.{ap, ◌∙◌, ◌≡◌, true, ℕ, List, length}
use Rattle.search_books.specs.Order.{has, strike}
use Rattle.search_books.specs.Rings.{Order, order_of}
use Rattle.search_books.proofs.Lists.{strike-gone}
use Rattle.search_books.proofs.RingSteps.{order-is, ring-seen}
use Rattle.search_books.proofs.ring.Ring.remove.Goals as goal

pub invariant_of-self : goal.invariant_of-self
invariant_of-self c =
    let links = c.self.inside.links.items in
    let xs = order_of links in
    let view : xs ≡ c.args.self.now.order = ap (λ (o : Order). o.order) c.self.view_is in
    let count : length links ≡ c.args.self.now.count = ap (λ (o : Order). o.count) c.self.view_is in
    let s = c.args.number in
    let some : has s xs ≡ true = ap (λ (ys : List ℕ). has s ys) view ∙ c.requires in
    let ring = c.cut.ensures.ring xs c.self.invariant some in
    ring-seen c.cut.new.links.items (strike s xs) ring

pub returns-clause-order : goal.returns-clause-order
returns-clause-order c =
    let links = c.self.inside.links.items in
    let xs = order_of links in
    let view : xs ≡ c.args.self.now.order = ap (λ (o : Order). o.order) c.self.view_is in
    let count : length links ≡ c.args.self.now.count = ap (λ (o : Order). o.count) c.self.view_is in
    let s = c.args.number in
    let some : has s xs ≡ true = ap (λ (ys : List ℕ). has s ys) view ∙ c.requires in
    let ring = c.cut.ensures.ring xs c.self.invariant some in
    order-is c.cut.new.links.items (strike s xs) ring ∙ ap (λ (ys : List ℕ). strike s ys) view

pub returns-clause-gone : goal.returns-clause-gone
returns-clause-gone c =
    let links = c.self.inside.links.items in
    let xs = order_of links in
    let view : xs ≡ c.args.self.now.order = ap (λ (o : Order). o.order) c.self.view_is in
    let count : length links ≡ c.args.self.now.count = ap (λ (o : Order). o.count) c.self.view_is in
    let s = c.args.number in
    let some : has s xs ≡ true = ap (λ (ys : List ℕ). has s ys) view ∙ c.requires in
    let ring = c.cut.ensures.ring xs c.self.invariant some in
    ap (λ (ys : List ℕ). has s ys) (order-is c.cut.new.links.items (strike s xs) ring)
    ∙ strike-gone s xs c.self.invariant.once.1
