use Rattle.std.proofs.Common.{ap, ◌∙◌, ◌≡◌, ◌∷◌, true, false, arith, ℕ, List, length}
use Rattle.search_books.specs.Order.{has, put_behind}
use Rattle.search_books.specs.Rings.{Order, order_of}
use Rattle.search_books.proofs.Lists.{none-both}
use Rattle.search_books.proofs.RingSteps.{order-is, ring-seen}
use Rattle.search_books.proofs.ring.Ring.insert.Goals as goal

pub invariant_of-self : goal.invariant_of-self
invariant_of-self c =
    let links = c.self.inside.links.items in
    let xs = order_of links in
    let view : xs ≡ c.args.self.now.order = ap (λ (o : Order). o.order) c.self.view_is in
    let count : length links ≡ c.args.self.now.count = ap (λ (o : Order). o.count) c.self.view_is in
    let s = c.args.number in
    let p = c.args.prior in
    let some : has p (0 ∷ xs) ≡ true = ap (λ (ys : List ℕ). has p (0 ∷ ys)) view ∙ c.requires.prior in
    let none : has s (0 ∷ xs) ≡ false =
    none-both s 0 xs (omega (arith, c.requires.above)) (ap (λ (ys : List ℕ). has s ys) view
    ∙ c.requires.absent) in
    let ring = c.join.ensures.ring xs c.self.invariant some none in
    ring-seen c.join.new.links.items (put_behind p s 0 xs) ring

pub returns-clause-order : goal.returns-clause-order
returns-clause-order c =
    let links = c.self.inside.links.items in
    let xs = order_of links in
    let view : xs ≡ c.args.self.now.order = ap (λ (o : Order). o.order) c.self.view_is in
    let count : length links ≡ c.args.self.now.count = ap (λ (o : Order). o.count) c.self.view_is in
    let s = c.args.number in
    let p = c.args.prior in
    let some : has p (0 ∷ xs) ≡ true = ap (λ (ys : List ℕ). has p (0 ∷ ys)) view ∙ c.requires.prior in
    let none : has s (0 ∷ xs) ≡ false =
    none-both s 0 xs (omega (arith, c.requires.above)) (ap (λ (ys : List ℕ). has s ys) view
    ∙ c.requires.absent) in
    let ring = c.join.ensures.ring xs c.self.invariant some none in
    order-is c.join.new.links.items (put_behind p s 0 xs) ring ∙ ap (λ (ys : List ℕ). put_behind p s 0 ys) view
