use Rattle.std.proofs.Common.{ap, ◌∙◌, ◌≡◌, ◌++◌, ◌∷◌, [], true, false, arith, ℕ, List, length}
use Rattle.search_books.specs.declared.links.Link.{Link}
use Rattle.search_books.specs.Order.{has, put_behind}
use Rattle.search_books.specs.Rings.{Order, after_of, before_of, order_of}
use Rattle.search_books.proofs.Lists.{none-both}
use Rattle.search_books.proofs.Paths.{last-in, behind-last}
use Rattle.search_books.proofs.RingSteps.{order-is, ring-seen}
use Rattle.search_books.proofs.ring.Ring.push.Goals as goal

pub invariant_of-self : goal.invariant_of-self
invariant_of-self c =
    let links = c.self.inside.links.items in
    let xs = order_of links in
    let view : xs ≡ c.args.self.now.order = ap (λ (o : Order). o.order) c.self.view_is in
    let count : length links ≡ c.args.self.now.count = ap (λ (o : Order). o.count) c.self.view_is in
    let s = c.args.number in
    let p = c.before-last.result in
    let last : p ≡ before_of links 0 = c.before-last.ensures
    ∙ ap (λ (ls : List Link). before_of ls 0) c.deref.ensures.value in
    let some : has p (0 ∷ xs) ≡ true =
    ap (λ (n : ℕ). has n (0 ∷ xs)) last ∙ last-in (after_of links) (before_of links) 0 xs c.self.invariant.path in
    let none : has s (0 ∷ xs) ≡ false =
    none-both s 0 xs (omega (arith, c.requires.above)) (ap (λ (ys : List ℕ). has s ys) view
    ∙ c.requires.absent) in
    let ring = c.join.ensures.ring xs c.self.invariant some none in
    ring-seen c.join.new.links.items (put_behind p s 0 xs) ring

pub returns-clause-order : goal.returns-clause-order
returns-clause-order c =
    let links = c.self.inside.links.items in
    let xs = order_of links in
    let view : xs ≡ c.args.self.now.order = ap (λ (o : Order). o.order) c.self.view_is in
    let count : length links ≡ c.args.self.now.count = ap (λ (o : Order). o.count) c.self.view_is in
    let s = c.args.number in
    let p = c.before-last.result in
    let last : p ≡ before_of links 0 = c.before-last.ensures
    ∙ ap (λ (ls : List Link). before_of ls 0) c.deref.ensures.value in
    let some : has p (0 ∷ xs) ≡ true =
    ap (λ (n : ℕ). has n (0 ∷ xs)) last ∙ last-in (after_of links) (before_of links) 0 xs c.self.invariant.path in
    let none : has s (0 ∷ xs) ≡ false =
    none-both s 0 xs (omega (arith, c.requires.above)) (ap (λ (ys : List ℕ). has s ys) view
    ∙ c.requires.absent) in
    let ring = c.join.ensures.ring xs c.self.invariant some none in
    order-is c.join.new.links.items (put_behind p s 0 xs) ring
    ∙ (ap (λ (n : ℕ). put_behind n s 0 xs) last
    ∙ (behind-last (after_of links) (before_of links) 0 s xs c.self.invariant.path c.self.invariant.once
    ∙ ap (λ (ys : List ℕ). ys ++ s ∷ []) view))
