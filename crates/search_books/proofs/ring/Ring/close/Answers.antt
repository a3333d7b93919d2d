use Rattle.std.proofs.Common.{ap, subst, ◌∙◌, ◌≡◌, ◌+◌, ◌-◌, ◌∷◌, [], false, arith, ℕ, List, length, length-append}
use Rattle.search_books.specs.declared.links.Link.{Link}
use Rattle.search_books.specs.Order.{has}
use Rattle.search_books.specs.Rings.{Order, order_of, IsRing}
use Rattle.search_books.proofs.RingSteps.{order-is, ring-seen, ring-close}
use Rattle.search_books.proofs.ring.Ring.close.Goals as goal

pub invariant_of-self : goal.invariant_of-self
invariant_of-self c =
    let links = c.self.inside.links.items in
    let xs = order_of links in
    let new = c.pop.new.self.items in
    let view : xs ≡ c.args.self.now.order = ap (λ (o : Order). o.order) c.self.view_is in
    let count : length links ≡ c.args.self.now.count = ap (λ (o : Order). o.count) c.self.view_is in
    let len : length links ≡ length new + 1 =
    ap (λ (ls : List Link). length ls) c.in-Some.ensures.items ∙ length-append new (c.in-Some._last ∷ []) in
    let n_is : length new ≡ c.args.self.now.count - 1 = omega (arith, len, count) in
    let gone : has (length new) xs ≡ false =
    ap (λ (n : ℕ). has n xs) n_is
    ∙ (ap (λ (ys : List ℕ). has (c.args.self.now.count - 1) ys) view ∙ c.requires.out) in
    let whole = subst (λ (ls : List Link). IsRing ls xs) c.in-Some.ensures.items c.self.invariant in
    let ring = ring-close new c.in-Some._last xs (omega (arith, len, count, c.requires.some)) whole gone in
    ring-seen new xs ring

pub returns-clause-order : goal.returns-clause-order
returns-clause-order c =
    let links = c.self.inside.links.items in
    let xs = order_of links in
    let new = c.pop.new.self.items in
    let view : xs ≡ c.args.self.now.order = ap (λ (o : Order). o.order) c.self.view_is in
    let count : length links ≡ c.args.self.now.count = ap (λ (o : Order). o.count) c.self.view_is in
    let len : length links ≡ length new + 1 =
    ap (λ (ls : List Link). length ls) c.in-Some.ensures.items ∙ length-append new (c.in-Some._last ∷ []) in
    let n_is : length new ≡ c.args.self.now.count - 1 = omega (arith, len, count) in
    let gone : has (length new) xs ≡ false =
    ap (λ (n : ℕ). has n xs) n_is
    ∙ (ap (λ (ys : List ℕ). has (c.args.self.now.count - 1) ys) view ∙ c.requires.out) in
    let whole = subst (λ (ls : List Link). IsRing ls xs) c.in-Some.ensures.items c.self.invariant in
    let ring = ring-close new c.in-Some._last xs (omega (arith, len, count, c.requires.some)) whole gone in
    order-is new xs ring ∙ view
