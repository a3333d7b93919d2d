use Rattle.std.proofs.Common.{ap, ◌∙◌, ◌≡◌, true, ℕ, List, length}
use Rattle.search_books.specs.declared.links.Link.{Link}
use Rattle.search_books.specs.Order.{has, prior_of}
use Rattle.search_books.specs.Rings.{Order, after_of, before_of, order_of}
use Rattle.search_books.proofs.Paths.{prior-is}
use Rattle.search_books.proofs.ring.Ring.prior.Goals as goal

pub returns : goal.returns
returns c =
    let links = c.self.inside.links.items in
    let xs = order_of links in
    let view : xs ≡ c.args.self.now.order = ap (λ (o : Order). o.order) c.self.view_is in
    let count : length links ≡ c.args.self.now.count = ap (λ (o : Order). o.count) c.self.view_is in
    let s = c.args.number in
    let read : c.before-found.result ≡ before_of links s = c.before-found.ensures
    ∙ ap (λ (ls : List Link). before_of ls s) c.deref.ensures.value in
    let some : has s xs ≡ true = ap (λ (ys : List ℕ). has s ys) view ∙ c.requires in
    read ∙ (prior-is (after_of links) (before_of links) 0 s xs c.self.invariant.path some
    ∙ ap (λ (ys : List ℕ). prior_of s 0 ys) view)
