use Rattle.std.proofs.Common.{ap, ◌∙◌, ◌≡◌, true, ℕ, List, length}
use Rattle.search_books.specs.declared.links.Link.{Link}
use Rattle.search_books.specs.Order.{has, next_of}
use Rattle.search_books.specs.Rings.{Order, after_of, before_of, order_of}
use Rattle.search_books.proofs.Paths.{next-is}
use Rattle.search_books.proofs.ring.Ring.next.Goals as goal

pub returns-clause-next : goal.returns-clause-next
returns-clause-next c =
    let links = c.self.inside.links.items in
    let xs = order_of links in
    let view : xs ≡ c.args.self.now.order = ap (λ (o : Order). o.order) c.self.view_is in
    let count : length links ≡ c.args.self.now.count = ap (λ (o : Order). o.count) c.self.view_is in
    let s = c.args.number in
    let read : c.after.result ≡ after_of links s = c.after.ensures
    ∙ ap (λ (ls : List Link). after_of ls s) c.deref.ensures.value in
    let some : has s xs ≡ true = ap (λ (ys : List ℕ). has s ys) view ∙ c.requires in
    read ∙ (next-is (after_of links) (before_of links) 0 s xs c.self.invariant.path some
    ∙ ap (λ (ys : List ℕ). next_of s ys) view)
