use Rattle.std.proofs.Common.{ap, sym, ◌∙◌, ◌≡◌, ◌≢◌, ◌++◌, true, false, arith}
use Rattle.search_books.specs.Order.{has, next_of}
use Rattle.search_books.specs.Active.{Active}
use Rattle.search_books.proofs.Lists.{next-front, next-end, next-back}
use Rattle.search_books.proofs.active.ActiveOrder.next.Goals as goal

pub returns-then-fresh-ne0 : goal.returns-then-fresh-ne0
returns-then-fresh-ne0 c =
    let s = c.args.search in
    let never = c.self.inside.never.order in
    let is : c.next-fresh.result ≡ next_of s never = c.next-fresh.ensures.next in
    let ne : next_of s never ≢ 0 = λ (bad : next_of s never ≡ 0). c.if-fresh-ne0.true (is ∙ bad) in
    is ∙ (sym (next-front s never c.self.inside.leased.order ne)
    ∙ ap (λ (a : Active). next_of s (a.never ++ a.leased)) c.self.view_is)

pub returns-else-fresh-ne0 : goal.returns-else-fresh-ne0
returns-else-fresh-ne0 c =
    let s = c.args.search in
    let never = c.self.inside.never.order in
    let is : c.next-fresh.result ≡ next_of s never = c.next-fresh.ensures.next in
    let none : c.next-fresh.result ≡ 0 = omega (arith, c.if-fresh-ne0.false) in
    let some : has s never ≡ true = sym c.contains.ensures.has ∙ c.if-contains.true in
    c.first.ensures.first
    ∙ (sym (next-end s never c.self.inside.leased.order some c.next-fresh.ensures.no_zero (sym is ∙ none))
    ∙ ap (λ (a : Active). next_of s (a.never ++ a.leased)) c.self.view_is)

pub returns-then-contains-2 : goal.returns-then-contains-2
returns-then-contains-2 c =
    let s = c.args.search in
    let none : has s c.self.inside.never.order ≡ false = sym c.contains.ensures.has ∙ c.if-contains.false in
    c.next.ensures.next
    ∙ (sym (next-back s c.self.inside.never.order c.self.inside.leased.order none)
    ∙ ap (λ (a : Active). next_of s (a.never ++ a.leased)) c.self.view_is)
