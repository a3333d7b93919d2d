use Rattle.std.proofs.Common.{arith, ap, subst, ◌<◌, suc, Bool, cond, List, length}
use Rattle.search_books.specs.LeaseChains.{IsWhole, Kept}
use Rattle.search_books.specs.declared.lease_chains.Row.{Row}
use Rattle.search_books.proofs.LeaseEnds.{linked-drop, linked-pop}
use Rattle.search_books.proofs.Kepts.{kept-rest, last-kept}
use Rattle.search_books.proofs.lease_chains.unlink_last.Goals as goal

pub returns-then-last-clause-linked : goal.returns-then-last-clause-linked
returns-then-last-clause-linked c =
    let last = c.in-Some.last in
    let low : last.lease.search < length c.args.heads.now.items =
    omega (
      arith,
      ap (λ (k : Kept). k.lease.search)
          (last-kept c.args.rows.now.items c.pop.new.self.items last c.in-Some.ensures.items),
      c.requires.search,
    ) in
    linked-pop c.args.heads.now.items c.pop.new.self.items last last.lease.search
    (subst (λ (xs : List Row). IsWhole c.args.heads.now.items xs) c.in-Some.ensures.items c.requires.linked) low
    (ap (λ (b : Bool). cond b (suc last.lease.search) 0) c.if-last.true)

pub returns-else-last-clause-linked : goal.returns-else-last-clause-linked
returns-else-last-clause-linked c =
    let last = c.in-Some.last in
    linked-drop c.args.heads.now.items c.pop.new.self.items last
    (subst (λ (xs : List Row). IsWhole c.args.heads.now.items xs) c.in-Some.ensures.items c.requires.linked)
    (ap (λ (b : Bool). cond b (suc last.lease.search) 0) c.if-last.false)

pub returns-then-last-clause-kept : goal.returns-then-last-clause-kept
returns-then-last-clause-kept c =
    kept-rest c.args.rows.now.items c.pop.new.self.items c.in-Some.last c.in-Some.ensures.items

pub returns-else-last-clause-kept : goal.returns-else-last-clause-kept
returns-else-last-clause-kept c =
    kept-rest c.args.rows.now.items c.pop.new.self.items c.in-Some.last c.in-Some.ensures.items
