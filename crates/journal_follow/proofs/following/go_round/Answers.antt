-- What a round comes to, by its ask and what is done with the page.
use Rattle.std.proofs.Common.{◌≡◌, ◌≢◌, ◌+◌, [], List, ℕ, length, ap, subst, arith, rules}
use Rattle.std.proofs.lemmas.Result.{err_from_is_err_and}
use Rattle.journal_follow.proofs.Holding.{leaves-none, may-front}
use Rattle.journal_follow.proofs.Takings.{may-bounded}
use Rattle.std.proofs.lemmas.Bool.{both_ways}
use Rattle.farm_entry.specs.declared.entry.Entry.{Entry}
use Rattle.journal_follow.specs.Taking.{Takes}
use Rattle.journal_follow.proofs.Rounding.{page-bounded, round-ended, round-taken, round-unasked}
use Rattle.journal_follow.proofs.following.go_round.Goals as goal

pub returns-in_err-page-clause-says : goal.returns-in_err-page-clause-says
returns-in_err-page-clause-says g c =
    let p = err_from_is_err_and c.from_residual.result c.from_residual.ensures.1 in
    rw (p.1, p.2)
    (round-unasked c.args.compared c.args.follower.now.held (g.N.Network.told c.args.network.now)
    (g.N.Network.told c.ask.new.network) c.in_err-page.field-0.0 c.in_err-page.ensures.comes)

pub returns-in_err-page-clause-any_moment : goal.returns-in_err-page-clause-any_moment
returns-in_err-page-clause-any_moment g c = λ t.
    leaves-none c.args.follower.now.held c.args.follower.now.held c.args.follower.now.disk (c.tell.ensures.kept t)

pub returns-then-is_empty-clause-says : goal.returns-then-is_empty-clause-says
returns-then-is_empty-clause-says g c =
    let none : c.in_ok-page.page ≡ [] = search rules in
    round-ended c.args.compared c.args.follower.now.held (g.N.Network.told c.args.network.now)
    (g.N.Network.told c.ask.new.network) c.in_ok-page.page c.ended.result c.in_ok-page.ensures.comes none
    c.ended.ensures

pub returns-then-is_empty-clause-any_moment : goal.returns-then-is_empty-clause-any_moment
returns-then-is_empty-clause-any_moment g c = λ t.
    leaves-none c.args.follower.now.held c.args.follower.now.held c.args.follower.now.disk (c.tell.ensures.kept t)

pub overflow_add-compared : goal.overflow_add-compared
overflow_add-compared g c =
    let held = c.args.follower.now.held in
    let few = may-bounded held.history (may-front held.history held.pending c.tell.ensures.legal) in
    let le = c.requires.within in
    omega (arith, few, le)

pub overflow_add-compared-2 : goal.overflow_add-compared-2
overflow_add-compared-2 g c =
    let held = c.args.follower.now.held in
    let few = may-bounded held.history (may-front held.history held.pending c.tell.ensures.legal) in
    let le = c.requires.within in
    omega (arith, few, le)

pub overflow_cast-result : goal.overflow_cast-result
overflow_cast-result g c =
    let takes = c.in_ok-take.ensures.takes in
    let same : c.as_slice.result.now ≡ c.in_ok-page.page = c.as_slice.ensures in
    let size : c.len.result ≡ length c.in_ok-page.page = c.len.ensures in
    let most = page-bounded c.args.compared c.args.follower.now.held c.take.new.self.held c.as_slice.result.now takes.0
    c.in_ok-take.field-0 takes.1 takes.2 c.requires.within c.in_ok-take.ensures.legal in
    omega (arith, most, size, ap length same)

pub overflow_add-result : goal.overflow_add-result
overflow_add-result g c =
    let takes = c.in_ok-take.ensures.takes in
    let same : c.as_slice.result.now ≡ c.in_ok-page.page = c.as_slice.ensures in
    let size : c.len.result ≡ length c.in_ok-page.page = c.len.ensures in
    let most = page-bounded c.args.compared c.args.follower.now.held c.take.new.self.held c.as_slice.result.now takes.0
    c.in_ok-take.field-0 takes.1 takes.2 c.requires.within c.in_ok-take.ensures.legal in
    omega (arith, most, size, ap length same)

pub returns-clause-says : goal.returns-clause-says
returns-clause-says g c =
    let takes = c.in_ok-take.ensures.takes in
    let page = c.in_ok-page.page in
    let same : c.as_slice.result.now ≡ page = c.as_slice.ensures in
    let size : c.len.result ≡ length page = c.len.ensures in
    let some : page ≢ [] = λ none. both_ways _ c.if-is_empty.false (c.is_empty.ensures.1 none) in
    let old = c.args.follower.now.held in
    let new = c.take.new.self.held in
    round-taken c.args.compared old new (g.N.Network.told c.args.network.now) (g.N.Network.told c.ask.new.network) page
    c.in_ok-take.field-0 (c.args.compared + c.len.result) c.in_ok-page.ensures.comes some takes.0 takes.1
    (subst (λ (l : List Entry). Takes takes.0 (c.args.compared + 1) l old new) same takes.2)
    (ap (λ (n : ℕ). c.args.compared + n) size)
