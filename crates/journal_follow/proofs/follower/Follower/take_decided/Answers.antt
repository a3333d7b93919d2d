-- What taking a page comes to, where nothing is pending.
use Rattle.std.proofs.Common.{◌≡◌, ◌≢◌, ◌-◌, [], List, length, ap, refl, arith, rules}
use Rattle.std.proofs.lemmas.Result.{err_from_is_err_and}
use Rattle.std.proofs.lemmas.Bool.Decides.{nat_tests}
use Rattle.std.proofs.lemmas.List.{nil_from_length}
use Rattle.entry_codec.specs.Spelling.{spelling}
use Rattle.farm_entry.specs.declared.entry.Entry.{Entry}
use Rattle.journal_follow.proofs.Holding.{leaves-none, may-front}
use Rattle.journal_follow.proofs.Legals.{spelling-long, spelling-part}
use Rattle.journal_follow.proofs.Takings.{came-missed, came-none, came-refused, came-stored, may-bounded}
use Rattle.journal_follow.proofs.follower.Follower.take_decided.Goals as goal

pub returns-in_err-more-clause-takes : goal.returns-in_err-more-clause-takes
returns-in_err-more-clause-takes g c =
    let p = err_from_is_err_and c.from_residual.result c.from_residual.ensures.1 in
    rw (p.1, p.2)
    (came-refused c.args.from c.args.entries.now c.args.self.now.held c.in_err-more.field-0.0 c.requires.decided
    c.in_err-more.ensures.refused)

pub returns-in_err-more-clause-any_moment : goal.returns-in_err-more-clause-any_moment
returns-in_err-more-clause-any_moment g c = λ t.
    leaves-none c.args.self.now.held c.args.self.now.held c.args.self.now.disk (c.tell.ensures.kept t)

pub returns-then-is_empty-clause-takes : goal.returns-then-is_empty-clause-takes
returns-then-is_empty-clause-takes g c =
    let s = c.args.self.now in
    let none : c.in_ok-more.more.now ≡ [] =
    nil_from_length c.in_ok-more.more.now (grind (arith, nat_tests, c.is_empty.ensures, c.if-is_empty.true)) in
    came-none c.args.from c.args.entries.now c.in_ok-more.more.now s.held c.requires.from c.requires.decided
    c.in_ok-more.ensures.past none (may-front s.held.history s.held.pending c.tell.ensures.legal)

pub returns-then-is_empty-clause-any_moment : goal.returns-then-is_empty-clause-any_moment
returns-then-is_empty-clause-any_moment g c = λ t.
    leaves-none c.args.self.now.held c.args.self.now.held c.args.self.now.disk (c.tell.ensures.kept t)

pub returns-in_err-store-clause-takes : goal.returns-in_err-store-clause-takes
returns-in_err-store-clause-takes g c =
    let s = c.args.self.now in
    let some : c.in_ok-more.more.now ≢ [] = search rules in
    let at : length c.history.result.now ≡ length s.held.history = ap length c.history.ensures.value in
    let p = err_from_is_err_and c.from_residual-in_err-store.result c.from_residual-in_err-store.ensures.1 in
    rw (p.1, p.2)
    (came-missed c.args.from c.args.entries.now c.in_ok-more.more.now s.held c.requires.from c.requires.decided
    c.in_ok-more.ensures.past s.tells (length c.history.result.now) c.store.new.self.held c.in_err-store.field-0.0
    at some c.in_err-store.ensures.stores)

pub returns-clause-takes : goal.returns-clause-takes
returns-clause-takes g c =
    let s = c.args.self.now in
    came-stored c.args.from c.args.entries.now c.in_ok-more.more.now s.held c.requires.from c.requires.decided
    c.in_ok-more.ensures.past s.tells (length c.history.result.now) (length c.in_ok-more.more.now) c.store.new.self.held
    refl c.in_ok-store.ensures.stores

pub overflow_cast-place : goal.overflow_cast-place
overflow_cast-place g c =
    let few = may-bounded c.args.self.now.held.history c.history.ensures.legal in
    let size : length c.history.result.now ≡ length c.args.self.now.held.history = ap length c.history.ensures.value in
    omega (arith, few, size)

pub store-requires-clause-fits : goal.store-requires-clause-fits
store-requires-clause-fits g c =
    let H = c.args.self.now.held.history in
    let is = ap (λ (l : List Entry). length (spelling l)) c.in_ok-more.ensures.past.is in
    let part = spelling-part (length H - (c.args.from - 1)) c.args.entries.now in
    let most = c.requires.fits in
    omega (arith, is, part, most)

pub overflow_cast-result : goal.overflow_cast-result
overflow_cast-result g c =
    let H = c.args.self.now.held.history in
    let is = ap (λ (l : List Entry). length (spelling l)) c.in_ok-more.ensures.past.is in
    let part = spelling-part (length H - (c.args.from - 1)) c.args.entries.now in
    let long = spelling-long c.in_ok-more.more.now in
    let most = c.requires.fits in
    omega (arith, is, part, long, most)
