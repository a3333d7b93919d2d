-- What following comes to, round by round.
use Rattle.std.proofs.Common.{◌≡◌, ◌+◌, ◌-◌, ◌∙◌, ℕ, length, refl, ap, subst, arith}
use Rattle.std.proofs.lemmas.Result.{err_from_is_err_and}
use Rattle.std.specs.Prelude.{Err, Ok}
use Rattle.journal_follow.proofs.Takings.{may-bounded}
use Rattle.journal_follow.specs.Rounds.{RoundSays}
use Rattle.journal_follow.specs.declared.following.Went.{Went}
use Rattle.journal_follow.proofs.Going.{HasGone, all-grows, follows-all, follows-err, follows-ok, goes-none, gone-none}
use Rattle.journal_follow.proofs.Going.{gone-on, leaves-end, leaves-last, leaves-on, leaves-start, says-grows}
use Rattle.journal_follow.proofs.Going.{start-grows}
use Rattle.journal_follow.proofs.following.follow.Goals as goal

pub loop-left-init : goal.loop-left-init
loop-left-init g c =
    let zero : 0 ≡ c.args.rounds - c.args.rounds = omega arith in
    record {
      gone = subst (λ (n : ℕ). HasGone c.args.follower.now.held c.args.follower.now.held
          (g.N.Network.told c.args.network.now) (g.N.Network.told c.args.network.now) 0 n) zero
          (gone-none c.args.follower.now.held (g.N.Network.told c.args.network.now));
      few = omega arith;
      same = refl;
      legal = c.tell.ensures.legal;
      images = λ t. leaves-start c.args.follower.now.held c.args.follower.now.disk (c.tell.ensures.kept t);
      kept = c.tell.ensures.kept;
      network = omega arith;
      stores = omega arith;
    }

pub go_round-requires : goal.go_round-requires
go_round-requires g c = record { within = c.loop-left.invariant.gone.within }

pub returns-in_err-went-clause-follows : goal.returns-in_err-went-clause-follows
returns-in_err-went-clause-follows g c =
    let few = c.loop-left.invariant.few in
    let some = c.loop-left-test.true in
    let p = err_from_is_err_and c.from_residual.result c.from_residual.ensures.1 in
    rw (p.1, p.2)
    (follows-err c.args.rounds (c.args.rounds - c.loop-left.left) c.loop-left.compared c.args.follower.now.held
    c.loop-left.follower.held c.go_round.new.follower.held (g.N.Network.told c.args.network.now)
    (g.N.Network.told c.loop-left.network) (g.N.Network.told c.go_round.new.network) c.in_err-went.field-0.0
    c.loop-left.invariant.gone (omega (arith, few, some)) c.in_err-went.ensures.says)

pub returns-in_err-went-clause-any_moment : goal.returns-in_err-went-clause-any_moment
returns-in_err-went-clause-any_moment g c = λ t.
    let v = c.loop-left.invariant in
    leaves-last c.args.follower.now.held c.loop-left.follower.held c.go_round.new.follower.held
    c.args.follower.now.disk c.loop-left.follower.disk c.go_round.new.follower.disk v.gone.reached
    (says-grows c.loop-left.compared c.loop-left.follower.held c.go_round.new.follower.held
    (g.N.Network.told c.loop-left.network) (g.N.Network.told c.go_round.new.network) (Err c.in_err-went.field-0.0)
    c.in_err-went.ensures.says)
    (v.images t) (c.in_err-went.ensures.any_moment (v.same ∙ t))

pub returns-in-Whole-clause-follows : goal.returns-in-Whole-clause-follows
returns-in-Whole-clause-follows g c =
    let few = c.loop-left.invariant.few in
    let some = c.loop-left-test.true in
    follows-ok c.args.rounds (c.args.rounds - c.loop-left.left) c.loop-left.compared c.args.follower.now.held
    c.loop-left.follower.held c.go_round.new.follower.held (g.N.Network.told c.args.network.now)
    (g.N.Network.told c.loop-left.network) (g.N.Network.told c.go_round.new.network) c.in-Whole.followed
    c.loop-left.invariant.gone (omega (arith, few, some))
    (subst (λ (w : Went). RoundSays c.loop-left.compared c.loop-left.follower.held c.go_round.new.follower.held
    (g.N.Network.told c.loop-left.network) (g.N.Network.told c.go_round.new.network) (Ok w)) c.in-Whole.is
    c.in_ok-went.ensures.says)

pub returns-in-Whole-clause-any_moment : goal.returns-in-Whole-clause-any_moment
returns-in-Whole-clause-any_moment g c = λ t.
    let v = c.loop-left.invariant in
    leaves-last c.args.follower.now.held c.loop-left.follower.held c.go_round.new.follower.held
    c.args.follower.now.disk c.loop-left.follower.disk c.go_round.new.follower.disk v.gone.reached
    (says-grows c.loop-left.compared c.loop-left.follower.held c.go_round.new.follower.held
    (g.N.Network.told c.loop-left.network) (g.N.Network.told c.go_round.new.network) (Ok c.in_ok-went.went)
    c.in_ok-went.ensures.says)
    (v.images t) (c.in_ok-went.ensures.any_moment (v.same ∙ t))

pub loop-left-preserved : goal.loop-left-preserved
loop-left-preserved g c =
    let v = c.loop-left.invariant in
    let few = v.few in
    let some = c.loop-left-test.true in
    let net = v.network in
    let net_more = c.in_ok-went.ensures.network_count in
    let disk = v.stores in
    let disk_more = c.in_ok-went.ensures.disk_count in
    let says = subst (λ (w : Went). RoundSays c.loop-left.compared c.loop-left.follower.held
    c.go_round.new.follower.held
    (g.N.Network.told c.loop-left.network) (g.N.Network.told c.go_round.new.network) (Ok w)) c.in-On.is
    c.in_ok-went.ensures.says in
    let made : c.args.rounds - c.loop-left.left + 1 ≡ c.args.rounds - (c.loop-left.left - 1) = omega (arith, few, some) in
    record {
      gone = subst (λ (n : ℕ). HasGone c.args.follower.now.held c.go_round.new.follower.held
          (g.N.Network.told c.args.network.now) (g.N.Network.told c.go_round.new.network) c.in-On.more n) made
          (gone-on c.args.follower.now.held c.loop-left.follower.held c.go_round.new.follower.held
          (g.N.Network.told c.args.network.now) (g.N.Network.told c.loop-left.network)
          (g.N.Network.told c.go_round.new.network) c.loop-left.compared (c.args.rounds - c.loop-left.left)
          c.in-On.more v.gone says);
      few = omega (arith, few);
      same = c.in_ok-went.ensures.same ∙ v.same;
      legal = c.in_ok-went.ensures.legal;
      images = λ t. leaves-on c.args.follower.now.held c.loop-left.follower.held c.go_round.new.follower.held
          c.args.follower.now.disk c.loop-left.follower.disk c.go_round.new.follower.disk v.gone.reached
          (says-grows c.loop-left.compared c.loop-left.follower.held c.go_round.new.follower.held
          (g.N.Network.told c.loop-left.network) (g.N.Network.told c.go_round.new.network) (Ok c.in_ok-went.went)
          c.in_ok-went.ensures.says)
          (v.images t) (c.in_ok-went.ensures.any_moment (v.same ∙ t))
          (goes-none c.loop-left.compared c.in-On.more c.loop-left.follower.held c.go_round.new.follower.held
          (g.N.Network.told c.loop-left.network) (g.N.Network.told c.go_round.new.network) says);
      kept = λ t. c.in_ok-went.ensures.kept (v.same ∙ t);
      network = omega (arith, net, net_more);
      stores = omega (arith, disk, disk_more);
    }

pub returns-clause-follows : goal.returns-clause-follows
returns-clause-follows g c =
    let v = c.loop-left.invariant in
    let none = c.loop-left-test.false in
    let made : c.args.rounds - c.loop-left.left ≡ c.args.rounds = omega (arith, none) in
    follows-all c.args.rounds c.loop-left.compared c.args.follower.now.held c.loop-left.follower.held
    (g.N.Network.told c.args.network.now) (g.N.Network.told c.loop-left.network) _
    (subst (λ (n : ℕ). HasGone c.args.follower.now.held c.loop-left.follower.held
    (g.N.Network.told c.args.network.now) (g.N.Network.told c.loop-left.network) c.loop-left.compared n) made v.gone)
    refl (ap length c.history.ensures.value)

pub returns-clause-any_moment : goal.returns-clause-any_moment
returns-clause-any_moment g c = λ t.
    leaves-end c.args.follower.now.held c.loop-left.follower.held c.args.follower.now.disk c.loop-left.follower.disk
    (c.loop-left.invariant.images t)

pub returns-in_err-went-clause-grows : goal.returns-in_err-went-clause-grows
returns-in_err-went-clause-grows g c =
    all-grows c.args.follower.now.held c.loop-left.follower.held c.go_round.new.follower.held
    c.loop-left.invariant.gone.reached
    (says-grows c.loop-left.compared c.loop-left.follower.held c.go_round.new.follower.held
    (g.N.Network.told c.loop-left.network) (g.N.Network.told c.go_round.new.network) (Err c.in_err-went.field-0.0)
    c.in_err-went.ensures.says)

pub returns-in-Whole-clause-grows : goal.returns-in-Whole-clause-grows
returns-in-Whole-clause-grows g c =
    all-grows c.args.follower.now.held c.loop-left.follower.held c.go_round.new.follower.held
    c.loop-left.invariant.gone.reached
    (says-grows c.loop-left.compared c.loop-left.follower.held c.go_round.new.follower.held
    (g.N.Network.told c.loop-left.network) (g.N.Network.told c.go_round.new.network) (Ok c.in_ok-went.went)
    c.in_ok-went.ensures.says)

pub returns-clause-grows : goal.returns-clause-grows
returns-clause-grows g c =
    start-grows c.args.follower.now.held c.loop-left.follower.held c.loop-left.invariant.gone.reached

pub overflow_cast-result : goal.overflow_cast-result
overflow_cast-result g c =
    let few = may-bounded c.loop-left.follower.held.history c.history.ensures.legal in
    let size : length c.history.result.now ≡ length c.loop-left.follower.held.history = ap length c.history.ensures.value in
    omega (arith, few, size)
