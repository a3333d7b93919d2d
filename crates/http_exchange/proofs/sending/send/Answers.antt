-- What sending a request comes to, try by try.
use Rattle.std.proofs.Common.{◌≡◌, ◌+◌, ◌-◌, ℕ, sym, subst, arith}
use Rattle.http_exchange.specs.Sending.{IsLost}
use Rattle.http_exchange.specs.declared.sending.TheConstants.{MAX_TRIES}
use Rattle.http_exchange.proofs.Sendings.{HasLost, lost-more, lost-none, sends-on}
use Rattle.http_exchange.proofs.sending.send.Goals as goal

pub loop-left-init : goal.loop-left-init
loop-left-init g c = record {
  lost = lost-none c.args.request.now (g.N.Network.told c.args.network.now);
  few = omega arith;
  falls = omega arith;
}

pub loop-left-preserved : goal.loop-left-preserved
loop-left-preserved g c =
    let few = c.loop-left.invariant.few in
    let some = c.loop-left-test.true in
    let low = c.loop-left.invariant.falls in
    let falls = c.in_ok-response.ensures.never_falls in
    let count : MAX_TRIES - 1 - c.loop-left.left + 1 ≡ MAX_TRIES - 1 - (c.loop-left.left - 1) =
    omega (arith, few, some) in
    record {
      lost = subst (λ (n : ℕ). HasLost c.args.request.now n (g.N.Network.told c.args.network.now)
          (g.N.Network.told c.send_once.new.network)) count
          (lost-more c.args.request.now (MAX_TRIES - 1 - c.loop-left.left) (g.N.Network.told c.args.network.now)
          (g.N.Network.told c.loop-left.network) (g.N.Network.told c.send_once.new.network) c.in_ok-response.field-0
          c.loop-left.invariant.lost c.in_ok-response.ensures.sends (subst IsLost (sym c.in-Lost.is) tt));
      few = omega (arith, few);
      falls = omega (arith, low, falls);
    }

pub returns-clause-sends : goal.returns-clause-sends
returns-clause-sends g c =
    let few = c.loop-left.invariant.few in
    let none = c.loop-left-test.false in
    sends-on c.args.request.now (MAX_TRIES - 1 - c.loop-left.left) (g.N.Network.told c.args.network.now)
    (g.N.Network.told c.loop-left.network) (g.N.Network.told c.send_once-2.new.network) c.send_once-2.result
    c.loop-left.invariant.lost (omega (arith, few, none)) c.send_once-2.ensures.sends
    (λ sent is lost. omega (arith, few, none))
