use Rattle.std.proofs.Common.{◌++◌, ◌<◌, ◌≡◌, length, ap, arith}
use Rattle.std.proofs.lemmas.Result.{err_from_is_err_and}
use Rattle.http_exchange.proofs.Takes.{known-on, until-err}
use Rattle.http_exchange.proofs.received.Received.take_until.Goals as goal

pub returns-in_err-take-clause-takes : goal.returns-in_err-take-clause-takes
returns-in_err-take-clause-takes g c =
    let before = c.loop-self.invariant.moved in
    let takes = c.in_err-take.ensures.takes in
    let p = err_from_is_err_and c.from_residual.result c.from_residual.ensures.1 in
    let test = c.loop-self-test.true in
    let held : length c.held.result.now ≡ length c.loop-self.self.held = ap length c.held.ensures.held in
    let few : length c.loop-self.self.held < c.args.size = omega (arith, test, held) in (
      before.0 ++ takes.0,
      known-on _ _ _ before.0 takes.0 before.1 takes.1,
      rw (p.1, p.2)
          (until-err c.args.size c.args.self.now c.loop-self.self c.take.new.self before.0 takes.0
          (g.S.Source.ended c.take.new.link) c.in_err-take.field-0.0 before.2 few takes.2),
    )
