use Rattle.std.proofs.Common.{arith}
use Rattle.weight_exact.proofs.Powering.{times_fit}
use Rattle.weight_exact.proofs.powers.Powers.times.Goals as goal

pub power-requires-clause-fits : goal.power-requires-clause-fits
power-requires-clause-fits g c =
    (times_fit c.self.inside c.args.self.now c.args.x c.args.counts c.self.view_is c.self.invariant c.if-x-eq0.false
    c.if-vanishes.ensures.1 c.requires.fits).second

pub overflow_mul-result : goal.overflow_mul-result
overflow_mul-result g c =
    let fit = (times_fit c.self.inside c.args.self.now c.args.x c.args.counts c.self.view_is c.self.invariant c.if-x-eq0.false
    c.if-vanishes.ensures.1 c.requires.fits) in
    rw c.power.ensures (omega (arith, fit.two))

pub power-requires-2-clause-fits : goal.power-requires-2-clause-fits
power-requires-2-clause-fits g c =
    (times_fit c.self.inside c.args.self.now c.args.x c.args.counts c.self.view_is c.self.invariant c.if-x-eq0.false
    c.if-vanishes.ensures.1 c.requires.fits).third

pub overflow_mul-result-2 : goal.overflow_mul-result-2
overflow_mul-result-2 g c =
    let fit = (times_fit c.self.inside c.args.self.now c.args.x c.args.counts c.self.view_is c.self.invariant c.if-x-eq0.false
    c.if-vanishes.ensures.1 c.requires.fits) in
    rw (c.power.ensures, c.power-2.ensures) (omega (arith, fit.three))

pub power-requires-3-clause-fits : goal.power-requires-3-clause-fits
power-requires-3-clause-fits g c =
    (times_fit c.self.inside c.args.self.now c.args.x c.args.counts c.self.view_is c.self.invariant c.if-x-eq0.false
    c.if-vanishes.ensures.1 c.requires.fits).fourth

pub overflow_mul-result-3 : goal.overflow_mul-result-3
overflow_mul-result-3 g c =
    let fit = (times_fit c.self.inside c.args.self.now c.args.x c.args.counts c.self.view_is c.self.invariant c.if-x-eq0.false
    c.if-vanishes.ensures.1 c.requires.fits) in
    rw (c.power.ensures, c.power-2.ensures, c.power-3.ensures) (omega (arith, fit.four))

pub power-requires-4-clause-fits : goal.power-requires-4-clause-fits
power-requires-4-clause-fits g c =
    (times_fit c.self.inside c.args.self.now c.args.x c.args.counts c.self.view_is c.self.invariant c.if-x-eq0.false
    c.if-vanishes.ensures.1 c.requires.fits).fifth
