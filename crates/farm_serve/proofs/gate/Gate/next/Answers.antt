use Rattle.std.proofs.Common.{◌+◌, ◌-◌, arith, ap}
use Rattle.farm_http.specs.Callers.{mark_of}
use Rattle.turn_lock.specs.Known.{Known}
use Rattle.farm_serve.proofs.Owners.{staked_fewer, staked_next}
use Rattle.farm_serve.specs.Serving.{IsStaked}
use Rattle.farm_serve.proofs.Steps.{serving_link, serving_end, serving_failure}
use Rattle.farm_serve.proofs.gate.Gate.next.Goals as goal

pub invariant_of-self : goal.invariant_of-self
invariant_of-self g c =
    let s = c.self.inside.standing in
    let one = c.if-self-eq0.false in
    let same = c.split-pass.ensures.same in
    let kept = ap (λ (k : Known). k.stake) same in
    let enough = c.self.invariant.2.enough in
    let staked : IsStaked g.J.Naming.entry c.split-pass.new.pass (c.self.inside.out.total + 1) (s.left - 1) =
    staked_next g.J.Naming.entry c.self.inside.held c.split-pass.new.pass c.self.inside.out.total s.left (s.left - 1)
    (omega arith) kept (ap (λ (k : Known). k.seen) same) (ap (λ (k : Known). k.mine) same) c.self.invariant.2 in
    let some = staked.enough in
    let read = c.self.inside.read in (
      rw c.add.ensures.total
          (serving_link g.J.Naming.entry g.J.Naming.gives c.self.inside.held read c.self.inside.out.total s
          (s.left - 1) _
          _ _ _ (omega arith) c.accept.ensures.never_falls c.self.invariant.0 c.split-pass.new.pass
          record {
            lock = ap (λ (k : Known). k.lock) same;
            ready = ap (λ (k : Known). k.ready) same;
            same = ap (λ (k : Known). mark_of k read) same;
            rows = ap (λ (k : Known). k.rows) same;
            mine = ap (λ (k : Known). k.mine) same;
            undecided = ap (λ (k : Known). k.stake.undecided) same;
            some = omega (arith, some);
            key = c.self.invariant.2.key;
            lending = ap (λ (k : Known). k.stake.lending) same;
          }
          c.if-self.false c.in-Linked.ensures.told),
      c.self.invariant.1,
      rw c.add.ensures.total staked,
    )

pub invariant_of-self-in-End : goal.invariant_of-self-in-End
invariant_of-self-in-End g c =
    let s = c.self.inside.standing in
    let one = c.if-self-eq0.false in (
      serving_end g.J.Naming.entry g.J.Naming.gives c.self.inside.held c.self.inside.read c.self.inside.out.total s
          (s.left - 1) _ _ _ _
          (omega arith) c.accept.ensures.never_falls c.self.invariant.0 c.if-self.false c.in-End.ensures.told,
      c.self.invariant.1,
      staked_fewer g.J.Naming.entry c.self.inside.held c.self.inside.out.total s.left (s.left - 1) (omega arith)
          c.self.invariant.2,
    )

pub invariant_of-self-in-Failed : goal.invariant_of-self-in-Failed
invariant_of-self-in-Failed g c =
    let s = c.self.inside.standing in
    let one = c.if-self-eq0.false in (
      serving_failure g.J.Naming.entry g.J.Naming.gives c.self.inside.held c.self.inside.read c.self.inside.out.total s
          (s.left - 1) _ _ _ _
          (omega arith) c.accept.ensures.never_falls c.self.invariant.0 c.if-self.false c.in-Failed.ensures.told
          c.in-Failed.ensures.rises,
      c.self.invariant.1,
      staked_fewer g.J.Naming.entry c.self.inside.held c.self.inside.out.total s.left (s.left - 1) (omega arith)
          c.self.invariant.2,
    )
