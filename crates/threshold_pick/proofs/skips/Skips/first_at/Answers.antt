use Rattle.std.proofs.Common.{◌≡◌, ◌∙◌, sym, arith, true}
use Rattle.threshold_pick.specs.Open.{is_skipped}
use Rattle.threshold_pick.proofs.Firsts.{first_at-skipped}
use Rattle.threshold_pick.proofs.skips.Skips.first_at.Goals as goal

pub loop-position-preserved : goal.loop-position-preserved
loop-position-preserved c =
    let kept = c.loop-position.invariant in
    let within = c.loop-position-test.true in
    let skips : is_skipped c.args.self.now c.loop-position.position ≡ true =
    sym c.is_skipped.ensures ∙ c.if-is_skipped.true in
    record {
      first = omega arith;
      within = omega (arith, within);
      same = kept.same
          ∙ first_at-skipped c.args.self.now c.loop-position.position c.args.last kept.first
          (omega (arith, within)) skips;
    }
