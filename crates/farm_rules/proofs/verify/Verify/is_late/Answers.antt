use Rattle.std.proofs.Common.{◌≡◌, ◌⊎◌, ◌+◌, sym, ap}
use Rattle.farm_rules.specs.Verification.{Verification}
use Rattle.farm_rules.specs.StandsFor.{counted_at}
use Rattle.farm_rules.proofs.Rulings.{late-open}
use Rattle.farm_rules.proofs.verify.Verify.is_late.Goals as goal

pub returns-in-Open-clause-late : goal.returns-in-Open-clause-late
returns-in-Open-clause-late c =
    λ reruns stands r at.
    let v = c.args.self.now in
    let asked_is : c.self.inside.asked ≡ v.asked = ap (λ (k : Verification). k.asked) c.self.view_is in
    let side : (r.position ≡ v.culprit) ⊎ (r.position + 1 ≡ v.culprit) = rw at c.requires in
    let counted_is : c.counted_at.result ≡ counted_at v r.position = rw at c.counted_at.ensures in
    rw asked_is (late-open v reruns r c.counted_at.result stands side counted_is (sym (c.in-Open.ensures.said reruns stands)))
