use Rattle.std.proofs.Common.{ℕ, ◌≡◌, None, ap, arith, ◌∙◌}
use Rattle.std.specs.Prelude.{◌&&◌, nat_le, nat_lt, if◌then◌else◌}
use Rattle.farm_disk.specs.Certain.{mark_at}
use Rattle.farm_disk.proofs.MarkSteps.{mark_at-end}
use Rattle.farm_disk.proofs.in_memory.marks.unmark.Goals as goal

pub returns : goal.returns
returns c k =
    let reached : c.loop-i.i ≡ c.min-end.result = omega arith in
    c.loop-i.invariant k
    ∙ ap (λ (i : ℕ). if nat_le c.min-start.result k && nat_lt k i then None else mark_at c.args.marks.now k) reached
    ∙ mark_at-end c.args.marks.now c.args.from c.args.to c.min-start.result c.min-end.result k c.min-end.ensures
    c.min-start.ensures
