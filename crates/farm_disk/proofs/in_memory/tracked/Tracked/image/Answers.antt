use Rattle.std.proofs.Common.{ℕ, ◌∙◌, ap, Option, List, arith}
use Rattle.std.specs.Prelude.{unwrap_or}
use Rattle.farm_disk.specs.Certain.{mark_at}
use Rattle.farm_disk.proofs.MarkSteps.{length-filled, filled-byte}
use Rattle.farm_disk.proofs.in_memory.tracked.Tracked.image.Goals as goal

pub returns-clause-size : goal.returns-clause-size
returns-clause-size c steps tracks =
    let is = length-filled c.deref.result.now c.min-nearest.result c.args.fill c.in_ok-filled.field-0.items
    c.in_ok-filled.ensures in
    omega (arith, is, c.min-nearest.ensures, c.max.ensures, tracks.least_is, tracks.greatest_is)

pub returns-clause-bytes : goal.returns-clause-bytes
returns-clause-bytes c steps tracks i within =
    filled-byte c.deref.result.now c.min-nearest.result c.args.fill c.in_ok-filled.field-0.items i
    c.in_ok-filled.ensures within
    ∙ ap (λ (l : List (Option ℕ)). unwrap_or (mark_at l i) c.args.fill) c.deref.ensures.value
    ∙ ap (λ (o : Option ℕ). unwrap_or o c.args.fill) (tracks.marks c.in-Some.marks c.in-Some.is i)
