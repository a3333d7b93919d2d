use Rattle.entry_codec.proofs.Made.{miss_at-zero}
use Rattle.entry_codec.proofs.parts.miss_at.Goals as goal

pub returns-then-not-above_zero : goal.returns-then-not-above_zero
returns-then-not-above_zero c =
    miss_at-zero c.args.above_zero c.args.rate c.args.bytes.now c.none.result c.if-not-above_zero.true
    c.none.ensures.numerator
    c.none.ensures.denominator
