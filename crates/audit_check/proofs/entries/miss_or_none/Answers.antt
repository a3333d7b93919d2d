use Rattle.entry_codec.proofs.Made.{miss_at-zero}
use Rattle.audit_check.proofs.entries.miss_or_none.Goals as goal

pub returns-else-misses : goal.returns-else-misses
returns-else-misses c =
    miss_at-zero c.args.misses c.args.rate c.args.bytes.now c.none.result c.if-misses.false c.none.ensures.numerator
    c.none.ensures.denominator
