-- What the test of a moment's limits tells.
use Rattle.std.proofs.Common.{ℕ, IsTrue, le-leb}
use Rattle.std.proofs.lemmas.Bool.{and_from, and_parts, leb-true}
use Rattle.farm_types.specs.Limits.{IsMoment, is_moment}

pub moment-within : (ms : ℕ) → IsTrue (is_moment ms) → IsMoment ms
moment-within ms passed = (leb-true _ _ (and_parts _ _ passed).0, leb-true _ _ (and_parts _ _ passed).1)

pub moment-tested : (ms : ℕ) → IsMoment ms → IsTrue (is_moment ms)
moment-tested ms within = and_from _ _ (le-leb _ _ within.0) (le-leb _ _ within.1)
