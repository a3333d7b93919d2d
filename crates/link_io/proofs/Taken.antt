-- The bytes taken from an input, and those left, after so many more.
use Rattle.std.proofs.Math.Seq.{take-add}
use Rattle.std.proofs.Common.{drop-drop}

pub ruleset taken_bytes = (take-add, drop-drop)
