use Rattle.std.proofs.Common.{◌≡◌, drop}
use Rattle.json_tape.specs.Digits.{digits_after}
use Rattle.json_tape.proofs.number.digits_number.Given as goal

abbrev pub invariant-loop-byte : goal.invariant-loop-byte
invariant-loop-byte l = digits_after 0 l.bytes ≡ digits_after l.number (drop l.byte-index l.bytes)
