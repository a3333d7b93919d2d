-- A farm answers a line by what is held of it, since no more than that tells whether it is too long.
use Rattle.std.proofs.Common.{◌≡◌, ◌+◌, ◌<◌, ◌≤◌, ℕ, List, length, sym, ap, ◌∙◌, ⊎_elim, arith}
use Rattle.std.proofs.lemmas.Bool.{cases_lt}
use Rattle.std.proofs.lemmas.List.{length-take, take_all}
use Rattle.farm_wire.specs.Reading.{line_reading}
use Rattle.farm_wire.proofs.Faults.{line_reading-too_long}
use Rattle.farm_wire.specs.declared.limits.TheConstants.{MAX_COMMAND_BYTES}
use Rattle.farm_script.specs.FarmRule.{farm_rule, read_rule}
use Rattle.farm_script.specs.Held.{held}
use Rattle.farm_script.specs.Script.{IsByHeld}

-- a line that is not too long is held whole
held-whole : (line : List ℕ) → length line ≤ MAX_COMMAND_BYTES → held line ≡ line
unfolding held
held-whole line short = take_all (MAX_COMMAND_BYTES + 1) line (omega arith)

-- one that is too long is so by what is held of it
held-too_long : (line : List ℕ) → MAX_COMMAND_BYTES < length line → MAX_COMMAND_BYTES < length (held line)
unfolding held
held-too_long line long = omega (arith, length-take (MAX_COMMAND_BYTES + 1) line)

-- so both are read alike
pub reading-held : (line : List ℕ) → line_reading (held line) ≡ line_reading line
reading-held line = ⊎_elim
    (λ long. line_reading-too_long (held line) (held-too_long line long) ∙ sym (line_reading-too_long line long))
    (λ short. ap line_reading (held-whole line short))
    (cases_lt MAX_COMMAND_BYTES (length line))

pub farm_rule-by_held : IsByHeld farm_rule
unfolding farm_rule
farm_rule-by_held H line = ap (read_rule H) (reading-held line)
