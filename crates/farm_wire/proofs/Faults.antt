-- A line that is too long is read as that.
use Rattle.std.proofs.Common.{◌≡◌, ◌<◌, List, ℕ, length, nat_lt, true, Err, refl}
use Rattle.std.proofs.lemmas.Bool.{lt-ltb}
use Rattle.farm_wire.specs.Reading.{line_reading, object_of}
use Rattle.farm_wire.specs.declared.fault.WireFault.TheVariants.{TooLong}
use Rattle.farm_wire.specs.declared.limits.TheConstants.{MAX_COMMAND_BYTES}

pub line_reading-too_long : (line : List ℕ) → MAX_COMMAND_BYTES < length line → line_reading line ≡ Err TooLong
unfolding line_reading object_of
line_reading-too_long line long =
    let over : nat_lt MAX_COMMAND_BYTES (length line) ≡ true = lt-ltb _ _ long in
    rw over refl
