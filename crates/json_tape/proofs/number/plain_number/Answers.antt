use Rattle.std.proofs.Common.{◌<◌, length, arith}
use Rattle.json_tape.proofs.Numbers.{plain-result}
use Rattle.json_tape.proofs.number.plain_number.Goals as goal

pub returns-else-is_empty : goal.returns-else-is_empty
returns-else-is_empty c =
    let some : 0 < length c.args.bytes.now = grind arith in
    plain-result c.args.bytes.now c.digits_number.result some c.digits_number.ensures
