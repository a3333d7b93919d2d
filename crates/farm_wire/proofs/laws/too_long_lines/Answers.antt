use Rattle.farm_wire.proofs.Faults.{line_reading-too_long}
use Rattle.farm_wire.proofs.laws.too_long_lines.Goals as goal

pub returns : goal.returns
returns c = line_reading-too_long
