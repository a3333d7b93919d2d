use Rattle.farm_script.proofs.LineLaws.{lines-front}
use Rattle.farm_script.proofs.laws.lines_taken_are_the_first.Goals as goal

pub returns : goal.returns
returns c = lines-front
