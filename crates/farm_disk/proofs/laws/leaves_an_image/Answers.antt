use Rattle.farm_disk.proofs.Sound.{some-image}
use Rattle.farm_disk.proofs.laws.leaves_an_image.Goals as goal

pub returns : goal.returns
returns c = some-image
