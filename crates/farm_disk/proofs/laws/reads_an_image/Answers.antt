use Rattle.farm_disk.proofs.Sound.{calls-keep-sound}
use Rattle.farm_disk.proofs.laws.reads_an_image.Goals as goal

pub returns : goal.returns
returns c = calls-keep-sound
