use Rattle.farm_disk.proofs.Model.{may_be_left-image, image-may_be_left}
use Rattle.farm_disk.proofs.laws.images_of_the_model.Goals as goal

pub returns-clause-each : goal.returns-clause-each
returns-clause-each c = may_be_left-image

pub returns-clause-no_other : goal.returns-clause-no_other
returns-clause-no_other c = image-may_be_left
