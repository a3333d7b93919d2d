use Rattle.std.proofs.Common.{subst}
use Rattle.farm_disk.specs.Images.{DiskState}
use Rattle.farm_disk.specs.Model.{IsSound}
use Rattle.farm_disk.proofs.Kept.{sound-still}
use Rattle.farm_disk.proofs.in_memory.calm_disk.CalmDiskDisk.read.Goals as goal

pub invariant_of-self : goal.invariant_of-self
invariant_of-self c =
    sound-still c.self.inside.bytes.items c.tell.new.self c.self.inside.past c.tell.ensures c.self.invariant

pub returns-clause-sound : goal.returns-clause-sound
returns-clause-sound c = subst (λ (d : DiskState). IsSound d) c.self.view_is c.self.invariant
