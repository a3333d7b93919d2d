use Rattle.farm_disk.proofs.Kept.{sound-sync}
use Rattle.farm_disk.proofs.in_memory.calm_disk.CalmDisk.of.Goals as goal

pub invariant_of-result : goal.invariant_of-result
invariant_of-result c = sound-sync c.args.bytes c.tell.new.self c.new-past.result c.of.result c.tell.ensures c.of.ensures
