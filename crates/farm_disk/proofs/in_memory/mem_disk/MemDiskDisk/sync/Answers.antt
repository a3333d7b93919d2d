use Rattle.farm_disk.proofs.Kept.{kept_synced}
use Rattle.farm_disk.proofs.in_memory.mem_disk.MemDiskDisk.sync.Goals as goal

pub invariant_of-self-2 : goal.invariant_of-self-2
invariant_of-self-2 c =
    kept_synced c.self.inside.bytes c.tell-2.new.self c.self.inside.past c.next.new.self c.synced.result c.of.result
    c.tell-2.ensures c.of.ensures c.synced.ensures
