use Rattle.farm_disk.proofs.Kept.{kept_synced}
use Rattle.farm_disk.proofs.in_memory.mem_disk.MemDisk.of.Goals as goal

pub invariant_of-result : goal.invariant_of-result
invariant_of-result c =
    kept_synced c.args.bytes c.tell.new.self c.new-past.result c.of-2.result c.synced.result c.of.result c.tell.ensures
    c.of.ensures c.synced.ensures
