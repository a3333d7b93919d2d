-- A farm over a disk in memory may be lent to several threads.
use denote.Param.Send.{IsSend, IsSync, sendable}
use Rattle.std.proofs.Crossing.{crosses}
use Rattle.farm_disk.specs.contracts.in_memory.calm_disk.CalmDisk as CalmDisk
use Rattle.farm_disk.specs.contracts.in_memory.calm_disk.CalmDiskDatedDisk.TheImpl as dated
use Rattle.farm_disk.specs.contracts.in_memory.calm_disk.CalmDiskDisk.TheImpl.{ghosts}
use Rattle.common_types.specs.contracts.passed.Passed as Passed
use Rattle.common_types.specs.contracts.passed.PassedPast.TheImpl as past
use Rattle.shared_farm.specs.contracts.farm.SharedFarm as SharedFarm
use Rattle.common_types.proofs.Crossing.{told_list-send}
use Rattle.shared_farm.proofs.Crossing.{shared_farm-sync, along}
use Rattle.farm_drill.specs.contracts.farm.CommandsAlone as CommandsAlone
use Rattle.farm_drill.specs.contracts.farm.CommandsAloneBeginning.TheImpl as begun

calm_disk-send : IsSend CalmDisk.the_row
calm_disk-send = search (told_list-send, sendable, crosses) depth 20

passed-send : IsSend Passed.the_row
passed-send = search (told_list-send, sendable, crosses) depth 20

commands_alone-send : IsSend CommandsAlone.the_row
commands_alone-send = search (sendable, crosses) depth 20

pub calm_farm-sync : IsSync (SharedFarm.the_row CalmDisk.the_row CommandsAlone.the_row Passed.the_row dated.ghosts ghosts
    past.ghosts begun.ghosts)
calm_farm-sync =
    shared_farm-sync CalmDisk.the_row CommandsAlone.the_row Passed.the_row dated.ghosts ghosts past.ghosts begun.ghosts
    calm_disk-send commands_alone-send passed-send

-- what a closure takes along to a thread
pub ruleset lent = (calm_farm-sync, along)
