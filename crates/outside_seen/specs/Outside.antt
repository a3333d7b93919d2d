-- What contracts see of the outside of a service and of a program.
use Rattle.std.specs.Prelude.{ℕ, Bool, List, Option}
use Rattle.farm_disk.specs.Images.{DiskState}
use Rattle.farm_disk.specs.declared.disk.Disk as disk
use Rattle.link_io.specs.declared.sink.Sink as sink
use Rattle.link_io.specs.declared.source.Source as source
use Rattle.link_io.specs.Events.{NetworkEvent}

-- what a network did, the newest first, where it tells, and how often it and its links failed
pub record NetworkSeen : Type 0 where
  pub told : Option (List NetworkEvent)
  pub faults : ℕ

-- the bytes that an input has left, where it tells, and how often it failed
pub record InputSeen : Type 0 where
  pub left : Option (List ℕ)
  pub faults : ℕ

-- the bytes that an output was given, where it tells, and how often it failed
pub record OutputSeen : Type 0 where
  pub written : Option (List ℕ)
  pub faults : ℕ

-- whether a disk tells, what it told so far, and how often it failed
pub record DiskSeen : Type 0 where
  pub tells : Bool
  pub told : DiskState
  pub faults : ℕ

-- the network, the output and the disk: all that is outside of a service
pub record Outside : Type 0 where
  pub network : NetworkSeen
  pub output : OutputSeen
  pub disk : DiskSeen

-- what is seen of a source, by the meaning that its type gives to it
abbrev pub input_seen : {S : Type 0} → source.Ghosts S → S → InputSeen
input_seen meant input = record { left = meant.left input; faults = meant.count input }

-- what is seen of a sink, by the meaning that its type gives to it
abbrev pub output_seen : {K : Type 0} → sink.Ghosts K → K → OutputSeen
output_seen meant output = record { written = meant.written output; faults = meant.count output }

-- what is seen of a disk, by the meaning that its type gives to it
abbrev pub disk_seen : {D : Type 0} → disk.Ghosts D → D → DiskSeen
disk_seen meant disk = record { tells = meant.tells disk; told = meant.told disk; faults = meant.count disk }

-- what is seen of a network by what it told and its count
abbrev pub network_seen : Option (List NetworkEvent) → ℕ → NetworkSeen
network_seen told count = record { told = told; faults = count }

-- the network, the output and the disk together
abbrev pub outside : NetworkSeen → OutputSeen → DiskSeen → Outside
outside network output disk = record { network = network; output = output; disk = disk }
