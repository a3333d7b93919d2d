-- A disk over a file.
use Rattle.std.specs.Prelude.{ℕ, List, string_bytes}
use Rattle.file_disk.specs.declared.disk.FileDisk.{FileDisk}
use Rattle.file_disk.specs.declared.system_file.SystemFile.{SystemFile}

-- the file
abbrev pub disk_file : {F : Type 0} → FileDisk F → F
disk_file disk = disk.file

-- the path of a file of the system
abbrev pub system_path : {R F : Type 0} → SystemFile R F → List ℕ
system_path file = string_bytes file.path

-- the path of a disk over such a file
abbrev pub file_path : {R F : Type 0} → FileDisk (SystemFile R F) → List ℕ
file_path disk = system_path disk.file

-- how often the disk has failed
abbrev pub file_faults : {F : Type 0} → FileDisk F → ℕ
file_faults disk = disk.faults
