-- How a fault at a line ends the run.
use Rattle.std.specs.Prelude.{◌≡◌, ℕ, ◌≤◌, List, [], Result, IfErr, IsErrOf, ⊤}
use Rattle.common_types.specs.Counts.{Rose}
use Rattle.link_io.specs.declared.sink.PutFault.{PutFault}
use Rattle.link_io.specs.declared.sink.PutFault.TheVariants as put
use Rattle.farm_journal.specs.declared.fault.JournalFault.{JournalFault}
use Rattle.farm_journal.specs.declared.fault.JournalFault.TheVariants as journal
use Rattle.farm_script.specs.declared.run_end.RunEnd.{RunEnd}
use Rattle.farm_script.specs.declared.run_end.RunEnd.TheVariants.{Done, ReadFault, WriteFault, StoreFault, Memory}
use Rattle.farm_script.specs.declared.run_end.RunEnd.TheVariants.{InputLimit}

-- how a fault of the farm ends it
abbrev pub end_unanswered : JournalFault → RunEnd
end_unanswered (journal.StoreFault before after) = StoreFault
end_unanswered journal.Memory = Memory

-- how a fault of the output ends it
abbrev pub end_unput : PutFault → RunEnd
end_unput put.Failed = WriteFault
end_unput put.Memory = Memory

-- a line may end the run so
abbrev pub IsStop : RunEnd → Type 0
IsStop Done = ⊥
IsStop ReadFault = ⊥
IsStop WriteFault = ⊤
IsStop StoreFault = ⊤
IsStop Memory = ⊤
IsStop InputLimit = ⊥

-- A fault comes only where the object's count rose, no count falls, and only a fault of the store leaves anything
-- pending
pub record HasCause {E : Type 0} (result : Result (Unit {0}) RunEnd)
    (writes_before writes stores_before stores : ℕ) (pending : List E) : Type 0 where
  pub stop : IfErr result IsStop
  pub write_fault : IsErrOf result WriteFault → Rose writes_before writes
  pub store_fault : IsErrOf result StoreFault → Rose stores_before stores
  pub writes_kept : writes_before ≤ writes
  pub stores_kept : stores_before ≤ stores
  pub decided : ¬ IsErrOf result StoreFault → pending ≡ []
