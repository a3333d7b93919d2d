-- The exit status and the text of each way to end, and how a call ends after each fault.
use Rattle.std.specs.Prelude.{ℕ, List, [], ◌∷◌, ◌++◌, Result, Ok, Err, codes, decimal}
use Rattle.farm_handover.specs.declared.fault.HandoverFault.{HandoverFault}
use Rattle.farm_handover.specs.declared.fault.HandoverFault.TheVariants as handover
use Rattle.judge.specs.declared.fault.JudgeFault.{JudgeFault}
use Rattle.judge.specs.declared.fault.JudgeFault.TheVariants as judge
use Rattle.link_io.specs.declared.sink.PutFault.{PutFault}
use Rattle.link_io.specs.declared.sink.PutFault.TheVariants as put
use Rattle.worker_agent.specs.declared.worked.WorkFault.{WorkFault}
use Rattle.worker_agent.specs.declared.worked.WorkFault.TheVariants as work
use Rattle.finder_commands.specs.declared.read_input.InputFault.{InputFault}
use Rattle.finder_commands.specs.declared.read_input.InputFault.TheVariants as input
use Rattle.finder_commands.specs.declared.status.Status.{Status}
use Rattle.finder_commands.specs.declared.status.Status.TheVariants.{Done, Usage, ReadFault, WriteFault, StoreFault, Damaged, Unborn, AlreadyBorn, NetFault, RunnerFault, Memory, BadInput, InputLimit, Peer, Foreign, UnknownSearch, Busy}

abbrev pub exit_code_of : Status → ℕ
exit_code_of Done = 0
exit_code_of Usage = 2
exit_code_of ReadFault = 3
exit_code_of WriteFault = 4
exit_code_of (StoreFault before after) = 5
exit_code_of (Damaged offset) = 6
exit_code_of Unborn = 7
exit_code_of AlreadyBorn = 8
exit_code_of NetFault = 9
exit_code_of RunnerFault = 10
exit_code_of Memory = 11
exit_code_of (BadInput line) = 12
exit_code_of InputLimit = 13
exit_code_of (Peer answer) = 14
exit_code_of (Foreign place) = 15
exit_code_of (UnknownSearch search) = 16
exit_code_of Busy = 17

-- the text of each way to end
abbrev pub status_text : Status → List ℕ
status_text Done = codes "done"
status_text Usage = codes "usage"
status_text ReadFault = codes "the input could not be read"
status_text WriteFault = codes "the output could not be written"
status_text (StoreFault before after) = codes "the journal could not be used"
status_text (Damaged offset) = codes "the journal is damaged at byte " ++ decimal offset
status_text Unborn = codes "the journal has not been founded"
status_text AlreadyBorn = codes "the journal is already founded"
status_text NetFault = codes "the network failed"
status_text RunnerFault = codes "the runner failed"
status_text Memory = codes "out of memory"
status_text (BadInput line) = codes "line " ++ decimal line ++ codes " is not in the written form"
status_text InputLimit = codes "the input is too long"
status_text (Peer answer) = codes "the service answered " ++ decimal answer
status_text (Foreign place) = codes "the journal differs from the leader's at entry " ++ decimal place
status_text (UnknownSearch search) = codes "the farm has no search " ++ decimal search
status_text Busy = codes "the farm has active searches or orders to take"

-- the line on standard error, where the subcommand did not do its work
abbrev pub error_line : Status → List ℕ
error_line status = status_text status ++ 10 ∷ []

-- where the input was not read to its end
abbrev pub status_of_input : InputFault → Status
status_of_input input.Failed = ReadFault
status_of_input input.AtLimit = InputLimit
status_of_input input.Memory = Memory

-- where a search has no answer
abbrev pub status_of_judge : JudgeFault → Status
status_of_judge (judge.BadInput line) = BadInput line
status_of_judge judge.Memory = Memory

-- where an input hands nothing over
abbrev pub status_of_handover : HandoverFault → Status
status_of_handover (handover.BadInput line) = BadInput line
status_of_handover handover.Memory = Memory

-- where not every byte was put
abbrev pub status_of_put : PutFault → Status
status_of_put put.Failed = WriteFault
status_of_put put.Memory = Memory

-- where the work of a worker ended before its end
abbrev pub status_of_work : WorkFault → Status
status_of_work work.NetFault = NetFault
status_of_work work.RunnerFault = RunnerFault
status_of_work (work.Peer answer) = Peer answer
status_of_work work.Memory = Memory

-- Done after a call that did its work, and else what it ended with
abbrev pub status_of : Result (Unit {0}) Status → Status
status_of (Ok done) = Done
status_of (Err status) = status
