-- What contracts see of a link in memory.
use Rattle.std.specs.Prelude.{ℕ, List, [], ◌++◌}
use Rattle.link_io.specs.FaultPlan.{PlannedFaults, fresh_plan}
use Rattle.link_io.specs.MemInput.{InputInMemory, fresh_input}
use Rattle.link_io.specs.Notes.{Note}
use Rattle.common_types.specs.Moments.{passed_at}
use Rattle.link_io.specs.declared.memory.mem_link.Noted.{Noted}

-- its input, how many takes were made, the bytes that were put, the calls that are to fail, takes and puts counted
-- together, and the notes that it took, the newest first
pub record LinkInMemory : Type 0 where
  pub input : InputInMemory
  pub takes : ℕ
  pub put : List ℕ
  pub plan : PlannedFaults
  pub notes : List Note

-- a link that was given these bytes, pieces and calls that are to fail, and has done nothing yet
abbrev pub unused_link : List ℕ → List ℕ → List ℕ → LinkInMemory
unused_link bytes pieces fails = record {
  input = fresh_input bytes pieces;
  takes = 0;
  put = [];
  plan = fresh_plan fails;
  notes = [];
}

-- a link as it was before its first call
abbrev pub afresh : LinkInMemory → LinkInMemory
afresh link = unused_link (link.input.taken ++ link.input.left) link.input.pieces link.plan.fails

-- what is kept of a note, as a note
abbrev pub note_of : Noted → Note
note_of noted = record { put = noted.put; moment = passed_at noted.over.value }
