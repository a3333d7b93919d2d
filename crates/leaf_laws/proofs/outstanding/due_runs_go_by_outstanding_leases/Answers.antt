use Rattle.leaf_laws.proofs.Leases.{due-searching, due-verifying, outstanding-ended, outstanding-searching, outstanding-verifying}
use Rattle.leaf_laws.proofs.outstanding.due_runs_go_by_outstanding_leases.Goals as goal

pub returns : goal.returns
returns c = record {
  searching = outstanding-searching;
  due_searching = due-searching;
  verifying = outstanding-verifying;
  due_verifying = due-verifying;
  ended = outstanding-ended;
}
