use Rattle.leaf_laws.proofs.SentRefusals.{closed-closes, closed-told, no_run-told}
use Rattle.leaf_laws.proofs.sent_leases.no_run_is_read_as_no_run.Goals as goal

pub returns : goal.returns
returns c = record { none_due = no_run-told; closed = closed-told; closed_to_reports = closed-closes }
