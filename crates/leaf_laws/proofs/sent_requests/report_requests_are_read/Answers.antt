use Rattle.worker_core.specs.declared.tested.Tested.TheVariants.{Untestable, Verdict}
use Rattle.leaf_laws.proofs.Bodies.{report_body-read}
use Rattle.leaf_laws.proofs.Requested.{report-requested}
use Rattle.leaf_laws.proofs.sent_requests.report_requests_are_read.Goals as goal

pub returns : goal.returns
returns c = record {
  request = report-requested;
  command = λ run verdict. report_body-read run (Verdict verdict);
  skip = λ run. report_body-read run Untestable;
}
