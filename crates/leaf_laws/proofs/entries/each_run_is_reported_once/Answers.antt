use Rattle.farm_laws.proofs.Known.{reports-known, told_runs-known}
use Rattle.leaf_laws.proofs.OnceEach.{reports-once, told-once}
use Rattle.leaf_laws.proofs.entries.each_run_is_reported_once.Goals as goal

pub returns : goal.returns
returns c = record {
  once = reports-once;
  handed_out = reports-known;
  told_once = told-once;
  told_of_handed_out = told_runs-known;
}
