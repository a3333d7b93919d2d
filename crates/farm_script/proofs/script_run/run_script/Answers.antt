use Rattle.farm_script.proofs.Completing.{completes-from_ends}
use Rattle.farm_script.proofs.script_run.run_script.Goals as goal

pub returns-clause-completes : goal.returns-clause-completes
returns-clause-completes g c = completes-from_ends _ _ _ _ c.run_lines.ensures.ends
