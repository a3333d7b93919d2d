use Rattle.farm_script.proofs.LegalRuns.{history-legal}
use Rattle.farm_script.proofs.laws.scripts_leave_legal_histories.Goals as goal

pub returns : goal.returns
returns c = history-legal
