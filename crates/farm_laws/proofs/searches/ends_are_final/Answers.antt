use Rattle.std.proofs.Common.{◌∙◌, ap}
use Rattle.farm_entry.specs.Standing.{is_active}
use Rattle.farm_laws.proofs.Ends.{end-final}
use Rattle.farm_laws.proofs.searches.ends_are_final.Goals as goal

pub returns : goal.returns
returns c = record {
  confirmed = λ H K o culprit legal there is. (end-final H K o legal there (ap is_active is)).0 ∙ is;
  no_culprit = λ H K o legal there is. (end-final H K o legal there (ap is_active is)).0 ∙ is;
  any_end = end-final;
}
