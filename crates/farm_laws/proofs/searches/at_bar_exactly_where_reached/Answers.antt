use Rattle.weight_exact.proofs.Shares.{reached-some, IsReached-from_some}
use Rattle.farm_entry.specs.History.{runs}
use Rattle.farm_entry.specs.Setup.{setup_of}
use Rattle.farm_laws.proofs.InRange.{one-at_bar, total-some}
use Rattle.farm_laws.proofs.OpenLimits.{open_within, setup_facts}
use Rattle.farm_laws.proofs.Standings.{culprit-at_bar}
use Rattle.farm_laws.proofs.searches.at_bar_exactly_where_reached.Goals as goal

pub returns : goal.returns
returns c = record {
  at_bar = λ H o i legal there. (
    IsReached-from_some (setup_of o) (runs H o.search) i,
    reached-some (setup_of o) (runs H o.search) i (setup_facts o (open_within H o legal there)).above_half (total-some H o legal there),
  );
  one = one-at_bar;
  culprit = culprit-at_bar;
}
