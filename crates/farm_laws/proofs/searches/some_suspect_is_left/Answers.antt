use Rattle.std.proofs.Common.{ap}
use Rattle.farm_entry.specs.History.{runs}
use Rattle.farm_entry.specs.Setup.{setup_of}
use Rattle.farm_entry.specs.Standing.{is_searching}
use Rattle.farm_laws.proofs.OpenLimits.{open_within, setup_facts}
use Rattle.farm_laws.proofs.Standings.{searching-at_bar, some-left}
use Rattle.farm_laws.proofs.searches.some_suspect_is_left.Goals as goal

pub returns : goal.returns
returns c = λ H o legal there stands.
    some-left (setup_of o) (runs H o.search) (setup_facts o (open_within H o legal there)) (searching-at_bar H o (ap is_searching stands))
