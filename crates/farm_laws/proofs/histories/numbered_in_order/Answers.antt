use Rattle.farm_laws.proofs.Numbered.{leases-numbered, openings-numbered, orders-numbered}
use Rattle.farm_laws.proofs.histories.numbered_in_order.Goals as goal

pub returns : goal.returns
returns c = record { searches = openings-numbered; runs = leases-numbered; orders = orders-numbered }
