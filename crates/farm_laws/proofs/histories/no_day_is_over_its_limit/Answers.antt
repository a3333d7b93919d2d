use Rattle.farm_laws.proofs.OrdersOnce.{days-limited, days-limited_together}
use Rattle.farm_laws.proofs.histories.no_day_is_over_its_limit.Goals as goal

pub returns : goal.returns
returns c = record { given = days-limited; carried = days-limited_together }
