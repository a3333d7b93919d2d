use Rattle.farm_entry.specs.Orders.{orders}
use Rattle.farm_laws.proofs.OrderDays.{all-days}
use Rattle.farm_laws.proofs.OrdersOnce.{orders-once}
use Rattle.farm_handover.proofs.RoundTrips.{handed_over-written}
use Rattle.farm_handover.proofs.laws.what_is_handed_over_is_read.Goals as goal

pub returns : goal.returns
returns c = λ H legal few.
    handed_over-written (orders H) (record { few = few; apart = orders-once H legal; dated = all-days H legal })
