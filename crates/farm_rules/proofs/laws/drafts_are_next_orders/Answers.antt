use Rattle.std.proofs.Common.{ap, ◌≡◌, [], List, ◌+◌}
use Rattle.farm_rules.specs.Orders.{candidates, draft_of, earliest, orders_of}
use Rattle.farm_rules.specs.declared.orders.Candidate.{Candidate}
use Rattle.farm_rules.proofs.Drafts.{next_draft-full, next_draft-none, next_draft-ok}
use Rattle.farm_rules.proofs.Earliest.{earliest-none}
use Rattle.farm_rules.proofs.laws.drafts_are_next_orders.Goals as goal

pub returns-clause-next : goal.returns-clause-next
returns-clause-next _ = next_draft-ok

pub returns-clause-none_left : goal.returns-clause-none_left
returns-clause-none_left _ searches orders given day limit = (
  λ is. earliest-none (candidates searches orders) (next_draft-none searches orders given day limit is),
  λ (none : candidates searches orders ≡ []).
      ap (λ (left : List Candidate). draft_of (earliest left) (given + 1) day limit (orders_of day orders)) none,
)

pub returns-clause-full : goal.returns-clause-full
returns-clause-full _ = next_draft-full
