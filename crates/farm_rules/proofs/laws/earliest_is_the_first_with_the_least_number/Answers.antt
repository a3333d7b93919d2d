use Rattle.std.proofs.Common.{ap, ◌≡◌, []}
use Rattle.farm_rules.specs.Orders.{earliest}
use Rattle.farm_rules.proofs.Earliest.{earliest-contained, earliest-first, earliest-least, earliest-none}
use Rattle.farm_rules.proofs.laws.earliest_is_the_first_with_the_least_number.Goals as goal

pub returns-clause-one_of_them : goal.returns-clause-one_of_them
returns-clause-one_of_them _ = earliest-contained

pub returns-clause-least : goal.returns-clause-least
returns-clause-least _ = earliest-least

pub returns-clause-first : goal.returns-clause-first
returns-clause-first _ = earliest-first

pub returns-clause-none : goal.returns-clause-none
returns-clause-none _ searches = (earliest-none searches, λ (none : searches ≡ []). ap earliest none)
