-- The shapes of a seat's view.
use Rattle.std.specs.Prelude.{ℕ}
use Rattle.farm_board.specs.declared.job_view.View.{View}
use Rattle.farm_board.specs.declared.job_view.SeatPart.TheVariants.{Idle, Claims, Asks, Helps}

module _ {K Q : Type 0} where
  -- a seat that does nothing
  abbrev pub idle : K → View K Q
  idle key = record { key = key; part = Idle }

  -- a seat that has a slot for itself
  abbrev pub claiming : K → ℕ → View K Q
  claiming key slot = record { key = key; part = Claims slot }

  -- a seat that posted a job in a slot
  abbrev pub asking : K → ℕ → Q → View K Q
  asking key slot job = record { key = key; part = Asks slot job }

  -- a seat that took a job from a slot
  abbrev pub helping : K → ℕ → Q → View K Q
  helping key slot job = record { key = key; part = Helps slot job }
