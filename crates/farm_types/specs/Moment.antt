-- Moments in time.
use Rattle.std.specs.Prelude.{ℕ}
use Rattle.farm_types.specs.declared.moment.Moment.{Moment}

-- the milliseconds of a moment since 1970-01-01 in UTC
abbrev pub moment_ms : Moment → ℕ
moment_ms moment = moment.ms
