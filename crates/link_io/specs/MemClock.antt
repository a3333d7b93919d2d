-- What contracts see of a clock in memory.
use Rattle.farm_types.specs.declared.moment.Moment.{Moment}
use Rattle.link_io.specs.declared.memory.mem_clock.MemClock.{MemClock}

-- the moment at which a clock stands
abbrev pub clock_moment : MemClock → Moment
clock_moment clock = clock.at
