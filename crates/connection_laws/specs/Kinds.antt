-- What an item asks of the farm.
use Rattle.std.specs.Prelude.{ℕ, List, Result, Ok, Err}
use Rattle.farm_entry.specs.declared.command.Command.{Command}
use Rattle.farm_wire.specs.Reading.{body_reading}
use Rattle.farm_wire.specs.declared.fault.WireFault.{WireFault}
use Rattle.http_requests.specs.Items.{Item}
use Rattle.http_words.specs.declared.endpoint.Endpoint.{Endpoint}
use Rattle.http_words.specs.declared.endpoint.Endpoint.TheVariants as endpoint
use Rattle.http_words.specs.declared.fault.Fault.{Fault}

-- what an item is
pub data Kind : Type 0 where
  -- a fault of its head, its framing or its path
  faulty : Fault → Kind
  -- a command, or the fault of its body
  commands : Result Command WireFault → Kind
  -- the totals that were posted last
  totals : Kind
  -- the entries from this one on, counted from 1
  log : ℕ → Kind

-- what an endpoint asks for, with this body
abbrev pub kind_at : Endpoint → List ℕ → Kind
kind_at (endpoint.Command route) body = commands (body_reading route body)
kind_at endpoint.Totals body = totals
kind_at (endpoint.Log from) body = log from

-- the same, or the fault in its place
abbrev pub kind_by : Result Endpoint Fault → List ℕ → Kind
kind_by (Ok endpoint) body = kind_at endpoint body
kind_by (Err fault) body = faulty fault

abbrev pub kind_of : Item → Kind
kind_of item = kind_by item.asks item.body
