-- What contracts see of a text that was read, and of the values in it.
use Rattle.std.specs.Prelude.{Option, Some, None}
use Rattle.serde_json.specs.Data.{Data, null, Items, no_items}
use Rattle.json_tape.specs.Places.{data_at, items_at}
use Rattle.json_tape.specs.declared.document.Document.{Document}
use Rattle.json_tape.specs.declared.items.ParsedItems.{ParsedItems}
use Rattle.json_tape.specs.declared.parsed.Parsed.{Parsed}

-- a value that is there
abbrev pub known : Option Data → Data
known None = null
known (Some d) = d

-- items that are there
abbrev pub known_items : Option Items → Items
known_items None = no_items
known_items (Some ds) = ds

unfoldable pub data_of : Parsed → Data
data_of p = known (data_at p.element)

unfoldable pub document_data : Document → Data
document_data d = known (data_at d.tape)

unfoldable pub items_in : ParsedItems → Items
items_in i = known_items (items_at i.next)
