-- What stands at a place of a tape, as serde_json reads it.
use Rattle.std.specs.Prelude.{List, ◌∷◌, length, Option, option_and_then}
use Rattle.json.specs.Token.{Token, begin_array}
use Rattle.json.specs.Json.{value}
use Rattle.serde_json.specs.Data.{Data, Items}
use Rattle.serde_json.specs.Find.{as_array}
use Rattle.serde_json.specs.Read.{of_json}

-- the value that tokens begin with, where they begin with one that serde_json accepts
unfoldable pub data_at : List Token → Option Data
data_at ts = option_and_then (λ p. of_json p.0) (value (length ts) ts)

-- the items that tokens begin with, up to the bracket that closes their array
unfoldable pub items_at : List Token → Option Items
items_at ts = option_and_then as_array (data_at (begin_array ∷ ts))
