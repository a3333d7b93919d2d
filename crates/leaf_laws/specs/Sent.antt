-- A request that is whole, alone on its connection, and asks for this.
use Rattle.std.specs.Prelude.{ℕ, List, [], ◌∷◌, length, true, false, Ok}
use Rattle.http_requests.specs.Items.{Item, Items, closed}
use Rattle.http_words.specs.declared.endpoint.Endpoint.{Endpoint}

-- the item of such a request: no interim answer is due, its answer has a body, and the connection closes behind it
abbrev pub sent_item : Endpoint → (bytes body : List ℕ) → Item
sent_item asks bytes body = record {
  interim = false;
  withheld = false;
  closes = true;
  asks = Ok asks;
  body = body;
  size = length bytes;
}

-- bytes are one such request on a connection, and nothing else
abbrev pub IsOneRequest : Endpoint → (bytes body : List ℕ) → Type 0
IsOneRequest asks bytes body = Items bytes (sent_item asks bytes body ∷ []) closed
