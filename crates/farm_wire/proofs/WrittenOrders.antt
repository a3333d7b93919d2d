-- Orders that are written piece by piece are those of the reply.
use Rattle.std.proofs.Common.{◌≡◌, ℕ, List, [], ◌∷◌, ◌++◌, codes, decimal, refl}
use Rattle.json.specs.Print.{escape_byte, quoted}
use Rattle.serde_json.specs.Written.{compact_text}
use Rattle.farm_types.specs.CommitId.{id_digits}
use Rattle.farm_entry.specs.declared.order_page.OrderLine.{OrderLine}
use Rattle.farm_entry.specs.declared.reply.Reply.TheVariants as reply
use Rattle.farm_wire.specs.Dates.{day_text}
use Rattle.farm_wire.specs.Members.{with_member}
use Rattle.farm_wire.specs.Pieces.{array_text}
use Rattle.farm_wire.specs.Replies.{order_data, reply_data}
use Rattle.farm_wire.proofs.Written.{joined}

-- an order behind a piece
abbrev pub order_pieces : (piece : List ℕ) → OrderLine → (agent date : List ℕ) → List (List ℕ)
order_pieces piece line agent date =
    piece
    ∷ (codes "{\"agent\":" ++ quoted agent)
    ∷ (codes ",\"commit\":" ++ quoted (id_digits line.commit))
    ∷ (codes ",\"date\":" ++ quoted date)
    ∷ (codes ",\"order\":" ++ decimal line.order)
    ∷ (codes ",\"search\":" ++ decimal line.search)
    ∷ codes "}"
    ∷ []

pub joined-order : (piece : List ℕ) (line : OrderLine)
    → joined (order_pieces piece line line.agent (day_text line.day)) ≡ piece ++ compact_text (order_data line)
unfolding order_data with_member escape_byte
joined-order piece line = refl

-- the reply that shows orders
abbrev pub orders_pieces : List OrderLine → List (List ℕ)
orders_pieces lines = codes "{\"orders\":" ∷ array_text order_data lines ∷ codes ",\"reply\":\"orders\"}" ∷ []

pub joined-orders : (lines : List OrderLine)
    → joined (orders_pieces lines) ≡ compact_text (reply_data (reply.Orders lines))
unfolding reply_data with_member escape_byte
joined-orders lines = refl
