-- What an entry makes of the book of orders.
use Rattle.std.specs.Prelude.{◌≡◌, ℕ, ◌+◌, ◌-◌, ◌<◌, ◌≤◌, ◌^◌, Bool, true, false, List, [], ◌∷◌, ◌++◌, length, take, ⊤}
use Rattle.farm_rules.specs.Orders.{has_order}
use Rattle.farm_rules.specs.Orders as rules
use Rattle.farm_rules.specs.declared.orders.Draft.{Draft}
use Rattle.farm_rules.specs.Book.{Book, ordered}
use Rattle.farm_entry.specs.declared.entry.What.{What}
use Rattle.farm_entry.specs.declared.entry.What.TheVariants.{Ordered, Carried}
use Rattle.farm_ledger.specs.declared.notes.Booking.{Booking}
use Rattle.farm_ledger.specs.declared.notes.Booking.TheVariants as booking

-- what an entry is to it: an order that is given, without its agent, one that is carried over, or nothing
abbrev pub booking_in : What → Booking
booking_in (Ordered key agent order commit search day) =
    booking.Given (record { order = order; commit = commit; search = search; day = day })
booking_in (Carried commit day) = booking.Carried (record { commit = commit; day = day })
booking_in _ = booking.Nothing

-- whether it is an order
abbrev pub is_booked : Booking → Bool
is_booked booking.Nothing = false
is_booked _ = true

-- the book with it

abbrev pub with_booking : List rules.Ordered → Booking → List rules.Ordered
with_booking orders booking.Nothing = orders
with_booking orders (booking.Given d) = orders ++ ordered d.commit d.day ∷ []
with_booking orders (booking.Carried o) = orders ++ o ∷ []

-- how many orders it gives
abbrev pub given_in : Booking → ℕ
given_in (booking.Given d) = 1
given_in _ = 0

-- what an order that is given asks of the book
pub record IsBookable (b : Book) (d : Draft) : Type 0 where
  pub room : 1 ≤ b.room
  pub few : length b.orders + 1 < 2 ^ 32
  pub number : d.order ≡ b.given + 1
  pub free : has_order b.orders d.commit ≡ false

-- what one that is carried over asks of it, which comes before any is given
pub record IsCarriable (b : Book) (o : rules.Ordered) : Type 0 where
  pub room : 1 ≤ b.room
  pub few : length b.orders + 1 < 2 ^ 32
  pub none_given : b.given ≡ 0
  pub free : has_order b.orders o.commit ≡ false

abbrev pub MayBook : Book → Booking → Type 0
MayBook b booking.Nothing = ⊤
MayBook b (booking.Given d) = IsBookable b d
MayBook b (booking.Carried o) = IsCarriable b o

-- The book without the last order, where that goes.

abbrev pub one_if : Bool → ℕ
one_if true = 1
one_if false = 0

abbrev pub without_order : List rules.Ordered → (is_order : Bool) → List rules.Ordered
without_order orders false = orders
without_order orders true = take (length orders - 1) orders
