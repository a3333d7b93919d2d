-- What a closed farm hands over to the next one, as text: a line for each commit that was ordered, and a last line.
use Rattle.std.specs.Prelude.{ℕ, ◌+◌, ◌==◌, nat_le, nat_lt, Bool, false, not, ◌&&◌, List, [], ◌∷◌, ◌++◌, length, map, codes, if◌then◌else◌, Option, Some, None, Result, Ok, Err}
use Rattle.std.specs.Fmt.{decimal}
use Rattle.std.specs.Str.{bytes_eq}
use Rattle.common_types.specs.Decimals.{number}
use Rattle.farm_rules.specs.Orders.{Ordered, has_order}
use Rattle.farm_types.specs.CommitId.{id_digits}
use Rattle.farm_types.specs.declared.commit_id.CommitId.{CommitId}
use Rattle.farm_types.specs.declared.moment.TheConstants.{LAST_DAY}
use Rattle.farm_entry.specs.Orders.{orders}
use Rattle.farm_entry.specs.declared.entry.Entry.{Entry}
use Rattle.farm_entry.specs.declared.limits.TheConstants.{MAX_CARRIED}
use Rattle.farm_wire.specs.Made.{id_named}
use Rattle.judge.specs.Text.{lines, text_of, words}

-- the byte between two words of a line
abbrev pub SPACE : ℕ
SPACE = 32

-- What is written.

-- the line of an order: its commit in lower case, and its day
abbrev pub order_line : Ordered → List ℕ
order_line o = id_digits o.commit ++ SPACE ∷ decimal o.day

-- the last line: how many orders there are
abbrev pub closing_line : (count : ℕ) → List ℕ
closing_line count = codes "closed " ++ decimal count

-- the lines of orders, and the last one
abbrev pub handover_lines : List Ordered → List (List ℕ)
handover_lines orders = map order_line orders ++ closing_line (length orders) ∷ []

-- what a farm hands over: the orders that stand, those that were carried over to it first
abbrev pub handover_of : List Entry → List ℕ
handover_of H = text_of (handover_lines (orders H))

-- What is read.

-- an order of these parts, where both are there and the day is one
abbrev pub order_of : Option CommitId → Option ℕ → Option Ordered
order_of (Some commit) (Some day) = if nat_le day LAST_DAY then Some (record { commit = commit; day = day }) else None
order_of _ _ = None

-- the order that two words write: an id, whose letters may be of either case, and a day
abbrev pub order_words : List (List ℕ) → Option Ordered
order_words (commit ∷ day ∷ []) = order_of (id_named commit) (number day)
order_words _ = None

abbrev pub order_in_line : List ℕ → Option Ordered
order_in_line line = order_words (words line)

-- whether these words are the last line behind so many orders
abbrev pub counts : (count : ℕ) → Option ℕ → Bool
counts count None = false
counts count (Some n) = n == count

abbrev pub closes : (count : ℕ) → List (List ℕ) → Bool
closes count (word ∷ n ∷ []) = bytes_eq word (codes "closed") && counts count (number n)
closes count _ = false

-- nothing may stand behind the last line, which has the number before this one
abbrev pub at_end : List Ordered → (l : ℕ) → List (List ℕ) → Result (List Ordered) ℕ
at_end orders l [] = Ok orders
at_end orders l (x ∷ xs) = Err l

-- whether one order more may be read: there is room, and its commit has no line yet
abbrev pub is_further : List Ordered → Ordered → Bool
is_further orders o = nat_lt (length orders) MAX_CARRIED && not (has_order orders o.commit)

-- The orders of these lines, of which the first has the number `l`, behind orders that were read before; or the number
-- of the first line outside the form. Where the last line is missing, that is the one behind all lines
abbrev pub orders_from : List Ordered → (l : ℕ) → List (List ℕ) → Result (List Ordered) ℕ
orders_from orders l [] = Err l
orders_from orders l (x ∷ xs) =
    elim (order_in_line x) [
      | None ↦ (if closes (length orders) (words x) then at_end orders (l + 1) xs else Err l)
      | Some o ↦ (if is_further orders o then orders_from (orders ++ o ∷ []) (l + 1) xs else Err l)
    ]

-- What an input hands over, or the number of its first line outside the form, counted from 1
abbrev pub handed_over : List ℕ → Result (List Ordered) ℕ
handed_over input = orders_from [] 1 (lines input)
