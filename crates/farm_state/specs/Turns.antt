-- The order of turns as a history makes it, entry by entry.
use Rattle.std.specs.Prelude.{List, [], ◌∷◌, ◌++◌}
use Rattle.farm_entry.specs.declared.entry.Entry.{Entry}
use Rattle.farm_state.specs.Moves.{Turns, change_of, made, move_in}
use Rattle.farm_state.specs.declared.moves.Change.{Change}

abbrev pub no_turns : Turns
no_turns = record { never = []; leased = [] }

-- the order with an entry appended
abbrev pub turns_after : List Entry → Entry → Turns → Turns
turns_after H e t = made (H ++ e ∷ []) (move_in H e.what) t

-- what is kept of that entry
abbrev pub change_at : List Entry → Entry → Turns → Change
change_at H e t = change_of (H ++ e ∷ []) (move_in H e.what) t

abbrev pub turns_from : (done : List Entry) → Turns → (rest : List Entry) → Turns
turns_from done t [] = t
turns_from done t (e ∷ rest) = turns_from (done ++ e ∷ []) (turns_after done e t) rest

abbrev pub changes_from : (done : List Entry) → Turns → (rest : List Entry) → List Change
changes_from done t [] = []
changes_from done t (e ∷ rest) = change_at done e t ∷ changes_from (done ++ e ∷ []) (turns_after done e t) rest

-- the order that a history makes
abbrev pub turns_of : List Entry → Turns
turns_of H = turns_from [] no_turns H

-- and what is kept of each of its entries
abbrev pub changes_of : List Entry → List Change
changes_of H = changes_from [] no_turns H
