-- How a page, entries of the leader's history from one on, goes with a history that is held.
use Rattle.std.specs.Prelude.{◌≡◌, ◌+◌, ◌-◌, ℕ, List, [], ◌∷◌, ◌++◌, length, take, drop, ⊤}
use Rattle.farm_entry.specs.Legal.{IsLegal}
use Rattle.farm_entry.specs.declared.entry.Entry.{Entry}

-- what may be held: nothing yet, or a legal history
abbrev pub MayBeHeld : List Entry → Type 0
MayBeHeld [] = ⊤
MayBeHeld (e ∷ more) = IsLegal (e ∷ more)

-- the entries of a page past those that are held, where the page begins at a place of the history or right behind it
abbrev pub entries_past : (held : List Entry) → (place : ℕ) → (page : List Entry) → List Entry
entries_past held place page = drop (length held - place) page

-- each entry of a page that has the place of one held is that one, and those past them may come next, one after the
-- other
pub record GoesWith (held : List Entry) (place : ℕ) (page : List Entry) : Type 0 where
  pub same : take (length held - place) page ≡ take (length page) (drop place held)
  pub legal : MayBeHeld (held ++ entries_past held place page)

-- the entry at this place is the first of a page that differs from the one held, or that makes the longer history
-- illegal
pub record IsForeignAt (held : List Entry) (place : ℕ) (page : List Entry) (first : ℕ) : Type 0 where
  pub before : List Entry
  pub entry : Entry
  pub behind : List Entry
  pub split : page ≡ before ++ entry ∷ behind
  pub at : first ≡ place + length before
  pub fits : GoesWith held place before
  pub misfit : GoesWith held place (before ++ entry ∷ []) → ⊥
