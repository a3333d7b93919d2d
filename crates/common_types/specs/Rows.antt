-- Lists that things are told to, the newest first, and what is known of one.
use Rattle.std.specs.Prelude.{◌≡◌, ◌⊎◌, ◌++◌, List, [], ◌∷◌, ⊤}

module _ {A : Type 0} where
  -- a thing is one of the list
  abbrev pub IsAmong : List A → A → Type 0
  IsAmong [] thing = ⊥
  IsAmong (first ∷ others) thing = (first ≡ thing) ⊎ IsAmong others thing

  -- each of the first list is one of the second
  abbrev pub AreAmong : List A → List A → Type 0
  AreAmong [] list = ⊤
  AreAmong (first ∷ others) list = IsAmong list first × AreAmong others list

  -- the second list is the first with newer things
  abbrev pub IsOlder : List A → List A → Type 0
  IsOlder known now = (newer : List A) × (now ≡ newer ++ known)
