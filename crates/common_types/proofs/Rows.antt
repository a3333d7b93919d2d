-- What is among a list that things are told to.
use Rattle.std.proofs.Common.{◌≡◌, ◌++◌, ◌∷◌, [], List, take, refl, sym, subst, ◌∙◌, ap, inl, inr, ⊎_elim, append_assoc}
use Rattle.common_types.specs.Rows.{AreAmong, IsAmong, IsOlder}

module _ {A : Type 0} where
  pub IsOlder-refl : (list : List A) → IsOlder list list
  IsOlder-refl list = ([], refl)

  pub IsOlder-trans : (a b c : List A) → IsOlder a b → IsOlder b c → IsOlder a c
  IsOlder-trans a b c (newer, is) (more, on) =
      (more ++ newer, on ∙ ap (λ (l : List A). more ++ l) is ∙ sym (append_assoc more newer a))

  pub IsAmong-append_second : (newer list : List A) (thing : A) → IsAmong list thing → IsAmong (newer ++ list) thing
  IsAmong-append_second [] list thing here = here
  IsAmong-append_second (first ∷ newer) list thing here = inr (IsAmong-append_second newer list thing here)

  pub IsAmong-append_first : (list more : List A) (thing : A) → IsAmong list thing → IsAmong (list ++ more) thing
  IsAmong-append_first [] more thing here = absurd here
  IsAmong-append_first (first ∷ list) more thing here = ⊎_elim
      (λ (same : first ≡ thing). inl same)
      (λ (later : IsAmong list thing). inr (IsAmong-append_first list more thing later)) here

  pub IsAmong-older : (known now : List A) (thing : A) → IsOlder known now → IsAmong known thing → IsAmong now thing
  IsAmong-older known now thing (newer, is) here =
      subst (λ (l : List A). IsAmong l thing) (sym is) (IsAmong-append_second newer known thing here)

  -- what is among those that are among a list is among it
  pub IsAmong-AreAmong : (rows list : List A) (thing : A) → AreAmong rows list → IsAmong rows thing
      → IsAmong list thing
  IsAmong-AreAmong [] list thing all here = absurd here
  IsAmong-AreAmong (first ∷ rows) list thing (one, others) here = ⊎_elim
      (λ (same : first ≡ thing). subst (λ (x : A). IsAmong list x) same one)
      (λ (later : IsAmong rows thing). IsAmong-AreAmong rows list thing others later) here

  pub AreAmong-older : (rows known now : List A) → IsOlder known now → AreAmong rows known → AreAmong rows now
  AreAmong-older [] known now older all = tt
  AreAmong-older (first ∷ rows) known now older (one, others) =
      (IsAmong-older known now first older one, AreAmong-older rows known now older others)

  pub AreAmong-append : (rows more list : List A) → AreAmong rows list → AreAmong more list
      → AreAmong (rows ++ more) list
  AreAmong-append [] more list all others = others
  AreAmong-append (first ∷ rows) more list (one, rest) others = (one, AreAmong-append rows more list rest others)

  -- the newest one is among the list
  pub AreAmong-newest : (list : List A) → AreAmong (take 1 list) list
  AreAmong-newest [] = tt
  AreAmong-newest (first ∷ list) = (inl refl, tt)

  -- each is among those that it stands before or behind
  pub AreAmong-behind : (newer rows list : List A) → AreAmong rows list → AreAmong rows (newer ++ list)
  AreAmong-behind newer rows list all = AreAmong-older rows list (newer ++ list) (newer, refl) all

  pub AreAmong-before : (rows list more : List A) → AreAmong rows list → AreAmong rows (list ++ more)
  AreAmong-before [] list more all = tt
  AreAmong-before (first ∷ rows) list more (one, others) =
      (IsAmong-append_first list more first one, AreAmong-before rows list more others)

  pub AreAmong-refl : (rows : List A) → AreAmong rows rows
  AreAmong-refl [] = tt
  AreAmong-refl (first ∷ rows) = (inl refl, AreAmong-behind (first ∷ []) rows rows (AreAmong-refl rows))
