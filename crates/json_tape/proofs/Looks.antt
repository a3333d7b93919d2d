-- Look-ups at a place: what they find stands there, and is what serde_json finds.
use Rattle.std.proofs.Common.{◌≡◌, ℕ, List, true, Option, Some, None, is_some, option_and_then, sym, ap, ◌∙◌, subst}
use Rattle.std.specs.Option.{IfNone, MatchOption}
use Rattle.json.specs.Token.{Token}
use Rattle.json.specs.Json as json
use Rattle.json.specs.Find.{BeginsWith, InItems, InMembers}
use Rattle.json.specs.Find as find
use Rattle.json.proofs.Found.{Some_inj}
use Rattle.serde_json.specs.Data.{array, no_items, item}
use Rattle.serde_json.specs.Find.{as_array, as_number, as_object, as_str, get}
use Rattle.serde_json.specs.Read.{number_of, of_items, of_json}
use Rattle.json_tape.specs.Places.{data_at, items_at}
use Rattle.json_tape.specs.Views.{known, known_items}
use Rattle.json_tape.proofs.Choices.{mapped_some, some_of}
use Rattle.json_tape.proofs.Places.{InItems-from_items_at, Reads, Reads-from_data_at, data_at-begins, items_at-begins}
use Rattle.json_tape.proofs.Shapes.{FoundIn, as_array-of_json, as_number-of_json, as_object-of_json, as_str-of_json, get-of_json, of_items-item}

-- what stands where something is read
Reads-known : (ts : List Token) → is_some (data_at ts) ≡ true → Reads ts (known (data_at ts))
Reads-known ts read =
    let whole = some_of (data_at ts) read in
    subst (Reads ts) (sym (ap known whole.1)) (Reads-from_data_at ts whole.0 whole.1)

module _ (ts : List Token) (read : is_some (data_at ts) ≡ true) where
  pub get-none : (name : List ℕ) → ((j : json.Json) → BeginsWith ts j → find.get name j ≡ None)
      → get name (known (data_at ts)) ≡ None
  get-none name none =
      let r = Reads-known ts read in
      subst (λ o. FoundIn o None (get name (known (data_at ts)))) (none r.0 r.1) (get-of_json name r.0 _ r.2)

  pub get-some : (name : List ℕ) (at : List Token)
      → ((j : json.Json) → BeginsWith ts j → (i : json.Json) × (find.get name j ≡ Some i) × BeginsWith at i)
      → (is_some (data_at at) ≡ true) × (get name (known (data_at ts)) ≡ Some (known (data_at at)))
  get-some name at some =
      let r = Reads-known ts read in
      let found = some r.0 r.1 in
      let there : FoundIn (Some found.0) None (get name (known (data_at ts))) =
      subst (λ o. FoundIn o None (get name (known (data_at ts)))) found.1 (get-of_json name r.0 _ r.2) in
      let is : data_at at ≡ Some there.0 = data_at-begins at found.0 found.2 ∙ there.1 in
      (ap is_some is, there.2 ∙ ap (λ d. Some d) (sym (ap known is)))

  pub as_str-seen : (o : Option (List ℕ)) → ((j : json.Json) → BeginsWith ts j → o ≡ find.as_str j)
      → o ≡ as_str (known (data_at ts))
  as_str-seen o seen = let r = Reads-known ts read in seen r.0 r.1 ∙ as_str-of_json r.0 _ r.2

  pub as_number-none : ((j : json.Json) → BeginsWith ts j → None ≡ find.as_number j)
      → as_number (known (data_at ts)) ≡ None
  as_number-none none =
      let r = Reads-known ts read in
      sym (as_number-of_json r.0 _ r.2) ∙ ap (option_and_then number_of) (sym (none r.0 r.1))

  pub as_number-some : (s : List ℕ) → ((j : json.Json) → BeginsWith ts j → Some s ≡ find.as_number j)
      → as_number (known (data_at ts)) ≡ number_of s
  as_number-some s some =
      let r = Reads-known ts read in
      sym (as_number-of_json r.0 _ r.2) ∙ ap (option_and_then number_of) (sym (some r.0 r.1))

  pub as_array-none : ((j : json.Json) → BeginsWith ts j → find.as_array j ≡ None)
      → as_array (known (data_at ts)) ≡ None
  as_array-none none =
      let r = Reads-known ts read in
      sym (as_array-of_json r.0 _ r.2) ∙ ap (option_and_then of_items) (none r.0 r.1)

  pub as_array-some : (at : List Token)
      → ((j : json.Json) → BeginsWith ts j → (js : json.Items) × (j ≡ json.array js) × InItems at js)
      → (is_some (items_at at) ≡ true) × (as_array (known (data_at ts)) ≡ Some (known_items (items_at at)))
  as_array-some at some =
      let r = Reads-known ts read in
      let inside = some r.0 r.1 in
      let made = mapped_some array (of_items inside.0) (known (data_at ts)) (ap of_json (sym inside.1) ∙ r.2) in
      let is : items_at at ≡ Some made.0 = items_at-begins at inside.0 inside.2 ∙ made.1 in
      (ap is_some is, ap as_array made.2 ∙ ap (λ ds. Some ds) (sym (ap known_items is)))

object_seen : (o : Option (List Token)) (j : json.Json)
    → MatchOption o (find.as_object j ≡ None) (λ rest. (ms : json.Members) × (j ≡ json.object ms) × InMembers rest ms)
    → is_some o ≡ is_some (find.as_object j)
object_seen None j h = sym (ap is_some h)
object_seen (Some rest) j h = ap (λ i. is_some (find.as_object i)) (sym h.1)

pub as_object-seen : (ts : List Token) → is_some (data_at ts) ≡ true → (o : Option (List Token))
    → ((j : json.Json) → BeginsWith ts j
    → MatchOption o (find.as_object j ≡ None) (λ rest. (ms : json.Members) × (j ≡ json.object ms) × InMembers rest ms))
    → is_some o ≡ is_some (as_object (known (data_at ts)))
as_object-seen ts read o seen =
    let r = Reads-known ts read in
    object_seen o r.0 (seen r.0 r.1) ∙ as_object-of_json r.0 _ r.2

-- ---- items

InItems-known : (ts : List Token) → is_some (items_at ts) ≡ true
    → (js : json.Items) × InItems ts js × (of_items js ≡ Some (known_items (items_at ts)))
InItems-known ts read =
    let whole = some_of (items_at ts) read in
    subst (λ ds. (js : json.Items) × InItems ts js × (of_items js ≡ Some ds)) (sym (ap known_items whole.1))
    (InItems-from_items_at ts whole.0 whole.1)

module _ (ts : List Token) (read : is_some (items_at ts) ≡ true) where
  pub next-none : ((js : json.Items) → InItems ts js → js ≡ json.no_items) → known_items (items_at ts) ≡ no_items
  next-none none =
      let r = InItems-known ts read in
      sym (Some_inj _ _ (ap of_items (sym (none r.0 r.1)) ∙ r.2))

  pub next-some : (at new : List Token)
      → ((js : json.Items) → InItems ts js
      → (j : json.Json) × (rest : json.Items) × (js ≡ json.item j rest) × BeginsWith at j × InItems new rest)
      → (is_some (data_at at) ≡ true) × (is_some (items_at new) ≡ true)
      × (known_items (items_at ts) ≡ item (known (data_at at)) (known_items (items_at new)))
  next-some at new some =
      let r = InItems-known ts read in
      let first = some r.0 r.1 in
      let parts = of_items-item first.0 first.1 (known_items (items_at ts)) (ap of_items (sym first.2) ∙ r.2) in
      let is : data_at at ≡ Some parts.0 = data_at-begins at first.0 first.3 ∙ parts.2 in
      let more : items_at new ≡ Some parts.1 = items_at-begins new first.1 first.4 ∙ parts.3 in (
        ap is_some is,
        ap is_some more,
        parts.4 ∙ ap (λ d. item d parts.1) (sym (ap known is))
            ∙ ap (λ ds. item (known (data_at at)) ds) (sym (ap known_items more)),
      )

  pub items_at-next : (o : Option (List Token)) (new : List Token)
      → ((js : json.Items) → InItems ts js
      → MatchOption o (js ≡ json.no_items)
      (λ at. (j : json.Json) × (rest : json.Items) × (js ≡ json.item j rest) × BeginsWith at j × InItems new rest))
      → IfNone o (new ≡ ts) → is_some (items_at new) ≡ true
  items_at-next None new value stays = ap (λ l. is_some (items_at l)) stays ∙ read
  items_at-next (Some at) new value stays = (next-some at new value).1
