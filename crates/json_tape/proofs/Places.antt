-- What stands at a place, beside the JSON that the tokens there begin with.
use Rattle.std.proofs.Common.{◌≡◌, ◌≤◌, List, ◌∷◌, ◌++◌, length, Option, Some, None, option_and_then, option_map, refl, sym, ap, ◌∙◌, subst, arith, append_assoc, length-append}
use Rattle.json.specs.Token.{Token, begin_array}
use Rattle.json.specs.Json as json
use Rattle.json.specs.Json.{value, after_end_array}
use Rattle.json.specs.Find.{BeginsWith, InItems}
use Rattle.json.specs.Find as find
use Rattle.json.specs.Tree.{depth, items_depth, members_depth, json_tokens, items_tokens, members_tokens}
use Rattle.json.proofs.Found.{Some_inj, items_close, items_go_on, not_found, opened}
use Rattle.json.proofs.Grammar.{closed_array}
use Rattle.json.proofs.Printed.Trees.{value-json_tokens}
use Rattle.json.proofs.Unique.Spelling.{value-json_tokens_back}
use Rattle.serde_json.specs.Data.{Data, array, Items}
use Rattle.serde_json.specs.Find.{as_array}
use Rattle.serde_json.specs.Read.{of_items, of_json}
use Rattle.json_tape.specs.Places.{data_at, items_at}
use Rattle.json_tape.proofs.Choices.{and_then_some}
use Rattle.json_tape.proofs.Shapes.{array-from_as_array, as_array-of_json}

-- a value takes as many tokens as it nests deep, and more
mutual
  depth-le-tokens : (j : json.Json) → depth j ≤ length (json_tokens j)
  depth-le-tokens json.null = omega arith
  depth-le-tokens (json.boolean b) = omega arith
  depth-le-tokens (json.number s) = omega arith
  depth-le-tokens (json.string s) = omega arith
  depth-le-tokens (json.array js) = omega (arith, items_depth-le-tokens js)
  depth-le-tokens (json.object ms) = omega (arith, members_depth-le-tokens ms)

  items_depth-le-tokens : (js : json.Items) → items_depth js ≤ length (items_tokens js)
  items_depth-le-tokens json.no_items = omega arith
  items_depth-le-tokens (json.item j js) =
      omega (arith, length-append (json_tokens j) (items_tokens js), depth-le-tokens j, items_depth-le-tokens js)

  members_depth-le-tokens : (ms : json.Members) → members_depth ms ≤ length (members_tokens ms)
  members_depth-le-tokens json.no_members = omega arith
  members_depth-le-tokens (json.member k j ms) =
      omega (arith, length-append (json_tokens j) (members_tokens ms), depth-le-tokens j, members_depth-le-tokens ms)

pub data_at-begins : (ts : List Token) (j : json.Json) → BeginsWith ts j → data_at ts ≡ of_json j
unfolding data_at
data_at-begins ts j (d, r, e) =
    let spelled : ts ≡ json_tokens j ++ r = value-json_tokens_back d ts r j e in
    let long : depth j ≤ length ts =
    omega (arith, depth-le-tokens j, ap length spelled, length-append (json_tokens j) r) in
    let again : value (length ts) ts ≡ Some (j, r) =
    ap (value (length ts)) spelled ∙ value-json_tokens j (length ts) r long in
    ap (option_and_then (λ p. of_json p.0)) again

-- the JSON that tokens begin with, which is read as this value
abbrev pub Reads : List Token → Data → Type 0
Reads ts d = (j : json.Json) × BeginsWith ts j × (of_json j ≡ Some d)

pub Reads-from_data_at : (ts : List Token) (d : Data) → data_at ts ≡ Some d → Reads ts d
unfolding data_at
Reads-from_data_at ts d e =
    let parts = and_then_some (λ p. of_json p.0) (value (length ts) ts) d e in
    (parts.0.0, (length ts, parts.0.1, parts.1), parts.2)

-- ---- items

no_items-item : {P : Type 0} (j : json.Json) (js : json.Items) → json.no_items ≡ json.item j js → P
no_items-item j js e =
    let found : json.Items → Option json.Json = λ is. find.get_item 0 is in
    not_found j (ap found e)

items_spelled_at : (js : json.Items) (ts : List Token) (o : Option (List Token)) → after_end_array ts ≡ o
    → InItems ts js → (r : List Token) × (ts ≡ items_tokens js ++ r)
items_spelled_at json.no_items ts (Some r) e h = (r, closed_array ts r e)
items_spelled_at json.no_items ts None e h =
    let parts = items_go_on ts json.no_items e h in
    no_items-item parts.1 parts.3 parts.5
items_spelled_at (json.item j js) ts (Some r) e h =
    no_items-item j js
    (sym (items_close r (json.item j js) (subst (λ l. InItems l (json.item j js)) (closed_array ts r e) h)))
items_spelled_at (json.item j js) ts None e h =
    let parts = items_go_on ts (json.item j js) e h in
    let head : j ≡ parts.1 = Some_inj _ _ (ap (λ is. find.get_item 0 is) parts.5) in
    let tail : js ≡ parts.3 = ap behind parts.5 in
    let more =
    items_spelled_at js parts.2 (after_end_array parts.2) refl
    (subst (InItems parts.2) (sym tail) parts.6) in (
      more.0,
      value-json_tokens_back parts.0 ts parts.2 parts.1 parts.4
          ∙ ap (λ i. json_tokens i ++ parts.2) (sym head)
          ∙ ap (λ l. json_tokens j ++ l) more.1
          ∙ sym (append_assoc (json_tokens j) (items_tokens js) more.0),
    )
  where
    behind : json.Items → json.Items
    behind json.no_items = json.no_items
    behind (json.item i is) = is

pub items_spelled : (ts : List Token) (js : json.Items) → InItems ts js → (r : List Token) × (ts ≡ items_tokens js ++ r)
items_spelled ts js h = items_spelled_at js ts (after_end_array ts) refl h

array_again : (o : Option Items) → option_and_then as_array (option_map array o) ≡ o
array_again None = refl
array_again (Some ds) = refl

pub items_at-begins : (ts : List Token) (js : json.Items) → InItems ts js → items_at ts ≡ of_items js
unfolding items_at
items_at-begins ts js h =
    let spelled = items_spelled ts js h in
    let whole : BeginsWith (begin_array ∷ ts) (json.array js) = (
      depth (json.array js),
      spelled.0,
      ap (λ l. value (depth (json.array js)) (begin_array ∷ l)) spelled.1
          ∙ value-json_tokens (json.array js) (depth (json.array js)) spelled.0 (omega arith),
    ) in
    ap (option_and_then as_array) (data_at-begins (begin_array ∷ ts) (json.array js) whole) ∙ array_again (of_items js)

pub InItems-from_items_at : (ts : List Token) (ds : Items) → items_at ts ≡ Some ds
    → (js : json.Items) × InItems ts js × (of_items js ≡ Some ds)
unfolding items_at
InItems-from_items_at ts ds e =
    let whole = and_then_some as_array (data_at (begin_array ∷ ts)) ds e in
    let read = Reads-from_data_at (begin_array ∷ ts) whole.0 whole.1 in
    let inside = and_then_some of_items (find.as_array read.0) ds (as_array-of_json read.0 whole.0 read.2 ∙ whole.2) in
    let shape : read.0 ≡ json.array inside.0 = array-from_as_array read.0 inside.0 inside.1 in (
      inside.0,
      opened (begin_array ∷ ts) (json.array inside.0) (subst (BeginsWith (begin_array ∷ ts)) shape read.1),
      inside.2,
    )
