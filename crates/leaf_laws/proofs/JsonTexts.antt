-- What is written as JSON is read back as the value that it was.
use Rattle.std.proofs.Common.{◌≡◌, ◌<◌, ◌≤◌, ℕ, ◌^◌, suc, max, Bool, true, false, List, [], ◌∷◌, ◌++◌, Some, option_map}
use Rattle.std.proofs.Common.{option_and_then, refl, sym, ap, ap₂, subst, ◌∙◌, append-nil, arith}
use Rattle.std.specs.Prelude.{⊤, codes, decimal}
use Rattle.std.specs.Option.{is_some}
use Rattle.std.specs.Str.{IsUtf8}
use Rattle.std.proofs.lemmas.Fmt.{IsAscii-decimal}
use Rattle.std.proofs.lemmas.Str.{IsUtf8-append, IsUtf8-from_ascii, IsUtf8-nil}
use Rattle.json.specs.Json as json
use Rattle.json.specs.Print.{quoted, print}
use Rattle.json.specs.Tree as tree
use Rattle.json.proofs.Printed.Decimals.{IsNumber-decimal}
use Rattle.json.proofs.Printed.Tokens.{tokens-print}
use Rattle.json.proofs.Printed.Trees.{ArePrintable-json_tokens, value-json_tokens}
use Rattle.json.proofs.Printed.Utf8.{IsUtf8-are_ascii, IsUtf8-boolean, IsUtf8-quoted}
use Rattle.serde_json.specs.Data.{unsigned, negative, float, Data, null, boolean, number, string, array, object, Items}
use Rattle.serde_json.specs.Data.{no_items, item, Members, no_members, member, put, depth, items_depth, members_depth}
use Rattle.serde_json.specs.Find.{as_object}
use Rattle.serde_json.specs.Read.{read, of_json, of_items, of_members, max_depth}
use Rattle.serde_json.specs.Written.{compact_text, items_text, members_text, outline, items_outline, members_outline}
use Rattle.serde_json.specs.Written.{comma_if}
use Rattle.serde_json.proofs.Numbers.{number_of-decimal}
use Rattle.serde_json.proofs.Texts.{print-outline}
use Rattle.farm_wire.specs.Reading.{object_in}
use Rattle.farm_wire.proofs.JsonObjects.{object_in-some}

-- members put one after the other
abbrev pub puts : Members → Members → Members
puts no_members found = found
puts (member k d more) found = puts more (put k d found)

-- A value that is written as it is read: its numbers are whole and below 2 ^ 64, its texts UTF-8, and the members of
-- its objects stand in order.
abbrev mutual
  pub IsSent : Data → Type 0
  IsSent null = ⊤
  IsSent (boolean b) = ⊤
  IsSent (number (unsigned n)) = n < 2 ^ 64
  IsSent (number (negative z)) = ⊥
  IsSent (number (float x)) = ⊥
  IsSent (string s) = IsUtf8 s
  IsSent (array ds) = AreSent ds
  IsSent (object ms) = MembersAreSent ms × (puts ms no_members ≡ ms)

  pub AreSent : Items → Type 0
  AreSent no_items = ⊤
  AreSent (item d more) = IsSent d × AreSent more

  pub MembersAreSent : Members → Type 0
  MembersAreSent no_members = ⊤
  MembersAreSent (member k d more) = IsUtf8 k × IsSent d × MembersAreSent more

mutual
  of_json-outline : (d : Data) → IsSent d → of_json (outline d) ≡ Some d
  of_json-outline null is = refl
  of_json-outline (boolean b) is = refl
  of_json-outline (number (unsigned n)) is = ap (option_map number) (number_of-decimal n is)
  of_json-outline (number (negative z)) is = absurd is
  of_json-outline (number (float x)) is = absurd is
  of_json-outline (string s) is = refl
  of_json-outline (array ds) is = ap (option_map array) (of_items-outline ds is)
  of_json-outline (object ms) is =
      ap (option_map object) (of_members-outline ms no_members is.0 ∙ ap (λ (l : Members). Some l) is.1)

  of_items-outline : (ds : Items) → AreSent ds → of_items (items_outline ds) ≡ Some ds
  of_items-outline no_items are = refl
  of_items-outline (item d more) are =
      ap (option_and_then (λ x. option_map (item x) (of_items (items_outline more)))) (of_json-outline d are.0)
      ∙ ap (option_map (item d)) (of_items-outline more are.1)

  of_members-outline : (ms found : Members) → MembersAreSent ms
      → of_members (members_outline ms) found ≡ Some (puts ms found)
  of_members-outline no_members found are = refl
  of_members-outline (member k d more) found are =
      ap (option_and_then (λ x. of_members (members_outline more) (put k x found))) (of_json-outline d are.1)
      ∙ of_members-outline more (put k d found) are.2

mutual
  numbers-outline : (d : Data) → IsSent d → tree.HasNumbers (outline d)
  numbers-outline null is = tt
  numbers-outline (boolean b) is = tt
  numbers-outline (number (unsigned n)) is = IsNumber-decimal n is
  numbers-outline (number (negative z)) is = absurd is
  numbers-outline (number (float x)) is = absurd is
  numbers-outline (string s) is = tt
  numbers-outline (array ds) is = numbers-items_outline ds is
  numbers-outline (object ms) is = numbers-members_outline ms is.0

  numbers-items_outline : (ds : Items) → AreSent ds → tree.ItemsHaveNumbers (items_outline ds)
  numbers-items_outline no_items are = tt
  numbers-items_outline (item d more) are = (numbers-outline d are.0, numbers-items_outline more are.1)

  numbers-members_outline : (ms : Members) → MembersAreSent ms → tree.MembersHaveNumbers (members_outline ms)
  numbers-members_outline no_members are = tt
  numbers-members_outline (member k d more) are =
      (numbers-outline d are.1, numbers-members_outline more are.2)

mutual
  depth-outline : (d : Data) → tree.depth (outline d) ≡ depth d
  depth-outline null = refl
  depth-outline (boolean b) = refl
  depth-outline (number n) = refl
  depth-outline (string s) = refl
  depth-outline (array ds) = ap suc (depth-items_outline ds)
  depth-outline (object ms) = ap suc (depth-members_outline ms)

  depth-items_outline : (ds : Items) → tree.items_depth (items_outline ds) ≡ items_depth ds
  depth-items_outline no_items = refl
  depth-items_outline (item d more) = ap₂ max (depth-outline d) (depth-items_outline more)

  depth-members_outline : (ms : Members) → tree.members_depth (members_outline ms) ≡ members_depth ms
  depth-members_outline no_members = refl
  depth-members_outline (member k d more) = ap₂ max (depth-outline d) (depth-members_outline more)

read-print : (j : json.Json) → tree.HasNumbers j → tree.depth j ≤ max_depth
    → read (print (tree.json_tokens j)) ≡ of_json j
read-print j numbers shallow =
    let all = tree.json_tokens j in
    ap (option_and_then of_json)
    (ap (option_and_then (λ p. json.if_last p.0 p.1))
    (ap (json.value max_depth) (tokens-print all (ArePrintable-json_tokens j numbers) ∙ sym (append-nil all))
    ∙ value-json_tokens j max_depth [] shallow))

-- a written value reads as itself
pub read-compact_text : (d : Data) → IsSent d → depth d ≤ max_depth → read (compact_text d) ≡ Some d
read-compact_text d is shallow =
    let flat : tree.depth (outline d) ≤ max_depth = omega (arith, depth-outline d, shallow) in
    subst (λ (text : List ℕ). read text ≡ Some d) (print-outline d)
    (read-print (outline d) (numbers-outline d is) flat ∙ of_json-outline d is)

-- what is written is UTF-8
IsUtf8-comma_if : (later : Bool) → IsUtf8 (comma_if later)
IsUtf8-comma_if true = IsUtf8-are_ascii (44 ∷ []) refl
IsUtf8-comma_if false = IsUtf8-nil

mutual
  pub IsUtf8-compact_text : (d : Data) → IsSent d → IsUtf8 (compact_text d)
  IsUtf8-compact_text null is = IsUtf8-are_ascii (codes "null") refl
  IsUtf8-compact_text (boolean b) is = IsUtf8-boolean b
  IsUtf8-compact_text (number (unsigned n)) is = IsUtf8-from_ascii (decimal n) (IsAscii-decimal n is)
  IsUtf8-compact_text (number (negative z)) is = absurd is
  IsUtf8-compact_text (number (float x)) is = absurd is
  IsUtf8-compact_text (string s) is = IsUtf8-quoted s is
  IsUtf8-compact_text (array ds) is =
      IsUtf8-append (91 ∷ []) (items_text false ds) (IsUtf8-are_ascii (91 ∷ []) refl) (IsUtf8-items_text false ds is)
  IsUtf8-compact_text (object ms) is =
      IsUtf8-append (123 ∷ []) (members_text false ms) (IsUtf8-are_ascii (123 ∷ []) refl)
      (IsUtf8-members_text false ms is.0)

  IsUtf8-items_text : (later : Bool) (ds : Items) → AreSent ds → IsUtf8 (items_text later ds)
  IsUtf8-items_text later no_items are = IsUtf8-are_ascii (93 ∷ []) refl
  IsUtf8-items_text later (item d more) are =
      IsUtf8-append (comma_if later) (compact_text d ++ items_text true more) (IsUtf8-comma_if later)
      (IsUtf8-append (compact_text d) (items_text true more) (IsUtf8-compact_text d are.0)
      (IsUtf8-items_text true more are.1))

  IsUtf8-members_text : (later : Bool) (ms : Members) → MembersAreSent ms → IsUtf8 (members_text later ms)
  IsUtf8-members_text later no_members are = IsUtf8-are_ascii (125 ∷ []) refl
  IsUtf8-members_text later (member k d more) are =
      IsUtf8-append (comma_if later) (quoted k ++ 58 ∷ (compact_text d ++ members_text true more))
      (IsUtf8-comma_if later)
      (IsUtf8-append (quoted k) (58 ∷ (compact_text d ++ members_text true more)) (IsUtf8-quoted k are.0)
      (IsUtf8-append (58 ∷ []) (compact_text d ++ members_text true more) (IsUtf8-are_ascii (58 ∷ []) refl)
      (IsUtf8-append (compact_text d) (members_text true more) (IsUtf8-compact_text d are.1)
      (IsUtf8-members_text true more are.2))))

-- a written object reads as itself
pub object_in-compact_text : (d : Data) → is_some (as_object d) ≡ true → IsSent d → depth d ≤ max_depth
    → object_in (compact_text d) ≡ Some d
object_in-compact_text d some is shallow =
    object_in-some (compact_text d) d (IsUtf8-compact_text d is) (read-compact_text d is shallow) some
