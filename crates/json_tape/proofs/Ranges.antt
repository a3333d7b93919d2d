-- Which JSON serde_json accepts, by the tokens that it is written with.
use Rattle.std.proofs.Common.{◌≡◌, ℕ, suc, ◌+◌, ◌-◌, ◌≤◌, List, [], ◌∷◌, ◌++◌, nat_lt, Bool, true, false, if◌then◌else◌, Option, Some, None, is_some, option_and_then, option_map, refl, sym, ap, ◌∙◌, arith, append_assoc, append-nil}
use Rattle.std.proofs.lemmas.Bool.{lt-ltb, ltb-true, false≢true}
use Rattle.json.specs.Token.{Token}
use Rattle.json.specs.Json as json
use Rattle.json.specs.Json.{document, value}
use Rattle.json.specs.Lex.{tokens}
use Rattle.json.specs.Tree.{depth, items_depth, members_depth, json_tokens, items_tokens, members_tokens}
use Rattle.json.proofs.Found.{not_found}
use Rattle.json.proofs.Nesting.{value-depth}
use Rattle.json.proofs.Printed.Trees.{value-json_tokens}
use Rattle.json.proofs.Unique.Spelling.{tokens-document, value-json_tokens_back}
use Rattle.serde_json.specs.Data.{Data, Num, number, array, object, Items, item, Members, no_members, put}
use Rattle.serde_json.specs.Read.{max_depth, number_of, of_items, of_json, of_members, read}
use Rattle.json_tape.specs.Ranges.{deeper, depths}
use Rattle.json_tape.proofs.Choices.{and_then_some, mapped_some, some_of}

-- ---- what is read is accepted

goes_down : (d k : ℕ) (ts : List Token) → d + k ≡ max_depth → 1 ≤ k
    → option_and_then (λ next. depths next ts) (deeper d) ≡ depths (suc d) ts
goes_down d k ts room some =
    let below : nat_lt d max_depth ≡ true = lt-ltb _ _ (omega (arith, room, some)) in
    rw below refl

comes_up : (d : ℕ) (ts : List Token) → depths (suc d - 1) ts ≡ depths d ts
comes_up d ts = let back : suc d - 1 ≡ d = omega arith in ap (λ n. depths n ts) back

number_kept : (d : ℕ) (o : Option Num) (ts : List Token) → is_some o ≡ true
    → option_and_then (λ next. depths next ts) (if is_some o then Some d else None) ≡ depths d ts
number_kept d o ts e = rw e refl

mutual
  depths-read : (j : json.Json) (x : Data) (d k : ℕ) (r : List Token) → d + k ≡ max_depth → depth j ≤ k
      → of_json j ≡ Some x → depths d (json_tokens j ++ r) ≡ depths d r
  depths-read json.null x d k r room within e = refl
  depths-read (json.boolean b) x d k r room within e = refl
  depths-read (json.number s) x d k r room within e =
      number_kept d (number_of s) r (ap is_some (mapped_some number (number_of s) x e).1)
  depths-read (json.string s) x d k r room within e = refl
  depths-read (json.array js) x d k r room within e =
      goes_down d k (items_tokens js ++ r) room (omega (arith, within))
      ∙ depths-items js (mapped_some array (of_items js) x e).0 d (k - 1) r (omega (arith, room, within))
      (omega (arith, within)) (mapped_some array (of_items js) x e).1
  depths-read (json.object ms) x d k r room within e =
      goes_down d k (members_tokens ms ++ r) room (omega (arith, within))
      ∙ depths-members ms no_members (mapped_some object (of_members ms no_members) x e).0 d (k - 1) r
      (omega (arith, room, within)) (omega (arith, within)) (mapped_some object (of_members ms no_members) x e).1

  depths-items : (js : json.Items) (xs : Items) (d k : ℕ) (r : List Token) → suc d + k ≡ max_depth → items_depth js ≤ k
      → of_items js ≡ Some xs → depths (suc d) (items_tokens js ++ r) ≡ depths d r
  depths-items json.no_items xs d k r room within e = comes_up d r
  depths-items (json.item j js) xs d k r room within e =
      let first = and_then_some (λ x. option_map (item x) (of_items js)) (of_json j) xs e in
      let rest = mapped_some (item first.0) (of_items js) xs first.2 in
      ap (depths (suc d)) (append_assoc (json_tokens j) (items_tokens js) r)
      ∙ depths-read j first.0 (suc d) k (items_tokens js ++ r) room (omega (arith, within)) first.1
      ∙ depths-items js rest.0 d k r room (omega (arith, within)) rest.1

  depths-members : (ms : json.Members) (found out : Members) (d k : ℕ) (r : List Token) → suc d + k ≡ max_depth
      → members_depth ms ≤ k → of_members ms found ≡ Some out → depths (suc d) (members_tokens ms ++ r) ≡ depths d r
  depths-members json.no_members found out d k r room within e = comes_up d r
  depths-members (json.member name j ms) found out d k r room within e =
      let first = and_then_some (λ x. of_members ms (put name x found)) (of_json j) out e in
      ap (depths (suc d)) (append_assoc (json_tokens j) (members_tokens ms) r)
      ∙ depths-read j first.0 (suc d) k (members_tokens ms ++ r) room (omega (arith, within)) first.1
      ∙ depths-members ms (put name first.0 found) out d k r room (omega (arith, within)) first.2

-- ---- what is accepted is read

went_down : (d e : ℕ) (ts : List Token) (b : Bool) → nat_lt d max_depth ≡ b
    → option_and_then (λ next. depths next ts) (if b then Some (suc d) else None) ≡ Some e
    → (suc d ≤ max_depth) × (depths (suc d) ts ≡ Some e)
went_down d e ts true below h = (omega (arith, ltb-true _ _ below), h)
went_down d e ts false below h = not_found e h

number_accepted : (d e : ℕ) (o : Option Num) (ts : List Token)
    → option_and_then (λ next. depths next ts) (if is_some o then Some d else None) ≡ Some e
    → (n : Num) × (o ≡ Some n) × (depths d ts ≡ Some e)
number_accepted d e None ts h = not_found e h
number_accepted d e (Some n) ts h = (n, refl, h)

mutual
  read-depths : (j : json.Json) (d k e : ℕ) (r : List Token) → d + k ≡ max_depth
      → depths d (json_tokens j ++ r) ≡ Some e → (depth j ≤ k) × (x : Data) × (of_json j ≡ Some x) × (depths d r ≡ Some e)
  read-depths json.null d k e r room h = (omega arith, _, refl, h)
  read-depths (json.boolean b) d k e r room h = (omega arith, _, refl, h)
  read-depths (json.number s) d k e r room h =
      let parts = number_accepted d e (number_of s) r h in
      (omega arith, number parts.0, ap (option_map number) parts.1, parts.2)
  read-depths (json.string s) d k e r room h = (omega arith, _, refl, h)
  read-depths (json.array js) d k e r room h =
      let down = went_down d e (items_tokens js ++ r) (nat_lt d max_depth) refl h in
      let inside = items-depths js d (k - 1) e r (omega (arith, room, down.0)) down.1 in
      (omega (arith, room, down.0, inside.0), array inside.1, ap (option_map array) inside.2, inside.3)
  read-depths (json.object ms) d k e r room h =
      let down = went_down d e (members_tokens ms ++ r) (nat_lt d max_depth) refl h in
      let inside = members-depths ms no_members d (k - 1) e r (omega (arith, room, down.0)) down.1 in
      (omega (arith, room, down.0, inside.0), object inside.1, ap (option_map object) inside.2, inside.3)

  items-depths : (js : json.Items) (d k e : ℕ) (r : List Token) → suc d + k ≡ max_depth
      → depths (suc d) (items_tokens js ++ r) ≡ Some e
      → (items_depth js ≤ k) × (xs : Items) × (of_items js ≡ Some xs) × (depths d r ≡ Some e)
  items-depths json.no_items d k e r room h = (omega arith, _, refl, sym (comes_up d r) ∙ h)
  items-depths (json.item j js) d k e r room h =
      let first = read-depths j (suc d) k e (items_tokens js ++ r) room
      (ap (depths (suc d)) (sym (append_assoc (json_tokens j) (items_tokens js) r)) ∙ h) in
      let rest = items-depths js d k e r room first.3 in (
        omega (arith, first.0, rest.0),
        item first.1 rest.1,
        ap (option_and_then (λ x. option_map (item x) (of_items js))) first.2 ∙ ap (option_map (item first.1)) rest.2,
        rest.3,
      )

  members-depths : (ms : json.Members) (found : Members) (d k e : ℕ) (r : List Token) → suc d + k ≡ max_depth
      → depths (suc d) (members_tokens ms ++ r) ≡ Some e
      → (members_depth ms ≤ k) × (out : Members) × (of_members ms found ≡ Some out) × (depths d r ≡ Some e)
  members-depths json.no_members found d k e r room h = (omega arith, found, refl, sym (comes_up d r) ∙ h)
  members-depths (json.member name j ms) found d k e r room h =
      let first = read-depths j (suc d) k e (members_tokens ms ++ r) room
      (ap (depths (suc d)) (sym (append_assoc (json_tokens j) (members_tokens ms) r)) ∙ h) in
      let rest = members-depths ms (put name first.1 found) d k e r room first.3 in (
        omega (arith, first.0, rest.0),
        rest.1,
        ap (option_and_then (λ x. of_members ms (put name x found))) first.2 ∙ rest.2,
        rest.3,
      )

-- ---- whole texts

abbrev last : json.Json × List Token → Option json.Json
last p = json.if_last p.0 p.1

-- a text whose tokens are accepted is the value that its JSON is read as
pub read-accepted : (text : List ℕ) (j : json.Json) → document text ≡ Some j → is_some (depths 0 (tokens text)) ≡ true
    → (x : Data) × (of_json j ≡ Some x) × (read text ≡ Some x)
read-accepted text j is accepted =
    let spelled : tokens text ≡ json_tokens j ++ [] = tokens-document text j is ∙ sym (append-nil (json_tokens j)) in
    let counted = some_of (depths 0 (tokens text)) accepted in
    let parts = read-depths j 0 max_depth counted.0 [] refl (ap (depths 0) (sym spelled) ∙ counted.1) in
    let whole : value max_depth (tokens text) ≡ Some (j, []) =
    ap (value max_depth) spelled ∙ value-json_tokens j max_depth [] parts.0 in
    (parts.1, parts.2, ap (λ o. option_and_then of_json (option_and_then last o)) whole ∙ parts.2)

unread_at : (text : List ℕ) (o : Option (json.Json × List Token)) → value max_depth (tokens text) ≡ o
    → ((i : json.Json) → value max_depth (tokens text) ≡ Some (i, []) → of_json i ≡ None)
    → option_and_then of_json (option_and_then last o) ≡ None
unread_at text None e nothing = refl
unread_at text (Some (i, [])) e nothing = nothing i e
unread_at text (Some (i, t ∷ ts)) e nothing = refl

unread : (text : List ℕ) → ((i : json.Json) → value max_depth (tokens text) ≡ Some (i, []) → of_json i ≡ None)
    → read text ≡ None
unread text nothing = unread_at text (value max_depth (tokens text)) refl nothing

not_some : {A : Type 0} (o : Option A) → ((a : A) → o ≡ Some a → ⊥) → o ≡ None
not_some None never = refl
not_some (Some a) never = absurd (never a refl)

-- a text whose tokens aren't accepted is no value
pub read-refused : (text : List ℕ) (j : json.Json) → document text ≡ Some j → is_some (depths 0 (tokens text)) ≡ false
    → read text ≡ None
read-refused text j is refused =
    unread text (λ i whole. not_some (of_json i) (λ x read_as.
    let spelled : tokens text ≡ json_tokens i ++ [] = value-json_tokens_back max_depth (tokens text) [] i whole in
    let kept : depths 0 (json_tokens i ++ []) ≡ Some 0 =
    depths-read i x 0 max_depth [] refl (value-depth max_depth (tokens text) [] i whole) read_as in
    false≢true (sym refused ∙ ap is_some (ap (depths 0) spelled ∙ kept))))

-- a text that is no JSON is no value
pub read-invalid : (text : List ℕ) → document text ≡ None → read text ≡ None
read-invalid text invalid =
    unread text (λ i whole.
    let spelled : tokens text ≡ json_tokens i ++ [] = value-json_tokens_back max_depth (tokens text) [] i whole in
    let within : depth i ≤ max_depth = value-depth max_depth (tokens text) [] i whole in
    let again : value json.max_depth (tokens text) ≡ Some (i, []) =
    ap (value json.max_depth) spelled ∙ value-json_tokens i json.max_depth [] (omega (arith, within)) in
    not_found i (sym invalid ∙ ap (option_and_then last) again))
