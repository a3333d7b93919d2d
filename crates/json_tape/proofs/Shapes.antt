-- A value as serde_json reads it, beside the JSON that it is read from.
use Rattle.std.proofs.Common.{◌≡◌, ℕ, List, Bool, true, false, cond, Option, Some, None, is_some, option_and_then, option_map, refl, sym, ap, ◌∙◌, subst}
use Rattle.std.proofs.lemmas.Bool.{false≢true}
use Rattle.std.proofs.lemmas.Slice.Eq.{bytes_eq-Decides}
use Rattle.std.specs.Str.{bytes_eq}
use Rattle.json.specs.Json as json
use Rattle.json.specs.Find as find
use Rattle.json.proofs.Found.{not_found, Some_inj}
use Rattle.serde_json.specs.Data.{Data, number, array, object, Items, item, Members, no_members, put}
use Rattle.serde_json.specs.Find.{as_array, as_number, as_object, as_str, get, get_member}
use Rattle.serde_json.specs.Read.{number_of, of_items, of_json, of_members}
use Rattle.serde_json.proofs.Views.{get_member-put, get_member-put_other}
use Rattle.json_tape.proofs.Choices.{and_then_some, mapped_some}

-- what a look-up gives, beside what the one in the JSON gives, or what was there earlier
abbrev pub FoundIn : Option json.Json → Option Data → Option Data → Type 0
FoundIn None earlier found = found ≡ earlier
FoundIn (Some j) earlier found = (d : Data) × (of_json j ≡ Some d) × (found ≡ Some d)

one_more : (name k : List ℕ) (j : json.Json) (d : Data) (found out : Members) (later : Option json.Json) (same : Bool)
    → of_json j ≡ Some d → bytes_eq k name ≡ same
    → FoundIn later (get_member name (put k d found)) (get_member name out)
    → FoundIn (find.later_or later (cond same (Some j) None)) (get_member name found) (get_member name out)
one_more name k j d found out (Some i) same is e h = h
one_more name k j d found out None true is e h =
    let named : k ≡ name = (bytes_eq-Decides k name).0 e in
    (d, is, h ∙ ap (λ n. get_member n (put k d found)) (sym named) ∙ get_member-put k d found)
one_more name k j d found out None false is e h =
    h ∙ get_member-put_other name k d found (λ named. false≢true (sym e ∙ (bytes_eq-Decides k name).1 (sym named)))

-- the members that are put one by one hold the last of a name
pub get_member-of_members : (name : List ℕ) (ms : json.Members) (found out : Members) → of_members ms found ≡ Some out
    → FoundIn (find.get_member name ms) (get_member name found) (get_member name out)
get_member-of_members name json.no_members found out e = ap (get_member name) (sym (Some_inj _ _ e))
get_member-of_members name (json.member k j ms) found out e =
    let first = and_then_some (λ d. of_members ms (put k d found)) (of_json j) out e in
    one_more name k j first.0 found out (find.get_member name ms) (bytes_eq k name) first.1 refl
    (get_member-of_members name ms (put k first.0 found) out first.2)

-- a look-up in a value finds what the one in its JSON finds
pub get-of_json : (name : List ℕ) (j : json.Json) (d : Data) → of_json j ≡ Some d
    → FoundIn (find.get name j) None (get name d)
get-of_json name json.null d e = ap (get name) (sym (Some_inj _ _ e))
get-of_json name (json.boolean b) d e = ap (get name) (sym (Some_inj _ _ e))
get-of_json name (json.number s) d e = ap (get name) (mapped_some number (number_of s) d e).2
get-of_json name (json.string s) d e = ap (get name) (sym (Some_inj _ _ e))
get-of_json name (json.array js) d e = ap (get name) (mapped_some array (of_items js) d e).2
get-of_json name (json.object ms) d e =
    let made = mapped_some object (of_members ms no_members) d e in
    subst (λ x. FoundIn (find.get_member name ms) None (get name x)) (sym made.2)
    (get_member-of_members name ms no_members made.0 made.1)

pub as_str-of_json : (j : json.Json) (d : Data) → of_json j ≡ Some d → find.as_str j ≡ as_str d
as_str-of_json json.null d e = ap as_str (Some_inj _ _ e)
as_str-of_json (json.boolean b) d e = ap as_str (Some_inj _ _ e)
as_str-of_json (json.number s) d e = ap as_str (sym (mapped_some number (number_of s) d e).2)
as_str-of_json (json.string s) d e = ap as_str (Some_inj _ _ e)
as_str-of_json (json.array js) d e = ap as_str (sym (mapped_some array (of_items js) d e).2)
as_str-of_json (json.object ms) d e = ap as_str (sym (mapped_some object (of_members ms no_members) d e).2)

pub as_number-of_json : (j : json.Json) (d : Data) → of_json j ≡ Some d
    → option_and_then number_of (find.as_number j) ≡ as_number d
as_number-of_json json.null d e = ap as_number (Some_inj _ _ e)
as_number-of_json (json.boolean b) d e = ap as_number (Some_inj _ _ e)
as_number-of_json (json.number s) d e =
    let made = mapped_some number (number_of s) d e in
    made.1 ∙ ap as_number (sym made.2)
as_number-of_json (json.string s) d e = ap as_number (Some_inj _ _ e)
as_number-of_json (json.array js) d e = ap as_number (sym (mapped_some array (of_items js) d e).2)
as_number-of_json (json.object ms) d e = ap as_number (sym (mapped_some object (of_members ms no_members) d e).2)

pub as_array-of_json : (j : json.Json) (d : Data) → of_json j ≡ Some d
    → option_and_then of_items (find.as_array j) ≡ as_array d
as_array-of_json json.null d e = ap as_array (Some_inj _ _ e)
as_array-of_json (json.boolean b) d e = ap as_array (Some_inj _ _ e)
as_array-of_json (json.number s) d e = ap as_array (sym (mapped_some number (number_of s) d e).2)
as_array-of_json (json.string s) d e = ap as_array (Some_inj _ _ e)
as_array-of_json (json.array js) d e =
    let made = mapped_some array (of_items js) d e in
    made.1 ∙ ap as_array (sym made.2)
as_array-of_json (json.object ms) d e = ap as_array (sym (mapped_some object (of_members ms no_members) d e).2)

pub as_object-of_json : (j : json.Json) (d : Data) → of_json j ≡ Some d
    → is_some (find.as_object j) ≡ is_some (as_object d)
as_object-of_json json.null d e = ap (λ x. is_some (as_object x)) (Some_inj _ _ e)
as_object-of_json (json.boolean b) d e = ap (λ x. is_some (as_object x)) (Some_inj _ _ e)
as_object-of_json (json.number s) d e =
    ap (λ x. is_some (as_object x)) (sym (mapped_some number (number_of s) d e).2)
as_object-of_json (json.string s) d e = ap (λ x. is_some (as_object x)) (Some_inj _ _ e)
as_object-of_json (json.array js) d e = ap (λ x. is_some (as_object x)) (sym (mapped_some array (of_items js) d e).2)
as_object-of_json (json.object ms) d e =
    ap (λ x. is_some (as_object x)) (sym (mapped_some object (of_members ms no_members) d e).2)

pub array-from_as_array : (j : json.Json) (js : json.Items) → find.as_array j ≡ Some js → j ≡ json.array js
array-from_as_array json.null js e = not_found js e
array-from_as_array (json.boolean b) js e = not_found js e
array-from_as_array (json.number s) js e = not_found js e
array-from_as_array (json.string s) js e = not_found js e
array-from_as_array (json.array is) js e = ap json.array (Some_inj _ _ e)
array-from_as_array (json.object ms) js e = not_found js e

-- the first item, and those after it
pub of_items-item : (j : json.Json) (js : json.Items) (ds : Items) → of_items (json.item j js) ≡ Some ds
    → (d : Data) × (more : Items) × (of_json j ≡ Some d) × (of_items js ≡ Some more) × (ds ≡ item d more)
of_items-item j js ds e =
    let first = and_then_some (λ d. option_map (item d) (of_items js)) (of_json j) ds e in
    let rest = mapped_some (item first.0) (of_items js) ds first.2 in
    (first.0, rest.0, first.1, rest.1, rest.2)
