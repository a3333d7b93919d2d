-- What the fields of a head say (RFC 9110, sections 5, 7.6.1, 8.6 and 10.1.1), as the list of their names and values.
use Rattle.std.specs.Prelude.{ℕ, Bool, ◌==◌, List, map, codes, filter}
use Rattle.std.specs.List.{list_any, slice_split}
use Rattle.httparse.specs.Ascii.{comma}
use Rattle.httparse.specs.Grammar.{trim_ows}
use Rattle.httparse.specs.Spans.{header_bytes}
use Rattle.http_requests.specs.Texts.{same_text}
use Rattle.http_requests.specs.declared.fields.Fields.{Fields}

-- a name, and a value without the spaces and tabs around it
abbrev pub FieldText : Type 0
FieldText = List ℕ × List ℕ

-- the fields that spans cover
abbrev pub field_texts : Fields → List FieldText
field_texts fields = map (header_bytes fields.bytes.now) fields.spans.now

-- the field has this name, in any case of letters
abbrev pub is_named : List ℕ → FieldText → Bool
is_named name field = same_text field.0 name

-- the values of the fields with this name, in order
abbrev pub named_values : List ℕ → List FieldText → List (List ℕ)
named_values name fields = map (λ field. field.1) (filter (is_named name) fields)

-- `close` stands between the commas of a value, in any case of letters and with spaces and tabs around it
abbrev pub lists_close : List ℕ → Bool
lists_close value = list_any (λ option. same_text (trim_ows option) (codes "close")) (slice_split (λ b. b == comma) value)

-- a Connection field lists `close`
unfoldable pub has_close : List FieldText → Bool
has_close fields = list_any lists_close (named_values (codes "connection") fields)

-- an Expect field is `100-continue`, in any case of letters
unfoldable pub expects_continue : List FieldText → Bool
expects_continue fields = list_any (λ value. same_text value (codes "100-continue")) (named_values (codes "expect") fields)
