-- Which texts are JSON objects.
use Rattle.std.proofs.Common.{◌≡◌, ◌≤◌, List, ℕ, length, nat_lt, Bool, true, false, Option, Some, None, refl}
use Rattle.std.specs.Option.{is_some, ok_or}
use Rattle.std.specs.Str.{IsUtf8, is_utf8}
use Rattle.std.proofs.lemmas.Bool.{le-ltb}
use Rattle.std.proofs.lemmas.Str.{IsUtf8-from_is_utf8, is_utf8-from_IsUtf8}
use Rattle.serde_json.specs.Data.{Data}
use Rattle.serde_json.specs.Find.{as_object}
use Rattle.serde_json.specs.Read.{read}
use Rattle.farm_wire.specs.Reading.{object_in, object_of}
use Rattle.farm_wire.specs.declared.fault.WireFault.TheVariants.{BadJson}
use Rattle.farm_wire.specs.declared.limits.TheConstants.{MAX_COMMAND_BYTES}

pub object_in-some : (text : List ℕ) (d : Data) → IsUtf8 text → read text ≡ Some d → is_some (as_object d) ≡ true →
    object_in text ≡ Some d
unfolding object_in
object_in-some text d utf8 is object =
    let valid : is_utf8 text ≡ true = is_utf8-from_IsUtf8 text utf8 in
    rw (valid, is, object) refl

object_in-none_at : (text : List ℕ) (valid : Bool) → is_utf8 text ≡ valid → (IsUtf8 text → read text ≡ None) →
    object_in text ≡ None
unfolding object_in
object_in-none_at text true is nothing = let unread : read text ≡ None = nothing (IsUtf8-from_is_utf8 text is) in
    rw (is, unread) refl
object_in-none_at text false is nothing = rw is refl

pub object_in-none : (text : List ℕ) → (IsUtf8 text → read text ≡ None) → object_in text ≡ None
object_in-none text nothing = object_in-none_at text (is_utf8 text) refl nothing

-- a text that isn't too long is the object that it is, if it is one
pub object_of-short : (text : List ℕ) (found : Option Data) → length text ≤ MAX_COMMAND_BYTES → object_in text ≡ found
    → object_of text ≡ ok_or found BadJson
unfolding object_of
object_of-short text found short is =
    let fits : nat_lt MAX_COMMAND_BYTES (length text) ≡ false = le-ltb _ _ short in
    rw (fits, is) refl
