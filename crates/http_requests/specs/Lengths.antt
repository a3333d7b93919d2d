-- What the fields of a head state of the length of the body behind it (RFC 9110, section 8.6, and RFC 9112, section
-- 6.2).
use Rattle.std.specs.Prelude.{ℕ, not, List, [], ◌∷◌, codes, nat_lt, if◌then◌else◌, ◌≤◌, ⊤}
use Rattle.std.specs.Str.Parse.{digits_value}
use Rattle.common_types.specs.Decimals.{are_digits}
use Rattle.http_words.specs.declared.limits.TheConstants.{MAX_BODY_BYTES}
use Rattle.http_requests.specs.FieldTexts.{FieldText, named_values}
use Rattle.http_requests.specs.declared.lengths.StatedLength.{StatedLength}
use Rattle.http_requests.specs.declared.lengths.StatedLength.TheVariants.{Absent, Bytes, TooLong, Malformed}

-- the length that one value states: one or more digits, zeros in front among them, of a number within the limit
abbrev pub length_in : List ℕ → StatedLength
length_in value =
    if not (are_digits value) then Malformed
    else if nat_lt MAX_BODY_BYTES (digits_value 10 value) then TooLong
    else Bytes (digits_value 10 value)

-- the length that these values state, of which there has to be one
abbrev pub length_by : List (List ℕ) → StatedLength
length_by [] = Absent
length_by (value ∷ []) = length_in value
length_by (value ∷ second ∷ values) = Malformed

-- the length that the fields of a head state
unfoldable pub stated_length : List FieldText → StatedLength
stated_length fields = length_by (named_values (codes "content-length") fields)

-- a length that is stated is within the limit
abbrev pub StatesWithin : StatedLength → Type 0
StatesWithin Absent = ⊤
StatesWithin (Bytes len) = len ≤ MAX_BODY_BYTES
StatesWithin TooLong = ⊤
StatesWithin Malformed = ⊤
