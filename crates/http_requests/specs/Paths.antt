-- The path of a request's target (RFC 9112, section 3.2), where nothing is percent-decoded.
use Rattle.std.specs.Prelude.{ℕ, List, [], ◌∷◌, codes, take, drop, if◌then◌else◌, ◌==◌}
use Rattle.std.specs.List.{slice_split, slice_index_or}
use Rattle.http_requests.specs.Texts.{same_text}

-- the byte `/`
abbrev pub slash : ℕ
slash = 47

-- the byte `?`
abbrev pub question_mark : ℕ
question_mark = 63

-- how many bytes `http://` has
abbrev pub scheme_bytes : ℕ
scheme_bytes = 7

-- what begins at the first slash, or a slash where there is none
abbrev pub from_slash : List ℕ → List ℕ
from_slash [] = slash ∷ []
from_slash (b ∷ rest) = if b == slash then b ∷ rest else from_slash rest

-- what stands before the first question mark
abbrev pub before_question : List ℕ → List ℕ
before_question text = slice_index_or (slice_split (λ b. b == question_mark) text) 0 []

-- Of a target that begins with `http://`, in any case of letters, the path begins at the first slash behind that. What
-- follows a question mark isn't part of it.
unfoldable pub path_of : List ℕ → List ℕ
path_of target =
    before_question (if same_text (take scheme_bytes target) (codes "http://") then from_slash (drop scheme_bytes target) else target)
