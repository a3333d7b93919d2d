-- The lines of answers that are always the same.
use Rattle.std.specs.Prelude.{ℕ, List, ◌++◌, codes}
use Rattle.httparse.specs.Ascii.{crlf_bytes}

-- a text and its line end
abbrev pub line : List ℕ → List ℕ
line text = text ++ crlf_bytes

-- what kind of content a body is
unfoldable pub content_type : List ℕ
content_type = line (codes "Content-Type: application/json")

-- the length of a body, which is stated whether it is put or not
unfoldable pub length_name : List ℕ
length_name = codes "Content-Length: "
