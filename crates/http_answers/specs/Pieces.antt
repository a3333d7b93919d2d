-- Texts one after the other.
use Rattle.std.specs.Prelude.{ℕ, List, [], ◌∷◌, ◌++◌}
use Rattle.std.specs.List.{flat_map}
use Rattle.std.specs.Borrow.{Bor}
use Rattle.httparse.specs.Ascii.{crlf_bytes}
use Rattle.http_answers.specs.Lines.{content_type, length_name}

-- the texts, joined in their order
abbrev pub joined : List (Bor (List ℕ)) → List ℕ
joined pieces = flat_map (λ piece. piece.now) pieces

-- an answer by its parts: the lines in their order, an empty line, and the body
unfoldable pub parts_joined : List ℕ → List ℕ → List ℕ → List ℕ → List ℕ → List ℕ
parts_joined status size allow close body =
    flat_map (λ part. part) (status ∷ content_type ∷ length_name ∷ size ∷ crlf_bytes ∷ allow ∷ close ∷ crlf_bytes ∷ body ∷ [])

-- what stands behind the digits of the body's length, up to the body
abbrev pub ending_of : (allow close : List ℕ) → List ℕ
ending_of allow close = crlf_bytes ++ (allow ++ (close ++ crlf_bytes))

-- what stands before those digits, with the status line
abbrev pub opening_of : List ℕ → List ℕ
opening_of status = status ++ (content_type ++ length_name)

-- the same answer by fewer parts
unfoldable pub by_parts : List ℕ → List ℕ → List ℕ → List ℕ → List ℕ
by_parts opening size ending body = flat_map (λ part. part) (opening ∷ size ∷ ending ∷ body ∷ [])
