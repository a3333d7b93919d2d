-- An answer by fewer parts is the same.
use Rattle.std.proofs.Common.{ℕ, ◌≡◌, List, [], ◌++◌, append_assoc}
use Rattle.httparse.specs.Ascii.{crlf_bytes}
use Rattle.http_answers.specs.Lines.{content_type, length_name}
use Rattle.http_answers.specs.Pieces.{by_parts, ending_of, opening_of, parts_joined}

regroup : (s c n z e a o b : List ℕ)
    → (s ++ (c ++ n)) ++ (z ++ ((e ++ (a ++ (o ++ e))) ++ (b ++ [])))
    ≡ s ++ (c ++ (n ++ (z ++ (e ++ (a ++ (o ++ (e ++ (b ++ []))))))))
regroup s c n z e a o b = simp append_assoc

pub by_parts-joined : (status size allow close body : List ℕ)
    → by_parts (opening_of status) size (ending_of allow close) body ≡ parts_joined status size allow close body
unfolding by_parts parts_joined
by_parts-joined status size allow close body = regroup status content_type length_name size crlf_bytes allow close body
