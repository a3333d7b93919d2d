-- What is left of a text that is cut part by part.
use Rattle.std.proofs.Common.{ℕ, ◌+◌, Bool, false, List, length, Option, Some, None}
use Rattle.std.specs.Borrow.{Bor}
use Rattle.http_requests.specs.FieldTexts.{lists_close}

-- `close` stands among the parts that are left
abbrev pub closes_in : Option (Bor (List ℕ)) → Bool
closes_in None = false
closes_in (Some text) = lists_close text.now

-- a measure of what is left
abbrev pub bytes_left : Option (Bor (List ℕ)) → ℕ
bytes_left None = 0
bytes_left (Some text) = length text.now + 1
