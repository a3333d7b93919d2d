-- Texts without regard to case.
use Rattle.std.proofs.Common.{ℕ, ◌≡◌, ◌↔◌, Bool, IsTrue, List, map}
use Rattle.std.specs.Char.{to_ascii_lowercase}
use Rattle.std.proofs.lemmas.Bool.Decides.{same_from_decides}
use Rattle.std.proofs.lemmas.Slice.Eq.{bytes_eq-Decides}
use Rattle.http_requests.specs.Texts.{same_text}

-- what tells that two texts are the same but for case is `same_text`
pub same_text-from_iff : (a b : List ℕ) (r : Bool) → (IsTrue r ↔ (map to_ascii_lowercase a ≡ map to_ascii_lowercase b)) → r ≡ same_text a b
unfolding same_text
same_text-from_iff a b r tells =
    same_from_decides r _ (tells.0, tells.1) (bytes_eq-Decides (map to_ascii_lowercase a) (map to_ascii_lowercase b))
