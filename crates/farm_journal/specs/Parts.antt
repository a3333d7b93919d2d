-- Parts of some bytes, one behind the other, by their ends.
use Rattle.std.specs.Prelude.{ℕ, zero, suc, ◌≡◌, ◌≤◌, ◌-◌, List, [], ◌∷◌, take, drop, get_or}

-- the parts of which these are the ends, the first of which begins at an offset
abbrev pub parts : ℕ → List ℕ → List ℕ → List (List ℕ)
parts start [] bytes = []
parts start (end ∷ ends) bytes = take (end - start) (drop start bytes) ∷ parts end ends bytes

-- no end lies before the one before it, and the last one is that of all bytes
abbrev pub AreEnds : ℕ → List ℕ → ℕ → Type 0
AreEnds start [] size = start ≡ size
AreEnds start (end ∷ ends) size = (start ≤ end) × AreEnds end ends size

-- where a part begins
abbrev pub start_of : ℕ → List ℕ → ℕ → ℕ
start_of start ends zero = start
start_of start ends (suc i) = get_or ends i 0
