-- Parts of some bytes: one more of them, and where each stands.
use Rattle.std.proofs.Common.{◌≡◌, ℕ, zero, suc, ◌+◌, ◌-◌, ◌≤◌, ◌<◌, List, [], ◌∷◌, ◌++◌, length, get_or, take, drop, refl, ◌∙◌, ap, arith}
use Rattle.std.specs.Prelude.{slice_get, Some}
use Rattle.std.proofs.lemmas.List.{length-append, take_all}
use Rattle.farm_journal.specs.Parts.{AreEnds, parts, start_of}

-- the first end of all is that of the bytes at most
pub ends-within : (start : ℕ) (ends : List ℕ) (size : ℕ) → AreEnds start ends size → start ≤ size
ends-within start [] size are = omega (arith, are)
ends-within start (end ∷ ends) size are = omega (arith, are.0, ends-within end ends size are.1)

-- one end more
pub ends-push : (start : ℕ) (ends : List ℕ) (size more : ℕ) → AreEnds start ends size → size ≤ more
    → AreEnds start (ends ++ more ∷ []) more
ends-push start [] size more are longer = (omega (arith, are, longer), refl)
ends-push start (end ∷ ends) size more are longer = (are.0, ends-push end ends size more are.1 longer)

-- the front of what stands behind an offset is the same where bytes come behind it
front-stays : (start n : ℕ) (bytes more : List ℕ) → start + n ≤ length bytes
    → take n (drop start (bytes ++ more)) ≡ take n (drop start bytes)
front-stays zero zero bytes more within = refl
front-stays zero (suc n) [] more within = absurd (omega (arith, within))
front-stays zero (suc n) (b ∷ bytes) more within =
    ap (λ (l : List ℕ). b ∷ l) (front-stays zero n bytes more (omega (arith, within)))
front-stays (suc start) n [] more within = absurd (omega (arith, within))
front-stays (suc start) n (b ∷ bytes) more within = front-stays start n bytes more (omega (arith, within))

behind-all : (bytes more : List ℕ) → drop (length bytes) (bytes ++ more) ≡ more
behind-all [] more = refl
behind-all (b ∷ bytes) more = behind-all bytes more

-- one part more
pub parts-push : (start : ℕ) (ends bytes more : List ℕ) → AreEnds start ends (length bytes)
    → parts start (ends ++ length (bytes ++ more) ∷ []) (bytes ++ more) ≡ parts start ends bytes ++ more ∷ []
parts-push start [] bytes more are =
    let n : length (bytes ++ more) - start ≡ length more = omega (arith, are, length-append bytes more) in
    ap (λ (l : List ℕ). l ∷ [])
    (ap (λ (k : ℕ). take (length (bytes ++ more) - start) (drop k (bytes ++ more))) are
    ∙ ap (λ (l : List ℕ). take (length (bytes ++ more) - start) l) (behind-all bytes more)
    ∙ take_all (length (bytes ++ more) - start) more (omega (arith, n)))
parts-push start (end ∷ ends) bytes more are =
    let within = ends-within end ends (length bytes) are.1 in
    ap (λ (l : List ℕ). l ∷ parts end (ends ++ length (bytes ++ more) ∷ []) (bytes ++ more))
    (front-stays start (end - start) bytes more (omega (arith, within, are.0)))
    ∙ ap (λ (l : List (List ℕ)). take (end - start) (drop start bytes) ∷ l) (parts-push end ends bytes more are.1)

pub parts-length : (start : ℕ) (ends bytes : List ℕ) → length (parts start ends bytes) ≡ length ends
parts-length start [] bytes = refl
parts-length start (end ∷ ends) bytes = ap suc (parts-length end ends bytes)

pub part-within : (start : ℕ) (ends : List ℕ) (size i : ℕ) → AreEnds start ends size → i < length ends
    → (start_of start ends i ≤ get_or ends i 0) × (get_or ends i 0 ≤ size)
part-within start [] size i are within = absurd (omega (arith, within))
part-within start (end ∷ ends) size zero are within = (are.0, ends-within end ends size are.1)
part-within start (end ∷ ends) size (suc zero) are within =
    part-within end ends size zero are.1 (omega (arith, within))
part-within start (end ∷ ends) size (suc (suc i)) are within =
    part-within end ends size (suc i) are.1 (omega (arith, within))

-- within a list it makes no difference what stands for an item that isn't there
pub any-other : {A : Type 0} (xs : List A) (i : ℕ) (one other : A) → i < length xs → get_or xs i one ≡ get_or xs i other
any-other [] i one other within = absurd (omega (arith, within))
any-other (x ∷ xs) zero one other within = refl
any-other (x ∷ xs) (suc i) one other within = any-other xs i one other (omega (arith, within))

pub part-at : (start : ℕ) (ends bytes : List ℕ) (i : ℕ) → i < length ends
    → slice_get (parts start ends bytes) i
    ≡ Some (take (get_or ends i 0 - start_of start ends i) (drop (start_of start ends i) bytes))
part-at start [] bytes i within = absurd (omega (arith, within))
part-at start (end ∷ ends) bytes zero within = refl
part-at start (end ∷ ends) bytes (suc zero) within = part-at end ends bytes zero (omega (arith, within))
part-at start (end ∷ ends) bytes (suc (suc i)) within = part-at end ends bytes (suc i) (omega (arith, within))

-- the same by the parts of all bytes
pub part-bounds : (ends : List ℕ) (size i start end : ℕ) {n : ℕ} → AreEnds 0 ends size → n ≡ length ends → i < n
    → start ≡ start_of 0 ends i → end ≡ get_or ends i end → (start ≤ end) × (end ≤ size)
part-bounds ends size i start end {n} are count within start_is end_is =
    let few : i < length ends = omega (arith, count, within) in
    let own = part-within 0 ends size i are few in
    let there : end ≡ get_or ends i 0 = end_is ∙ any-other ends i end 0 few in
    omega (arith, own.0, own.1, start_is, there)
