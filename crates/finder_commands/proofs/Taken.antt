-- Bytes that were taken in two pieces.
use Rattle.std.proofs.Common.{◌≡◌, ℕ, List, [], ◌++◌, ◌+◌, ◌≤◌, length, drop, Option, Some, None, refl, sym, ap, append_assoc, append-nil, ◌∙◌, subst, arith}
use Rattle.std.proofs.lemmas.List.{length-append, drop_at}
use Rattle.std.specs.Option.{ForSome}
use Rattle.std.specs.Io.KnownBytes.{prepend_known}
use Rattle.link_io.proofs.Told.{prepend_known-some}

-- what was left before a first piece and then a second was both, one after the other
pub prepend_known-append : (first second : List ℕ) (left : Option (List ℕ))
    → prepend_known first (prepend_known second left) ≡ prepend_known (first ++ second) left
prepend_known-append first second None = refl
prepend_known-append first second (Some rest) =
    ap (λ (bytes : List ℕ). Some bytes) (sym (append_assoc first second rest))

pub ruleset taken_bytes = (prepend_known-append)

-- what was read to its end is all that there was
pub read_whole : (all bytes : List ℕ) (before after : Option (List ℕ)) → before ≡ Some all
    → before ≡ prepend_known bytes after → ForSome after (λ rest. rest ≡ []) → (after ≡ Some []) × (all ≡ bytes)
read_whole all bytes before after told taken ended =
    let parts = prepend_known-some all bytes after (sym told ∙ taken) in
    let E : Option (List ℕ) → Type 0 = λ o. ForSome o (λ rest. rest ≡ []) in
    let at_end : ForSome (Some parts.0) (λ rest. rest ≡ []) = subst E parts.1 ended in
    let none : parts.0 ≡ [] = at_end parts.0 refl in
    (parts.1 ∙ ap (λ (l : List ℕ). Some l) none, parts.2 ∙ (ap (λ (l : List ℕ). bytes ++ l) none ∙ append-nil bytes))

-- what is left after n bytes were taken is all but the first n
pub read_front : (all bytes : List ℕ) (n : ℕ) (before after : Option (List ℕ)) → before ≡ Some all
    → before ≡ prepend_known bytes after → length bytes ≡ n → (n ≤ length all) × (after ≡ Some (drop n all))
read_front all bytes n before after told taken long =
    let parts = prepend_known-some all bytes after (sym told ∙ taken) in
    let size : length all ≡ length bytes + length parts.0 = ap length parts.2 ∙ length-append bytes parts.0 in
    let rest : parts.0 ≡ drop n all = sym (ap (drop n) parts.2 ∙ drop_at bytes parts.0 n long) in
    (omega (arith, size), parts.1 ∙ ap (λ (l : List ℕ). Some l) rest)
