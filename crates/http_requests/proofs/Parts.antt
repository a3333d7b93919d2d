-- The parts of a head in hand, and the head that they are of.
use Rattle.std.proofs.Common.{ℕ, ◌≡◌, ◌<◌, ◌≤◌, min, List, length, take, sym, ap, ◌∙◌, arith, ⊎_elim}
use Rattle.std.proofs.lemmas.Bool.{cases_lt}
use Rattle.std.proofs.lemmas.List.{take_all}
use Rattle.httparse.specs.Grammar.{RequestHead}
use Rattle.http_requests.specs.Framing.{is_head_method}
use Rattle.http_requests.specs.Heads.{IsHeadOf}
use Rattle.http_requests.specs.declared.head.Head.{Head}

pub parts-is_head : (parts : Head) (head : RequestHead) → IsHeadOf parts head → is_head_method parts.method.now ≡ is_head_method head.method
parts-is_head parts head is = ap is_head_method is.method

-- the first bytes, of which there may be fewer
pub take-min : (held : List ℕ) (most : ℕ) → take (min (length held) most) held ≡ take most held
take-min held most =
    ⊎_elim
    (λ (short : length held < most).
    take_all (min (length held) most) held (omega arith) ∙ sym (take_all most held (omega arith)))
    (λ (long : most ≤ length held).
    let same : min (length held) most ≡ most = omega arith in
    ap (λ (n : ℕ). take n held) same)
    (cases_lt (length held) most)
