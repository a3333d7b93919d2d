use Rattle.std.proofs.Common.{◌≡◌, ℕ, ◌+◌, ◌-◌, ◌<◌, ◌≤◌, Bool, true, false, IsTrue, EachIndex, List, get_or, length, take, drop, refl, sym, ap, ◌∙◌, arith, ⊎_elim}
use Rattle.std.specs.Bool.{OnTrue}
use Rattle.std.proofs.lemmas.Bool.{cases_lt}
use Rattle.std.proofs.lemmas.List.{get_or-take, get_or-drop, length-take, length-drop}
use Rattle.posterior.specs.Kept.{at}
use Rattle.posterior.specs.Counted.{AreCleared}
use Rattle.posterior.proofs.tallies.Tallies.has_no_fail_to.Goals as goal

-- a part of counts that is all zeros, above a floor to which they are cleared
cleared_to : (xs : List ℕ) (floor end : ℕ) → floor ≤ end → end ≤ length xs → AreCleared floor xs
    → EachIndex (take (end - floor) (drop floor xs)) (λ k. get_or (take (end - floor) (drop floor xs)) k 0 ≡ 0) → AreCleared end xs
cleared_to xs floor end order high cleared zeros p low upto =
    ⊎_elim
    (λ (above : floor < p).
    let k : ℕ = p - 1 - floor in
    let short : k < end - floor = omega arith in
    let here : get_or (take (end - floor) (drop floor xs)) k 0 ≡ at xs p =
    get_or-take (end - floor) (drop floor xs) k 0 short
    ∙ (get_or-drop floor xs k 0 ∙ (let e : floor + k ≡ p - 1 = omega arith in ap (λ (n : ℕ). get_or xs n 0) e)) in
    sym here ∙ zeros k (omega (arith, length-take (end - floor) (drop floor xs), length-drop floor xs)))
    (λ (under : p ≤ floor). cleared p low under)
    (cases_lt floor p)

pub returns : goal.returns
returns c =
    let t = c.args.self.now in
    let xs = t.fails.items in
    let floor : ℕ = t.floor in
    let cases : (b : Bool) → (IsTrue b → AreCleared c.args.position xs) → OnTrue b (AreCleared c.args.position xs) =
    λ b. elim b as (λ b. (IsTrue b → AreCleared c.args.position xs) → OnTrue b (AreCleared c.args.position xs)) [
      | true ↦ (λ h. h refl)
      | false ↦ (λ _. tt)
    ] in
    let ys = c.deref.result.now in
    let same : (p : ℕ) → at ys p ≡ at xs p = λ p. ap (λ (zs : List ℕ). at zs p) c.deref.ensures.value in
    cases c.are_zeros.result (λ holds p low high.
    let cleared : AreCleared c.from.result ys = λ q some under. same q ∙ t.fails_cleared q some (omega arith) in
    sym (same p) ∙ cleared_to ys c.from.result c.from-2.result (omega arith) (omega arith) cleared (c.are_zeros.ensures.0 holds) p low (omega arith))
