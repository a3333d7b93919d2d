use Rattle.std.proofs.Common.{◌≡◌, ℕ, ◌+◌, ◌-◌, ◌*◌, ◌<◌, ◌≤◌, length, get_or, sym, ap, ◌∙◌, arith, zero-mul, ⊎_elim}
use Rattle.std.proofs.lemmas.Bool.{cases_lt}
use Rattle.weight_exact.specs.Weights.{sum_to}
use Rattle.weight_exact.specs.Cumulative.{reweighed}
use Rattle.weight_exact.proofs.Reweighed.{sum_to-reweighed_within, sum_to-reweighed_above, spread-le}
use Rattle.weight_exact.proofs.sums.reweigh.Goals as goal

pub spread-requires-clause-room : goal.spread-requires-clause-room
spread-requires-clause-room c k low high =
    let xs = c.args.sums.now in
    let below : ℕ = get_or xs (c.args.position - 1) 0 in
    let long : length c.scale.new.numbers ≡ length xs = omega arith in
    let here : get_or c.scale.new.numbers k 0 ≡ get_or xs k 0 = c.scale.ensures.after k low in
    let most : get_or xs k 0 ≤ get_or xs (length xs - 1) 0 = c.requires.rising k (length xs - 1) (omega arith)
    (omega arith) in
    let base : below * c.from.result ≡ below * c.args.inside = ap (λ n. below * n) c.from.ensures in
    rw here (omega (
      arith,
      c.requires.room,
      spread-le below (below * c.args.inside) c.args.outside (get_or xs k 0)
          (get_or xs (length xs - 1) 0) most,
    ))

pub returns : goal.returns
returns c w are i low high =
    let xs = c.args.sums.now in
    let p = c.args.position in
    let a = c.args.inside in
    let b = c.args.outside in
    let k : ℕ = i - 1 in
    let long : length c.spread.new.numbers ≡ length xs = omega arith in
    let was : get_or xs k 0 ≡ sum_to w i = are i low (omega arith) in
    ⊎_elim
    (λ (within : i < p + 1).
    let same : get_or c.spread.new.numbers k 0 ≡ get_or c.scale.new.numbers k 0 = c.spread.ensures.before k
    (omega arith) in
    let upto : sum_to (reweighed w p a b) i ≡ sum_to w i * a = sum_to-reweighed_within w p a b i (omega arith) in
    ⊎_elim
    (λ (under : k < c.args.floor).
    let none : get_or xs k 0 ≡ 0 = c.requires.none i low (omega arith) in
    let nothing : sum_to w i * a ≡ 0 = ap (λ n. n * a) (sym was ∙ none) ∙ zero-mul a in
    omega (arith, c.scale.ensures.before k under))
    (λ (above : c.args.floor ≤ k).
    same ∙ (c.scale.ensures.within k above (omega arith) ∙ (ap (λ n. n * a) was ∙ sym upto)))
    (cases_lt k c.args.floor))
    (λ (above : p + 1 ≤ i).
    let below : get_or xs (p - 1) 0 ≡ sum_to w p = are p (omega arith) (omega arith) in
    let here : get_or c.scale.new.numbers k 0 ≡ sum_to w i = c.scale.ensures.after k (omega arith) ∙ was in
    let base : get_or xs (p - 1) 0 * c.from.result ≡ sum_to w p * a = ap (λ n. n * c.from.result) below
    ∙ ap (λ n. sum_to w p * n) c.from.ensures in
    let more : (get_or c.scale.new.numbers k 0 - get_or xs (p - 1) 0) * b ≡ (sum_to w i - sum_to w p) * b =
    ap (λ n. (n - get_or xs (p - 1) 0) * b) here ∙ ap (λ n. (sum_to w i - n) * b) below in
    omega (arith, c.spread.ensures.above k (omega arith) (omega arith), sum_to-reweighed_above w p a b i (omega arith)))
    (cases_lt i (p + 1))
