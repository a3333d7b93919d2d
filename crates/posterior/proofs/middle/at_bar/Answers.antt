use Rattle.std.proofs.Common.{◌≡◌, ℕ, ◌-◌, ◌/◌, length, if◌then◌else◌, Some, None, ap, sym, ◌∙◌, arith}
use Rattle.flake_rate.proofs.Values.{bar-in_limits}
use Rattle.weight_exact.specs.Weights.{sum_to}
use Rattle.weight_exact.specs.Share.{last_to, is_at_bar}
use Rattle.weight_exact.proofs.SumTo.{sum_to_last}
use Rattle.posterior.specs.Kept.{at}
use Rattle.posterior.specs.Middle.{last_of}
use Rattle.posterior.proofs.Halving.{middle-reaches}
use Rattle.posterior.proofs.middle.at_bar.Goals as goal

pub returns-clause-bar : goal.returns-clause-bar
returns-clause-bar g c w are =
    let i = c.loop-span.invariant in
    let m = c.requires.middle in
    let span = c.loop-span.span in
    let n : ℕ = length c.args.sums.now in
    let t = c.args.bar.t in
    let u = c.args.bar.u in
    let bar = bar-in_limits c.args.bar in
    let ends = i.sums w are in
    let low = ends.0 in
    let high = ends.1 in
    let total : last_of c.args.sums.now ≡ sum_to w n = are n (omega arith) (omega arith) in
    let end : c.from.result ≡ n = omega arith in
    let whole : c.at-whole.result ≡ sum_to w n = c.at-whole.ensures.value ∙ (ap (λ (k : ℕ). at c.args.sums.now k) end ∙ total) in
    let middle : c.at-whole.result / 2 ≡ sum_to w n / 2 = ap (λ (k : ℕ). k / 2) whole in
    let next : span.high - 1 ≡ span.low = omega arith in
    let down : sum_to w (span.high - 1) ≡ span.before = ap (sum_to w) next ∙ sym low in
    let here : span.upto - span.before ≡ w span.high = omega (arith, sum_to_last w span.high (omega arith)) in
    let reaches : (if is_at_bar t u (sum_to w n) (w span.high) then Some span.high else None) ≡ last_to (λ i. is_at_bar t u (sum_to w n) (w i)) n = middle-reaches w t u n span.high (omega arith) (omega (arith, m.some)) (omega arith) i.last (omega (arith, i.down)) (omega (arith, i.up)) in
    let found : (if is_at_bar t u c.at-whole.result (span.upto - span.before) then Some span.high else None) ≡ (if is_at_bar t u (sum_to w n) (w span.high) then Some span.high else None) =
    rw (whole, here) in
    c.at_bar.ensures ∙ (found ∙ (reaches ∙ ap (λ (x : ℕ). last_to (λ i. is_at_bar t u x (w i)) n) (sym total)))
