use Rattle.std.proofs.Common.{◌≡◌, ℕ, zero, suc, List, get_or, sum, refl, ◌+◌, ◌-◌, ◌<◌, ◌≤◌, length, sym, ap, ◌∙◌, arith, add-one, ⊎_elim}
use Rattle.std.proofs.lemmas.Bool.{cases_lt}
use Rattle.std.proofs.lemmas.List.{length-set}
use Rattle.weight_exact.specs.Weights.{sum_to}
use Rattle.weight_exact.specs.Share.{last_to, is_at_bar}
use Rattle.weight_exact.specs.Budget.{Fits}
use Rattle.weight_exact.specs.declared.powers.Counts.{Counts}
use Rattle.weight_exact.proofs.SumTo.{member-le-sum_to}
use Rattle.posterior.specs.Kept.{at}
use Rattle.posterior.specs.Counted.{counted_to, counted}
use Rattle.posterior.specs.KeptWeight.{kept_weight}
use Rattle.posterior.specs.Middle.{last_of}
use Rattle.posterior.proofs.Bounds.{product_fits, sum_to-kept_weight_fits, kept_weight_last}
use Rattle.posterior.proofs.Counting.{at-set_other, at-set_same, counted_to-next, get_or-le-rest}
use Rattle.posterior.proofs.Walking.{kept_weight-here, leader-reaches}
use Rattle.posterior.proofs.weigh.weigh.Goals as goal

pub weight_of-weight-requires-clause-fits : goal.weight_of-weight-requires-clause-fits
weight_of-weight-requires-clause-fits g c =
    let i = c.loop-index.invariant in
    product_fits c.args.priors.now c.args.powers.now.factors c.loop-index.index c.loop-index.counts (c.args.tallies.now.failed + c.args.tallies.now.passed) (omega arith)
    (omega (arith, i.fail_in, i.pass_in)) c.requires.walk.fits

-- what the whole would be after one more hypothesis
whole_next : (w : ℕ → ℕ) (index whole weight : ℕ) → whole ≡ sum_to w index → weight ≡ w (index + 1) → whole + weight ≡ sum_to w (index + 1)
whole_next w index whole weight before here =
    let e : w (index + 1) ≡ w (suc index) = ap w (add-one index) in
    rw (add-one index) (omega arith)

pub overflow_add-whole : goal.overflow_add-whole
overflow_add-whole g c =
    let i = c.loop-index.invariant in
    let t = c.args.tallies.now in
    let index = c.loop-index.index in
    let f = c.args.powers.now.factors in
    let w : ℕ → ℕ = kept_weight c.args.priors.now f t.floor t.fails.items t.passes.items in
    let failed : t.failed ≡ counted t.fails.items = t.all_fails in
    let passed : t.passed ≡ counted t.passes.items = t.all_passes in
    let here : c.weight_of-weight.result ≡ w (index + 1) =
    c.weight_of-weight.ensures.value ∙ sym (kept_weight-here c.args.priors.now f t.floor t.fails.items t.passes.items index c.loop-index.counts i.fail_out (i.fail_in ∙ failed) i.pass_out (i.pass_in ∙ passed)) in
    let fits : Fits (sum c.args.priors.now) f (counted t.fails.items + counted t.passes.items) = rw (← failed, ← passed) c.requires.walk.fits in
    let same_length : length t.passes.items ≡ length t.fails.items = omega arith in
    let room = sum_to-kept_weight_fits c.args.priors.now f t.floor t.fails.items t.passes.items (length t.fails.items) (index + 1) refl same_length (omega arith) (omega arith) fits in
    omega (arith, whole_next w index c.loop-index.whole c.weight_of-weight.result i.whole here, room)

pub past-counts-requires-clause-fails : goal.past-counts-requires-clause-fails
past-counts-requires-clause-fails g c =
    let i = c.loop-index.invariant in
    let t = c.args.tallies.now in
    let failed : t.failed ≡ counted t.fails.items = t.all_fails in
    let rest : c.loop-index.counts.fail_in + counted_to t.fails.items c.loop-index.index ≡ counted t.fails.items = omega (arith, i.fail_in, i.fail_out) in
    let now : c.count_in.result ≡ get_or t.fails.items c.loop-index.index 0 = c.count_in.ensures ∙ ap (λ (xs : List ℕ). get_or xs c.loop-index.index 0) c.deref.ensures.value in
    omega (arith, get_or-le-rest t.fails.items c.loop-index.index c.loop-index.counts.fail_in rest)

pub past-counts-requires-clause-passes : goal.past-counts-requires-clause-passes
past-counts-requires-clause-passes g c =
    let i = c.loop-index.invariant in
    let t = c.args.tallies.now in
    let passed : t.passed ≡ counted t.passes.items = t.all_passes in
    let rest : c.loop-index.counts.pass_in + counted_to t.passes.items c.loop-index.index ≡ counted t.passes.items = omega (arith, i.pass_in, i.pass_out) in
    let now : c.count_in-in-loop-index.result ≡ get_or t.passes.items c.loop-index.index 0 = c.count_in-in-loop-index.ensures ∙ ap (λ (xs : List ℕ). get_or xs c.loop-index.index 0) c.deref-in-loop-index.ensures.value in
    omega (arith, get_or-le-rest t.passes.items c.loop-index.index c.loop-index.counts.pass_in rest)

pub past-counts-requires-clause-few : goal.past-counts-requires-clause-few
past-counts-requires-clause-few g c =
    let i = c.loop-index.invariant in
    omega (arith, i.fail_in, i.pass_in, c.requires.walk.small)

pub loop-index-preserved : goal.loop-index-preserved
loop-index-preserved g c =
    let i = c.loop-index.invariant in
    let t = c.args.tallies.now in
    let index = c.loop-index.index in
    let f = c.args.powers.now.factors in
    let w : ℕ → ℕ = kept_weight c.args.priors.now f t.floor t.fails.items t.passes.items in
    let failed : t.failed ≡ counted t.fails.items = t.all_fails in
    let passed : t.passed ≡ counted t.passes.items = t.all_passes in
    let here : c.weight_of-weight.result ≡ w (index + 1) =
    c.weight_of-weight.ensures.value ∙ sym (kept_weight-here c.args.priors.now f t.floor t.fails.items t.passes.items index c.loop-index.counts i.fail_out (i.fail_in ∙ failed) i.pass_out (i.pass_in ∙ passed)) in
    let whole : c.loop-index.whole + c.weight_of-weight.result ≡ sum_to w (index + 1) = whole_next w index c.loop-index.whole c.weight_of-weight.result i.whole here in
    let long : length c.loop-index.sums ≡ length c.args.priors.now = i.size in
    let fails_now : c.count_in.result ≡ get_or t.fails.items index 0 = c.count_in.ensures ∙ ap (λ (xs : List ℕ). get_or xs index 0) c.deref.ensures.value in
    let passes_now : c.count_in-in-loop-index.result ≡ get_or t.passes.items index 0 = c.count_in-in-loop-index.ensures ∙ ap (λ (xs : List ℕ). get_or xs index 0) c.deref-in-loop-index.ensures.value in
    let fi : c.past-counts.result.fail_in ≡ c.loop-index.counts.fail_in - c.count_in.result = ap (λ (x : Counts). x.fail_in) c.past-counts.ensures in
    let fo : c.past-counts.result.fail_out ≡ c.loop-index.counts.fail_out + c.count_in.result = ap (λ (x : Counts). x.fail_out) c.past-counts.ensures in
    let pi : c.past-counts.result.pass_in ≡ c.loop-index.counts.pass_in - c.count_in-in-loop-index.result = ap (λ (x : Counts). x.pass_in) c.past-counts.ensures in
    let po : c.past-counts.result.pass_out ≡ c.loop-index.counts.pass_out + c.count_in-in-loop-index.result = ap (λ (x : Counts). x.pass_out) c.past-counts.ensures in
    let rest : c.loop-index.counts.fail_in + counted_to t.fails.items index ≡ counted t.fails.items = omega (arith, i.fail_in, i.fail_out) in
    let also : c.loop-index.counts.pass_in + counted_to t.passes.items index ≡ counted t.passes.items = omega (arith, i.pass_in, i.pass_out) in
    record {
      size = ap length c.set.ensures.after ∙ (length-set c.loop-index.sums (index + 1 - 1) (c.loop-index.whole + c.weight_of-weight.result) ∙ long);
      sums = λ k low high.
          ⊎_elim
          (λ (before : k < index + 1).
          ap (λ (xs : List ℕ). at xs k) c.set.ensures.after
          ∙ (at-set_other c.loop-index.sums (index + 1) (c.loop-index.whole + c.weight_of-weight.result) k (omega arith) low (λ e. (let h : k ≡ index + 1 = e in omega arith)) ∙ i.sums k low (omega arith)))
          (λ (now : index + 1 ≤ k).
          let e : k ≡ index + 1 = omega arith in
          rw e
          (ap (λ (xs : List ℕ). at xs (index + 1)) c.set.ensures.after
          ∙ (at-set_same c.loop-index.sums (index + 1) (c.loop-index.whole + c.weight_of-weight.result) (omega arith) (omega arith) ∙ whole)))
          (cases_lt k (index + 1));
      whole = whole;
      fail_out = omega (arith, counted_to-next t.fails.items index, i.fail_out);
      fail_in = omega (arith, i.fail_in, get_or-le-rest t.fails.items index c.loop-index.counts.fail_in rest);
      pass_out = omega (arith, counted_to-next t.passes.items index, i.pass_out);
      pass_in = omega (arith, i.pass_in, get_or-le-rest t.passes.items index c.loop-index.counts.pass_in also);
      most = λ k low high.
          ⊎_elim
          (λ (heavier : c.loop-index.heaviest.weight < c.weight_of-weight.result).
          let l = c.or-heaviest.ensures.heavier heavier in
          ⊎_elim
          (λ (before : k < index + 1). omega (arith, i.most k low (omega arith), l.1))
          (λ (now : index + 1 ≤ k). let e : w k ≡ w (index + 1) = ap w (let e : k ≡ index + 1 = omega arith in e) in omega (arith, l.1, here))
          (cases_lt k (index + 1)))
          (λ (lighter : c.weight_of-weight.result ≤ c.loop-index.heaviest.weight).
          let l = c.or-heaviest.ensures.lighter lighter in
          ⊎_elim
          (λ (before : k < index + 1). omega (arith, i.most k low (omega arith), l.1))
          (λ (now : index + 1 ≤ k). let e : w k ≡ w (index + 1) = ap w (let e : k ≡ index + 1 = omega arith in e) in omega (arith, l.1, here))
          (cases_lt k (index + 1)))
          (cases_lt c.loop-index.heaviest.weight c.weight_of-weight.result);
      leads = λ some.
          ⊎_elim
          (λ (heavier : c.loop-index.heaviest.weight < c.weight_of-weight.result).
          let l = c.or-heaviest.ensures.heavier heavier in
          (omega (arith, l.0), omega (arith, l.0), ap w l.0 ∙ (sym here ∙ sym l.1)))
          (λ (lighter : c.weight_of-weight.result ≤ c.loop-index.heaviest.weight).
          let l = c.or-heaviest.ensures.lighter lighter in
          let before = i.leads (omega (arith, l.1)) in
          (omega (arith, l.0, before.0), omega (arith, l.0, before.1), ap w l.0 ∙ (before.2 ∙ sym l.1)))
          (cases_lt c.loop-index.heaviest.weight c.weight_of-weight.result);
      cost = omega (arith, i.cost, c.weight_of-weight.ensures.cost);
      rises = omega (arith, i.rises, c.weight_of-weight.ensures.rises);
    }

-- at the end of the walk the leader weighs no more than the whole
leader_part : (w : ℕ → ℕ) (n h m : ℕ) → (1 ≤ m → (1 ≤ h) × (h ≤ n) × (w h ≡ m)) → m ≤ sum_to w n
leader_part w n h zero leads = omega arith
leader_part w n h (suc m) leads =
    let l = leads (omega arith) in
    omega (arith, member-le-sum_to w n h l.0 l.1, l.2)

pub at_bar-requires-clause-part : goal.at_bar-requires-clause-part
at_bar-requires-clause-part g c =
    let i = c.loop-index.invariant in
    let t = c.args.tallies.now in
    let w : ℕ → ℕ = kept_weight c.args.priors.now c.args.powers.now.factors t.floor t.fails.items t.passes.items in
    omega (arith, i.whole, leader_part w c.loop-index.index c.loop-index.heaviest.hypothesis c.loop-index.heaviest.weight i.leads)

pub at_bar-requires-clause-room : goal.at_bar-requires-clause-room
at_bar-requires-clause-room g c =
    let i = c.loop-index.invariant in
    let t = c.args.tallies.now in
    let f = c.args.powers.now.factors in
    let failed : t.failed ≡ counted t.fails.items = t.all_fails in
    let passed : t.passed ≡ counted t.passes.items = t.all_passes in
    let fits : Fits (sum c.args.priors.now) f (counted t.fails.items + counted t.passes.items) = rw (← failed, ← passed) c.requires.walk.fits in
    let same_length : length t.passes.items ≡ length t.fails.items = omega arith in
    omega (arith, i.whole, sum_to-kept_weight_fits c.args.priors.now f t.floor t.fails.items t.passes.items (length t.fails.items) c.loop-index.index refl same_length (omega arith) (omega arith) fits)

pub returns-clause-reached : goal.returns-clause-reached
returns-clause-reached g c =
    let i = c.loop-index.invariant in
    let t = c.args.tallies.now in
    let f = c.args.powers.now.factors in
    let n : ℕ = length t.fails.items in
    let w : ℕ → ℕ = kept_weight c.args.priors.now f t.floor t.fails.items t.passes.items in
    let bar = c.args.bar.in_limits in
    let walk = c.requires.walk in
    let size : length c.args.priors.now ≡ n + 1 = omega arith in
    let end : c.loop-index.index ≡ length c.args.priors.now = omega arith in
    let whole : c.loop-index.whole ≡ sum_to w (length c.args.priors.now) = i.whole ∙ ap (sum_to w) end in
    let last : 1 ≤ w (n + 1) = kept_weight_last c.args.priors.now f t.floor t.fails.items t.passes.items n refl (omega arith) (omega arith) (rw (← size) c.requires.walk.calm) c.requires.walk.some_fail c.requires.walk.some_pass in
    let some : 1 ≤ c.loop-index.whole = omega (arith, member-le-sum_to w (n + 1) (n + 1) (omega arith) (omega arith), ap (sum_to w) size) in
    let sums : last_of c.loop-index.sums ≡ c.loop-index.whole = ap (at c.loop-index.sums) i.size ∙ i.sums (length c.args.priors.now) (omega arith) (omega arith) ∙ sym whole in
    let reaches = leader-reaches w c.args.bar.t c.args.bar.u c.loop-index.whole (length c.args.priors.now) c.loop-index.heaviest.hypothesis c.loop-index.heaviest.weight (omega arith) (omega arith) some whole
    (λ k low high. i.most k low (omega arith)) (λ heavy. let l = i.leads heavy in (l.0, omega (arith, l.1), l.2)) in
    let t = c.args.bar.t in
    let u = c.args.bar.u in
    c.at_bar.ensures
    ∙ (reaches
    ∙ (ap (λ (x : ℕ). last_to (λ k. is_at_bar t u x (w k)) (length c.args.priors.now)) (sym sums)
    ∙ ap (λ (n : ℕ). last_to (λ k. is_at_bar t u (last_of c.loop-index.sums) (w k)) n) (sym i.size)))
