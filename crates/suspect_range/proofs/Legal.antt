-- Suspects have no fault exactly where they keep the limits of a range, and the weights of a range are priors.
use Rattle.std.proofs.Common.{◌≡◌, ℕ, ◌+◌, ◌≤◌, true, List, length, map, Option, Some, None, option_map, position, All, refl, ap, subst, sym, ◌∙◌, arith}
use Rattle.std.proofs.lemmas.Bool.{not-false, not_from_true}
use Rattle.std.proofs.lemmas.Bool.Decides.{nat_tests}
use Rattle.std.proofs.lemmas.List.{length-map}
use Rattle.std.proofs.lemmas.List.Elements.{All-map}
use Rattle.std.specs.Option.{option_or}
use Rattle.farm_types.specs.declared.commit_id.CommitId.{CommitId}
use Rattle.farm_types.proofs.FirstIndex.{fails-from_none, position-none}
use Rattle.suspect_range.specs.Faults.{calm_fault, count_fault, first_bad_weight, has_bad_weight, range_fault}
use Rattle.suspect_range.specs.Range.{IsSuspectRange}
use Rattle.weight_exact.specs.Limits.{ArePriors, IsCalm, IsWeight, is_within}
use Rattle.suspect_range.specs.declared.fault.RangeFault.TheVariants.{RepeatedCommit, WeightRange}
use Rattle.weight_exact.specs.declared.limits.TheConstants.{MAX_SUSPECTS, MAX_WEIGHT}
use Rattle.suspect_range.specs.declared.suspect.Suspect.{Suspect}
use Rattle.suspect_range.proofs.Repeats.{distinct-from_none, none-from_distinct}

-- neither of two is there
option_or-none : {X : Type 0} (a b : Option X) → option_or a b ≡ None → (a ≡ None) × (b ≡ None)
option_or-none None b h = (refl, h)
option_or-none (Some x) b h = cc h

-- nothing is mapped
option_map-none : {X Y : Type 0} (f : X → Y) (o : Option X) → option_map f o ≡ None → o ≡ None
option_map-none f None h = refl
option_map-none f (Some x) h = cc h

-- a number passes the test of a limit exactly where it lies within
within-from_test : (limit n : ℕ) → is_within limit n ≡ true → (1 ≤ n) × (n ≤ limit)
within-from_test limit n h = grind (arith, nat_tests)

test-from_within : (limit n : ℕ) → 1 ≤ n → n ≤ limit → is_within limit n ≡ true
test-from_within limit n low high = grind (arith, nat_tests)

-- the count, and back
count-from_none : (n : ℕ) → count_fault n ≡ None → (1 ≤ n) × (n ≤ MAX_SUSPECTS)
count-from_none n none = grind (arith, nat_tests)

none-from_count : (n : ℕ) → 1 ≤ n → n ≤ MAX_SUSPECTS → count_fault n ≡ None
none-from_count n some few = grind (arith, nat_tests)

-- the calm weight, and back
calm-from_none : (n : ℕ) → calm_fault n ≡ None → IsCalm n
calm-from_none n none = grind (arith, nat_tests)

none-from_calm : (n : ℕ) → IsCalm n → calm_fault n ≡ None
none-from_calm n calm = grind (arith, nat_tests)

-- the weights, and back
weights-from_none : (suspects : List Suspect) → first_bad_weight suspects ≡ None → All (λ suspect. IsWeight suspect.weight) suspects
weights-from_none suspects none k d within =
    let fine = fails-from_none has_bad_weight suspects d (option_map-none _ (position has_bad_weight suspects) none) k within in
    within-from_test MAX_WEIGHT _ (not-false _ fine)

none-from_weights : (suspects : List Suspect) (d : Suspect) → All (λ suspect. IsWeight suspect.weight) suspects → first_bad_weight suspects ≡ None
none-from_weights suspects d weights =
    ap (option_map (λ index. index + 1))
    (position-none has_bad_weight suspects d (λ k l. not_from_true _ (test-from_within MAX_WEIGHT _ (weights k d l).0 (weights k d l).1)))

module _ (base : CommitId) (suspects : List Suspect) (calm : ℕ) where
  pub IsSuspectRange-from_no_fault : range_fault base suspects calm ≡ None → IsSuspectRange base suspects calm
  IsSuspectRange-from_no_fault none =
      let a = option_or-none (count_fault (length suspects)) _ none in
      let b = option_or-none (option_map WeightRange (first_bad_weight suspects)) _ a.1 in
      let c = option_or-none (calm_fault calm) _ b.1 in
      let count = count-from_none _ a.0 in
      record {
        some = count.0;
        few = count.1;
        weights = weights-from_none suspects (option_map-none WeightRange _ b.0);
        calm_in = calm-from_none calm c.0;
        distinct = distinct-from_none base suspects (option_map-none RepeatedCommit _ c.1);
      }

  pub no_fault-from_IsSuspectRange : IsSuspectRange base suspects calm → range_fault base suspects calm ≡ None
  no_fault-from_IsSuspectRange legal =
      let count = none-from_count _ legal.some legal.few in
      let weights = none-from_weights suspects (record { commit = base; weight = 0 }) legal.weights in
      let peace = none-from_calm calm legal.calm_in in
      let repeat = none-from_distinct base suspects legal.distinct in
      rw (count, weights, peace, repeat) refl

-- the weights of a range are priors, with its calm weight
pub weights_are_priors : (base : CommitId) (suspects : List Suspect) (calm : ℕ) (weights : List ℕ) → IsSuspectRange base suspects calm →
    weights ≡ map (λ suspect. suspect.weight) suspects → ArePriors weights calm
weights_are_priors base suspects calm weights range are =
    let long : length weights ≡ length suspects = ap length are ∙ length-map suspects (λ (s : Suspect). s.weight) in
    let each : All IsWeight (map (λ (s : Suspect). s.weight) suspects) = All-map IsWeight (λ (s : Suspect). s.weight) suspects range.weights in
    record {
      some = omega (arith, long, range.some);
      few = omega (arith, long, range.few);
      each = subst (λ (xs : List ℕ). All IsWeight xs) (sym are) each;
      some_calm = range.calm_in.0;
      little_calm = range.calm_in.1;
    }
