use Rattle.weight_exact.proofs.FactorNumbers.{fail_in_positive, fail_out_positive, pass_out_positive, pass_in-zero, fail_out-lt-fail_in, greatest_factor_two}
use Rattle.leaf_laws.proofs.FactorNumbers.{pass_in-lt-pass_out, greatest_factor-le, factors_no_miss}
use Rattle.leaf_laws.proofs.weights.likelihood_numbers_of_rates.Goals as goal

pub returns-clause-positive : goal.returns-clause-positive
returns-clause-positive c = λ a b c d rate miss.
    (fail_in_positive a b c d rate miss, fail_out_positive a b c d rate miss, pass_out_positive a b c d rate miss)

pub returns-clause-no_misses : goal.returns-clause-no_misses
returns-clause-no_misses c = pass_in-zero

pub returns-clause-fail_speaks_for_in : goal.returns-clause-fail_speaks_for_in
returns-clause-fail_speaks_for_in c = fail_out-lt-fail_in

pub returns-clause-pass_speaks_for_out : goal.returns-clause-pass_speaks_for_out
returns-clause-pass_speaks_for_out c = pass_in-lt-pass_out

pub returns-clause-small : goal.returns-clause-small
returns-clause-small c = greatest_factor-le

pub returns-clause-more_than_one : goal.returns-clause-more_than_one
returns-clause-more_than_one c = greatest_factor_two

pub returns-clause-lowest_terms : goal.returns-clause-lowest_terms
returns-clause-lowest_terms c = factors_no_miss
