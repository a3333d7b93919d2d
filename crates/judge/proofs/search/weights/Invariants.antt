use Rattle.std.proofs.Common.{◌≡◌, ◌≤◌, true, List, ℕ, ◌++◌, Option}
use Rattle.std.specs.Prelude.{option_map, option_and_then, vec_len}
use Rattle.std.specs.List.{list_all}
use Rattle.weight_exact.specs.Limits.{is_weight}
use Rattle.weight_exact.specs.declared.limits.TheConstants.{MAX_SUSPECTS}
use Rattle.judge.specs.Weights.{as_weights}
use Rattle.judge.specs.Text.{numbers}
use Rattle.judge.specs.Words.{words_left}
use Rattle.judge.proofs.search.weights.Given as goal

-- the weights of a search, where `read` was read and the others, if all are numbers, follow
abbrev pub weights_after : List ℕ → Option (List ℕ) → Option (List ℕ)
weights_after read others = option_and_then as_weights (option_map (λ ns. read ++ ns) others)

abbrev pub invariant-loop-word : goal.invariant-loop-word
invariant-loop-word l = record {
  same : option_and_then as_weights (numbers (words_left l.fn.words)) ≡ weights_after l.weights.items
      (numbers (words_left l.word-iterator));
  each : list_all is_weight l.weights.items ≡ true;
  few : vec_len l.weights ≤ MAX_SUSPECTS;
}
