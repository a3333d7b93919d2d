-- The four kinds of run, as one hypothesis sees them.
use Rattle.std.specs.Prelude.{ℕ, Bool, not, ◌&&◌, ◌==◌, nat_le, List, count_by}
use Rattle.weight_exact.specs.Load.{is_fail}
use Rattle.weight_exact.specs.declared.run.Run.{Run}

-- whether a run failed with suspect i in its tree, or out of it
abbrev pub is_fail_in : ℕ → Run → Bool
is_fail_in i r = is_fail r.verdict && nat_le i r.position

abbrev pub is_fail_out : ℕ → Run → Bool
is_fail_out i r = is_fail r.verdict && not (nat_le i r.position)

-- whether a run passed with suspect i in its tree, or out of it
abbrev pub is_pass_in : ℕ → Run → Bool
is_pass_in i r = not (is_fail r.verdict) && nat_le i r.position

abbrev pub is_pass_out : ℕ → Run → Bool
is_pass_out i r = not (is_fail r.verdict) && not (nat_le i r.position)

-- how many runs of a list are of each kind
abbrev pub fails_in : ℕ → List Run → ℕ
fails_in i runs = count_by (is_fail_in i) runs

abbrev pub fails_out : ℕ → List Run → ℕ
fails_out i runs = count_by (is_fail_out i) runs

abbrev pub passes_in : ℕ → List Run → ℕ
passes_in i runs = count_by (is_pass_in i) runs

abbrev pub passes_out : ℕ → List Run → ℕ
passes_out i runs = count_by (is_pass_out i) runs

-- whether a run failed at a position, and whether it passed there
abbrev pub is_fail_at : (position : ℕ) → Run → Bool
is_fail_at position r = is_fail r.verdict && r.position == position

abbrev pub is_pass_at : (position : ℕ) → Run → Bool
is_pass_at position r = not (is_fail r.verdict) && r.position == position
