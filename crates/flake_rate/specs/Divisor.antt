use Rattle.std.specs.Prelude.{ℕ, zero, suc, ◌%◌}

-- Euclid's algorithm (Elements, book VII, proposition 2) with at most so many divisions
abbrev pub euclid : ℕ → ℕ → ℕ → ℕ
euclid zero a b = a
euclid (suc steps) a zero = a
euclid (suc steps) a (suc b) = euclid steps (suc b) (a % suc b)

-- the greatest common divisor: each division makes b smaller, so suc b of them are enough
abbrev pub gcd : ℕ → ℕ → ℕ
gcd a b = euclid (suc b) a b
