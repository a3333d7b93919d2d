-- Counts that rose, and what holds of a value that there may be.
use mathlib.Core.Logic.{dite}
use native.Mathlib.Decide.{ℕ_discrete}
use Rattle.std.proofs.Common.{◌≡◌, ◌⊎◌, inl, inr, ◌<◌, ◌≤◌, ℕ, Option, Some, None, IfSome, sym, arith, ◌∙◌}
use Rattle.common_types.specs.Counts.{Rose}

-- what follows of each value holds of the one that there is, if any
pub IfSome-map : {A : Type 0} (o : Option A) (P Q : A → Type 0) → ((x : A) → P x → Q x) → IfSome o P → IfSome o Q
IfSome-map None P Q f h = h
IfSome-map (Some x) P Q f h = f x h

-- the same of two facts
pub IfSome-both : {A : Type 0} (o : Option A) (P R Q : A → Type 0) → ((x : A) → P x → R x → Q x) → IfSome o P
    → IfSome o R
    → IfSome o Q
IfSome-both None P R Q f h k = h
IfSome-both (Some x) P R Q f h k = f x h k

up_to : (m n : ℕ) → m ≤ n → (m ≡ n) ⊎ (m < n)
up_to m n le = dite (ℕ_discrete m n) (λ e. inl e) (λ apart. inr (omega arith))

-- a count that rose has risen up to later, too
pub Rose-later : (a b c : ℕ) → Rose a b → b ≤ c → Rose a c
Rose-later a b c (inl less) le = inl (omega arith)
Rose-later a b c (inr (end, still)) le =
    elim (up_to b c le) [ inl same ↦ inr (end, sym same ∙ still) | inr less ↦ inl (omega arith) ]

-- and since earlier
pub Rose-from : (a b c : ℕ) → a ≤ b → Rose b c → Rose a c
Rose-from a b c le (inl less) = inl (omega arith)
Rose-from a b c le (inr (end, still)) =
    elim (up_to a b le) [ inl same ↦ inr (same ∙ end, still) | inr less ↦ inl (omega arith) ]

-- a count that rose from 0 isn't 0
pub Rose-zero : (start now : ℕ) → start ≡ 0 → Rose start now → 0 < now
Rose-zero start now none (inl less) = omega arith
Rose-zero start now none (inr (end, still)) = absurd (omega arith)
