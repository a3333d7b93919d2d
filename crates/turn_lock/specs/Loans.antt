-- Marks that a pass lends to those that are split off it.
use Rattle.std.specs.Prelude.{◌≡◌, ◌+◌, ◌++◌, ℕ, List, [], ◌∷◌}
use Rattle.turn_lock.specs.declared.view.Lending.{Lending}
use Rattle.turn_lock.specs.declared.view.Loan.{Loan}

-- the sum of a weight over a list
abbrev pub weigh : {A : Type 0} → (A → ℕ) → List A → ℕ
weigh w [] = 0
weigh w (a ∷ others) = w a + weigh w others

-- two lists have the same loans, each as often, in whatever order: every weight has the same sum over both
abbrev pub AreSame : List Loan → List Loan → Type 0
AreSame loans others = (w : Loan → ℕ) → weigh w loans ≡ weigh w others

-- These are the loans that are out: together with what came back they are all that was lent.
abbrev pub AreOut : Lending → List Loan → Type 0
AreOut l out = AreSame (l.loans ++ out) l.lent

-- what a pass with the key knows: there are loans that are out
pub record HasOut (l : Lending) : Type 0 where
  pub known : l.keys ≡ 1 → (out : List Loan) × AreOut l out
