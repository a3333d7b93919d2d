-- Whether a farm has only begun, by how many entries there are and the last moment.
use Rattle.std.proofs.Common.{◌≡◌, ℕ, ◌==◌, Bool, false, ◌&&◌, sym, ap, ◌∙◌}
use Rattle.std.proofs.lemmas.Bool.{eq-eqb}

-- where the first two numbers are the same, the others tell
pub both-first : (n k a b : ℕ) (x : Bool) → n ≡ k → (n == k && a == b) ≡ x → a == b ≡ x
both-first n k a b x same is = ap (λ (t : Bool). t && a == b) (sym (eq-eqb n k same)) ∙ is

-- and else they do
pub both-second : (n k a b : ℕ) (x : Bool) → n == k ≡ false → (n == k && a == b) ≡ x → n == k ≡ x
both-second n k a b x other is = other ∙ ap (λ (t : Bool). t && a == b) (sym other) ∙ is
