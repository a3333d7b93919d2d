-- What a pass holds, as steps are added.
use Rattle.std.proofs.Common.{◌≡◌, ◌⊎◌, ◌++◌, ◌∷◌, [], List, ℕ, inl, inr, ⊎_elim, sym, refl, ap, ◌∙◌, subst, append-nil, append_assoc}
use Rattle.turn_lock.specs.declared.view.Undecided.{Undecided}
use Rattle.connection_laws.specs.Outcomes.{Step}
use Rattle.connection_laws.specs.Owners.{AreLeftIn, HoldsMore, Holding, IsLeftIn}
use Rattle.connection_laws.specs.Progress.{recorded_place, recorded_places}
use Rattle.connection_laws.proofs.Progress.{recorded_places-append}

IsLeftIn-before : (steps rest : List Step) (u : Undecided) → IsLeftIn steps u → IsLeftIn (steps ++ rest) u
IsLeftIn-before [] rest u left = absurd left
IsLeftIn-before (s ∷ steps) rest u left =
    ⊎_elim (λ here. inl here) (λ more. inr (IsLeftIn-before steps rest u more)) left

IsLeftIn-behind : (steps rest : List Step) (u : Undecided) → IsLeftIn rest u → IsLeftIn (steps ++ rest) u
IsLeftIn-behind [] rest u left = left
IsLeftIn-behind (s ∷ steps) rest u left = inr (IsLeftIn-behind steps rest u left)

pub AreLeftIn-before : (steps rest : List Step) (us : List Undecided) → AreLeftIn steps us
    → AreLeftIn (steps ++ rest) us
AreLeftIn-before steps rest [] left = tt
AreLeftIn-before steps rest (u ∷ us) left =
    (IsLeftIn-before steps rest u left.0, AreLeftIn-before steps rest us left.1)

pub AreLeftIn-behind : (steps rest : List Step) (us : List Undecided) → AreLeftIn rest us
    → AreLeftIn (steps ++ rest) us
AreLeftIn-behind steps rest [] left = tt
AreLeftIn-behind steps rest (u ∷ us) left =
    (IsLeftIn-behind steps rest u left.0, AreLeftIn-behind steps rest us left.1)

pub AreLeftIn-append : (steps : List Step) (us more : List Undecided) → AreLeftIn steps us → AreLeftIn steps more
    → AreLeftIn steps (us ++ more)
AreLeftIn-append steps [] more left other = other
AreLeftIn-append steps (u ∷ us) more left other = (left.0, AreLeftIn-append steps us more left.1 other)

-- steps that record nothing, and leave nothing undecided
pub HoldsMore-nothing : (steps : List Step) (old new : Holding) → recorded_places steps ≡ [] → new ≡ old
    → HoldsMore steps old new
HoldsMore-nothing steps old new none same = record {
  parts = ap (λ (h : Holding). h.parts) same;
  lending = ap (λ (h : Holding). h.lending) same;
  places =
      ap (λ (h : Holding). h.owned.places) same ∙ sym (append-nil old.owned.places)
      ∙ ap (λ (l : List ℕ). old.owned.places ++ l) (sym none);
  newer = [];
  undecided = ap (λ (h : Holding). h.owned.undecided) same;
  left = tt;
}

-- steps behind steps
pub HoldsMore-append : (steps rest : List Step) (old mid new : Holding) → HoldsMore steps old mid
    → HoldsMore rest mid new → HoldsMore (steps ++ rest) old new
HoldsMore-append steps rest old mid new a b = record {
  parts = b.parts ∙ a.parts;
  lending = b.lending ∙ a.lending;
  places =
      b.places ∙ ap (λ (l : List ℕ). l ++ recorded_places rest) a.places
      ∙ append_assoc old.owned.places (recorded_places steps) (recorded_places rest)
      ∙ ap (λ (l : List ℕ). old.owned.places ++ l) (sym (recorded_places-append steps rest));
  newer = b.newer ++ a.newer;
  undecided =
      b.undecided ∙ ap (λ (l : List Undecided). b.newer ++ l) a.undecided
      ∙ sym (append_assoc b.newer a.newer old.owned.undecided);
  left = AreLeftIn-append (steps ++ rest) b.newer a.newer (AreLeftIn-behind steps rest b.newer b.left)
      (AreLeftIn-before steps rest a.newer a.left);
}
