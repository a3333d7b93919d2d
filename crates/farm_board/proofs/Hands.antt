-- The slot that a seat has in its hands.
use Rattle.std.proofs.Common.{◌≡◌, ◌∷◌, [], List, Option, None, ℕ, sym, ap, ◌∙◌}
use Rattle.atomic_table.specs.Table.{Me, rest}
use Rattle.farm_board.specs.JobViews.{claiming, asking}
use Rattle.farm_board.specs.declared.job_view.View.{View}

module _ {S V : Type 0} where
  -- what lies in a slot in a seat's hands
  pub in_hands : (m : Me S V) (v : V) (slot : ℕ) (x : S) (more : List (ℕ × S)) → m ≡ (v, (slot, x) ∷ more)
      → m.1 ≡ (slot, x) ∷ rest m.1
  in_hands m v slot x more is =
      ap (λ (n : Me S V). n.1) is ∙ ap (λ (n : Me S V). (slot, x) ∷ rest n.1) (sym is)

  -- something else was put there
  pub put_there : (old new : Me S V) (v : V) (slot : ℕ) (x y : S) (more : List (ℕ × S))
      → old ≡ (v, (slot, x) ∷ more) → new ≡ (old.0, (slot, y) ∷ rest old.1) → new ≡ (v, (slot, y) ∷ more)
  put_there old new v slot x y more is put = put ∙ ap (λ (n : Me S V). (n.0, (slot, y) ∷ rest n.1)) is

-- a seat that asked has taken back what lay in its slot, and has the empty slot
pub emptied : {K Q C : Type 0} (asks took new : Me (Option C) (View K Q)) (key : K) (slot : ℕ) (job : Q) (x : Option C)
    → asks ≡ (asking key slot job, []) → took ≡ (claiming asks.0.key slot, (slot, x) ∷ asks.1)
    → new ≡ (took.0, (slot, None) ∷ rest took.1) → new ≡ (claiming key slot, (slot, None) ∷ [])
emptied {K} {Q} {C} asks took new key slot job x is taken put =
    put_there took new (claiming asks.0.key slot) slot x None asks.1 taken put
    ∙ ap (λ (m : Me (Option C) (View K Q)). (claiming m.0.key slot, (slot, None) ∷ m.1)) is
