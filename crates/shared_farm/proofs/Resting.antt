-- A store that goes on by a turn.
use Rattle.std.proofs.Common.{◌≡◌, ◌⊎◌, ◌++◌, ◌∷◌, [], Option, Some, None, IfSome, ◌∙◌}
use Rattle.farm_disk.specs.declared.disk.Disk as disk
use Rattle.farm_store.specs.Keeping.{KeepsStore}
use Rattle.farm_store.specs.State.{StoreState}
use Rattle.common_types.specs.Counts.{Rose}
use Rattle.shared_farm.specs.Rests.{Begun, CameBy, IsByCommands, commanded, rest_of, rested}

-- what came from the beginning came on by one turn more, in which the store was called
pub came-on : {D : Type 0} (meant : disk.Ghosts D) (begun : Option Begun) (Answered : Type 0 → Type 0)
    (old new : StoreState D) → IfSome begun (λ b. CameBy meant b old) → KeepsStore meant Answered old new
    → (new.pending ≡ []) ⊎ Rose (meant.count old.disk) (meant.count new.disk)
    → (IsByCommands (old.history ++ old.pending) → IsByCommands (new.history ++ new.pending))
    → IfSome begun (λ b. CameBy meant b new)
came-on meant None Answered old new came keeps decided by = tt
came-on meant (Some commanded) Answered old new came keeps decided by = by came
came-on meant (Some (rested tells first)) Answered old new came keeps decided by = record {
  same = keeps.same ∙ came.same;
  turns = rest_of meant old ∷ came.turns;
  turned = λ tell. (
    came.turned tell,
    record {
      longer = keeps.longer;
      leaves = keeps.any_moment (came.same ∙ tell);
      stored = keeps.stored (came.same ∙ tell);
      decided = decided;
      never_falls = keeps.never_falls;
    },
  );
}
