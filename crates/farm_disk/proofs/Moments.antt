-- How the images of a run of calls go on. For the crates above too.
use Rattle.std.proofs.Common.{◌≡◌, ℕ, ◌+◌, ◌≤◌, suc, List, [], ◌∷◌, ◌++◌, length, refl, sym, ◌∙◌, ap, subst, arith, append_assoc, length-append, ⊎_elim}
use Rattle.farm_disk.specs.Answers.{rested, after_sync}
use Rattle.farm_disk.specs.Images.{Step, DiskState, write, still, cut, sync, IsSyncedAt, LeavesSinceSync, Torn, EachImage, LeavesSince, LeavesOnly, IsSettled, moment}

-- what holds of each image now
pub leaves-now : (t : ℕ) (steps : List Step) (P : List ℕ → Type 0) → LeavesSince t steps P → EachImage steps P
leaves-now t [] P leaves = leaves
leaves-now t (step ∷ older) P leaves = leaves.0

-- since now there is no moment but this
pub leaves-here : (steps : List Step) (P : List ℕ → Type 0) → EachImage steps P → LeavesSince (length steps) steps P
leaves-here [] P each = each
leaves-here (step ∷ older) P each = (each, λ le. absurd (omega (arith, le)))

-- a weaker fact
pub leaves-weaker : (t : ℕ) (steps : List Step) (P Q : List ℕ → Type 0) → ((c : List ℕ) → P c → Q c)
    → LeavesSince t steps P → LeavesSince t steps Q
leaves-weaker t [] P Q weaker leaves = λ c image. weaker c (leaves c image)
leaves-weaker t (step ∷ older) P Q weaker leaves =
    (λ c image. weaker c (leaves.0 c image), λ le. leaves-weaker t older P Q weaker (leaves.1 le))

-- a later start
pub leaves-later : (t u : ℕ) (steps : List Step) (P : List ℕ → Type 0) → t ≤ u → LeavesSince t steps P
    → LeavesSince u steps P
leaves-later t u [] P later leaves = leaves
leaves-later t u (step ∷ older) P later leaves =
    (leaves.0, λ le. leaves-later t u older P later (leaves.1 (omega (arith, later, le))))

-- a run and then another one
pub leaves-append : (t : ℕ) (more steps : List Step) (P : List ℕ → Type 0) → LeavesSince t steps P
    → LeavesSince (length steps) (more ++ steps) P → LeavesSince t (more ++ steps) P
leaves-append t [] steps P first then_ = first
leaves-append t (step ∷ more) steps P first then_ = (
  then_.0,
  λ le. leaves-append t more steps P first (then_.1 (omega (arith, length-append more steps))),
)

-- before the first call
pub leaves_only-start : (disk : DiskState) (P : List ℕ → Type 0) → EachImage disk.steps P → LeavesOnly disk disk P
leaves_only-start disk P each = record { since = []; extends = refl; each = leaves-here disk.steps P each }

-- one call more
pub leaves_only-step : (old mid new : DiskState) (P : List ℕ → Type 0) (step : Step) → LeavesOnly old mid P
    → new.steps ≡ step ∷ mid.steps → EachImage (step ∷ mid.steps) P → LeavesOnly old new P
leaves_only-step old mid new P step so_far is each =
    let both : LeavesSince (moment old) (step ∷ mid.steps) P = (each, λ le. so_far.each) in
    record {
      since = step ∷ so_far.since;
      extends = is ∙ ap (λ (l : List Step). step ∷ l) so_far.extends;
      each = subst (λ (l : List Step). LeavesSince (moment old) l P) (sym is) both;
    }

-- what holds of each image now
pub leaves_only-now : (old new : DiskState) (P : List ℕ → Type 0) → LeavesOnly old new P → EachImage new.steps P
leaves_only-now old new P leaves = leaves-now (moment old) new.steps P leaves.each

-- one call more, which changed nothing
pub leaves_only-rested : (old mid new : DiskState) (P : List ℕ → Type 0) → LeavesOnly old mid P → new ≡ rested mid
    → LeavesOnly old new P
leaves_only-rested old mid new P so_far is =
    leaves_only-step old mid new P still so_far (ap (λ (d : DiskState). d.steps) is) (leaves_only-now old mid P so_far)

-- two runs
pub leaves_only-trans : (old mid new : DiskState) (P : List ℕ → Type 0) → LeavesOnly old mid P → LeavesOnly mid new P
    → LeavesOnly old new P
leaves_only-trans old mid new P first second =
    let last : LeavesSince (moment mid) (second.since ++ mid.steps) P =
    subst (λ (l : List Step). LeavesSince (moment mid) l P) second.extends second.each in
    record {
      since = second.since ++ first.since;
      extends = second.extends ∙ ap (λ (l : List Step). second.since ++ l) first.extends
          ∙ sym (append_assoc second.since first.since old.steps);
      each = subst (λ (l : List Step). LeavesSince (moment old) l P) (sym second.extends)
          (leaves-append (moment old) second.since mid.steps P first.each last);
    }

pub leaves_only-weaker : (old new : DiskState) (P Q : List ℕ → Type 0) → ((c : List ℕ) → P c → Q c)
    → LeavesOnly old new P → LeavesOnly old new Q
leaves_only-weaker old new P Q weaker leaves = record {
  since = leaves.since;
  extends = leaves.extends;
  each = leaves-weaker (moment old) new.steps P Q weaker leaves.each;
}

-- what a write leaves of a disk whose one image is what a read gives
pub torn-settled : (disk : DiskState) (at n : ℕ) → IsSettled disk
    → EachImage (write at n ∷ disk.steps) (λ c. Torn at n disk.bytes c)
torn-settled disk at n settled = λ c image. subst (λ (d : List ℕ). Torn at n d c) (settled image.0 image.1) image.2

-- after a sync that was done the one image is what a read gives
pub settled-sync : (old new : DiskState) → new ≡ after_sync old → IsSettled new
settled-sync old new is = subst (λ (d : DiskState). IsSettled d) (sym is) (λ c image. image)

-- a call that changed nothing leaves it so
pub settled-rested : (old new : DiskState) → IsSettled old → new ≡ rested old → IsSettled new
settled-rested old new settled is = subst (λ (d : DiskState). IsSettled d) (sym is) (λ c image. settled c image)

-- no sync is later than now
pub synced-le : (steps : List Step) (t : ℕ) → IsSyncedAt steps t → t ≤ length steps
synced-le [] t held = absurd held
synced-le (still ∷ older) t held = omega (arith, synced-le older t held)
synced-le (write at n ∷ older) t held = omega (arith, synced-le older t held)
synced-le (cut n ∷ older) t held = omega (arith, synced-le older t held)
synced-le (sync bytes ∷ older) t held =
    ⊎_elim (λ (here : t ≡ length older + 1). omega (arith, here))
    (λ (before : IsSyncedAt older t). omega (arith, synced-le older t before)) held

-- a call that changed nothing is no sync
pub since_sync-rested : (old new : DiskState) (P : List ℕ → Type 0) → new ≡ rested old → LeavesSinceSync old new P
since_sync-rested old new P is =
    subst (λ (d : DiskState). LeavesSinceSync old d P) (sym is)
    (λ t later held. absurd (omega (arith, later, synced-le old.steps t held)))

-- what holds since the moment after the first call
pub since_sync-run : (old mid new : DiskState) (P : List ℕ → Type 0) → mid.steps ≡ sync old.bytes ∷ old.steps
    → LeavesOnly mid new P → LeavesSinceSync old new P
since_sync-run old mid new P is leaves t later held =
    let after : moment mid ≡ length old.steps + 1 = ap length is ∙ one_more (length old.steps) in
    leaves-later (moment mid) t new.steps P (omega (arith, after, later)) leaves.each
  where
    one_more : (n : ℕ) → suc n ≡ n + 1
    one_more n = omega arith
