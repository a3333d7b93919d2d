-- What the parts of a file say in the words of contracts.
use Rattle.std.proofs.Common.{◌≡◌, ◌≢◌, subst, inl, inr, ⊎_elim, ℕ, ◌+◌, ◌<◌, Bool, false, List, [], ◌∷◌, ◌++◌, length, get_or, refl, sym, ◌∙◌, ap, arith}
use Rattle.std.specs.Prelude.{if◌then◌else◌, ◌==◌}
use Rattle.std.proofs.lemmas.Bool.Decides.{nat_tests}
use Rattle.farm_disk.specs.Images.{DiskState, LeavesOnly}
use Rattle.farm_disk.specs.Answers.{rested}
use Rattle.farm_disk.proofs.Moments.{leaves_only-start, leaves_only-rested, leaves_only-trans, leaves_only-weaker, leaves_only-now}
use Rattle.farm_journal.specs.Outcome.{IsUndone}
use Rattle.farm_journal.specs.Layout.{holds, opens}
use Rattle.farm_journal.specs.Layout.{version_of}
use Rattle.farm_journal.specs.Gates.{Holds, Stands, IsEither, Waits, Rests}
use Rattle.farm_journal.specs.State.{IsBeforeOrAfter, IsHeld, IsPending}
use Rattle.farm_journal.specs.declared.layout.TheConstants.{VERSION_1}
use Rattle.farm_journal.proofs.Openings.{opens-holds}
use Rattle.farm_journal.proofs.Once.{holds-within}
use Rattle.farm_journal.proofs.Upgrade.{parts, any_version}

-- the version byte
pub byte_15 : (v : ℕ) (ps : List (List ℕ)) (g : ℕ) (bytes : List ℕ) → Holds v ps g bytes → get_or bytes 15 0 ≡ v
byte_15 v ps g bytes held = ap (λ (l : List ℕ). get_or l 15 0) (parts v ps g bytes held)

pub version-stands : (ps : List (List ℕ)) (g : ℕ) (bytes : List ℕ) → Stands 2 ps g bytes → version_of bytes ≡ 2
version-stands ps g bytes stands =
    let byte = byte_15 stands.version ps g bytes stands.held in
    let other : get_or bytes 15 0 ≢ VERSION_1 = λ same. stands.is_new refl (sym byte ∙ same) in
    let test : (get_or bytes 15 0 == VERSION_1) ≡ false = grind (arith, nat_tests, other) in
    ap (λ (b : Bool). if◌then◌else◌ {A = ℕ} b 1 2) test

pub either-public : (known : ℕ) (ps : List (List ℕ)) (g : ℕ) (p c : List ℕ) → IsEither known ps g p c
    → IsBeforeOrAfter ps p c
either-public known ps g p c one = ⊎_elim
    (λ (before : Stands known ps g c). inl (opens-holds before.version ps g c before.held))
    (λ (after : Stands 2 (ps ++ p ∷ []) (g + 5 + length p) c). inr (
      opens-holds after.version (ps ++ p ∷ []) (g + 5 + length p) c after.held,
      version-stands (ps ++ p ∷ []) (g + 5 + length p) c after,
    ))
    one

-- either of the two, of a file of version 2
pub version-either : (ps : List (List ℕ)) (g : ℕ) (p c : List ℕ) → IsEither 2 ps g p c → version_of c ≡ 2
version-either ps g p c one = ⊎_elim
    (λ (before : Stands 2 ps g c). version-stands ps g c before)
    (λ (after : Stands 2 (ps ++ p ∷ []) (g + 5 + length p) c).
    version-stands (ps ++ p ∷ []) (g + 5 + length p) c after)
    one

pub leaves-public : (known : ℕ) (ps : List (List ℕ)) (g : ℕ) (p : List ℕ) (old new : DiskState)
    → LeavesOnly old new (IsEither known ps g p) → LeavesOnly old new (IsBeforeOrAfter ps p)
leaves-public known ps g p old new leaves =
    leaves_only-weaker old new (IsEither known ps g p) (IsBeforeOrAfter ps p) (either-public known ps g p) leaves

pub rests-public : (known : ℕ) (ps : List (List ℕ)) (g : ℕ) (disk : DiskState) → Rests known ps g disk → IsHeld ps disk
rests-public known ps g disk rests = record {
  reads = opens-holds rests.stands.version ps g disk.bytes rests.stands.held;
  settled = rests.settled;
}

pub waits-public : (known : ℕ) (ps : List (List ℕ)) (g : ℕ) (p : List ℕ) (disk : DiskState) → Waits known ps g p disk
    → IsPending ps p disk
waits-public known ps g p disk waits = record {
  reads = either-public known ps g p disk.bytes waits.reads;
  images = λ c image. either-public known ps g p c (waits.images c image);
}

pub waits-within : (known : ℕ) (ps : List (List ℕ)) (g : ℕ) (p : List ℕ) (disk : DiskState) → Waits known ps g p disk
    → g < length disk.bytes
waits-within known ps g p disk waits = ⊎_elim
    (λ (before : Stands known ps g disk.bytes). holds-within before.version ps g disk.bytes before.held)
    (λ (after : Stands 2 (ps ++ p ∷ []) (g + 5 + length p) disk.bytes). omega
    (arith, holds-within after.version (ps ++ p ∷ []) (g + 5 + length p) disk.bytes after.held))
    waits.reads

-- where the version isn't known
pub stands-any : (known : ℕ) (ps : List (List ℕ)) (g : ℕ) (c : List ℕ) → Stands known ps g c → Stands 1 ps g c
stands-any known ps g c stands = any_version stands.version ps g c stands.held

pub rests-any : (known : ℕ) (ps : List (List ℕ)) (g : ℕ) (disk : DiskState) → Rests known ps g disk → Rests 1 ps g disk
rests-any known ps g disk rests = record {
  stands = stands-any known ps g disk.bytes rests.stands;
  settled = rests.settled;
}

pub either-any : (known : ℕ) (ps : List (List ℕ)) (g : ℕ) (p c : List ℕ) → IsEither known ps g p c → IsEither 1 ps g p c
either-any known ps g p c one =
    ⊎_elim (λ (before : Stands known ps g c). inl (stands-any known ps g c before))
    (λ (after : Stands 2 (ps ++ p ∷ []) (g + 5 + length p) c). inr after) one

module _ (ps : List (List ℕ)) (g : ℕ) (p : List ℕ) where
  pub leaves-any : (known : ℕ) (old new : DiskState) → LeavesOnly old new (IsEither known ps g p)
      → LeavesOnly old new (IsEither 1 ps g p)
  leaves-any known old new leaves =
      leaves_only-weaker old new (IsEither known ps g p) (IsEither 1 ps g p) (either-any known ps g p) leaves

  -- an upgrade
  pub leaves-same : (old new : DiskState) → LeavesOnly old new (Stands 1 ps g) → LeavesOnly old new (IsEither 1 ps g p)
  leaves-same old new leaves =
      leaves_only-weaker old new (Stands 1 ps g) (IsEither 1 ps g p) (λ c stands. inl stands) leaves

  -- an upgrade and then an append
  pub leaves-both : (old mid new : DiskState) → LeavesOnly old mid (Stands 1 ps g)
      → LeavesOnly mid new (IsEither 2 ps g p) → LeavesOnly old new (IsEither 1 ps g p)
  leaves-both old mid new one two =
      leaves_only-trans old mid new (IsEither 1 ps g p) (leaves-same old mid one) (leaves-any 2 mid new two)

  -- an upgrade that failed
  pub waits-upgrade : (known : ℕ) (old new : DiskState) → LeavesOnly old new (Stands 1 ps g) → Stands 1 ps g new.bytes
      → ((c : List ℕ) → Stands 1 ps g c → Stands known ps g c) → Waits known ps g p new
  waits-upgrade known old new leaves reads back = record {
    images = λ c image. inl (back c (leaves_only-now old new (Stands 1 ps g) leaves c image));
    reads = inl (back new.bytes reads);
  }

-- a version that isn't 2 says nothing
pub stands-other : (known : ℕ) (ps : List (List ℕ)) (g : ℕ) (c : List ℕ) → known ≢ 2 → Stands 1 ps g c
    → Stands known ps g c
stands-other known ps g c other stands = record {
  version = stands.version;
  is_new = λ two. absurd (other two);
  held = stands.held;
}

-- where nothing was done, each crash leaves what it left before
pub leaves-undone : (known : ℕ) (ps : List (List ℕ)) (g : ℕ) (old new : DiskState) → Rests known ps g old
    → IsUndone old new → LeavesOnly old new (Stands 1 ps g)
leaves-undone known ps g old new rests undone =
    let before : LeavesOnly old old (Stands 1 ps g) = leaves_only-start old (Stands 1 ps g) (λ c image.
    subst (λ (l : List ℕ). Stands 1 ps g l) (sym (rests.settled c image)) (stands-any known ps g old.bytes rests.stands)) in
    ⊎_elim (λ (same : new ≡ old). subst (λ (d : DiskState). LeavesOnly old d (Stands 1 ps g)) (sym same) before)
    (λ (moved : new ≡ rested old). leaves_only-rested old old new (Stands 1 ps g) before moved)
    undone

-- the same in the words of contracts
pub stands-public : (known : ℕ) (ps : List (List ℕ)) (g : ℕ) (old new : DiskState) → LeavesOnly old new (Stands known ps g)
    → LeavesOnly old new (λ c. opens c ≡ holds ps)
stands-public known ps g old new leaves = leaves_only-weaker old new (Stands known ps g) (λ c. opens c ≡ holds ps)
    (λ c stands. opens-holds stands.version ps g c stands.held) leaves
