-- What a disk in memory keeps, after a call.
use Rattle.std.proofs.Common.{◌≡◌, ◌≤◌, ◌∙◌, ap, refl, sym, subst, arith, List, ◌∷◌, map, length, take, Vec, Global, ℕ}
use Rattle.std.specs.declared.snapshot.Snapshot.{Snapshot}
use Rattle.farm_disk.specs.Images.{Step, DiskState, write, cut, sync, IsImage, overwritten}
use Rattle.farm_disk.specs.DiskFault.{PlannedFaults}
use Rattle.farm_disk.specs.InMemory.{step_of}
use Rattle.farm_disk.specs.MemDiskKept.{IsKept}
use Rattle.farm_disk.specs.Model.{greatest, IsSound}
use Rattle.farm_disk.specs.Tracks.{Tracks}
use Rattle.farm_disk.specs.declared.call.Call.{Call}
use Rattle.farm_disk.specs.declared.call.Call.TheVariants.{Still, Write, Cut, Sync}
use Rattle.farm_disk.specs.declared.in_memory.tracked.Tracked.{Tracked}
use Rattle.farm_disk.proofs.Sound.{calls-keep-sound}

-- what a read gives is an image by a log, and so it is by a log that is the same
sound-told : (bytes : List ℕ) (now past : List Call) (call : Call) → now ≡ call ∷ past
    → IsSound (record { bytes = bytes; steps = step_of call ∷ map step_of past })
    → IsSound (record { bytes = bytes; steps = map step_of now })
sound-told bytes now past call told sound =
    subst (λ (l : List Call). IsSound (record { bytes = bytes; steps = map step_of l })) (sym told) sound

module _ (old : List ℕ) (now past : List Call) where
  abbrev before : DiskState
  before = record { bytes = old; steps = map step_of past }

  -- a call that changed nothing
  pub sound-still : now ≡ Still ∷ past → IsSound before → IsSound (record { bytes = old; steps = map step_of now })
  sound-still told sound = sound-told old now past Still told (calls-keep-sound.rests before sound)

  -- a write that was done
  pub sound-write : (at n : ℕ) (bytes new : List ℕ) → now ≡ Write at n ∷ past → n ≡ length bytes → at ≤ length old
      → new ≡ overwritten at bytes old → IsSound before → IsSound (record { bytes = new; steps = map step_of now })
  sound-write at n bytes new told size within is sound =
      let made = calls-keep-sound.writes before at bytes within sound in
      sound-told new now past (Write at n) told
      (subst (λ (k : ℕ). IsSound (record { bytes = new; steps = write at k ∷ map step_of past })) (sym size)
      (subst (λ (l : List ℕ). IsSound (record { bytes = l; steps = write at (length bytes) ∷ map step_of past }))
      (sym is) made))

  -- a cut that was done
  pub sound-cut : (n : ℕ) (new : List ℕ) → now ≡ Cut n ∷ past → new ≡ take n old → IsSound before
      → IsSound (record { bytes = new; steps = map step_of now })
  sound-cut n new told is sound =
      let made = calls-keep-sound.cuts before n sound in
      sound-told new now past (Cut n) told
      (subst (λ (l : List ℕ). IsSound (record { bytes = l; steps = cut n ∷ map step_of past })) (sym is) made)

pub kept_synced : (held : Vec ℕ Global) (now past : List Call) (plan : PlannedFaults) (tracked : Tracked)
    (snapshot : Snapshot (Vec ℕ Global))
    → now ≡ Sync snapshot ∷ past → snapshot.value ≡ held
    → ((older : List Step) → Tracks tracked (sync held.items ∷ older))
    → IsKept (record { bytes = held; past = now; plan = plan; tracked = tracked })
kept_synced held now past plan tracked snapshot told value tracks =
    let log : map step_of now ≡ sync held.items ∷ map step_of past =
    ap (λ (l : List Call). map step_of l) told ∙ ap (λ (v : Vec ℕ Global). sync v.items ∷ map step_of past) value in
    let reach : length held.items ≤ greatest (sync held.items ∷ map step_of past) = omega arith in
    record {
      tracks = subst (λ (s : List Step). Tracks tracked s) (sym log) (tracks (map step_of past));
      reach = subst (λ (s : List Step). length held.items ≤ greatest s) (sym log) reach;
      image = subst (λ (s : List Step). IsImage s held.items) (sym log) refl;
    }

-- a sync that was done
pub sound-sync : (held : Vec ℕ Global) (now past : List Call) (snapshot : Snapshot (Vec ℕ Global))
    → now ≡ Sync snapshot ∷ past → snapshot.value ≡ held
    → IsSound (record { bytes = held.items; steps = map step_of now })
sound-sync held now past snapshot told value =
    let made : IsSound (record { bytes = held.items; steps = sync held.items ∷ map step_of past }) =
    record { run = tt; size = omega arith; image = refl } in
    sound-told held.items now past (Sync snapshot) told
    (subst (λ (v : Vec ℕ Global). IsSound (record { bytes = held.items; steps = sync v.items ∷ map step_of past }))
    (sym value) made)
