-- What a read gives is one of the images.
use Rattle.std.proofs.Common.{◌≡◌, ℕ, ◌+◌, ◌-◌, ◌≤◌, List, [], ◌∷◌, ◌++◌, length, take, drop, refl, sym, ◌∙◌, ap, subst, arith, append_assoc, length-append, length-drop, drop-drop}
use Rattle.std.proofs.lemmas.List.{take_at, take_all, take-take, drop_at, length-take}
use Rattle.farm_disk.specs.Images.{Step, still, write, cut, sync, Torn, Shortened, IsImage, overwritten}
use Rattle.farm_disk.specs.Model.{IsRun, CallsKeepSound, SomeImage, greatest}

-- a write that is done is one of the ways to tear it
pub torn_whole : (at : ℕ) (bytes old : List ℕ) → at ≤ length old → Torn at (length bytes) old (overwritten at bytes old)
torn_whole at bytes old within =
    let rest = drop (at + length bytes) old in
    let front : length (take at old) ≡ at = omega (arith, length-take at old, within) in
    let both : length (take at old ++ bytes) ≡ at + length bytes =
    omega (arith, front, length-append (take at old) bytes) in
    let size : length (overwritten at bytes old) ≡ at + length bytes + (length old - (at + length bytes)) =
    omega (arith, both, length-append (take at old ++ bytes) rest, length-drop (at + length bytes) old) in
    record {
      before = ap (λ (l : List ℕ). take at l) (append_assoc (take at old) bytes rest)
          ∙ take_at (take at old) (bytes ++ rest) at front;
      after = drop_at (take at old ++ bytes) rest (at + length bytes) both;
      no_shorter = omega (arith, size);
      no_longer = omega (arith, size, within);
    }

-- so is one of which only a front went through
pub torn_part : (at n : ℕ) (bytes old : List ℕ) → at ≤ length old → length bytes ≤ n
    → Torn at n old (overwritten at bytes old)
torn_part at n bytes old within part =
    let whole = torn_whole at bytes old within in
    let left = n - length bytes in
    let behind : (l : List ℕ) → drop left (drop (at + length bytes) l) ≡ drop (at + n) l =
    λ l. drop-drop left (at + length bytes) l ∙ ap (λ (k : ℕ). drop k l) (omega (arith, part)) in
    record {
      before = whole.before;
      after = sym (behind (overwritten at bytes old)) ∙ ap (λ (l : List ℕ). drop left l) whole.after ∙ behind old;
      no_shorter = whole.no_shorter;
      no_longer = omega (arith, whole.no_longer, part);
    }

pub calls-keep-sound : CallsKeepSound
calls-keep-sound = record {
  fresh = λ bytes. record { run = tt; size = omega arith; image = refl };
  rests = λ disk sound. record { run = sound.run; size = sound.size; image = sound.image };
  writes = λ disk at bytes within sound.
      let torn = torn_whole at bytes disk.bytes within in
      record {
        run = (omega (arith, within, sound.size), sound.run);
        size = omega (arith, torn.no_longer, sound.size);
        image = (disk.bytes, sound.image, torn);
      };
  fails_write = λ old new at n within failed sound.
      let run : IsRun (write at n ∷ old.steps) = (omega (arith, within, sound.size), sound.run) in
      let size : length new.bytes ≤ greatest (write at n ∷ old.steps) =
      omega (arith, failed.bytes.no_longer, sound.size) in
      let image : IsImage (write at n ∷ old.steps) new.bytes = (old.bytes, sound.image, failed.bytes) in
      record {
        run = subst (λ (s : List Step). IsRun s) (sym failed.steps) run;
        size = subst (λ (s : List Step). length new.bytes ≤ greatest s) (sym failed.steps) size;
        image = subst (λ (s : List Step). IsImage s new.bytes) (sym failed.steps) image;
      };
  cuts = λ disk n sound.
      let short : Shortened n disk.bytes (take n disk.bytes) = record {
        below = take_twice n disk.bytes;
        no_longer = omega (arith, length-take n disk.bytes);
      } in
      record {
        run = sound.run;
        size = omega (arith, length-take n disk.bytes, sound.size);
        image = (disk.bytes, sound.image, short);
      };
  fails_cut = λ old new n failed sound.
      let length_is : length new.bytes ≡ failed.size =
      ap length failed.bytes ∙ length-take failed.size old.bytes ∙ omega (arith, failed.most) in
      let short : Shortened n old.bytes new.bytes = record {
        below = ap (λ (l : List ℕ). take n l) failed.bytes ∙ take-take n failed.size old.bytes failed.least;
        no_longer = omega (arith, length_is, failed.most);
      } in
      let size : length new.bytes ≤ greatest (cut n ∷ old.steps) = omega (arith, short.no_longer, sound.size) in
      let image : IsImage (cut n ∷ old.steps) new.bytes = (old.bytes, sound.image, short) in
      record {
        run = subst (λ (s : List Step). IsRun s) (sym failed.steps) sound.run;
        size = subst (λ (s : List Step). length new.bytes ≤ greatest s) (sym failed.steps) size;
        image = subst (λ (s : List Step). IsImage s new.bytes) (sym failed.steps) image;
      };
  syncs = λ disk sound. record { run = tt; size = omega arith; image = refl };
}
  where
    take_twice : (n : ℕ) (l : List ℕ) → take n (take n l) ≡ take n l
    take_twice n l = grind (arith, take_all, length-take)

-- after each log of steps there is an image: no call has to change one
pub some-image : SomeImage
some-image [] = ([], refl)
some-image (still ∷ older) = some-image older
some-image (write at n ∷ older) =
    let before = some-image older in (
      before.0,
      (
        before.0,
        before.1,
        record {
          before = refl;
          after = refl;
          no_shorter = omega arith;
          no_longer = omega arith;
        },
      ),
    )
some-image (cut n ∷ older) =
    let before = some-image older in
    (before.0, (before.0, before.1, record { below = refl; no_longer = omega arith }))
some-image (sync bytes ∷ older) = (bytes, refl)
