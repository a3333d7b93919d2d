-- What each step of an upgrade leaves.
use Rattle.std.proofs.Common.{◌≡◌, ◌<◌, ◌≤◌, arith, append_assoc, length-append, take-append-drop, get_or, take, drop, max, ℕ, ◌+◌, List, [], ◌∷◌, ◌++◌, length, Result, Ok, Err, refl, sym, ◌∙◌, ap, subst}
use Rattle.std.proofs.lemmas.List.{take_at, take-take, drop_at, drop_more, length-take, length-take-le}
use Rattle.farm_disk.specs.Images.{DiskState, EachImage, write, cut, sync, LeavesOnly, IsSettled, Torn, Shortened, overwritten}
use Rattle.farm_disk.specs.Answers.{rested, after_write, after_cut, after_sync, FailedCut}
use Rattle.farm_disk.proofs.Moments.{leaves_only-start, leaves_only-step, leaves_only-rested, torn-settled, settled-sync}
use Rattle.farm_journal.specs.Gates.{header, Holds, Stands, Rests}
use Rattle.farm_journal.specs.Outcome.{WriteEnds, SyncEnds, CutEnds}
use Rattle.farm_journal.specs.declared.layout.TheConstants.{MAGIC, VERSION_2}
use Rattle.farm_journal.specs.declared.disk_calls.DiskFault.{DiskFault}
use Rattle.farm_journal.specs.declared.disk_calls.DiskFault.TheVariants as fault

-- the header stands before the version byte, and the records behind it
pub parts : (v : ℕ) (ps : List (List ℕ)) (g : ℕ) (bytes : List ℕ) (held : Holds v ps g bytes)
    → bytes ≡ (held.chain.birth ∷ MAGIC) ++ v ∷ (held.chain.chained ++ 0 ∷ held.rest)
parts v ps g bytes held = held.whole ∙ ap (λ (l : List ℕ). l ++ 0 ∷ held.rest) held.chain.whole

-- with another version byte the payloads are the same
pub holds_version : (v w : ℕ) (ps : List (List ℕ)) (g : ℕ) (old new : List ℕ) (held : Holds v ps g old)
    → new ≡ (held.chain.birth ∷ MAGIC) ++ w ∷ (held.chain.chained ++ 0 ∷ held.rest) → Holds w ps g new
holds_version v w ps g old new held is =
    let size : length (header held.chain.birth w ++ held.chain.chained) ≡ length held.front =
    length-append (header held.chain.birth w) held.chain.chained
    ∙ sym (ap length held.chain.whole ∙ length-append (header held.chain.birth v) held.chain.chained) in
    record {
      front = header held.chain.birth w ++ held.chain.chained;
      rest = held.rest;
      chain = record {
        birth = held.chain.birth;
        chained = held.chain.chained;
        born = held.chain.born;
        chain = held.chain.chain;
        whole = refl;
      };
      at = size ∙ held.at;
      whole = is;
    }

before_version : (v : ℕ) (ps : List (List ℕ)) (g : ℕ) (bytes : List ℕ) (held : Holds v ps g bytes)
    → take 15 bytes ≡ held.chain.birth ∷ MAGIC
before_version v ps g bytes held =
    ap (λ (l : List ℕ). take 15 l) (parts v ps g bytes held)
    ∙ take_at (held.chain.birth ∷ MAGIC) (v ∷ (held.chain.chained ++ 0 ∷ held.rest)) 15 refl

behind_version : (v : ℕ) (ps : List (List ℕ)) (g : ℕ) (bytes : List ℕ) (held : Holds v ps g bytes)
    → drop 16 bytes ≡ held.chain.chained ++ 0 ∷ held.rest
behind_version v ps g bytes held =
    ap (λ (l : List ℕ). drop 16 l) (parts v ps g bytes held)
    ∙ drop_at (header held.chain.birth v) (held.chain.chained ++ 0 ∷ held.rest) 16 refl

-- whatever a write of the version byte leaves
pub holds_torn_version : (v : ℕ) (ps : List (List ℕ)) (g : ℕ) (old new : List ℕ) → Holds v ps g old → Torn 15 1 old new
    → Holds (get_or new 15 0) ps g new
holds_torn_version v ps g old new held torn =
    let tail = held.chain.chained ++ 0 ∷ held.rest in
    let size : 15 < length old =
    omega (arith, ap length (parts v ps g old held), length-append (held.chain.birth ∷ MAGIC) (v ∷ tail)) in
    let front : take 15 new ≡ held.chain.birth ∷ MAGIC = torn.before ∙ before_version v ps g old held in
    let back : drop 15 new ≡ get_or new 15 0 ∷ tail =
    drop_more new 15 0 (omega (arith, size, torn.no_shorter))
    ∙ ap (λ (l : List ℕ). get_or new 15 0 ∷ l) (torn.after ∙ behind_version v ps g old held) in
    holds_version v (get_or new 15 0) ps g old new held
    (sym (take-append-drop 15 new) ∙ ap (λ (l : List ℕ). l ++ drop 15 new) front
    ∙ ap (λ (l : List ℕ). (held.chain.birth ∷ MAGIC) ++ l) back)

-- the version byte written
pub holds_new_version : (v : ℕ) (ps : List (List ℕ)) (g : ℕ) (old : List ℕ) → Holds v ps g old
    → Holds VERSION_2 ps g (overwritten 15 (VERSION_2 ∷ []) old)
holds_new_version v ps g old held = holds_version v VERSION_2 ps g old (overwritten 15 (VERSION_2 ∷ []) old) held
    (ap (λ (l : List ℕ). l ++ (VERSION_2 ∷ []) ++ drop 16 old) (before_version v ps g old held)
    ∙ ap (λ (l : List ℕ). (held.chain.birth ∷ MAGIC) ++ VERSION_2 ∷ l) (behind_version v ps g old held))

-- the closed gate stands in each outcome of a cut behind it
holds_shortened : (v : ℕ) (ps : List (List ℕ)) (g : ℕ) (old new : List ℕ) → Holds v ps g old → Shortened (g + 1) old new
    → Holds v ps g new
holds_shortened v ps g old new held short =
    let split : old ≡ (held.front ++ 0 ∷ []) ++ held.rest =
    held.whole ∙ sym (append_assoc held.front (0 ∷ []) held.rest) in
    let size : length (held.front ++ 0 ∷ []) ≡ g + 1 = omega (arith, held.at, length-append held.front (0 ∷ [])) in
    let front : take (g + 1) new ≡ held.front ++ 0 ∷ [] =
    short.below ∙ ap (λ (l : List ℕ). take (g + 1) l) split ∙ take_at (held.front ++ 0 ∷ []) held.rest (g + 1) size in
    let whole : new ≡ held.front ++ 0 ∷ drop (g + 1) new =
    sym (take-append-drop (g + 1) new) ∙ ap (λ (l : List ℕ). l ++ drop (g + 1) new) front
    ∙ append_assoc held.front (0 ∷ []) (drop (g + 1) new) in
    record { front = held.front; rest = drop (g + 1) new; chain = held.chain; at = held.at; whole = whole }

-- a cut that failed is one of the ways to shorten
failed_cut-shortened : (n : ℕ) (old new : DiskState) → FailedCut n old new → Shortened n old.bytes new.bytes
failed_cut-shortened n old new failed = record {
  below = ap (λ (l : List ℕ). take n l) failed.bytes ∙ take-take n failed.size old.bytes failed.least;
  no_longer = omega (arith, ap length failed.bytes, length-take failed.size old.bytes);
}

-- where the version isn't known to be 2
pub any_version : (v : ℕ) (ps : List (List ℕ)) (g : ℕ) (bytes : List ℕ) → Holds v ps g bytes → Stands 1 ps g bytes
any_version v ps g bytes held = record {
  version = v;
  is_new = λ (two : 1 ≡ 2). absurd (omega (arith, two));
  held = held;
}

-- each image since the first state, and what a read gives, holds the payloads
pub record Same (ps : List (List ℕ)) (g : ℕ) (first now : DiskState) : Type 0 where
  pub images : LeavesOnly first now (Stands 1 ps g)
  pub reads : Stands 1 ps g now.bytes

module _ (ps : List (List ℕ)) (g : ℕ) (first : DiskState) (rests : Rests 1 ps g first) where
  start : LeavesOnly first first (Stands 1 ps g)
  start = leaves_only-start first (Stands 1 ps g)
      (λ c image. subst (Stands 1 ps g) (sym (rests.settled c image)) rests.stands)

  pub same-cut : (now : DiskState) (r : Result (Unit {0}) DiskFault) → CutEnds (g + 1) r first now → Same ps g first now
  same-cut now r is = record {
    images = leaves_only-step first first now (Stands 1 ps g) (cut (g + 1)) start (steps r is)
        (λ c image. shorter c (subst (λ (d : List ℕ). Shortened (g + 1) d c) (rests.settled image.0 image.1) image.2));
    reads = shorter now.bytes (short r is);
  }
    where
      shorter : (c : List ℕ) → Shortened (g + 1) first.bytes c → Stands 1 ps g c
      shorter c is_short =
          any_version rests.stands.version ps g c
          (holds_shortened rests.stands.version ps g first.bytes c rests.stands.held is_short)

      steps : (r : Result (Unit {0}) DiskFault) → CutEnds (g + 1) r first now → now.steps ≡ cut (g + 1) ∷ first.steps
      steps (Ok u) is = ap (λ (d : DiskState). d.steps) is
      steps (Err e) is = is.steps

      short : (r : Result (Unit {0}) DiskFault) → CutEnds (g + 1) r first now → Shortened (g + 1) first.bytes now.bytes
      short (Ok u) is =
          let whole : Shortened (g + 1) first.bytes (take (g + 1) first.bytes) = record {
            below = take-take (g + 1) (g + 1) first.bytes (omega arith);
            no_longer = omega (arith, length-take (g + 1) first.bytes);
          } in
          subst (λ (b : List ℕ). Shortened (g + 1) first.bytes b) (sym (ap (λ (d : DiskState). d.bytes) is)) whole
      short (Err e) is = failed_cut-shortened (g + 1) first now is

  pub same-rested : (mid now : DiskState) → Same ps g first mid → now ≡ rested mid → Same ps g first now
  same-rested mid now same is = record {
    images = leaves_only-rested first mid now (Stands 1 ps g) same.images is;
    reads = subst (Stands 1 ps g) (sym (ap (λ (d : DiskState). d.bytes) is)) same.reads;
  }

  pub same-sync : (mid now : DiskState) (r : Result (Unit {0}) DiskFault) → Same ps g first mid → SyncEnds r mid now
      → Same ps g first now
  same-sync mid now (Ok u) same is = record {
    images = leaves_only-step first mid now (Stands 1 ps g) (sync mid.bytes) same.images
        (ap (λ (d : DiskState). d.steps) is) (λ c image. subst (Stands 1 ps g) (sym image) same.reads);
    reads = subst (Stands 1 ps g) (sym (ap (λ (d : DiskState). d.bytes) is)) same.reads;
  }
  same-sync mid now (Err e) same is = same-rested mid now same is

  pub same-version : (mid now : DiskState) (r : Result (Unit {0}) DiskFault) → Same ps g first mid → IsSettled mid
      → WriteEnds 15 (VERSION_2 ∷ []) r mid now → Same ps g first now
  same-version mid now r same settled is = by r is
    where
      torn : (c : List ℕ) → Torn 15 1 mid.bytes c → Stands 1 ps g c
      torn c t = any_version (get_or c 15 0) ps g c
          (holds_torn_version same.reads.version ps g mid.bytes c same.reads.held t)

      each : EachImage (write 15 1 ∷ mid.steps) (Stands 1 ps g)
      each c image = torn c (torn-settled mid 15 1 settled c image)

      by : (r : Result (Unit {0}) DiskFault) → WriteEnds 15 (VERSION_2 ∷ []) r mid now → Same ps g first now
      by (Ok u) is = record {
        images = leaves_only-step first mid now (Stands 1 ps g) (write 15 1) same.images
            (ap (λ (d : DiskState). d.steps) is) each;
        reads = subst (Stands 1 ps g) (sym (ap (λ (d : DiskState). d.bytes) is))
            (any_version VERSION_2 ps g (overwritten 15 (VERSION_2 ∷ []) mid.bytes)
            (holds_new_version same.reads.version ps g mid.bytes same.reads.held));
      }
      by (Err fault.Failed) is = record {
        images = leaves_only-step first mid now (Stands 1 ps g) (write 15 1) same.images is.steps each;
        reads = torn now.bytes is.bytes;
      }
      by (Err fault.Memory) is = same-rested mid now same is

  -- after the last sync
  pub upgraded : (mid wrote now : DiskState) → Same ps g first mid → wrote ≡ after_write 15 (VERSION_2 ∷ []) mid
      → now ≡ after_sync wrote → Rests 2 ps g now
  upgraded mid wrote now same written synced = record {
    stands = record {
      version = VERSION_2;
      is_new = λ two old. absurd (omega (arith, old));
      held = subst (Holds VERSION_2 ps g)
          (sym (ap (λ (d : DiskState). d.bytes) synced ∙ ap (λ (d : DiskState). d.bytes) written))
          (holds_new_version same.reads.version ps g mid.bytes same.reads.held);
    };
    settled = settled-sync wrote now synced;
  }

-- nothing stands behind the gate afterwards
pub length-upgraded : (g : ℕ) (old short synced wrote now : DiskState) → g < length old.bytes → 16 ≤ g
    → short ≡ after_cut (g + 1) old → synced ≡ after_sync short → length synced.bytes ≤ length wrote.bytes
    → length wrote.bytes ≤ max (length synced.bytes) 16 → now ≡ after_sync wrote → length now.bytes ≡ g + 1
length-upgraded g old short synced wrote now within first is_short is_synced longer most is_now =
    let one : length short.bytes ≡ g + 1 =
    ap (λ (d : DiskState). length d.bytes) is_short ∙ length-take-le (g + 1) old.bytes (omega (arith, within)) in
    let two : length synced.bytes ≡ length short.bytes = ap (λ (d : DiskState). length d.bytes) is_synced in
    let last : length now.bytes ≡ length wrote.bytes = ap (λ (d : DiskState). length d.bytes) is_now in
    omega (arith, first, one, two, longer, most, last)
