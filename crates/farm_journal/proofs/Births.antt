-- What each step of creating a journal leaves.
use Rattle.std.proofs.Common.{◌≡◌, ◌≢◌, inl, inr, ⊎_elim, ◌≤◌, ◌+◌, ℕ, Bool, true, nat_le, ◌||◌, List, [], ◌∷◌, ◌++◌, length, get_or, take, drop, Result, Ok, Err, refl, sym, ◌∙◌, ap, subst, arith, append-nil, append_assoc, length-append}
use Rattle.std.specs.Prelude.{if◌then◌else◌, ◌==◌}
use Rattle.std.proofs.Math.ListN.{drop_of_length-le}
use Rattle.std.proofs.lemmas.Bool.{cases_eq}
use Rattle.std.proofs.lemmas.Bool.Decides.{nat_tests}
use Rattle.std.proofs.lemmas.List.{drop_more, get_or-take}
use Rattle.farm_disk.specs.Images.{DiskState, EachImage, LeavesOnly, LeavesSinceSync, IsSettled, Torn, write, sync, overwritten}
use Rattle.farm_disk.specs.Answers.{rested, after_write, after_sync}
use Rattle.farm_disk.proofs.Moments.{leaves_only-start, leaves_only-step, leaves_only-rested, leaves_only-trans, leaves_only-weaker, since_sync-run, synced-le, torn-settled, settled-sync}
use Rattle.farm_journal.specs.Layout.{framed, IsPayload, unborn, is_unborn, opens_born, header_fault, gate_of}
use Rattle.farm_journal.specs.Gates.{header, Holds, Rests}
use Rattle.farm_journal.specs.Created.{IsUnborn, IsUnbornOrFirst, IsReady}
use Rattle.farm_journal.specs.Outcome.{WriteEnds, SyncEnds}
use Rattle.farm_journal.specs.declared.layout.TheConstants.{MAGIC, VERSION_2}
use Rattle.farm_journal.specs.declared.disk_calls.DiskFault.{DiskFault}
use Rattle.farm_journal.specs.declared.disk_calls.DiskFault.TheVariants as fault
use Rattle.farm_journal.proofs.Bytes.{framed-record, length-framed}
use Rattle.farm_journal.proofs.Openings.{opens-holds}

-- a file that the test finds unborn
pub test-unborn : (c : List ℕ) → is_unborn c ≡ true → IsUnborn c
test-unborn c is = ap (λ (b : Bool). if b then unborn else opens_born (header_fault c) c) is

pub short-unborn : (c : List ℕ) → length c ≤ 1 → IsUnborn c
short-unborn c short = test-unborn c (test (length c) (get_or c 0 0) short)
  where
    test : (n b : ℕ) → n ≤ 1 → (nat_le n 1 || b == 0) ≡ true
    test n b few = grind (arith, nat_tests, few)

pub zero-unborn : (c : List ℕ) → get_or c 0 0 ≡ 0 → IsUnborn c
zero-unborn c birth = test-unborn c (test (length c) (get_or c 0 0) birth)
  where
    test : (n b : ℕ) → b ≡ 0 → (nat_le n 1 || b == 0) ≡ true
    test n b is = grind (arith, nat_tests, is)

module _ (first : DiskState) (P : List ℕ → Type 0) where
  pub birth-sync : (mid now : DiskState) (r : Result (Unit {0}) DiskFault) → LeavesOnly first mid P → P mid.bytes
      → SyncEnds r mid now → LeavesOnly first now P
  birth-sync mid now (Ok u) leaves read is =
      leaves_only-step first mid now P (sync mid.bytes) leaves (ap (λ (d : DiskState). d.steps) is)
      (λ c image. subst P (sym image) read)
  birth-sync mid now (Err e) leaves read is = leaves_only-rested first mid now P leaves is

  pub birth-write : (at : ℕ) (bytes : List ℕ) (mid now : DiskState) (r : Result (Unit {0}) DiskFault)
      → LeavesOnly first mid P → IsSettled mid → ((c : List ℕ) → Torn at (length bytes) mid.bytes c → P c)
      → WriteEnds at bytes r mid now → LeavesOnly first now P
  birth-write at bytes mid now r leaves settled torn is = by r is
    where
      each : EachImage (write at (length bytes) ∷ mid.steps) P
      each c image = torn c (torn-settled mid at (length bytes) settled c image)

      by : (r : Result (Unit {0}) DiskFault) → WriteEnds at bytes r mid now → LeavesOnly first now P
      by (Ok u) is =
          leaves_only-step first mid now P (write at (length bytes)) leaves (ap (λ (d : DiskState). d.steps) is) each
      by (Err fault.Failed) is = leaves_only-step first mid now P (write at (length bytes)) leaves is.steps each
      by (Err fault.Memory) is = leaves_only-rested first mid now P leaves is

-- the start of either
pub birth-start : (first : DiskState) (P : List ℕ → Type 0) → IsSettled first → P first.bytes → LeavesOnly first first P
birth-start first P settled read = leaves_only-start first P (λ c image. subst P (sym (settled c image)) read)

-- the birth byte over at most one byte
pub torn-short : (old c : List ℕ) → length old ≤ 1 → Torn 0 1 old c → IsUnborn c
torn-short old c short torn = short-unborn c (omega (arith, short, torn.no_longer))

pub begun : (old wrote now : DiskState) → length old.bytes ≤ 1 → wrote ≡ after_write 0 (0 ∷ []) old
    → now ≡ after_sync wrote → IsReady now
begun old wrote now short written synced =
    let bytes : now.bytes ≡ 0 ∷ [] =
    ap (λ (d : DiskState). d.bytes) synced ∙ ap (λ (d : DiskState). d.bytes) written
    ∙ ap (λ (l : List ℕ). 0 ∷ l) (drop_of_length-le old.bytes short) in
    record {
      long = omega (arith, ap length bytes);
      birth = ap (λ (l : List ℕ). get_or l 0 0) bytes;
      settled = settled-sync wrote now synced;
    }

-- what stands behind the birth byte
abbrev pub body : List ℕ → List ℕ → List ℕ
body p rest = (MAGIC ++ VERSION_2 ∷ 1 ∷ framed p) ++ 0 ∷ rest

-- the file with a birth byte that isn't 0
pub first-holds : (b : ℕ) (p rest c : List ℕ) → b ≢ 0 → IsPayload p → c ≡ b ∷ body p rest
    → Holds VERSION_2 (p ∷ []) (gate_of (p ∷ [])) c
first-holds b p rest c born fits is = record {
  front = header b VERSION_2 ++ 1 ∷ framed p;
  rest = rest;
  chain = record {
    birth = b;
    chained = 1 ∷ framed p;
    born = born;
    chain = (1, framed p, [], λ e. absurd (omega (arith, e)), framed-record p fits, chained, refl);
    whole = refl;
  };
  at = omega (arith, length-append (header b VERSION_2) (1 ∷ framed p), length-framed p);
  whole = is;
}
  where
    chained : 1 ∷ framed p ≡ 1 ∷ framed p ++ []
    chained = ap (λ (l : List ℕ). 1 ∷ l) (sym (append-nil (framed p)))

pub first-either : (b : ℕ) (p rest c : List ℕ) → IsPayload p → c ≡ b ∷ body p rest → IsUnbornOrFirst p c
first-either b p rest c fits is = ⊎_elim
    (λ (zero_is : b ≡ 0). inl (zero-unborn c (ap (λ (l : List ℕ). get_or l 0 0) is ∙ zero_is)))
    (λ (born : b ≢ 0). inr (opens-holds VERSION_2 (p ∷ []) (gate_of (p ∷ [])) c (first-holds b p rest c born fits is)))
    (cases_eq b 0)

-- a write behind the birth byte
pub torn-behind : (n : ℕ) (old c : List ℕ) → get_or old 0 0 ≡ 0 → Torn 1 n old c → get_or c 0 0 ≡ 0
torn-behind n old c birth torn =
    sym (get_or-take 1 c 0 0 (omega arith)) ∙ ap (λ (l : List ℕ). get_or l 0 0) torn.before
    ∙ get_or-take 1 old 0 0 (omega arith) ∙ birth

-- all but the birth byte is written
pub staged-birth : (p frame : List ℕ) (old : DiskState) → IsReady old
    → frame ≡ MAGIC ++ VERSION_2 ∷ 1 ∷ framed p ++ 0 ∷ []
    → (rest : List ℕ) × (overwritten 1 frame old.bytes ≡ 0 ∷ body p rest)
staged-birth p frame old ready is =
    let rest = drop (1 + length frame) old.bytes in
    let front : old.bytes ≡ 0 ∷ drop 1 old.bytes =
    drop_more old.bytes 0 0 (omega (arith, ready.long)) ∙ ap (λ (b : ℕ). b ∷ drop 1 old.bytes) ready.birth in
    let first : take 1 old.bytes ≡ 0 ∷ [] = ap (λ (l : List ℕ). take 1 l) front in (
      rest,
      ap (λ (l : List ℕ). l ++ frame ++ rest) first ∙ ap (λ (l : List ℕ). 0 ∷ (l ++ rest)) is
          ∙ ap (λ (l : List ℕ). 0 ∷ l) (append_assoc (MAGIC ++ VERSION_2 ∷ 1 ∷ framed p) (0 ∷ []) rest),
    )

-- whatever a write of the birth byte leaves
pub torn-birth : (p rest old c : List ℕ) → IsPayload p → old ≡ 0 ∷ body p rest → Torn 0 1 old c → IsUnbornOrFirst p c
torn-birth p rest old c fits is torn =
    let long : 1 ≤ length c = omega (arith, torn.no_shorter, ap length is) in
    let whole : c ≡ get_or c 0 0 ∷ body p rest =
    drop_more c 0 0 (omega (arith, long))
    ∙ ap (λ (l : List ℕ). get_or c 0 0 ∷ l) (torn.after ∙ ap (λ (l : List ℕ). drop 1 l) is) in
    first-either (get_or c 0 0) p rest c fits whole

-- the birth byte written
pub written-birth : (p rest old : List ℕ) → old ≡ 0 ∷ body p rest → overwritten 0 (1 ∷ []) old ≡ 1 ∷ body p rest
written-birth p rest old is = ap (λ (l : List ℕ). 1 ∷ drop 1 l) is

pub first-rests : (p rest : List ℕ) (mid wrote now : DiskState) → IsPayload p → mid.bytes ≡ 0 ∷ body p rest
    → wrote ≡ after_write 0 (1 ∷ []) mid → now ≡ after_sync wrote → Rests 2 (p ∷ []) (gate_of (p ∷ [])) now
first-rests p rest mid wrote now fits is written synced =
    let bytes : now.bytes ≡ 1 ∷ body p rest =
    ap (λ (d : DiskState). d.bytes) synced ∙ ap (λ (d : DiskState). d.bytes) written
    ∙ written-birth p rest mid.bytes is in
    record {
      stands = record {
        version = VERSION_2;
        is_new = λ two old. absurd (omega (arith, old));
        held = first-holds 1 p rest now.bytes (λ e. absurd (omega (arith, e))) fits bytes;
      };
      settled = settled-sync wrote now synced;
    }

-- after the first birth byte the file is unborn
pub written-unborn : (old wrote : DiskState) → length old.bytes ≤ 1 → wrote ≡ after_write 0 (0 ∷ []) old
    → IsUnborn wrote.bytes
written-unborn old wrote short written = zero-unborn wrote.bytes (ap (λ (d : DiskState). get_or d.bytes 0 0) written)

-- a disk that is unborn, before the first write
pub unborn-start : (p : List ℕ) (first now : DiskState) → IsSettled first → is_unborn first.bytes ≡ true
    → now ≡ rested first → LeavesOnly first now (IsUnbornOrFirst p)
unborn-start p first now settled test is =
    leaves_only-rested first first now (IsUnbornOrFirst p)
    (birth-start first (IsUnbornOrFirst p) settled (inl (test-unborn first.bytes test))) is

pub unborn-still : (first now : DiskState) → IsSettled first → is_unborn first.bytes ≡ true → now ≡ rested first
    → LeavesOnly first now IsUnborn
unborn-still first now settled test is =
    leaves_only-rested first first now IsUnborn
    (birth-start first IsUnborn settled (test-unborn first.bytes test)) is

-- the first birth byte, and what comes after it
pub unborn-begun : (p : List ℕ) (first mid now : DiskState) → LeavesOnly first mid (IsUnbornOrFirst p)
    → LeavesOnly mid now IsUnborn → LeavesOnly first now (IsUnbornOrFirst p)
unborn-begun p first mid now leaves more =
    leaves_only-trans first mid now (IsUnbornOrFirst p) leaves
    (leaves_only-weaker mid now IsUnborn (IsUnbornOrFirst p) (λ c is. inl is) more)

-- no call was made
pub since_sync-none : (disk : DiskState) (P : List ℕ → Type 0) → LeavesSinceSync disk disk P
since_sync-none disk P t later held = absurd (omega (arith, later, synced-le disk.steps t held))

-- each image is unborn before the first call
pub each-start : (p : List ℕ) (first : DiskState) → EachImage first.steps IsUnborn
    → LeavesOnly first first (IsUnbornOrFirst p)
each-start p first each = leaves_only-start first (IsUnbornOrFirst p) (λ c image. inl (each c image))

-- a sync, and what comes after it
pub synced-run : (p : List ℕ) (first mid now : DiskState) → mid ≡ after_sync first
    → LeavesOnly mid now (IsUnbornOrFirst p) → LeavesSinceSync first now (IsUnbornOrFirst p)
synced-run p first mid now is leaves =
    since_sync-run first mid now (IsUnbornOrFirst p) (ap (λ (d : DiskState). d.steps) is) leaves

pub synced-both : (p : List ℕ) (first mid now : DiskState) → EachImage first.steps IsUnborn
    → is_unborn first.bytes ≡ true → mid ≡ after_sync first → LeavesOnly mid now (IsUnbornOrFirst p)
    → LeavesOnly first now (IsUnbornOrFirst p)
synced-both p first mid now each test is leaves =
    leaves_only-trans first mid now (IsUnbornOrFirst p)
    (leaves_only-step first first mid (IsUnbornOrFirst p) (sync first.bytes) (each-start p first each)
    (ap (λ (d : DiskState). d.steps) is) (λ c image. inl (subst IsUnborn (sym image) (test-unborn first.bytes test))))
    leaves

pub synced-unborn : (first mid now : DiskState) → EachImage first.steps IsUnborn → is_unborn first.bytes ≡ true
    → mid ≡ after_sync first → LeavesOnly mid now IsUnborn → LeavesOnly first now IsUnborn
synced-unborn first mid now each test is leaves =
    leaves_only-trans first mid now IsUnborn
    (leaves_only-step first first mid IsUnborn (sync first.bytes) (leaves_only-start first IsUnborn each)
    (ap (λ (d : DiskState). d.steps) is) (λ c image. subst IsUnborn (sym image) (test-unborn first.bytes test)))
    leaves
