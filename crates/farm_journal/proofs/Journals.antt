-- What holds of a journal after a call.
use Rattle.std.proofs.Common.{◌≡◌, ◌≢◌, ◌⊎◌, ⊎_elim, ◌≤◌, inl, ℕ, ◌+◌, Bool, true, List, [], ◌∷◌, ◌++◌, length, get_or, Option, Some, None, refl, sym, ◌∙◌, ap, subst, arith}
use Rattle.std.specs.Prelude.{Result, Ok, Err, IsErrOf, IsSome, if◌then◌else◌, ◌==◌}
use Rattle.std.proofs.lemmas.Bool.Decides.{nat_tests}
use Rattle.farm_disk.specs.Images.{DiskState, LeavesOnly, IsSettled}
use Rattle.farm_disk.proofs.Moments.{leaves_only-weaker}
use Rattle.farm_journal.specs.declared.disk_calls.DiskFault.{DiskFault}
use Rattle.farm_journal.specs.Layout.{holds, opens, version_of, gate_of}
use Rattle.farm_journal.specs.Found.{in_order}
use Rattle.farm_journal.specs.Gates.{Holds, IsEither, Stands, Waits, Rests}
use Rattle.farm_journal.specs.State.{IsBeforeOrAfter, IsHeld, IsPending, IsKept}
use Rattle.farm_journal.proofs.Public.{leaves-public, leaves-undone, rests-public, stands-public, version-either, version-stands, waits-public}
use Rattle.farm_journal.proofs.Run.{started}
use Rattle.farm_journal.specs.declared.layout.TheConstants.{VERSION_1}
use Rattle.farm_journal.proofs.Openings.{holds-opens}
use Rattle.farm_journal.proofs.Scan.{gate_of-push}

-- a payload is pending, or none is
none-some : (pending : Option (List ℕ)) (p : List ℕ) → pending ≡ None → pending ≡ Some p → ⊥
none-some pending p idle waits = cc

-- what a call answered that wasn't done
pub err-is : (e f : DiskFault) → e ≡ f → IsErrOf {T = Unit {0}} (Err e) f
err-is e f same =
    let answer : DiskFault → Result (Unit {0}) DiskFault = λ x. Err x in
    ap answer same

module _ {D : Type 0} (tells : D → Bool) (told : D → DiskState) (d e : D) (same : d ≡ e) (ps qs : List (List ℕ))
    (is : ps ≡ qs) (v gate : ℕ) (p : List ℕ) where
  -- the images of each moment of a call
  pub any-moment : (now : DiskState) → (tells d ≡ true → Rests v ps gate (told d))
      → (tells d ≡ true → (rs : List (List ℕ)) → Rests v rs gate (told d)
      → LeavesOnly (told d) now (IsEither 1 rs gate p)) → tells e ≡ true
      → LeavesOnly (told e) now (IsBeforeOrAfter qs p)
  any-moment now rests leaves = subst (λ (x : D). tells x ≡ true → LeavesOnly (told x) now (IsBeforeOrAfter qs p)) same
      (λ t. subst (λ (l : List (List ℕ)). LeavesOnly (told d) now (IsBeforeOrAfter l p)) is
      (leaves-public 1 ps gate p (told d) now (leaves t ps (rests t))))

  -- before the first call
  pub no-moment : (tells d ≡ true → Rests v ps gate (told d)) → tells e ≡ true
      → LeavesOnly (told e) (told d) (IsBeforeOrAfter qs p)
  no-moment rests = subst (λ (x : D). tells x ≡ true → LeavesOnly (told x) (told d) (IsBeforeOrAfter qs p)) same
      (λ t. subst (λ (l : List (List ℕ)). LeavesOnly (told d) (told d) (IsBeforeOrAfter l p)) is
      (leaves-public v ps gate p (told d) (told d) (started v ps gate p (told d) (rests t)).images))

  -- before the first call, without the new payload
  pub not-begun : (tells d ≡ true → Rests v ps gate (told d)) → tells e ≡ true
      → LeavesOnly (told e) (told d) (λ c. opens c ≡ holds qs)
  not-begun rests =
      subst (λ (x : D). tells x ≡ true → LeavesOnly (told x) (told d) (λ c. opens c ≡ holds qs)) same
      (λ t. subst (λ (l : List (List ℕ)). LeavesOnly (told d) (told d) (λ c. opens c ≡ holds l)) is
      (stands-public 1 ps gate (told d) (told d)
      (leaves-undone v ps gate (told d) (told d) (rests t) (inl refl))))

  -- where nothing of the new payload was written
  pub only-before : (now : DiskState) → (tells d ≡ true → LeavesOnly (told d) now (Stands 1 ps gate)) → tells e ≡ true
      → LeavesOnly (told e) now (λ c. opens c ≡ holds qs)
  only-before now leaves =
      subst (λ (x : D). tells x ≡ true → LeavesOnly (told x) now (λ c. opens c ≡ holds qs)) same
      (λ t. subst (λ (l : List (List ℕ)). LeavesOnly (told d) now (λ c. opens c ≡ holds l)) is
      (stands-public 1 ps gate (told d) now (leaves t)))

  -- what is held still
  pub still-held : (w : ℕ) (now : DiskState) → (tells d ≡ true → Rests w ps gate now) → tells e ≡ true → IsHeld qs now
  still-held w now rests =
      subst (λ (x : D). tells x ≡ true → IsHeld qs now) same
      (λ t. subst (λ (l : List (List ℕ)). IsHeld l now) is (rests-public w ps gate now (rests t)))

  -- what is held before a call
  pub now-held : (tells d ≡ true → Rests v ps gate (told d)) → tells e ≡ true → IsHeld qs (told d)
  now-held rests =
      subst (λ (x : D). tells x ≡ true → IsHeld qs (told d)) same
      (λ t. subst (λ (l : List (List ℕ)). IsHeld l (told d)) is (rests-public v ps gate (told d) (rests t)))

  -- what is held with the new payload
  pub held-more : (gate' : ℕ) (now : DiskState) → (tells d ≡ true → Rests 2 (ps ++ p ∷ []) gate' now) → tells e ≡ true
      → IsHeld (qs ++ p ∷ []) now
  held-more gate' now rests = subst (λ (x : D). tells x ≡ true → IsHeld (qs ++ p ∷ []) now) same
      (λ t. subst (λ (l : List (List ℕ)). IsHeld (l ++ p ∷ []) now) is
      (rests-public 2 (ps ++ p ∷ []) gate' now (rests t)))

  -- the version that is read with the new payload
  pub reads-new : (gate' : ℕ) (now : DiskState) → (tells d ≡ true → Rests 2 (ps ++ p ∷ []) gate' now) → tells e ≡ true
      → version_of now.bytes ≡ 2
  reads-new gate' now rests = subst (λ (x : D). tells x ≡ true → version_of now.bytes ≡ 2) same
      (λ t. version-stands (ps ++ p ∷ []) gate' now.bytes (rests t).stands)

  -- a file of version 2 stays one
  pub stays-new : (y : ℕ) (now : DiskState) → v ≡ y → (tells d ≡ true → Rests v ps gate (told d))
      → (v ≡ 2 → tells d ≡ true → (rs : List (List ℕ)) → Rests 2 rs gate (told d)
      → LeavesOnly (told d) now (IsEither 2 rs gate p)) → y ≡ 2 → tells e ≡ true
      → LeavesOnly (told e) now (λ c. version_of c ≡ 2)
  stays-new y now kept rests leaves two =
      let new : v ≡ 2 = kept ∙ two in
      subst (λ (x : D). tells x ≡ true → LeavesOnly (told x) now (λ c. version_of c ≡ 2)) same
      (λ t. leaves_only-weaker (told d) now (IsEither 2 ps gate p) (λ c. version_of c ≡ 2) (version-either ps gate p)
      (leaves new t ps (subst (λ (k : ℕ). Rests k ps gate (told d)) new (rests t))))

  -- the same before the first call
  pub stays-idle : (y : ℕ) → v ≡ y → (tells d ≡ true → Rests v ps gate (told d)) → y ≡ 2 → tells e ≡ true
      → LeavesOnly (told e) (told d) (λ c. version_of c ≡ 2)
  stays-idle y kept rests two =
      subst (λ (x : D). tells x ≡ true → LeavesOnly (told x) (told d) (λ c. version_of c ≡ 2)) same
      (λ t. leaves_only-weaker (told d) (told d) (IsEither 2 ps gate p) (λ c. version_of c ≡ 2) (version-either ps gate p)
      (started 2 ps gate p (told d) (subst (λ (k : ℕ). Rests k ps gate (told d)) (kept ∙ two) (rests t))).images)

  -- what an upgrade leaves behind the closed gate
  pub cut-behind : (w y : ℕ) (now : DiskState) → gate ≡ gate_of ps → v ≡ y
      → (w ≡ v) ⊎ (tells d ≡ true → length now.bytes ≤ gate + 6 + length p) → w ≢ y → tells e ≡ true
      → length now.bytes ≤ gate_of (qs ++ p ∷ []) + 1
  cut-behind w y now at kept one other t = ⊎_elim
      (λ (still : w ≡ v). absurd (other (still ∙ kept)))
      (λ (cut : tells d ≡ true → length now.bytes ≤ gate + 6 + length p).
      subst (λ (l : List (List ℕ)). length now.bytes ≤ gate_of (l ++ p ∷ []) + 1) is
      (omega (arith, at, gate_of-push ps p, cut (subst (λ (x : D). tells x ≡ true) (sym same) t))))
      one

  -- what is pending
  pub now-pending : (w : ℕ) (now : DiskState) → (tells d ≡ true → Waits w ps gate p now) → tells e ≡ true
      → IsPending qs p now
  now-pending w now waits = subst (λ (x : D). tells x ≡ true → IsPending qs p now) same
      (λ t. subst (λ (l : List (List ℕ)). IsPending l p now) is (waits-public w ps gate p now (waits t)))

-- the invariant after an append
pub kept-appended : {D : Type 0} (tells : D → Bool) (told : D → DiskState) (d e : D) (past past' : List (List ℕ))
    (copy p : List ℕ) (pending : Option (List ℕ)) (gate v w : ℕ)
    → past' ≡ copy ∷ past → copy ≡ p → pending ≡ None → gate ≡ gate_of (in_order past) → tells e ≡ tells d → w ≡ 2
    → (tells d ≡ true → Rests 2 (in_order past ++ p ∷ []) (gate + 5 + length p) (told e))
    → IsKept tells told (in_order past') pending (gate + (5 + length p)) w e
kept-appended tells told d e past past' copy p pending gate v w told_is copied idle gate_is same two rests =
    let ps : in_order past ++ p ∷ [] ≡ in_order past' =
    sym (ap in_order told_is ∙ ap (λ (q : List ℕ). in_order past ++ q ∷ []) copied) in
    let at : gate + 5 + length p ≡ gate + (5 + length p) = omega arith in
    record {
      gate_is = sum gate_is (gate_of-push (in_order past) p) ∙ ap gate_of ps;
      rests = λ none t.
          subst (λ (k : ℕ). Rests k (in_order past') (gate + (5 + length p)) (told e)) (sym two)
          (subst (λ (l : List (List ℕ)). Rests 2 l (gate + (5 + length p)) (told e)) ps
          (subst (λ (k : ℕ). Rests 2 (in_order past ++ p ∷ []) k (told e)) at (rests (sym same ∙ t))));
      waits = λ q some t. absurd (none-some pending q idle some);
      fits = λ q some. absurd (none-some pending q idle some);
    }
  where
    sum : gate ≡ gate_of (in_order past) → gate_of (in_order past ++ p ∷ []) ≡ gate_of (in_order past) + 5 + length p
        → gate + (5 + length p) ≡ gate_of (in_order past ++ p ∷ [])
    sum here more = omega (arith, here, more)

-- the invariant after running out of memory
pub kept-same : {D : Type 0} (tells : D → Bool) (told : D → DiskState) (d e : D) (ps : List (List ℕ))
    (pending : Option (List ℕ)) (gate w : ℕ)
    → pending ≡ None → gate ≡ gate_of ps → tells e ≡ tells d → (tells d ≡ true → Rests w ps gate (told e))
    → IsKept tells told ps pending gate w e
kept-same tells told d e ps pending gate w idle gate_is same rests = record {
  gate_is = gate_is;
  rests = λ none t. rests (sym same ∙ t);
  waits = λ q some t. absurd (none-some pending q idle some);
  fits = λ q some. absurd (none-some pending q idle some);
}

-- the invariant after a repair that found the payload kept
pub kept-kept : {D : Type 0} (tells : D → Bool) (told : D → DiskState) (d e : D) (past past' : List (List ℕ))
    (p : List ℕ) (none : Option (List ℕ)) (gate : ℕ)
    → past' ≡ p ∷ past → none ≡ None → gate ≡ gate_of (in_order past) → tells e ≡ tells d
    → (tells d ≡ true → Rests 2 (in_order past ++ p ∷ []) (gate + 5 + length p) (told e))
    → IsKept tells told (in_order past') none (gate + (5 + length p)) 2 e
kept-kept tells told d e past past' p none gate told_is idle gate_is same rests =
    kept-appended tells told d e past past' p p none gate 2 2 told_is refl idle gate_is same refl rests

-- a payload that is there
pub some-value : (pending : Option (List ℕ)) → IsSome pending → (p : List ℕ) × (pending ≡ Some p)
some-value None is = let no : ⊥ = cc in absurd no
some-value (Some p) is = (p, refl)

-- the invariant after a repair that failed
pub kept-waiting : {D : Type 0} (tells : D → Bool) (told : D → DiskState) (d e : D) (ps : List (List ℕ))
    (pending : Option (List ℕ)) (gate v : ℕ)
    → IsSome pending → IsKept tells told ps pending gate v d → tells e ≡ tells d
    → (tells d ≡ true → (p : List ℕ) → Waits v ps gate p (told d) → Waits v ps gate p (told e))
    → IsKept tells told ps pending gate v e
kept-waiting tells told d e ps pending gate v is kept same waits =
    let some = some-value pending is in
    record {
      gate_is = kept.gate_is;
      rests = λ none t. absurd (none-some pending some.0 none some.1);
      waits = λ q held t. waits (sym same ∙ t) q (kept.waits q held (sym same ∙ t));
      fits = kept.fits;
    }

module _ {D : Type 0} (tells : D → Bool) (told : D → DiskState) (d e : D) (same : d ≡ e) (ps qs : List (List ℕ))
    (is : ps ≡ qs) (v gate : ℕ) (p : List ℕ) (waits : tells d ≡ true → Waits v ps gate p (told d)) where
  -- the images of each moment of a repair
  pub mend-moment : (now : DiskState)
      → (tells d ≡ true → Waits v ps gate p (told d) → LeavesOnly (told d) now (IsEither v ps gate p)) → tells e ≡ true
      → LeavesOnly (told e) now (IsBeforeOrAfter qs p)
  mend-moment now leaves = subst (λ (x : D). tells x ≡ true → LeavesOnly (told x) now (IsBeforeOrAfter qs p)) same
      (λ t. subst (λ (l : List (List ℕ)). LeavesOnly (told d) now (IsBeforeOrAfter l p)) is
      (leaves-public v ps gate p (told d) now (leaves t (waits t))))

  -- what waits still
  pub still-waits : (now : DiskState) → (tells d ≡ true → Waits v ps gate p (told d) → Waits v ps gate p now)
      → tells e ≡ true → IsPending qs p now
  still-waits now still = subst (λ (x : D). tells x ≡ true → IsPending qs p now) same
      (λ t. subst (λ (l : List (List ℕ)). IsPending l p now) is (waits-public v ps gate p now (still t (waits t))))

-- the invariant of a journal that was opened
pub kept-opened : {D : Type 0} (tells : D → Bool) (told : D → DiskState) (e : D) (bytes : List ℕ)
    (ps past : List (List ℕ)) (none : Option (List ℕ)) (gate version : ℕ)
    → none ≡ None → in_order past ≡ ps → gate ≡ gate_of ps → version ≡ version_of bytes
    → (tells e ≡ true → opens bytes ≡ holds ps) → (tells e ≡ true → (told e).bytes ≡ bytes)
    → (tells e ≡ true → IsSettled (told e))
    → IsKept tells told (in_order past) none gate version e
kept-opened tells told e bytes ps past none gate version idle order gate_is version_is opened same settled = record {
  gate_is = gate_is ∙ ap gate_of (sym order);
  rests = λ is t.
      let held : Holds (get_or bytes 15 0) (in_order past) gate bytes =
      subst (λ (k : ℕ). Holds (get_or bytes 15 0) (in_order past) k bytes) (ap gate_of order ∙ sym gate_is)
      (holds-opens (in_order past) bytes (opened t ∙ ap (λ (l : List (List ℕ)). holds l) (sym order))) in
      record {
        stands = record {
          version = get_or bytes 15 0;
          is_new = λ two. newer (get_or bytes 15 0) (sym version_is ∙ two);
          held = subst (Holds (get_or bytes 15 0) (in_order past) gate) (sym (same t)) held;
        };
        settled = settled t;
      };
  waits = λ q some t. absurd (none-some none q idle some);
  fits = λ q some. absurd (none-some none q idle some);
}
  where
    newer : (byte : ℕ) → if◌then◌else◌ {A = ℕ} (byte == VERSION_1) 1 2 ≡ 2 → byte ≢ VERSION_1
    newer byte is = λ old.
        let test : (byte == VERSION_1) ≡ true = grind (arith, nat_tests, old) in
        let no : 1 ≡ 2 = sym (ap (λ (b : Bool). if◌then◌else◌ {A = ℕ} b 1 2) test) ∙ is in
        absurd (omega (arith, no))

-- an answer that was found
abbrev pub answered : Bool → Result Bool DiskFault
answered fresh = Ok fresh

-- the journal that was created
pub created-held : (new : DiskState) (fresh : Bool) (p q : List ℕ) → fresh ≡ true → p ≡ q
    → (answered fresh ≡ answered true → Rests 2 (p ∷ []) (gate_of (p ∷ [])) new) → IsHeld (q ∷ []) new
created-held new fresh p q is same rests =
    subst (λ (l : List ℕ). IsHeld (l ∷ []) new) same
    (rests-public 2 (p ∷ []) (gate_of (p ∷ [])) new (rests (ap answered is)))

-- the version that is read of it
pub created-new : (new : DiskState) (fresh : Bool) (p : List ℕ) → fresh ≡ true
    → (answered fresh ≡ answered true → Rests 2 (p ∷ []) (gate_of (p ∷ [])) new) → version_of new.bytes ≡ 2
created-new new fresh p is rests =
    version-stands (p ∷ []) (gate_of (p ∷ [])) new.bytes (rests (ap answered is)).stands
