-- Where a commit repeats, position by position.
use Rattle.std.proofs.Common.{◌≡◌, ◌≢◌, ℕ, zero, suc, ◌+◌, ◌-◌, ◌<◌, ◌≤◌, Bool, false, cond, ◌||◌, List, [], ◌∷◌, length, map, take, get_or, Some, None, find, AllPairs, inl, inr, refl, sym, ap, ◌∙◌, add-one, arith}
use Rattle.std.proofs.lemmas.Bool.{cases_Bool, cases_eq, false≢true}
use Rattle.std.proofs.lemmas.List.{get_or-map, get_or-take, get_or_default, length-map, length-take, take-map}
use Rattle.std.proofs.lemmas.List.Folds.{list_any_at, list_any_none}
use Rattle.std.specs.List.{list_any, range_with_len}
use Rattle.farm_types.specs.CommitId.{same_id}
use Rattle.farm_types.specs.declared.commit_id.CommitId.{CommitId}
use Rattle.farm_types.proofs.SameValues.{same_id-Decides}
use Rattle.suspect_range.specs.Faults.{first_repeat, is_among, is_repeat}
use Rattle.suspect_range.specs.Range.{commit_at, commits_of}
use Rattle.suspect_range.specs.declared.suspect.Suspect.{Suspect}

module _ (p : ℕ → Bool) where
  -- of the positions that are left, the next one decides
  pub find-next : (i n : ℕ) → i < n
      → find p (range_with_len (i + 1) (n - i)) ≡ cond (p (i + 1)) (Some (i + 1)) (find p (range_with_len (i + 1 + 1) (n - (i + 1))))
  find-next i n within = let more : n - i ≡ suc (n - (i + 1)) = omega arith in rw more refl

  -- where none is found, each fails
  fails-from_none : (a n : ℕ) → find p (range_with_len a n) ≡ None → (k : ℕ) → a ≤ k → k < a + n → p k ≡ false
  fails-from_none a zero none k low high = absurd (omega arith)
  fails-from_none a (suc n) none k low high =
      elim (cases_Bool (p a)) [
        | inl passes ↦ cc (rw passes at none)
        | inr fails ↦
            elim (cases_eq k a) [
              | inl same ↦ rw same fails
              | inr other ↦ fails-from_none (a + 1) n (rw fails at none) k (omega arith) (omega arith)
            ]
      ]

  -- where each fails, none is found
  none-from_fails : (a n : ℕ) → ((k : ℕ) → a ≤ k → k < a + n → p k ≡ false) → find p (range_with_len a n) ≡ None
  none-from_fails a zero fails = refl
  none-from_fails a (suc n) fails =
      rw (fails a (omega arith) (omega arith)) (none-from_fails (a + 1) n (λ k low high. fails k (omega arith) (omega arith)))

-- a test of some element after a map
list_any-map : {X Y : Type 0} (p : X → Bool) (h : Y → X) (ys : List Y) → list_any p (map h ys) ≡ list_any (λ y. p (h y)) ys
list_any-map p h [] = refl
list_any-map p h (y ∷ ys) = ap (λ b. p (h y) || b) (list_any-map p h ys)

-- different ids, as the test says
pub differs : (a b : CommitId) → (a ≡ b → ⊥) → same_id a b ≡ false
differs a b apart =
    elim (cases_Bool (same_id a b)) [
      | inl same ↦ absurd (apart ((same_id-Decides a b).0 same))
      | inr other ↦ other
    ]

module _ (base : CommitId) (suspects : List Suspect) where
  -- a suspect repeats the base or an earlier suspect
  pub is_repeat-suspect : (i : ℕ) (d : Suspect) → i < length suspects
      → is_repeat base suspects (i + 1)
      ≡ (same_id base (get_or suspects i d).commit || is_among (get_or suspects i d).commit (take i suspects))
  is_repeat-suspect i d within =
      let here : get_or (map (λ suspect. suspect.commit) suspects) i base ≡ (get_or suspects i d).commit = get_or-map (λ suspect. suspect.commit) suspects i d base within in
      let front = take-map (λ (suspect : Suspect). suspect.commit) i suspects in
      let repeats = λ (commit : CommitId). same_id commit (get_or suspects i d).commit in
      ap (is_repeat base suspects) (add-one i)
      ∙ ap (λ (commit : CommitId). same_id base commit || list_any (λ earlier. same_id earlier commit) (take i (map (λ suspect. suspect.commit) suspects))) here
      ∙ ap (λ b. same_id base (get_or suspects i d).commit || b)
      (ap (list_any repeats) front ∙ list_any-map repeats (λ suspect. suspect.commit) (take i suspects))

  -- where it isn't the base's, an earlier suspect's
  pub is_repeat-not_base : (i : ℕ) (d : Suspect) → i < length suspects → same_id base (get_or suspects i d).commit ≡ false
      → is_repeat base suspects (i + 1) ≡ is_among (get_or suspects i d).commit (take i suspects)
  is_repeat-not_base i d within other =
      is_repeat-suspect i d within
      ∙ ap (λ b. b || is_among (get_or suspects i d).commit (take i suspects)) other

  -- the commit at a position, whatever stands past the end
  commit_at-get_or : (k : ℕ) (d : CommitId) → k ≤ length suspects → get_or (commits_of base suspects) k d ≡ commit_at base suspects k
  commit_at-get_or k d within =
      get_or_default (commits_of base suspects) k d base (omega (arith, length-map suspects (λ (s : Suspect). s.commit)))

  -- where none repeats, all commits differ
  pub distinct-from_none : first_repeat base suspects ≡ None → AllPairs (λ a b. a ≢ b) (commits_of base suspects)
  distinct-from_none none i j d before within same =
      let count = length-map suspects (λ (s : Suspect). s.commit) in
      let fails = fails-from_none (is_repeat base suspects) 1 (length suspects) none j (omega arith) (omega (arith, count)) in
      let earlier = take j (commits_of base suspects) in
      let equal : get_or earlier i d ≡ commit_at base suspects j =
      get_or-take j (commits_of base suspects) i d before ∙ same ∙ commit_at-get_or j d (omega (arith, count)) in
      let found =
      list_any_at (λ commit. same_id commit (commit_at base suspects j)) earlier i d
      (omega (arith, length-take j (commits_of base suspects)))
      ((same_id-Decides _ _).1 equal) in
      false≢true (sym fails ∙ found)

  -- where all commits differ, none repeats
  pub none-from_distinct : AllPairs (λ a b. a ≢ b) (commits_of base suspects) → first_repeat base suspects ≡ None
  none-from_distinct distinct =
      let count = length-map suspects (λ (s : Suspect). s.commit) in
      none-from_fails (is_repeat base suspects) 1 (length suspects) (λ k low high.
      list_any_none (λ commit. same_id commit (commit_at base suspects k)) (take k (commits_of base suspects)) (λ i d before.
      let earlier : i < k = omega (arith, length-take k (commits_of base suspects)) in
      let taken = get_or-take k (commits_of base suspects) i d earlier in
      differs (get_or (take k (commits_of base suspects)) i d) (commit_at base suspects k) (λ same.
      distinct i k d earlier (omega (arith, count)) (sym taken ∙ same ∙ sym (commit_at-get_or k d (omega arith))))))
