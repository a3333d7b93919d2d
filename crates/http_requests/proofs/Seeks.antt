-- The router's walk over a table's rows, by parts.
use Rattle.std.proofs.Common.{◌≡◌, ℕ, zero, suc, ◌-◌, ◌<◌, List, [], ◌∷◌, ◌++◌, length, drop, Option, Some, None, Bool, true, false, not, ◌&&◌, cond, ◌⊎◌, inl, inr, ⊎_elim, refl, sym, ap, subst, ◌∙◌, arith, nat_eq, nat_lt, ◌==◌, ltb, bytes_eq}
use Rattle.std.proofs.lemmas.Bool.{and_parts, and_from, ltb-true, lt-ltb, not-true, false≢true}
use Rattle.std.proofs.lemmas.Bool.Decides.{nat_tests}
use Rattle.std.proofs.lemmas.List.{drop_all}
use Rattle.std.specs.List.{onto_first, ends_with}
use Rattle.matchit.specs.Rows.{RowsOf, param_token, catch_all_token}
use Rattle.matchit.specs.Level.{IsText}
use Rattle.matchit.specs.Seek.{own, step, or_else, seek, first, param_step, has_slash, segment, cuts, better, longest_from, longest_suffix, with_suffix}
use Rattle.http_requests.specs.Segments.{Segment, literal, parameter, slash, parts}
use Rattle.http_requests.specs.Walk.{tokens_of, after, is_plain, are_plain, rows_for, rows_after, ended, with_literal, with_parameter, pick, all_plain}

module _ {K : Type 0} where
  -- ---- a walk over no rows

  pub or_else-none : (a : Option K) → or_else a None ≡ a
  or_else-none None = refl
  or_else-none (Some k) = refl

  param_step-empty : (p : List ℕ) → (param_step {K = K} [] p).1 ≡ []
  unfolding param_step
  param_step-empty p =
      elim (has_slash p) as (λ v. (cond {A = ℕ × RowsOf K} v (0, []) (length p, [])).1 ≡ []) [
        | true ↦ refl
        | false ↦ refl
      ]

  seek-empty : (k : ℕ) (p : List ℕ) → seek {K = K} k [] p ≡ None
  unfolding seek
  seek-empty k [] = refl
  seek-empty (suc k) (b ∷ p) = seek-empty k p
  seek-empty zero (b ∷ p) = simp (seek-empty 0 p, param_step-empty (b ∷ p), seek-empty (((param_step {K = K} [] (b ∷ p)).0) - 1) p)

  seek-end : (r : RowsOf K) → seek 0 r [] ≡ own r
  unfolding seek
  seek-end r = refl

  seek-drop : (k : ℕ) (r : RowsOf K) (p : List ℕ) → seek k r p ≡ seek 0 r (drop k p)
  unfolding seek
  seek-drop zero r p = refl
  seek-drop (suc k) r [] = refl
  seek-drop (suc k) r (b ∷ p) = seek-drop k r p

  pub pick-empty : (ps : List (List ℕ)) → pick {K = K} [] ps ≡ None
  pick-empty [] = refl
  pick-empty (part ∷ rest) =
      elim (nat_lt 0 (length part)) as (λ v. or_else (pick {K = K} [] rest) (cond v (pick {K = K} [] rest) None) ≡ None) [
        | true ↦ rw (pick-empty rest) refl
        | false ↦ rw (pick-empty rest) refl
      ]

  -- ---- rows behind a part: each begins with a slash, or ends

  step-slash_after : (n : List (List Segment × K)) → step slash (rows_after n) ≡ rows_for n
  step-slash_after [] = refl
  step-slash_after (([], k) ∷ more) = step-slash_after more
  step-slash_after ((s ∷ rest, k) ∷ more) = ap (λ (x : RowsOf K). (tokens_of s ++ after rest, k) ∷ x) (step-slash_after more)

  step-miss_after : (b : ℕ) (n : List (List Segment × K)) → (slash == b) ≡ false → step b (rows_after n) ≡ []
  step-miss_after b [] other = refl
  step-miss_after b (([], k) ∷ more) other = step-miss_after b more other
  step-miss_after b ((s ∷ rest, k) ∷ more) other = rw other (step-miss_after b more other)

  own-after : (n : List (List Segment × K)) → own (rows_after n) ≡ ended n
  own-after [] = refl
  own-after (([], k) ∷ more) = refl
  own-after ((s ∷ rest, k) ∷ more) = own-after more

  seek-after_slash : (n : List (List Segment × K)) (p : List ℕ) → seek 0 (rows_after n) (slash ∷ p) ≡ seek 0 (rows_for n) p
  unfolding seek
  seek-after_slash n p =
      simp (step-slash_after n, step-miss_after param_token n refl, step-miss_after catch_all_token n refl, param_step-empty (slash ∷ p), seek-empty ((param_step {K = K} [] (slash ∷ p)).0 - 1) p, or_else-none)

-- ---- the part of a path up to its first slash

-- the path from its first slash on
abbrev skip : List ℕ → List ℕ
skip [] = []
skip (b ∷ p) = cond (b == slash) (b ∷ p) (skip p)

skip-end : (p : List ℕ) → has_slash p ≡ false → skip p ≡ []
skip-end [] none = refl
skip-end (b ∷ p) none = go (b == slash) none (skip-end p)
  where
    go : (v : Bool) → cond v true (has_slash p) ≡ false → (has_slash p ≡ false → skip p ≡ []) → cond v (b ∷ p) (skip p) ≡ []
    go true none later = absurd (false≢true (sym none))
    go false none later = later none

skip-slash : (p : List ℕ) → has_slash p ≡ true → (q : List ℕ) × (skip p ≡ slash ∷ q)
skip-slash [] some = absurd (false≢true some)
skip-slash (b ∷ p) some = go (b == slash) refl some (skip-slash p)
  where
    go : (v : Bool) → (b == slash) ≡ v → cond v true (has_slash p) ≡ true → (has_slash p ≡ true → (q : List ℕ) × (skip p ≡ slash ∷ q))
        → (q : List ℕ) × (cond v (b ∷ p) (skip p) ≡ slash ∷ q)
    go true is some later = (p, let same : b ≡ slash = grind (arith, nat_tests) in ap (λ (x : ℕ). x ∷ p) same)
    go false is some later = later some

ends-later : (x y : ℕ) (ys : List ℕ) → ends_with nat_eq (x ∷ y ∷ ys) (slash ∷ []) ≡ ends_with nat_eq (y ∷ ys) (slash ∷ [])
ends-later x y ys =
    let more : length (x ∷ y ∷ ys) - 1 ≡ suc (length (y ∷ ys) - 1) = omega arith in
    rw more refl

cuts-later : (x y : ℕ) (ys : List ℕ) → (y == slash) ≡ false → cuts (x ∷ y ∷ ys) (slash ∷ []) ≡ cuts (y ∷ ys) (slash ∷ [])
cuts-later x y [] other =
    let turned : (slash == y) ≡ false = grind (arith, nat_tests) in
    rw turned refl
cuts-later x y (z ∷ zs) other =
    let longer : ltb 1 (length (x ∷ y ∷ z ∷ zs)) ≡ true = lt-ltb _ _ (omega arith) in
    let long : ltb 1 (length (y ∷ z ∷ zs)) ≡ true = lt-ltb _ _ (omega arith) in
    rw (longer, long, ends-later x y (z ∷ zs)) refl

-- a part that isn't empty is cut off before its slash
cuts-slash : (b : ℕ) (p : List ℕ) → (b == slash) ≡ false → cuts (b ∷ segment p) (slash ∷ []) ≡ has_slash p
cuts-slash b [] other = refl
cuts-slash b (c ∷ p) other = go (c == slash) refl (cuts-slash c p)
  where
    go : (v : Bool) → (c == slash) ≡ v → ((c == slash) ≡ false → cuts (c ∷ segment p) (slash ∷ []) ≡ has_slash p)
        → cuts (b ∷ cond v (c ∷ []) (c ∷ segment p)) (slash ∷ []) ≡ cond v true (has_slash p)
    go true is later = let same : c ≡ slash = grind (arith, nat_tests) in rw same refl
    go false is later = cuts-later b c (segment p) is ∙ later is

-- a part is as long as what is skipped
drop-part : (p : List ℕ) → has_slash p ≡ true → (0 < length (segment p)) × (drop (length (segment p) - 1) p ≡ skip p)
drop-part [] some = absurd (false≢true some)
drop-part (b ∷ p) some = go (b == slash) some (drop-part p)
  where
    go : (v : Bool) → cond v true (has_slash p) ≡ true
        → (has_slash p ≡ true → (0 < length (segment p)) × (drop (length (segment p) - 1) p ≡ skip p))
        → (0 < length (cond v (b ∷ []) (b ∷ segment p))) × (drop (length (cond v (b ∷ []) (b ∷ segment p)) - 1) (b ∷ p) ≡ cond v (b ∷ p) (skip p))
    go true some later = (omega arith, refl)
    go false some later =
        let found = later some in
        let more : length (b ∷ segment p) - 1 ≡ suc (length (segment p) - 1) = omega (arith, found.0) in
        (omega arith, rw more found.1)

module _ {K : Type 0} where
  -- ---- what a parameter takes

  longest-one : (seg : List ℕ) (n : List (List Segment × K)) → longest_from seg (slash ∷ []) (rows_after n) ≡ slash ∷ []
  longest-one seg [] = refl
  longest-one seg (([], k) ∷ more) = longest-one seg more
  longest-one seg ((s ∷ rest, k) ∷ more) = longest-one seg more

  longest-none : (seg : List ℕ) (n : List (List Segment × K)) → cuts seg (slash ∷ []) ≡ false → longest_suffix seg (rows_after n) ≡ []
  longest-none seg [] not_cut = refl
  longest-none seg (([], k) ∷ more) not_cut = longest-none seg more not_cut
  longest-none seg ((s ∷ rest, k) ∷ more) not_cut =
      let same : better seg [] (slash ∷ []) ≡ [] = rw not_cut refl in
      ap (λ (best : List ℕ). longest_from seg best (rows_after more)) same ∙ longest-none seg more not_cut

  longest-some : (seg : List ℕ) (n : List (List Segment × K)) → cuts seg (slash ∷ []) ≡ true
      → (longest_suffix seg (rows_after n) ≡ slash ∷ []) ⊎ ((longest_suffix seg (rows_after n) ≡ []) × (rows_for n ≡ []))
  longest-some seg [] cut = inr (refl, refl)
  longest-some seg (([], k) ∷ more) cut = longest-some seg more cut
  longest-some seg ((s ∷ rest, k) ∷ more) cut =
      let same : better seg [] (slash ∷ []) ≡ slash ∷ [] = rw cut refl in
      inl (ap (λ (best : List ℕ). longest_from seg best (rows_after more)) same ∙ longest-one seg more)

  -- the rows that go on behind the part
  abbrev going : List (List Segment × K) → List (List Segment × K)
  going [] = []
  going (([], k) ∷ more) = going more
  going ((s ∷ rest, k) ∷ more) = (s ∷ rest, k) ∷ going more

  with_suffix-going : (n : List (List Segment × K)) → with_suffix (slash ∷ []) (rows_after n) ≡ rows_after (going n)
  with_suffix-going [] = refl
  with_suffix-going (([], k) ∷ more) = with_suffix-going more
  with_suffix-going ((s ∷ rest, k) ∷ more) = ap (λ (x : RowsOf K). (after (s ∷ rest), k) ∷ x) (with_suffix-going more)

  rows_for-going : (n : List (List Segment × K)) → rows_for (going n) ≡ rows_for n
  rows_for-going [] = refl
  rows_for-going (([], k) ∷ more) = rows_for-going more
  rows_for-going ((s ∷ rest, k) ∷ more) = ap (λ (x : RowsOf K). (tokens_of s ++ after rest, k) ∷ x) (rows_for-going more)

  take-suffix : (rs : RowsOf K) (b : ℕ) (p : List ℕ) → (b == slash) ≡ false → longest_suffix (b ∷ segment p) rs ≡ slash ∷ []
      → param_step rs (b ∷ p) ≡ (length (b ∷ segment p) - 1, with_suffix (slash ∷ []) rs)
  unfolding param_step
  take-suffix rs b p other longest = rw (other, longest) refl

  take-none : (rs : RowsOf K) (b : ℕ) (p : List ℕ) → (b == slash) ≡ false → longest_suffix (b ∷ segment p) rs ≡ [] → has_slash p ≡ true
      → param_step rs (b ∷ p) ≡ (0, [])
  unfolding param_step
  take-none rs b p other longest some = rw (other, longest, some) refl

  take-all : (rs : RowsOf K) (b : ℕ) (p : List ℕ) → (b == slash) ≡ false → longest_suffix (b ∷ segment p) rs ≡ [] → has_slash p ≡ false
      → param_step rs (b ∷ p) ≡ (length (b ∷ p), rs)
  unfolding param_step
  take-all rs b p other longest none = rw (other, longest, none) refl

  abbrev GoesOn : List (List Segment × K) → List ℕ → ℕ × RowsOf K → Type 0
  GoesOn n p r = seek (r.0 - 1) r.1 p ≡ seek 0 (rows_after n) (skip p)

  -- the walk goes on at the slash behind the part, or at the end
  parameter_takes : (n : List (List Segment × K)) (b : ℕ) (p : List ℕ) → (b == slash) ≡ false
      → GoesOn n p (param_step (rows_after n) (b ∷ p))
  parameter_takes n b p other = go (has_slash p) refl
    where
      go : (v : Bool) → has_slash p ≡ v → GoesOn n p (param_step (rows_after n) (b ∷ p))
      go true is =
          let behind = skip-slash p is in
          let part = drop-part p is in
          let at : seek 0 (rows_after n) (skip p) ≡ seek 0 (rows_for n) behind.0 = rw behind.1 (seek-after_slash n behind.0) in
          ⊎_elim
          (λ (found : longest_suffix (b ∷ segment p) (rows_after n) ≡ slash ∷ []).
          subst (GoesOn n p) (sym (take-suffix (rows_after n) b p other found))
          (let n1 : length (b ∷ segment p) - 1 - 1 ≡ length (segment p) - 1 = omega arith in
          ap (λ (r : RowsOf K). seek (length (b ∷ segment p) - 1 - 1) r p) (with_suffix-going n)
          ∙ seek-drop _ (rows_after (going n)) p
          ∙ ap (λ (q : List ℕ). seek 0 (rows_after (going n)) q) (ap (λ (i : ℕ). drop i p) n1 ∙ part.1 ∙ behind.1)
          ∙ seek-after_slash (going n) behind.0
          ∙ ap (λ (r : RowsOf K). seek 0 r behind.0) (rows_for-going n)
          ∙ sym at))
          (λ (lost : (longest_suffix (b ∷ segment p) (rows_after n) ≡ []) × (rows_for n ≡ [])).
          subst (GoesOn n p) (sym (take-none (rows_after n) b p other lost.0 is))
          (seek-empty _ p ∙ sym (at ∙ ap (λ (r : RowsOf K). seek 0 r behind.0) lost.1 ∙ seek-empty 0 behind.0)))
          (longest-some (b ∷ segment p) n (cuts-slash b p other ∙ is))
      go false is =
          subst (GoesOn n p) (sym (take-all (rows_after n) b p other (longest-none (b ∷ segment p) n (cuts-slash b p other ∙ is)) is))
          (seek-drop _ (rows_after n) p
          ∙ ap (λ (q : List ℕ). seek 0 (rows_after n) q) (drop_all _ p (omega arith) ∙ sym (skip-end p is)))

turned : (a b : ℕ) → (a == b) ≡ (b == a)
turned a b = grind (arith, nat_tests)

not_param : (b : ℕ) → b < 256 → (param_token == b) ≡ false
not_param b byte = grind (arith, nat_tests)

plain-first : (x : ℕ) (w : List ℕ) → is_plain (x ∷ w) ≡ true → (x < 256) × ((x == slash) ≡ false) × (is_plain w ≡ true)
plain-first x w plain =
    let both = and_parts (nat_lt x 256) (not (x == slash) && is_plain w) plain in
    let rest = and_parts (not (x == slash)) (is_plain w) both.1 in
    (ltb-true x 256 both.0, not-true _ rest.0, rest.1)

module _ {K : Type 0} where
  -- ---- rows at the start of a part

  -- the rows whose first literal begins with a byte, without it
  abbrev strip : ℕ → List (List Segment × K) → List (List Segment × K)
  strip b [] = []
  strip b (([], k) ∷ more) = strip b more
  strip b ((literal [] ∷ rest, k) ∷ more) = strip b more
  strip b ((literal (x ∷ w) ∷ rest, k) ∷ more) = cond (x == b) ((literal w ∷ rest, k) ∷ strip b more) (strip b more)
  strip b ((parameter ∷ rest, k) ∷ more) = strip b more

  step-strip : (b : ℕ) (rs : List (List Segment × K)) → (slash == b) ≡ false → (param_token == b) ≡ false → step b (rows_for rs) ≡ rows_for (strip b rs)
  step-strip b [] other byte = refl
  step-strip b (([], k) ∷ more) other byte = step-strip b more other byte
  step-strip b ((literal [] ∷ [], k) ∷ more) other byte = step-strip b more other byte
  step-strip b ((literal [] ∷ s ∷ rest, k) ∷ more) other byte = rw other (step-strip b more other byte)
  step-strip b ((literal (x ∷ w) ∷ rest, k) ∷ more) other byte =
      elim (x == b) as (λ v. cond v ((w ++ after rest, k) ∷ step b (rows_for more)) (step b (rows_for more)) ≡ rows_for (cond v ((literal w ∷ rest, k) ∷ strip b more) (strip b more))) [
        | true ↦ ap (λ (x : RowsOf K). (w ++ after rest, k) ∷ x) (step-strip b more other byte)
        | false ↦ step-strip b more other byte
      ]
  step-strip b ((parameter ∷ rest, k) ∷ more) other byte = rw byte (step-strip b more other byte)

  plain-row : (segments : List Segment) (k : K) (more : List (List Segment × K)) → all_plain ((segments, k) ∷ more) ≡ true
      → (are_plain segments ≡ true) × (all_plain more ≡ true)
  plain-row segments k more plain = and_parts (are_plain segments) (all_plain more) plain

  plain-literal : (x : ℕ) (w : List ℕ) (rest : List Segment) (k : K) (more : List (List Segment × K)) → all_plain ((literal (x ∷ w) ∷ rest, k) ∷ more) ≡ true
      → (x < 256) × ((x == slash) ≡ false) × (all_plain ((literal w ∷ rest, k) ∷ more) ≡ true) × (all_plain more ≡ true)
  plain-literal x w rest k more plain =
      let row = plain-row (literal (x ∷ w) ∷ rest) k more plain in
      let parts = and_parts (is_plain (x ∷ w)) (are_plain rest) row.0 in
      let head = plain-first x w parts.0 in
      (head.0, head.1, and_from (is_plain w && are_plain rest) (all_plain more) (and_from (is_plain w) (are_plain rest) head.2 parts.1) row.1, row.1)

  step-parameter : (rs : List (List Segment × K)) → all_plain rs ≡ true → step param_token (rows_for rs) ≡ rows_after (with_parameter rs)
  step-parameter [] plain = refl
  step-parameter (([], k) ∷ more) plain = step-parameter more plain
  step-parameter ((literal [] ∷ [], k) ∷ more) plain = step-parameter more plain
  step-parameter ((literal [] ∷ s ∷ rest, k) ∷ more) plain = step-parameter more (plain-row (literal [] ∷ s ∷ rest) k more plain).1
  step-parameter ((literal (x ∷ w) ∷ rest, k) ∷ more) plain =
      let at = plain-literal x w rest k more plain in
      let miss : (x == param_token) ≡ false = turned x param_token ∙ not_param x at.0 in
      rw miss (step-parameter more at.3)
  step-parameter ((parameter ∷ rest, k) ∷ more) plain =
      ap (λ (x : RowsOf K). (after rest, k) ∷ x) (step-parameter more (plain-row (parameter ∷ rest) k more plain).1)

  step-catch : (rs : List (List Segment × K)) → all_plain rs ≡ true → step catch_all_token (rows_for rs) ≡ []
  step-catch [] plain = refl
  step-catch (([], k) ∷ more) plain = step-catch more plain
  step-catch ((literal [] ∷ [], k) ∷ more) plain = step-catch more plain
  step-catch ((literal [] ∷ s ∷ rest, k) ∷ more) plain = step-catch more (plain-row (literal [] ∷ s ∷ rest) k more plain).1
  step-catch ((literal (x ∷ w) ∷ rest, k) ∷ more) plain =
      let at = plain-literal x w rest k more plain in
      let below = at.0 in
      let miss : (x == catch_all_token) ≡ false = grind (arith, nat_tests) in
      rw miss (step-catch more at.3)
  step-catch ((parameter ∷ rest, k) ∷ more) plain = step-catch more (plain-row (parameter ∷ rest) k more plain).1

  step-slash : (rs : List (List Segment × K)) → all_plain rs ≡ true → step slash (rows_for rs) ≡ rows_for (with_literal [] rs)
  step-slash [] plain = refl
  step-slash (([], k) ∷ more) plain = step-slash more plain
  step-slash ((literal [] ∷ [], k) ∷ more) plain = step-slash more plain
  step-slash ((literal [] ∷ s ∷ rest, k) ∷ more) plain =
      ap (λ (x : RowsOf K). (tokens_of s ++ after rest, k) ∷ x) (step-slash more (plain-row (literal [] ∷ s ∷ rest) k more plain).1)
  step-slash ((literal (x ∷ w) ∷ rest, k) ∷ more) plain =
      let at = plain-literal x w rest k more plain in
      let miss = at.1 in
      rw miss (step-slash more at.3)
  step-slash ((parameter ∷ rest, k) ∷ more) plain = step-slash more (plain-row (parameter ∷ rest) k more plain).1

  own-rows : (rs : List (List Segment × K)) → own (rows_for rs) ≡ ended (with_literal [] rs)
  own-rows [] = refl
  own-rows (([], k) ∷ more) = own-rows more
  own-rows ((literal [] ∷ [], k) ∷ more) = refl
  own-rows ((literal [] ∷ s ∷ rest, k) ∷ more) = own-rows more
  own-rows ((literal (x ∷ w) ∷ rest, k) ∷ more) = own-rows more
  own-rows ((parameter ∷ rest, k) ∷ more) = own-rows more

  plain-cond : (v : Bool) (r s : List (List Segment × K)) → all_plain r ≡ true → all_plain s ≡ true → all_plain (cond v r s) ≡ true
  plain-cond true r s first second = first
  plain-cond false r s first second = second

  plain-with_literal : (part : List ℕ) (rs : List (List Segment × K)) → all_plain rs ≡ true → all_plain (with_literal part rs) ≡ true
  plain-with_literal part [] plain = refl
  plain-with_literal part (([], k) ∷ more) plain = plain-with_literal part more plain
  plain-with_literal part ((literal w ∷ rest, k) ∷ more) plain =
      let row = plain-row (literal w ∷ rest) k more plain in
      let parts = and_parts (is_plain w) (are_plain rest) row.0 in
      let later = plain-with_literal part more row.1 in
      plain-cond (bytes_eq part w) ((rest, k) ∷ with_literal part more) (with_literal part more)
      (and_from (are_plain rest) (all_plain (with_literal part more)) parts.1 later) later
  plain-with_literal part ((parameter ∷ rest, k) ∷ more) plain = plain-with_literal part more (plain-row (parameter ∷ rest) k more plain).1

  plain-with_parameter : (rs : List (List Segment × K)) → all_plain rs ≡ true → all_plain (with_parameter rs) ≡ true
  plain-with_parameter [] plain = refl
  plain-with_parameter (([], k) ∷ more) plain = plain-with_parameter more plain
  plain-with_parameter ((literal w ∷ rest, k) ∷ more) plain = plain-with_parameter more (plain-row (literal w ∷ rest) k more plain).1
  plain-with_parameter ((parameter ∷ rest, k) ∷ more) plain =
      let row = plain-row (parameter ∷ rest) k more plain in
      and_from (are_plain rest) (all_plain (with_parameter more)) row.0 (plain-with_parameter more row.1)

  plain-strip : (b : ℕ) (rs : List (List Segment × K)) → all_plain rs ≡ true → all_plain (strip b rs) ≡ true
  plain-strip b [] plain = refl
  plain-strip b (([], k) ∷ more) plain = plain-strip b more plain
  plain-strip b ((literal [] ∷ rest, k) ∷ more) plain = plain-strip b more (plain-row (literal [] ∷ rest) k more plain).1
  plain-strip b ((literal (x ∷ w) ∷ rest, k) ∷ more) plain =
      let at = plain-literal x w rest k more plain in
      let row = plain-row (literal w ∷ rest) k more at.2 in
      let later = plain-strip b more at.3 in
      plain-cond (x == b) ((literal w ∷ rest, k) ∷ strip b more) (strip b more)
      (and_from (are_plain (literal w ∷ rest)) (all_plain (strip b more)) row.0 later) later
  plain-strip b ((parameter ∷ rest, k) ∷ more) plain = plain-strip b more (plain-row (parameter ∷ rest) k more plain).1

  with_parameter-strip : (b : ℕ) (rs : List (List Segment × K)) → with_parameter (strip b rs) ≡ []
  with_parameter-strip b [] = refl
  with_parameter-strip b (([], k) ∷ more) = with_parameter-strip b more
  with_parameter-strip b ((literal [] ∷ rest, k) ∷ more) = with_parameter-strip b more
  with_parameter-strip b ((literal (x ∷ w) ∷ rest, k) ∷ more) =
      elim (x == b) as (λ v. with_parameter (cond v ((literal w ∷ rest, k) ∷ strip b more) (strip b more)) ≡ []) [
        | true ↦ with_parameter-strip b more
        | false ↦ with_parameter-strip b more
      ]
  with_parameter-strip b ((parameter ∷ rest, k) ∷ more) = with_parameter-strip b more

  with_literal-strip : (b : ℕ) (part : List ℕ) (rs : List (List Segment × K)) → with_literal part (strip b rs) ≡ with_literal (b ∷ part) rs
  with_literal-strip b part [] = refl
  with_literal-strip b part (([], k) ∷ more) = with_literal-strip b part more
  with_literal-strip b part ((literal [] ∷ rest, k) ∷ more) = with_literal-strip b part more
  with_literal-strip b part ((literal (x ∷ w) ∷ rest, k) ∷ more) = rw (turned x b) (go (b == x) (with_literal-strip b part more))
    where
      go : (v : Bool) → with_literal part (strip b more) ≡ with_literal (b ∷ part) more
          → with_literal part (cond v ((literal w ∷ rest, k) ∷ strip b more) (strip b more))
          ≡ cond (v && bytes_eq part w) ((rest, k) ∷ with_literal (b ∷ part) more) (with_literal (b ∷ part) more)
      go true later = ap (λ (r : List (List Segment × K)). cond (bytes_eq part w) ((rest, k) ∷ r) r) later
      go false later = later
  with_literal-strip b part ((parameter ∷ rest, k) ∷ more) = with_literal-strip b part more

-- ---- the walk over a table

-- the parts behind the first
abbrev behind : List (List ℕ) → List (List ℕ)
behind [] = []
behind (part ∷ rest) = rest

behind-onto : (b : ℕ) (ps : List (List ℕ)) → behind (onto_first b ps) ≡ behind ps
behind-onto b [] = refl
behind-onto b (part ∷ rest) = refl

-- there is always a first part
pub parts-some : (path : List ℕ) → (part : List ℕ) × (rest : List (List ℕ)) × (parts path ≡ part ∷ rest)
parts-some [] = ([], [], refl)
parts-some (b ∷ p) =
    elim (b == slash) as (λ v. (part : List ℕ) × (rest : List (List ℕ)) × (cond v ([] ∷ parts p) (onto_first b (parts p)) ≡ part ∷ rest)) [
      | true ↦ ([], parts p, refl)
      | false ↦ onto_some (parts p)
    ]
  where
    onto_some : (ps : List (List ℕ)) → (part : List ℕ) × (rest : List (List ℕ)) × (onto_first b ps ≡ part ∷ rest)
    onto_some [] = (b ∷ [], [], refl)
    onto_some (part ∷ rest) = (b ∷ part, rest, refl)

module _ {K : Type 0} where
  take-slash : (n : List (List Segment × K)) (p : List ℕ) → param_step (rows_after n) (slash ∷ p) ≡ (0, [])
  unfolding param_step
  take-slash n p =
      let longest : longest_suffix (segment (slash ∷ p)) (rows_after n) ≡ [] = longest-none (slash ∷ []) n refl in
      rw longest refl

  pick-strip : (b : ℕ) (part : List ℕ) (rest : List (List ℕ)) (rs : List (List Segment × K)) → pick (strip b rs) (part ∷ rest) ≡ pick (with_literal (b ∷ part) rs) rest
  pick-strip b part rest rs = rw (with_literal-strip b part rs, with_parameter-strip b rs, pick-empty rest) (go (nat_lt 0 (length part)))
    where
      go : (v : Bool) → or_else (pick (with_literal (b ∷ part) rs) rest) (cond v None None) ≡ pick (with_literal (b ∷ part) rs) rest
      go true = or_else-none (pick (with_literal (b ∷ part) rs) rest)
      go false = or_else-none (pick (with_literal (b ∷ part) rs) rest)

  -- a step at the start of a part
  seek-step : (b : ℕ) (p : List ℕ) (rs : List (List Segment × K)) → all_plain rs ≡ true
      → seek 0 (rows_for rs) (b ∷ p)
      ≡ or_else (seek 0 (step b (rows_for rs)) p)
      (seek ((param_step (rows_after (with_parameter rs)) (b ∷ p)).0 - 1) (param_step (rows_after (with_parameter rs)) (b ∷ p)).1 p)
  unfolding seek
  seek-step b p rs plain =
      rw (step-parameter rs plain, step-catch rs plain, or_else-none) refl

-- what the walk finds at the start of a part, and behind one
abbrev Finds : (K : Type 0) → List ℕ → Type 0
Finds K path = (rs : List (List Segment × K)) → all_plain rs ≡ true → seek 0 (rows_for rs) path ≡ pick rs (parts path)

abbrev FindsBehind : (K : Type 0) → List ℕ → Type 0
FindsBehind K path = (n : List (List Segment × K)) → all_plain n ≡ true → seek 0 (rows_after n) (skip path) ≡ pick n (behind (parts path))

seek-slash : (K : Type 0) (p : List ℕ) → Finds K p → Finds K (slash ∷ p)
seek-slash K p later rs plain =
    let n = with_parameter rs in
    seek-step slash p rs plain
    ∙ ap (λ (r : ℕ × RowsOf K). or_else (seek 0 (step slash (rows_for rs)) p) (seek (r.0 - 1) r.1 p)) (take-slash n p)
    ∙ ap (λ (o : Option K). or_else (seek 0 (step slash (rows_for rs)) p) o) (seek-empty (0 - 1) p)
    ∙ ap (λ (r : RowsOf K). or_else (seek 0 r p) None) (step-slash rs plain)
    ∙ ap (λ (o : Option K). or_else o None) (later (with_literal [] rs) (plain-with_literal [] rs plain))

seek-byte : (K : Type 0) (b : ℕ) (p : List ℕ) → b < 256 → (b == slash) ≡ false → Finds K p → FindsBehind K p
    → (rs : List (List Segment × K)) → all_plain rs ≡ true → seek 0 (rows_for rs) (b ∷ p) ≡ pick rs (onto_first b (parts p))
seek-byte K b p byte other later later_behind rs plain =
    let n = with_parameter rs in
    let over = seek ((param_step (rows_after n) (b ∷ p)).0 - 1) (param_step (rows_after n) (b ∷ p)).1 p in
    let some = parts-some p in
    let one : nat_lt 0 (length (b ∷ some.0)) ≡ true = lt-ltb _ _ (omega arith) in
    seek-step b p rs plain
    ∙ ap (λ (r : RowsOf K). or_else (seek 0 r p) over) (step-strip b rs (turned slash b ∙ other) (not_param b byte))
    ∙ ap (λ (o : Option K). or_else o over) (later (strip b rs) (plain-strip b rs plain))
    ∙ ap (λ (o : Option K). or_else (pick (strip b rs) (parts p)) o) (parameter_takes n b p other ∙ later_behind n (plain-with_parameter rs plain))
    ∙ subst (λ (ps : List (List ℕ)). or_else (pick (strip b rs) ps) (pick n (behind ps)) ≡ pick rs (onto_first b ps)) (sym some.2)
    (rw (pick-strip b some.0 some.1 rs, one) refl)

both : (K : Type 0) (path : List ℕ) → IsText path → Finds K path × FindsBehind K path
both K [] text = (λ rs plain. seek-end (rows_for rs) ∙ own-rows rs ∙ sym (or_else-none (ended (with_literal [] rs))), λ n plain. seek-end (rows_after n) ∙ own-after n)
both K (b ∷ p) text = go (b == slash) refl (both K p text.1)
  where
    go : (v : Bool) → (b == slash) ≡ v → Finds K p × FindsBehind K p
        → ((rs : List (List Segment × K)) → all_plain rs ≡ true → seek 0 (rows_for rs) (b ∷ p) ≡ pick rs (cond v ([] ∷ parts p) (onto_first b (parts p))))
        × ((n : List (List Segment × K)) → all_plain n ≡ true → seek 0 (rows_after n) (cond v (b ∷ p) (skip p)) ≡ pick n (behind (cond v ([] ∷ parts p) (onto_first b (parts p)))))
    go true is later =
        let same : b ≡ slash = grind (arith, nat_tests) in (
          λ rs plain. ap (λ (x : ℕ). seek 0 (rows_for rs) (x ∷ p)) same ∙ seek-slash K p later.0 rs plain,
          λ n plain. ap (λ (x : ℕ). seek 0 (rows_after n) (x ∷ p)) same ∙ seek-after_slash n p ∙ later.0 n plain,
        )
    go false is later = (
      seek-byte K b p text.0 is later.0 later.1,
      λ n plain. later.1 n plain ∙ ap (λ (ps : List (List ℕ)). pick n ps) (sym (behind-onto b (parts p))),
    )

-- the walk finds the row of the path's parts
pub first-parts : {K : Type 0} (path : List ℕ) (rs : List (List Segment × K)) → IsText path → all_plain rs ≡ true → first (rows_for rs) path ≡ pick rs (parts path)
first-parts {K} path rs text plain = (both K path text).0 rs plain
