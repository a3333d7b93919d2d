-- Where no two rows of a table fit one path, the order of the rows doesn't matter.
use Rattle.std.proofs.Common.{◌≡◌, ℕ, suc, ◌+◌, ◌≤◌, List, [], ◌∷◌, length, Option, Some, None, Bool, true, false, not, ◌&&◌, ◌||◌, cond, refl, sym, ap, subst, ◌∙◌, arith, nat_lt, bytes_eq, if◌then◌else◌}
use Rattle.std.proofs.lemmas.Bool.{and_parts, false≢true}
use Rattle.std.proofs.lemmas.Slice.Eq.{bytes_eq-Decides}
use Rattle.matchit.specs.Rows.{comes_before}
use Rattle.matchit.specs.Seek.{or_else}
use Rattle.http_requests.specs.Segments.{Segment, literal, parameter, fits, row_in}
use Rattle.http_requests.specs.Walk.{ended, with_literal, with_parameter, pick}
use Rattle.http_requests.specs.Apart.{apart, apart_from, all_apart, tokens, into, in_order}

and-false : (b : Bool) → (b && false) ≡ false
and-false true = refl
and-false false = refl

-- a part that is one literal is no other
one_word : (v w part : List ℕ) → bytes_eq v w ≡ false → bytes_eq part v ≡ true → bytes_eq part w ≡ false
one_word v w part other is = subst (λ (x : List ℕ). bytes_eq x w ≡ false) (sym ((bytes_eq-Decides part v).0 is)) other

-- parts that fit a pattern fit none that is apart from it
apart-fits : (p q : List Segment) (ps : List (List ℕ)) → apart p q ≡ true → fits p ps ≡ true → fits q ps ≡ false
apart-fits [] [] ps are fit = absurd (false≢true are)
apart-fits [] (literal w ∷ q) [] are fit = refl
apart-fits [] (parameter ∷ q) [] are fit = refl
apart-fits [] (t ∷ q) (part ∷ rest) are fit = absurd (false≢true fit)
apart-fits (literal v ∷ p) q [] are fit = absurd (false≢true fit)
apart-fits (parameter ∷ p) q [] are fit = absurd (false≢true fit)
apart-fits (s ∷ p) [] (part ∷ rest) are fit = refl
apart-fits (literal v ∷ p) (literal w ∷ q) (part ∷ rest) are fit =
    let both = and_parts (bytes_eq part v) (fits p rest) fit in
    go (bytes_eq v w) refl are both.0 (λ later. apart-fits p q rest later both.1)
  where
    go : (u : Bool) → bytes_eq v w ≡ u → (not u || apart p q) ≡ true → bytes_eq part v ≡ true → (apart p q ≡ true → fits q rest ≡ false)
        → (bytes_eq part w && fits q rest) ≡ false
    go true is are first later = rw (later are) (and-false (bytes_eq part w))
    go false is are first later = rw (one_word v w part is first) refl
apart-fits (literal v ∷ p) (parameter ∷ q) (part ∷ rest) are fit =
    let both = and_parts (bytes_eq part v) (fits p rest) fit in
    rw (apart-fits p q rest are both.1) (and-false (nat_lt 0 (length part)))
apart-fits (parameter ∷ p) (literal w ∷ q) (part ∷ rest) are fit =
    let both = and_parts (nat_lt 0 (length part)) (fits p rest) fit in
    rw (apart-fits p q rest are both.1) (and-false (bytes_eq part w))
apart-fits (parameter ∷ p) (parameter ∷ q) (part ∷ rest) are fit =
    let both = and_parts (nat_lt 0 (length part)) (fits p rest) fit in
    rw (apart-fits p q rest are both.1) (and-false (nat_lt 0 (length part)))

module _ {K : Type 0} where
  -- how many rows the parts fit
  abbrev count : List (List Segment × K) → List (List ℕ) → ℕ
  count [] ps = 0
  count ((p, k) ∷ more) ps = cond (fits p ps) (suc (count more ps)) (count more ps)

  count-apart_from : (p : List Segment) (rs : List (List Segment × K)) (ps : List (List ℕ)) → apart_from p rs ≡ true → fits p ps ≡ true → count rs ps ≡ 0
  count-apart_from p [] ps are fit = refl
  count-apart_from p ((q, k) ∷ more) ps are fit =
      let both = and_parts (apart p q) (apart_from p more) are in
      rw (apart-fits p q ps both.0 fit) (count-apart_from p more ps both.1 fit)

  -- at most one row fits
  count-apart : (rs : List (List Segment × K)) (ps : List (List ℕ)) → all_apart rs ≡ true → count rs ps ≤ 1
  count-apart [] ps are = omega arith
  count-apart ((p, k) ∷ more) ps are =
      let both = and_parts (apart_from p more) (all_apart more) are in
      go (fits p ps) refl both.0 (count-apart more ps both.1)
    where
      go : (v : Bool) → fits p ps ≡ v → apart_from p more ≡ true → count more ps ≤ 1 → cond v (suc (count more ps)) (count more ps) ≤ 1
      go true is first later = omega (arith, count-apart_from p more ps first is)
      go false is first later = later

  row_in-none : (rs : List (List Segment × K)) (ps : List (List ℕ)) → count rs ps ≡ 0 → row_in rs ps ≡ None
  row_in-none [] ps none = refl
  row_in-none ((p, k) ∷ more) ps none = go (fits p ps) none (row_in-none more ps)
    where
      go : (v : Bool) → cond v (suc (count more ps)) (count more ps) ≡ 0 → (count more ps ≡ 0 → row_in more ps ≡ None)
          → (if v then Some k else row_in more ps) ≡ None
      go true none later = absurd (omega arith)
      go false none later = later none

  -- ---- the order

  count-into : (p : List Segment) (k : K) (rs : List (List Segment × K)) (ps : List (List ℕ)) → count (into (p, k) rs) ps ≡ count ((p, k) ∷ rs) ps
  count-into p k [] ps = refl
  count-into p k ((q, l) ∷ more) ps = go (comes_before (tokens p) (tokens q)) (count-into p k more ps)
    where
      swap : (u v : Bool) (n : ℕ) → cond v (suc (cond u (suc n) n)) (cond u (suc n) n) ≡ cond u (suc (cond v (suc n) n)) (cond v (suc n) n)
      swap true true n = refl
      swap true false n = refl
      swap false true n = refl
      swap false false n = refl

      go : (v : Bool) → count (into (p, k) more) ps ≡ count ((p, k) ∷ more) ps
          → count (cond v ((p, k) ∷ (q, l) ∷ more) ((q, l) ∷ into (p, k) more)) ps ≡ count ((p, k) ∷ (q, l) ∷ more) ps
      go true later = refl
      go false later = ap (λ (n : ℕ). cond (fits q ps) (suc n) n) later ∙ swap (fits p ps) (fits q ps) (count more ps)

  row_in-into : (p : List Segment) (k : K) (rs : List (List Segment × K)) (ps : List (List ℕ)) → count ((p, k) ∷ rs) ps ≤ 1
      → row_in (into (p, k) rs) ps ≡ row_in ((p, k) ∷ rs) ps
  row_in-into p k [] ps few = refl
  row_in-into p k ((q, l) ∷ more) ps few = go (comes_before (tokens p) (tokens q)) few (row_in-into p k more ps)
    where
      swap : (u v : Bool) → cond u (suc (cond v (suc (count more ps)) (count more ps))) (cond v (suc (count more ps)) (count more ps)) ≤ 1
          → (if v then Some l else (if u then Some k else row_in more ps)) ≡ (if u then Some k else (if v then Some l else row_in more ps))
      swap true true few = absurd (omega arith)
      swap true false few = refl
      swap false true few = refl
      swap false false few = refl

      fewer : (u v : Bool) (n : ℕ) → cond u (suc (cond v (suc n) n)) (cond v (suc n) n) ≤ 1 → cond u (suc n) n ≤ 1
      fewer true true n few = omega arith
      fewer true false n few = few
      fewer false true n few = omega arith
      fewer false false n few = few

      go : (v : Bool) → count ((p, k) ∷ (q, l) ∷ more) ps ≤ 1 → (count ((p, k) ∷ more) ps ≤ 1 → row_in (into (p, k) more) ps ≡ row_in ((p, k) ∷ more) ps)
          → row_in (cond v ((p, k) ∷ (q, l) ∷ more) ((q, l) ∷ into (p, k) more)) ps ≡ row_in ((p, k) ∷ (q, l) ∷ more) ps
      go true few later = refl
      go false few later =
          ap (λ (o : Option K). if fits q ps then Some l else o) (later (fewer (fits p ps) (fits q ps) (count more ps) few))
          ∙ swap (fits p ps) (fits q ps) few

  count-order : (rs : List (List Segment × K)) (ps : List (List ℕ)) → count (in_order rs) ps ≡ count rs ps
  count-order [] ps = refl
  count-order ((p, k) ∷ more) ps =
      count-into p k (in_order more) ps ∙ ap (λ (n : ℕ). cond (fits p ps) (suc n) n) (count-order more ps)

  row_in-order : (rs : List (List Segment × K)) (ps : List (List ℕ)) → all_apart rs ≡ true → row_in (in_order rs) ps ≡ row_in rs ps
  row_in-order [] ps are = refl
  row_in-order ((p, k) ∷ more) ps are =
      let few : count ((p, k) ∷ in_order more) ps ≤ 1 =
      subst (λ (n : ℕ). cond (fits p ps) (suc n) n ≤ 1) (sym (count-order more ps)) (count-apart ((p, k) ∷ more) ps are) in
      row_in-into p k (in_order more) ps few
      ∙ ap (λ (o : Option K). if fits p ps then Some k else o) (row_in-order more ps (and_parts (apart_from p more) (all_apart more) are).1)

  -- ---- the walk

  row_in-ended : (rs : List (List Segment × K)) → ended rs ≡ row_in rs []
  row_in-ended [] = refl
  row_in-ended (([], k) ∷ more) = refl
  row_in-ended ((literal w ∷ p, k) ∷ more) = row_in-ended more
  row_in-ended ((parameter ∷ p, k) ∷ more) = row_in-ended more

  -- the rows of a part, as words and as a parameter
  count-part : (part : List ℕ) (rest : List (List ℕ)) (v : Bool) (rs : List (List Segment × K)) → nat_lt 0 (length part) ≡ v
      → count (with_literal part rs) rest + cond v (count (with_parameter rs) rest) 0 ≡ count rs (part ∷ rest)
  count-part part rest true [] is = refl
  count-part part rest false [] is = refl
  count-part part rest v (([], k) ∷ more) is = count-part part rest v more is
  count-part part rest v ((literal w ∷ p, k) ∷ more) is = go (bytes_eq part w) (count-part part rest v more is)
    where
      on : (f : Bool) → count (with_literal part more) rest + cond v (count (with_parameter more) rest) 0 ≡ count more (part ∷ rest)
          → cond f (suc (count (with_literal part more) rest)) (count (with_literal part more) rest) + cond v (count (with_parameter more) rest) 0
          ≡ cond f (suc (count more (part ∷ rest))) (count more (part ∷ rest))
      on true later = omega (arith, later)
      on false later = later

      go : (b : Bool) → count (with_literal part more) rest + cond v (count (with_parameter more) rest) 0 ≡ count more (part ∷ rest)
          → count (cond b ((p, k) ∷ with_literal part more) (with_literal part more)) rest + cond v (count (with_parameter more) rest) 0
          ≡ cond (b && fits p rest) (suc (count more (part ∷ rest))) (count more (part ∷ rest))
      go true later = on (fits p rest) later
      go false later = later
  count-part part rest true ((parameter ∷ p, k) ∷ more) is = rw is (go (fits p rest) (count-part part rest true more is))
    where
      go : (f : Bool) → count (with_literal part more) rest + count (with_parameter more) rest ≡ count more (part ∷ rest)
          → count (with_literal part more) rest + cond f (suc (count (with_parameter more) rest)) (count (with_parameter more) rest)
          ≡ cond f (suc (count more (part ∷ rest))) (count more (part ∷ rest))
      go true later = omega (arith, later)
      go false later = later
  count-part part rest false ((parameter ∷ p, k) ∷ more) is = rw is (count-part part rest false more is)

  row_in-part : (part : List ℕ) (rest : List (List ℕ)) (v : Bool) (rs : List (List Segment × K)) → nat_lt 0 (length part) ≡ v → count rs (part ∷ rest) ≤ 1
      → or_else (row_in (with_literal part rs) rest) (cond v (row_in (with_parameter rs) rest) None) ≡ row_in rs (part ∷ rest)
  row_in-part part rest true [] is few = refl
  row_in-part part rest false [] is few = refl
  row_in-part part rest v (([], k) ∷ more) is few = row_in-part part rest v more is few
  row_in-part part rest v ((literal w ∷ p, k) ∷ more) is few = go (bytes_eq part w) few (row_in-part part rest v more is)
    where
      on : (f : Bool) → cond f (suc (count more (part ∷ rest))) (count more (part ∷ rest)) ≤ 1
          → (count more (part ∷ rest) ≤ 1 → or_else (row_in (with_literal part more) rest) (cond v (row_in (with_parameter more) rest) None) ≡ row_in more (part ∷ rest))
          → or_else (if f then Some k else row_in (with_literal part more) rest) (cond v (row_in (with_parameter more) rest) None)
          ≡ (if f then Some k else row_in more (part ∷ rest))
      on true few later = refl
      on false few later = later few

      go : (b : Bool) → cond (b && fits p rest) (suc (count more (part ∷ rest))) (count more (part ∷ rest)) ≤ 1
          → (count more (part ∷ rest) ≤ 1 → or_else (row_in (with_literal part more) rest) (cond v (row_in (with_parameter more) rest) None) ≡ row_in more (part ∷ rest))
          → or_else (row_in (cond b ((p, k) ∷ with_literal part more) (with_literal part more)) rest) (cond v (row_in (with_parameter more) rest) None)
          ≡ (if b && fits p rest then Some k else row_in more (part ∷ rest))
      go true few later = on (fits p rest) few later
      go false few later = later few
  row_in-part part rest true ((parameter ∷ p, k) ∷ more) is few =
      rw is (on (fits p rest) (rw is at few) (count-part part rest true more is) (row_in-part part rest true more is))
    where
      on : (f : Bool) → cond f (suc (count more (part ∷ rest))) (count more (part ∷ rest)) ≤ 1
          → count (with_literal part more) rest + count (with_parameter more) rest ≡ count more (part ∷ rest)
          → (count more (part ∷ rest) ≤ 1 → or_else (row_in (with_literal part more) rest) (row_in (with_parameter more) rest) ≡ row_in more (part ∷ rest))
          → or_else (row_in (with_literal part more) rest) (if f then Some k else row_in (with_parameter more) rest)
          ≡ (if f then Some k else row_in more (part ∷ rest))
      on true few all later =
          ap (λ (o : Option K). or_else o (Some k)) (row_in-none (with_literal part more) rest (omega (arith, all, few)))
      on false few all later = later few
  row_in-part part rest false ((parameter ∷ p, k) ∷ more) is few = rw is (row_in-part part rest false more is (rw is at few))

  -- where at most one row fits, the walk finds it
  pick-row_in : (ps : List (List ℕ)) (rs : List (List Segment × K)) → count rs ps ≤ 1 → pick rs ps ≡ row_in rs ps
  pick-row_in [] rs few = row_in-ended rs
  pick-row_in (part ∷ rest) rs few = go (nat_lt 0 (length part)) refl (pick-row_in rest (with_literal part rs)) (pick-row_in rest (with_parameter rs))
    where
      go : (v : Bool) → nat_lt 0 (length part) ≡ v
          → (count (with_literal part rs) rest ≤ 1 → pick (with_literal part rs) rest ≡ row_in (with_literal part rs) rest)
          → (count (with_parameter rs) rest ≤ 1 → pick (with_parameter rs) rest ≡ row_in (with_parameter rs) rest)
          → or_else (pick (with_literal part rs) rest) (cond v (pick (with_parameter rs) rest) None) ≡ row_in rs (part ∷ rest)
      go true is words numbers =
          let all = count-part part rest true rs is in
          rw (words (omega (arith, all, few)), numbers (omega (arith, all, few))) (row_in-part part rest true rs is few)
      go false is words numbers =
          let all = count-part part rest false rs is in
          rw (words (omega (arith, all, few))) (row_in-part part rest false rs is few)

  -- the walk over a table's rows in order finds the table's row
  pub pick-order : (rs : List (List Segment × K)) (ps : List (List ℕ)) → all_apart rs ≡ true → pick (in_order rs) ps ≡ row_in rs ps
  pick-order rs ps are =
      pick-row_in ps (in_order rs) (subst (λ (n : ℕ). n ≤ 1) (sym (count-order rs ps)) (count-apart rs ps are)) ∙ row_in-order rs ps are
