-- Each kind of step keeps the rule of the row.
use Rattle.std.proofs.Common.{zero, suc, ◌≡◌, ◌≢◌, ◌++◌, ◌∷◌, [], List, ℕ, Bool, true, false, ◌+◌, ◌-◌, ◌%◌, ◌^◌, ◌==◌, ◌<◌, ◌≤◌, length, get_or, set, sym, refl, ap, ◌∙◌, subst, inl, inr, ⊎_elim, arith, length-set, get_or-set_same, get_or-set_other, add-one, Option, Some, None}
use mathlib.Core.Logic.{dite}
use mathlib.Core.Option.{some, none, some-injective, some-ne-none}
use native.Mathlib.Decide.{ℕ_discrete}
use prog.Atomic.{either}
use lib.ListN.{get_elem?}
use lib.Seq.{set-get_or}
use Rattle.atomic_table.specs.Table.{State, Me, Act, keeps, Valid, stepped, step, carried_after, Allows, Joins, Splits, opening}
use Rattle.atomic_table.proofs.Lists.{at_set, at_snoc, at_longer, exchanged, set_again, set_else, set_here}
use Rattle.farm_entry.specs.Legal.{IsLegal}
use Rattle.farm_entry.specs.declared.entry.Entry.{Entry}
use Rattle.common_types.specs.Prefix.{IsPrefix}
use Rattle.common_types.proofs.Prefixes.{IsPrefix-refl, IsPrefix-longer, IsPrefix-nil, IsPrefix-trans, longer-IsPrefix_first, longer-IsPrefix_second}
use Rattle.farm_board.specs.Rule.{At, AreOf, IsJoined, IsKept, IsPosted, IsReading, version_of}
use Rattle.farm_board.specs.Steps.{Begins, Checks, Ends, Peeks, Puts, Starts, Tells}
use Rattle.farm_board.specs.Views.{idle, met, posting, put_together, reading, resting, spent, told}
use Rattle.farm_board.specs.declared.row.View.{View}
use Rattle.farm_board.proofs.Numbers.{old_or_last}

at-lt-length : {A : Type 0} (l : List A) (i : ℕ) (a : A) → get_elem? l i ≡ some a → i < length l
at-lt-length [] i a e = absurd (some-ne-none a (sym e))
at-lt-length (x ∷ xs) zero a e = omega arith
at-lt-length (x ∷ xs) (suc i) a e = let h = at-lt-length xs i a e in omega arith

both_ways : (b : Bool) → b ≡ true → b ≡ false → ⊥
both_ways b t f = let e : true ≡ false = sym t ∙ f in cc

false_of_not : (b : Bool) → (b ≡ true → ⊥) → b ≡ false
false_of_not true h = absurd (h refl)
false_of_not false h = refl

one_view : (l : List View) (i j : ℕ) (v w : View) → get_elem? l i ≡ some v → get_elem? l j ≡ some w → i ≡ j → v ≡ w
one_view l i j v w a b e = some-injective v w (sym a ∙ (ap (λ (n : ℕ). get_elem? l n) e ∙ b))

only : (w v : View) (i : ℕ) → get_elem? (w ∷ []) i ≡ some v → (i ≡ 0) × (w ≡ v)
only w v zero at = (refl, some-injective w v at)
only w v (suc i) at = absurd (some-ne-none v (sym at))

-- writes at two places may change their order
set-comm : {A : Type 0} (l : List A) (i j : ℕ) (a b : A) → i ≢ j → set (set l i a) j b ≡ set (set l j b) i a
set-comm [] i j a b ne = refl
set-comm (x ∷ xs) zero zero a b ne = absurd (ne refl)
set-comm (x ∷ xs) zero (suc j) a b ne = refl
set-comm (x ∷ xs) (suc i) zero a b ne = refl
set-comm (x ∷ xs) (suc i) (suc j) a b ne = λ k. x ∷ set-comm xs i j a b (λ e. ne (ap suc e)) k

abbrev St : Type 0
St = State (Unit {0}) View

abbrev Seat : Type 0
Seat = Me (Unit {0}) View

abbrev table : List ℕ → List (mathlib.Core.Option.Option (Unit {0})) → List View → St
table words homes views = record { words = words; homes = homes; views = views }

-- the row at the start, without its version
abbrev pub zeros : List ℕ
zeros = 0 ∷ 0 ∷ 0 ∷ 0 ∷ 0 ∷ 0 ∷ 0 ∷ 0 ∷ []

module _ (number : List Entry → ℕ → ℕ) where
  -- the table at the start
  pub starts_empty : ((k : ℕ) → get_or zeros k 0 ≡ number [] k)
      → IsKept number (opening {S = Unit {0}} (0 ∷ zeros) [] (resting 0 []))
  starts_empty none_yet =
      let w : View = resting 0 [] in
      record {
        words = refl;
        poster = 0;
        view = w;
        at = refl;
        posts = refl;
        only = λ i v at p. (only w v i at).0;
        version = refl;
        legal = inl refl;
        seen = λ i v at. subst (λ (x : View). IsPrefix x.seen []) (only w v i at).1 (IsPrefix-nil []);
        rest = λ _. (
          refl,
          λ k h. subst (λ (n : ℕ). get_or (0 ∷ zeros) n 0 ≡ number [] k) (sym (add-one k))
              (none_yet k),
        );
        work = λ t. absurd (both_ways false t refl);
        reading = λ i v at r. absurd (both_ways false (ap (λ (x : View). x.reads) (only w v i at).1 ∙ r) refl);
        joined = λ i v at. subst (λ (x : View). IsJoined x) (only w v i at).1 tt;
      }

  -- a seat that doesn't post goes on, and the words stay
  reader_moves : (s : St) (k : IsKept number s) (id : ℕ) (v w : View) → At s id v → v.posts ≡ false → w.posts ≡ false
      → IsPrefix w.seen k.view.seen → IsJoined w → (w.reads ≡ true → IsReading number (version_of s) k.view.seen w)
      → IsKept number (table s.words s.homes (set s.views id w))
  reader_moves s k id v w at vp wp low one knows =
      let apart : k.poster ≢ id = λ e.
      both_ways k.view.posts k.posts
      (ap (λ (y : View). y.posts) (one_view s.views k.poster id k.view v k.at at e) ∙ vp) in
      record {
        words = k.words;
        poster = k.poster;
        view = k.view;
        at = set_else s.views id k.poster w apart ∙ k.at;
        posts = k.posts;
        only = λ i u h p. ⊎_elim
            (λ t. absurd (both_ways u.posts p (sym (ap (λ (y : View). y.posts) t.1) ∙ wp)))
            (λ t. k.only i u t.1 p)
            (at_set s.views id i w u h);
        version = k.version;
        legal = k.legal;
        seen = λ i u h. ⊎_elim
            (λ t. subst (λ (y : View). IsPrefix y.seen k.view.seen) t.1 low)
            (λ t. k.seen i u t.1)
            (at_set s.views id i w u h);
        rest = k.rest;
        work = k.work;
        reading = λ i u h r. ⊎_elim
            (λ t. subst (λ (y : View). IsReading number (version_of s) k.view.seen y) t.1
            (knows (ap (λ (y : View). y.reads) t.1 ∙ r)))
            (λ t. k.reading i u t.1 r)
            (at_set s.views id i w u h);
        joined = λ i u h. ⊎_elim (λ t. subst (λ (y : View). IsJoined y) t.1 one) (λ t. k.joined i u t.1)
            (at_set s.views id i w u h);
      }

  reader_step : (s : St) (k : IsKept number s) (i id : ℕ) (v w : View) (c : List (ℕ × Unit {0})) → At s id v
      → v.posts ≡ false
      → w.posts ≡ false → IsPrefix w.seen k.view.seen → IsJoined w
      → (w.reads ≡ true → IsReading number (version_of s) k.view.seen w)
      → IsKept number (stepped s i (get_or s.words i 0) id c w keeps)
  reader_step s k i id v w c at vp wp low one knows =
      subst (λ (ws : List ℕ). IsKept number (table ws s.homes (set s.views id w))) (sym (set-get_or s.words i 0))
      (reader_moves s k id v w at vp wp low one knows)

  -- a look begins
  pub begins : (id : ℕ) (m : Seat) → m.0 ≡ idle m.0.seen
      → Allows (IsKept number) 0 id m 0 (λ n. n) (Begins (step 0 0 0 0 none) m)
  begins id m is_idle s k none_at at fits =
      let no_post : m.0.posts ≡ false = ap (λ (y : View). y.posts) is_idle in
      let no_read : m.0.reads ≡ false = ap (λ (y : View). y.reads) is_idle in
      let w : View = reading (version_of s) m.0.seen k.view.seen [] in
      dite (ℕ_discrete (version_of s % 2) 0)
      (λ even. (
        w,
        keeps,
        tt,
        reader_step s k 0 id m.0 w m.1 at no_post refl (k.seen id m.0 at) tt
            (λ _. record {
              even = even;
              past = omega arith;
              begins = k.seen id m.0 at;
              legal = k.legal;
              same = λ _. (refl, λ j h. absurd (omega arith));
            }),
        ((λ _. (k.view.seen, k.seen id m.0 at, k.legal, refl)), λ odd. absurd (odd even)),
      ))
      (λ odd. (
        m.0,
        keeps,
        tt,
        reader_step s k 0 id m.0 m.0 m.1 at no_post no_post (k.seen id m.0 at) (k.joined id m.0 at)
            (λ r. absurd (both_ways m.0.reads r no_read)),
        ((λ even. absurd (odd even)), λ _. refl),
      ))

  -- one number is read
  pub peeks : (id j : ℕ) (m : Seat) → m.0.posts ≡ false → m.0.reads ≡ true → length m.0.numbers ≡ j → j < 8
      → Allows (IsKept number) 0 id m (j + 1) (λ n. n) (Peeks (step 0 (j + 1) 0 0 none) m)
  peeks id j m no_post reads long short s k none_at at fits =
      let old = k.reading id m.0 at reads in
      let found : ℕ = get_or s.words (j + 1) 0 in
      let w : View = reading m.0.version m.0.seen m.0.at (m.0.numbers ++ found ∷ []) in (
        w,
        keeps,
        tt,
        reader_step s k (j + 1) id m.0 w m.1 at no_post refl (k.seen id m.0 at) tt
            (λ _. record {
              even = old.even;
              past = old.past;
              begins = old.begins;
              legal = old.legal;
              same = λ same.
                  let o = old.same same in
                  let calm : k.view.writes ≡ false = false_of_not k.view.writes
                  (λ t. let odd = (k.work t).0 in let even = old.even in omega (arith, odd, even, same)) in (
                    o.0,
                    λ i h. ⊎_elim
                        (λ t. t.1 ∙ o.1 i t.0)
                        (λ t. let e : i ≡ j = t.0 ∙ long in
                        t.1 ∙ ((k.rest calm).1 j short ∙ (ap (λ (l : List Entry). number l j) (sym o.0)
                        ∙ ap (λ (n : ℕ). number m.0.at n) (sym e))))
                        (old_or_last m.0.numbers found i h),
                  );
            }),
        refl,
      )

  -- the second look at the version
  pub checks : (id : ℕ) (m : Seat) → m.0.posts ≡ false → m.0.reads ≡ true
      → Allows (IsKept number) 0 id m 0 (λ n. n) (Checks number (step 0 0 0 0 none) m)
  checks id m no_post reads s k none_at at fits =
      let old = k.reading id m.0 at reads in
      dite (ℕ_discrete (version_of s) m.0.version)
      (λ e. let o = old.same (sym e) in (
        idle m.0.at,
        keeps,
        tt,
        reader_step s k 0 id m.0 (idle m.0.at) m.1 at no_post refl
            (subst (λ (l : List Entry). IsPrefix l k.view.seen) (sym o.0) (IsPrefix-refl k.view.seen)) tt
            (λ r. absurd (both_ways false r refl)),
        ((λ _. (o.1, refl)), λ ne. absurd (ne e)),
      ))
      (λ ne. (
        idle m.0.seen,
        keeps,
        tt,
        reader_step s k 0 id m.0 (idle m.0.seen) m.1 at no_post refl (k.seen id m.0 at) tt
            (λ r. absurd (both_ways false r refl)),
        ((λ e. absurd (ne e)), λ _. refl),
      ))

  -- the seat that posts goes on, and no version that a reader began with is the new one
  poster_moves : (s : St) (k : IsKept number s) (w : View) (ws : List ℕ) → length ws ≡ 9 → w.posts ≡ true
      → w.reads ≡ false → IsJoined w
      → w.version ≡ get_or ws 0 0 → IsPrefix k.view.seen w.seen → IsPosted w.seen → version_of s ≤ get_or ws 0 0
      → ((x : ℕ) → x ≤ version_of s → x % 2 ≡ 0 → x ≡ get_or ws 0 0 → ⊥)
      → (w.writes ≡ false → (get_or ws 0 0 % 2 ≡ 0) × ((j : ℕ) → j < 8 → get_or ws (j + 1) 0 ≡ number w.seen j))
      → (w.writes ≡ true
      → (get_or ws 0 0 % 2 ≡ 1) × ((j : ℕ) → j < length w.numbers → get_or ws (j + 1) 0 ≡ get_or w.numbers j 0))
      → IsKept number (table ws s.homes (set s.views k.poster w))
  poster_moves s k w ws wide posts no_read one known up legal later new rest work = record {
    words = wide;
    poster = k.poster;
    view = w;
    at = set_here s.views k.poster w (at-lt-length s.views k.poster k.view k.at);
    posts = posts;
    only = λ i u h p. ⊎_elim (λ t. t.0) (λ t. k.only i u t.1 p) (at_set s.views k.poster i w u h);
    version = known;
    legal = legal;
    seen = λ i u h. ⊎_elim
        (λ t. subst (λ (y : View). IsPrefix y.seen w.seen) t.1 (IsPrefix-refl w.seen))
        (λ t. IsPrefix-trans u.seen k.view.seen w.seen (k.seen i u t.1) up)
        (at_set s.views k.poster i w u h);
    rest = rest;
    work = work;
    reading = λ i u h r. ⊎_elim
        (λ t. absurd (both_ways u.reads r (sym (ap (λ (y : View). y.reads) t.1) ∙ no_read)))
        (λ t. let o = k.reading i u t.1 r in record {
          even = o.even;
          past = omega (arith, o.past, later);
          begins = o.begins;
          legal = o.legal;
          same = λ same. absurd (new u.version o.past o.even same);
        })
        (at_set s.views k.poster i w u h);
    joined = λ i u h. ⊎_elim (λ t. subst (λ (y : View). IsJoined y) t.1 one) (λ t. k.joined i u t.1)
        (at_set s.views k.poster i w u h);
  }

  -- a post begins
  pub starts : (row : List Entry → List ℕ) → ((H : List Entry) → length (row H) ≡ 8)
      → ((H : List Entry) → AreOf number H (row H))
      → (id : ℕ) (m : Seat) → m.0.posts ≡ true → m.0.writes ≡ false → m.0.version + 1 < 2 ^ 64
      → Allows (IsKept number) 0 id m 0 (λ n. (n + 1) % 2 ^ 64) (Starts row (step 0 0 1 0 none) m)
  starts row long are id m posts rests small s k none_at at fits =
      let same : id ≡ k.poster = k.only id m.0 at posts in
      let vw : k.view ≡ m.0 = one_view s.views k.poster id k.view m.0 k.at at (sym same) in
      let ver : version_of s ≡ m.0.version = sym k.version ∙ ap (λ (y : View). y.version) vw in
      let calm : k.view.writes ≡ false = ap (λ (y : View). y.writes) vw ∙ rests in
      let even = (k.rest calm).0 in
      let e : (version_of s + 1) % 2 ^ 64 ≡ version_of s + 1 = omega (arith, ver, small) in
      let w : View = posting (m.0.version + 1) m.0.seen (row m.0.seen) in
      let ws : List ℕ = set s.words 0 (version_of s + 1) in
      let here : get_or ws 0 0 ≡ version_of s + 1 =
      get_or-set_same s.words 0 (version_of s + 1) 0 (omega (arith, k.words)) in
      let kept = poster_moves s k w ws (length-set s.words 0 (version_of s + 1) ∙ k.words) refl refl tt
      (omega (arith, here, ver))
      (subst (λ (y : View). IsPrefix k.view.seen y.seen) vw (IsPrefix-refl k.view.seen))
      (subst (λ (y : View). IsPosted y.seen) vw k.legal)
      (omega (arith, here)) (λ x le _ eq. omega (arith, here, le, eq)) (λ f. absurd (both_ways true refl f))
      (λ _. (
        omega (arith, here, even),
        λ j h.
            get_or-set_other s.words 0 (j + 1) (version_of s + 1) 0 (λ e. omega arith)
            ∙ ((k.rest calm).1 j (let l = long m.0.seen in omega (arith, l, h))
            ∙ (ap (λ (y : View). number y.seen j) vw ∙ sym (are m.0.seen j h))),
      )) in (
        w,
        keeps,
        tt,
        subst (λ (n : ℕ). IsKept number (table (set s.words 0 n) s.homes (set s.views id w))) (sym e)
            (subst (λ (i : ℕ). IsKept number (table ws s.homes (set s.views i w))) (sym same) kept),
        (ver, refl),
      )

  -- one number is written
  pub puts : (id j x : ℕ) (m : Seat) → m.0.posts ≡ true → m.0.writes ≡ true → length m.0.numbers ≡ 8 → j < 8
      → Allows (IsKept number) 0 id m (j + 1) (λ _. x) (λ _. Puts (step 0 (j + 1) x 0 none) m x)
  puts id j x m posts writes long short s k none_at at fits =
      let same : id ≡ k.poster = k.only id m.0 at posts in
      let vw : k.view ≡ m.0 = one_view s.views k.poster id k.view m.0 k.at at (sym same) in
      let ver : version_of s ≡ m.0.version = sym k.version ∙ ap (λ (y : View). y.version) vw in
      let work = k.work (ap (λ (y : View). y.writes) vw ∙ writes) in
      let odd = work.0 in
      let list_is : k.view.numbers ≡ m.0.numbers = ap (λ (y : View). y.numbers) vw in
      let numbers : List ℕ = set m.0.numbers j x in
      let w : View = posting m.0.version m.0.seen numbers in
      let ws : List ℕ = set s.words (j + 1) x in
      let first : get_or ws 0 0 ≡ version_of s = get_or-set_other s.words (j + 1) 0 x 0 (λ e. omega arith) in
      let place : j + 1 - 1 ≡ j = omega arith in
      let kept = poster_moves s k w ws (length-set s.words (j + 1) x ∙ k.words) refl refl tt (sym ver ∙ sym first)
      (subst (λ (y : View). IsPrefix k.view.seen y.seen) vw (IsPrefix-refl k.view.seen))
      (subst (λ (y : View). IsPosted y.seen) vw k.legal)
      (omega (arith, first)) (λ y le even eq. omega (arith, first, even, eq, odd)) (λ f. absurd (both_ways true refl f))
      (λ _. (
        rw first odd,
        λ i h. dite (ℕ_discrete i j)
            (λ e. ap (λ (n : ℕ). get_or ws (n + 1) 0) e
            ∙ (get_or-set_same s.words (j + 1) x 0 (omega (arith, k.words, short))
            ∙ sym (ap (λ (n : ℕ). get_or numbers n 0) e
            ∙ get_or-set_same m.0.numbers j x 0 (omega (arith, long, short)))))
            (λ ne. get_or-set_other s.words (j + 1) (i + 1) x 0 (λ e. ne (omega (arith, e)))
            ∙ (work.1 i (let l = length-set m.0.numbers j x in rw list_is (omega (arith, l, h)))
            ∙ (ap (λ (l : List ℕ). get_or l i 0) list_is ∙ sym (get_or-set_other m.0.numbers j i x 0 ne)))),
      )) in (
        w,
        keeps,
        tt,
        subst (λ (i : ℕ). IsKept number (table ws s.homes (set s.views i w))) (sym same) kept,
        ap (λ (n : ℕ). (posting m.0.version m.0.seen (set m.0.numbers n x), m.1)) (sym place),
      )

  -- the totals are posted
  pub ends : (id version : ℕ) (H : List Entry) (m : Seat) → m.0.posts ≡ true → m.0.writes ≡ true → m.0.version ≡ version
      → length m.0.numbers ≡ 8 → AreOf number H m.0.numbers → IsPrefix m.0.seen H → IsLegal H
      → Allows (IsKept number) 0 id m 0 (λ n. either (n == version) (version + 1) n)
      (Ends H (step 0 0 version (version + 1) none) m)
  ends id version H m posts writes is long are up legal s k none_at at fits =
      let same : id ≡ k.poster = k.only id m.0 at posts in
      let vw : k.view ≡ m.0 = one_view s.views k.poster id k.view m.0 k.at at (sym same) in
      let ver : version_of s ≡ m.0.version = sym k.version ∙ ap (λ (y : View). y.version) vw in
      let work = k.work (ap (λ (y : View). y.writes) vw ∙ writes) in
      let odd = work.0 in
      let list_is : k.view.numbers ≡ m.0.numbers = ap (λ (y : View). y.numbers) vw in
      let w : View = resting (m.0.version + 1) H in
      let ws : List ℕ = set s.words 0 (version + 1) in
      let here : get_or ws 0 0 ≡ version + 1 = get_or-set_same s.words 0 (version + 1) 0 (omega (arith, k.words)) in
      let kept = poster_moves s k w ws (length-set s.words 0 (version + 1) ∙ k.words) refl refl tt
      (omega (arith, here, is))
      (subst (λ (y : View). IsPrefix y.seen H) (sym vw) up) (inr legal)
      (omega (arith, here, ver, is)) (λ x le _ eq. omega (arith, here, le, eq, ver, is))
      (λ _. (
        omega (arith, here, odd, ver, is),
        λ i h.
            get_or-set_other s.words 0 (i + 1) (version + 1) 0 (λ e. omega arith)
            ∙ (work.1 i (rw list_is (omega (arith, long, h)))
            ∙ (ap (λ (l : List ℕ). get_or l i 0) list_is ∙ are i (omega (arith, long, h)))),
      ))
      (λ t. absurd (both_ways false t refl)) in
      let Goes : ℕ → Type 0 =
      λ n. (u : View) × (a : Act (Unit {0})) × Valid s.homes m.1 a × IsKept number (stepped s 0 n id m.1 u a)
      × Ends H (step {S = Unit {0}} 0 0 version (version + 1) none) m (get_or s.words 0 0) (u, carried_after m.1 a) in
      exchanged (get_or s.words 0 0) version (version + 1) Goes
      (λ _. (
        w,
        keeps,
        tt,
        subst (λ (i : ℕ). IsKept number (table ws s.homes (set s.views i w))) (sym same) kept,
        refl,
      ))
      (λ ne. absurd (ne (ver ∙ is)))

  -- a reader is split off
  pub splits : (id : ℕ) (v : View) → Splits {S = Unit {0}} (IsKept number) id v v (idle v.seen)
  splits id v s k at =
      let w : View = idle v.seen in
      subst (λ (vs : List View). IsKept number (table s.words s.homes (vs ++ w ∷ []))) (sym (set_again s.views id v at))
      record {
        words = k.words;
        poster = k.poster;
        view = k.view;
        at = at_longer s.views (w ∷ []) k.poster k.view k.at;
        posts = k.posts;
        only = λ i u h p. ⊎_elim
            (λ a. k.only i u a p)
            (λ e. absurd (both_ways false (ap (λ (y : View). y.posts) e ∙ p) refl))
            (at_snoc s.views w u i h);
        version = k.version;
        legal = k.legal;
        seen = λ i u h. ⊎_elim
            (λ a. k.seen i u a)
            (λ e. subst (λ (y : View). IsPrefix y.seen k.view.seen) e (k.seen id v at))
            (at_snoc s.views w u i h);
        rest = k.rest;
        work = k.work;
        reading = λ i u h r. ⊎_elim
            (λ a. k.reading i u a r)
            (λ e. absurd (both_ways false (ap (λ (y : View). y.reads) e ∙ r) refl))
            (at_snoc s.views w u i h);
        joined = λ i u h. ⊎_elim (λ a. k.joined i u a) (λ e. subst (λ (y : View). IsJoined y) e tt)
            (at_snoc s.views w u i h);
      }

  -- a seat that reads was joined to another one, and nothing of it is left
  spends : (s : St) (k : IsKept number s) (other : ℕ) (w : View) → At s other w → w ≡ idle w.seen
      → IsKept number (table s.words s.homes (set s.views other spent))
  spends s k other w there idles =
      reader_moves s k other w spent there (ap (λ (y : View). y.posts) idles) refl (IsPrefix-nil k.view.seen) tt
      (λ r. absurd (both_ways false r refl))

  -- two seats that read become one
  pub joins : (id : ℕ) (v : View) (other : ℕ) (w : View) → v ≡ idle v.seen → w ≡ idle w.seen
      → Joins {S = Unit {0}} (IsKept number) id v other w (put_together v w) spent
  unfolding spends reader_moves
  joins id v other w idles idles_too s k at ne there_then =
      let b : View = put_together v w in
      let there : At s other w = sym (set_else s.views id other b ne) ∙ there_then in
      let then_at : get_elem? (set s.views other spent) id ≡ some v =
      set_else s.views other id spent (λ e. ne (sym e)) ∙ at in
      let one = k.seen id v at in
      let two = k.seen other w there in
      subst (λ (vs : List View). IsKept number (table s.words s.homes vs)) (set-comm s.views other id spent b ne)
      (reader_moves (table s.words s.homes (set s.views other spent)) (spends s k other w there idles_too) id v b
      then_at (ap (λ (y : View). y.posts) idles) refl (IsPrefix-longer v.seen w.seen k.view.seen one two) (
        longer-IsPrefix_first v.seen w.seen k.view.seen one two,
        longer-IsPrefix_second v.seen w.seen k.view.seen one
            two,
      )
      (λ r. absurd (both_ways false r refl)))

  -- the seat that posts is in the middle of no look, and changes nothing but what it was joined from
  poster_joined : (s : St) (k : IsKept number s) (j : Option (List Entry × List Entry)) → k.view.reads ≡ false
      → IsJoined (record k.view { joined = j })
      → IsKept number (table s.words s.homes (set s.views k.poster (record k.view { joined = j })))
  poster_joined s k j no_read one =
      let w : View = record k.view { joined = j } in
      record {
        words = k.words;
        poster = k.poster;
        view = w;
        at = set_here s.views k.poster w (at-lt-length s.views k.poster k.view k.at);
        posts = k.posts;
        only = λ i u h p. ⊎_elim (λ t. t.0) (λ t. k.only i u t.1 p) (at_set s.views k.poster i w u h);
        version = k.version;
        legal = k.legal;
        seen = λ i u h. ⊎_elim
            (λ t. subst (λ (y : View). IsPrefix y.seen k.view.seen) t.1 (IsPrefix-refl k.view.seen))
            (λ t. k.seen i u t.1)
            (at_set s.views k.poster i w u h);
        rest = k.rest;
        work = k.work;
        reading = λ i u h r. ⊎_elim
            (λ t. absurd (both_ways u.reads r (sym (ap (λ (y : View). y.reads) t.1) ∙ no_read)))
            (λ t. k.reading i u t.1 r)
            (at_set s.views k.poster i w u h);
        joined = λ i u h. ⊎_elim (λ t. subst (λ (y : View). IsJoined y) t.1 one) (λ t. k.joined i u t.1)
            (at_set s.views k.poster i w u h);
      }

  -- the seat that posts takes in one that reads
  pub meets : (id : ℕ) (v : View) (other : ℕ) (w : View) → v ≡ resting v.version v.seen → w ≡ idle w.seen
      → Joins {S = Unit {0}} (IsKept number) id v other w (met v w) spent
  unfolding spends reader_moves
  meets id v other w rests idles s k at ne there_then =
      let b : View = met v w in
      let same : id ≡ k.poster = k.only id v at (ap (λ (y : View). y.posts) rests) in
      let vw : k.view ≡ v = one_view s.views k.poster id k.view v k.at at (sym same) in
      let there : At s other w = sym (set_else s.views id other b ne) ∙ there_then in
      let less : St = table s.words s.homes (set s.views other spent) in
      let kept = poster_joined less (spends s k other w there idles) (Some (k.view.seen, w.seen))
      (ap (λ (y : View). y.reads) (vw ∙ rests)) (IsPrefix-refl k.view.seen, k.seen other w there) in
      subst (λ (vs : List View). IsKept number (table s.words s.homes vs)) (set-comm s.views other id spent b ne)
      (subst (λ (i : ℕ). IsKept number (table s.words s.homes (set less.views i b))) (sym same)
      (subst (λ (y : View). IsKept number (table s.words s.homes (set less.views k.poster (met y w)))) vw kept))

  -- the seat that two became, which reads, is told how what they had seen goes together
  pub tells : (id : ℕ) (m : Seat) → m.0.posts ≡ false → m.0.reads ≡ false
      → Allows (IsKept number) 0 id m 0 (λ n. n) (Tells (step 0 0 0 0 none) m)
  tells id m no_post no_read s k none_at at fits = (
    told m.0,
    keeps,
    tt,
    reader_step s k 0 id m.0 (told m.0) m.1 at no_post no_post (k.seen id m.0 at) tt
        (λ r. absurd (both_ways m.0.reads r no_read)),
    (k.joined id m.0 at, refl),
  )

  -- and so is the one that posts
  pub tells_poster : (id : ℕ) (m : Seat) → m.0.posts ≡ true → m.0.reads ≡ false
      → Allows (IsKept number) 0 id m 0 (λ n. n) (Tells (step 0 0 0 0 none) m)
  tells_poster id m posts no_read s k none_at at fits =
      let same : id ≡ k.poster = k.only id m.0 at posts in
      let vw : k.view ≡ m.0 = one_view s.views k.poster id k.view m.0 k.at at (sym same) in
      let kept = poster_joined s k None (ap (λ (y : View). y.reads) vw ∙ no_read) tt in (
        told m.0,
        keeps,
        tt,
        subst (λ (ws : List ℕ). IsKept number (table ws s.homes (set s.views id (told m.0))))
            (sym (set-get_or s.words 0 0))
            (subst (λ (i : ℕ). IsKept number (table s.words s.homes (set s.views i (told m.0)))) (sym same)
            (subst (λ (y : View). IsKept number (table s.words s.homes (set s.views k.poster (told y)))) vw kept)),
        (k.joined id m.0 at, refl),
      )
