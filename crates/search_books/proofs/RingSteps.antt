-- What a change of links makes of a ring.
use Rattle.std.proofs.Common.{◌≡◌, ◌≢◌, ◌<◌, ◌≤◌, ◌+◌, ℕ, zero, suc, Bool, true, false, not, nat_eq, List, [], ◌∷◌, ◌++◌, length, get_or, refl, ap, subst, sym, ◌∙◌, ⊎_elim, arith, length-append, eqb, ◌||◌}
use Rattle.std.proofs.lemmas.Bool.{cases_Bool, cases_eq, true≢false}
use Rattle.std.proofs.lemmas.Map.Steps.{length-le_from_distinct_below}
use Rattle.std.specs.List.{IsDistinct, AllByRecursion, list_any}
use Rattle.search_books.specs.declared.links.Link.{Link}
use Rattle.search_books.specs.Order.{has, strike, put_behind, IsOnce}
use Rattle.search_books.specs.Rings.{blank, after_of, before_of, order_of, IsRing}
use Rattle.search_books.proofs.Lists.{same, other, has-here, has-there, has-rest, apart, none-first, none-rest, none-both, strike-none, strike-other, strike-gone, strike-once, behind-other, behind-once}
use Rattle.search_books.proofs.Paths.{path-same, path-cut, path-join, after-in, before-in, walk-path, last-in, not-itself, IsCut, IsJoin}

none-all : (x : ℕ) (xs : List ℕ) → has x xs ≡ false → AllByRecursion (λ y. eqb x y ≡ false) xs
none-all x [] none = tt
none-all x (y ∷ xs) none = (other x y (none-first x y xs none), none-all x xs (none-rest x y xs none))

distinct : (xs : List ℕ) → IsOnce xs → IsDistinct eqb xs
unfolding IsDistinct
distinct [] once = tt
distinct (x ∷ xs) once = (none-all x xs once.0, distinct xs once.1)

any-has : (q : ℕ) (xs : List ℕ) → list_any (eqb q) xs ≡ true → has q xs ≡ true
any-has q [] any = any
any-has q (x ∷ xs) any =
    ⊎_elim
    (λ (e : q ≡ x). has-here q x xs e)
    (λ (ne : q ≢ x). has-there q x xs
    (any-has q xs (sym (ap (λ (b : Bool). b || list_any (eqb q) xs) (other q x ne)) ∙ any)))
    (cases_eq q x)

pub short : (links : List Link) (xs : List ℕ) → IsRing links xs → length xs ≤ length links
short links xs ring = length-le_from_distinct_below xs (length links) (distinct xs ring.once.1)
    (λ q any. ring.within q (any-has q xs any))

-- the order that clauses see
pub order-is : (links : List Link) (xs : List ℕ) → IsRing links xs → order_of links ≡ xs
order-is links xs ring =
    walk-path (after_of links) (before_of links) 0 (length links) xs ring.path ring.once.0 (short links xs ring)

module _ (old new : List Link) (s : ℕ) (len : length new ≡ length old) (s_low : s < length old) (s_zero : s ≢ 0) where
  pub ring-cut : (xs : List ℕ) → IsRing old xs → has s xs ≡ true
      → IsCut (after_of old) (before_of old) (after_of new) (before_of new) s → after_of new s ≡ s
      → before_of new s ≡ s → IsRing new (strike s xs)
  ring-cut xs ring some cut itself itself_before =
      let f = after_of old in
      let g = before_of old in
      let prior : has (g s) (0 ∷ xs) ≡ true = before-in f g 0 s xs ring.path some in
      record {
        some = omega (arith, ring.some, len);
        path = path-cut f g (after_of new) (before_of new) 0 s xs ring.path cut some ring.once ring.once.0;
        once = (strike-none s 0 xs ring.once.0, strike-once s xs ring.once.1);
        within = λ x h.
            let x_other : x ≢ s = λ (bad : x ≡ s).
            true≢false (sym h ∙ (ap (λ (y : ℕ). has y (strike s xs)) bad ∙ strike-gone s xs ring.once.1)) in
            let low = ring.within x (sym (strike-other s x xs x_other) ∙ h) in
            omega (arith, low, len);
        out = λ x none x_zero x_low.
            ⊎_elim
            (λ (e : x ≡ s). subst (λ (y : ℕ). after_of new y ≡ y) (sym e) itself)
            (λ (ne : x ≢ s).
            let none_old : has x xs ≡ false = sym (strike-other s x xs ne) ∙ none in
            cut.after_others x (apart x (g s) (0 ∷ xs) (none-both x 0 xs x_zero none_old) prior) ne
            ∙ ring.out x none_old x_zero (omega (arith, x_low, len)))
            (cases_eq x s);
        out_before = λ x none x_zero x_low.
            ⊎_elim
            (λ (e : x ≡ s). subst (λ (y : ℕ). before_of new y ≡ y) (sym e) itself_before)
            (λ (ne : x ≢ s).
            let none_old : has x xs ≡ false = sym (strike-other s x xs ne) ∙ none in
            cut.before_others x
            (apart x (f s) (0 ∷ xs) (none-both x 0 xs x_zero none_old)
            (after-in f g 0 s xs ring.path (has-there s 0 xs some))) ne
            ∙ ring.out_before x none_old x_zero (omega (arith, x_low, len)))
            (cases_eq x s);
        low = record {
          after = λ i i_low.
              ⊎_elim
              (λ (e : i ≡ s). omega (arith, ap (λ (y : ℕ). after_of new y) e, itself, s_low, len))
              (λ (ne : i ≢ s).
              ⊎_elim
              (λ (e : i ≡ g s). omega (
                arith,
                ap (λ (y : ℕ). after_of new y) e,
                cut.after,
                ring.low.after s s_low,
                len,
              ))
              (λ (no : i ≢ g s). omega
              (arith, cut.after_others i no ne, ring.low.after i (omega (arith, i_low, len)), len))
              (cases_eq i (g s)))
              (cases_eq i s);
          before = λ i i_low.
              ⊎_elim
              (λ (e : i ≡ f s). omega (
                arith,
                ap (λ (y : ℕ). before_of new y) e,
                cut.before,
                ring.low.before s s_low,
                len,
              ))
              (λ (no : i ≢ f s).
              ⊎_elim
              (λ (e : i ≡ s). omega (arith, ap (λ (y : ℕ). before_of new y) e, itself_before, s_low, len))
              (λ (ne : i ≢ s). omega (
                arith,
                cut.before_others i no ne,
                ring.low.before i (omega (arith, i_low, len)),
                len,
              ))
              (cases_eq i s))
              (cases_eq i (f s));
        };
      }

  pub ring-join : (p : ℕ) (xs : List ℕ) → p < length old → IsRing old xs → has p (0 ∷ xs) ≡ true
      → has s (0 ∷ xs) ≡ false
      → IsJoin (after_of old) (before_of old) (after_of new) (before_of new) p s → IsRing new (put_behind p s 0 xs)
  ring-join p xs p_low ring some none join =
      let f = after_of old in
      let g = before_of old in
      let out_xs : has s xs ≡ false = none-rest s 0 xs none in
      record {
        some = omega (arith, ring.some, len);
        path = path-join f g (after_of new)
            (before_of new) 0 p s xs ring.path join some ring.once ring.once.0 none s_zero;
        once = (
          behind-other p s 0 0 xs (λ (bad : 0 ≡ s). s_zero (sym bad))
              ∙ ring.once.0,
          behind-once p s 0 xs ring.once.1 out_xs,
        );
        within = λ x h.
            ⊎_elim
            (λ (e : x ≡ s). omega (arith, e, s_low, len))
            (λ (ne : x ≢ s). omega (arith, ring.within x (sym (behind-other p s 0 x xs ne) ∙ h), len))
            (cases_eq x s);
        out = λ x gone x_zero x_low.
            let x_other : x ≢ s = λ (bad : x ≡ s).
            true≢false (sym (in_it p xs some) ∙ (ap (λ (y : ℕ). has y (put_behind p s 0 xs)) (sym bad) ∙ gone)) in
            let none_old : has x xs ≡ false = sym (behind-other p s 0 x xs x_other) ∙ gone in
            join.after_others x (apart x p (0 ∷ xs) (none-both x 0 xs x_zero none_old) some) x_other
            ∙ ring.out x none_old x_zero (omega (arith, x_low, len));
        out_before = λ x gone x_zero x_low.
            let x_other : x ≢ s = λ (bad : x ≡ s).
            true≢false (sym (in_it p xs some) ∙ (ap (λ (y : ℕ). has y (put_behind p s 0 xs)) (sym bad) ∙ gone)) in
            let none_old : has x xs ≡ false = sym (behind-other p s 0 x xs x_other) ∙ gone in
            join.before_others x (apart x (f p) (0 ∷ xs) (none-both x 0 xs x_zero none_old)
            (after-in f g 0 p xs ring.path some)) x_other
            ∙ ring.out_before x none_old x_zero (omega (arith, x_low, len));
        low = record {
          after = λ i i_low.
              ⊎_elim
              (λ (e : i ≡ p). omega (arith, ap (λ (y : ℕ). after_of new y) e, join.after, s_low, len))
              (λ (no : i ≢ p).
              ⊎_elim
              (λ (e : i ≡ s). omega (
                arith,
                ap (λ (y : ℕ). after_of new y) e,
                join.after_new,
                ring.low.after p p_low,
                len,
              ))
              (λ (ne : i ≢ s). omega (
                arith,
                join.after_others i no ne,
                ring.low.after i (omega (arith, i_low, len)),
                len,
              ))
              (cases_eq i s))
              (cases_eq i p);
          before = λ i i_low.
              ⊎_elim
              (λ (e : i ≡ f p). omega (arith, ap (λ (y : ℕ). before_of new y) e, join.before, s_low, len))
              (λ (no : i ≢ f p).
              ⊎_elim
              (λ (e : i ≡ s). omega (arith, ap (λ (y : ℕ). before_of new y) e, join.before_new, p_low, len))
              (λ (ne : i ≢ s). omega (
                arith,
                join.before_others i no ne,
                ring.low.before i (omega (arith, i_low, len)),
                len,
              ))
              (cases_eq i s))
              (cases_eq i (f p));
        };
      }
    where
      in_from : (q b : ℕ) (ys : List ℕ) → has q (b ∷ ys) ≡ true → has s (put_behind q s b ys) ≡ true
      in_from q b [] h =
          ⊎_elim
          (λ (e : q ≡ b). rw (same q b e) (has-here s s [] refl))
          (λ (ne : q ≢ b). absurd (true≢false (sym (sym (has-rest q b [] ne) ∙ h))))
          (cases_eq q b)
      in_from q b (y ∷ ys) h =
          ⊎_elim
          (λ (e : q ≡ b). rw (same q b e) (has-here s s (y ∷ ys) refl))
          (λ (ne : q ≢ b). rw (other q b ne)
          (has-there s y (put_behind q s y ys) (in_from q y ys (sym (has-rest q b (y ∷ ys) ne) ∙ h))))
          (cases_eq q b)

      in_it : (q : ℕ) (ys : List ℕ) → has q (0 ∷ ys) ≡ true → has s (put_behind q s 0 ys) ≡ true
      in_it q ys h = in_from q 0 ys h

module _ (f g f1 g1 f2 g2 f3 g3 f4 g4 : ℕ → ℕ) (s n p : ℕ) where
  pub cut-chain : n ≡ f s → p ≡ g s → g s ≢ s → f s ≢ s → f1 p ≡ n → ((x : ℕ) → x ≢ p → f1 x ≡ f x)
      → ((x : ℕ) → g1 x ≡ g x)
      → g2 n ≡ p → ((x : ℕ) → x ≢ n → g2 x ≡ g1 x) → ((x : ℕ) → f2 x ≡ f1 x)
      → ((x : ℕ) → x ≢ s → f3 x ≡ f2 x) → ((x : ℕ) → g3 x ≡ g2 x)
      → ((x : ℕ) → x ≢ s → g4 x ≡ g3 x) → ((x : ℕ) → f4 x ≡ f3 x) → IsCut f g f4 g4 s
  cut-chain n_is p_is ne next_ne f1_p f1_o g1_o g2_n g2_o f2_o f3_o g3_o g4_o f4_o = record {
    after = f4_o (g s) ∙ (f3_o (g s) ne ∙ (f2_o (g s) ∙ (ap (λ (x : ℕ). f1 x) (sym p_is) ∙ (f1_p ∙ n_is))));
    after_others = λ x no_p no_s. f4_o x ∙ (f3_o x no_s ∙ (f2_o x ∙ f1_o x (λ (bad : x ≡ p). no_p (bad ∙ p_is))));
    before = g4_o (f s) next_ne ∙ (g3_o (f s) ∙ (ap (λ (x : ℕ). g2 x) (sym n_is) ∙ (g2_n ∙ p_is)));
    before_others = λ x no no_s. g4_o x no_s ∙ (g3_o x ∙ (g2_o x (λ (bad : x ≡ n). no (bad ∙ n_is)) ∙ g1_o x));
  }

module _ (f g f1 g1 f2 g2 f3 g3 f4 g4 : ℕ → ℕ) (s n p : ℕ) where
  pub join-chain : n ≡ f p → p ≢ s → f p ≢ s → f1 p ≡ s → ((x : ℕ) → x ≢ p → f1 x ≡ f x) → ((x : ℕ) → g1 x ≡ g x)
      → f2 s ≡ n → ((x : ℕ) → x ≢ s → f2 x ≡ f1 x) → ((x : ℕ) → g2 x ≡ g1 x)
      → g3 n ≡ s → ((x : ℕ) → x ≢ n → g3 x ≡ g2 x) → ((x : ℕ) → f3 x ≡ f2 x)
      → g4 s ≡ p → ((x : ℕ) → x ≢ s → g4 x ≡ g3 x) → ((x : ℕ) → f4 x ≡ f3 x) → IsJoin f g f4 g4 p s
  join-chain n_is p_s fp_s f1_p f1_o g1_o f2_s f2_o g2_o g3_n g3_o f3_o g4_s g4_o f4_o = record {
    after = f4_o p ∙ (f3_o p ∙ (f2_o p p_s ∙ f1_p));
    after_new = f4_o s ∙ (f3_o s ∙ (f2_s ∙ n_is));
    after_others = λ x no_p no_s. f4_o x ∙ (f3_o x ∙ (f2_o x no_s ∙ f1_o x no_p));
    before = g4_o (f p) fp_s ∙ (ap (λ (x : ℕ). g3 x) (sym n_is) ∙ g3_n);
    before_new = g4_s;
    before_others = λ x no_n no_s. g4_o x no_s ∙ (g3_o x (λ (bad : x ≡ n). no_n (bad ∙ n_is)) ∙ (g2_o x ∙ g1_o x));
  }

-- a number that is not there yet
pub get_or-front : (xs : List Link) (x : Link) (i : ℕ) → i < length xs
    → get_or (xs ++ x ∷ []) i blank ≡ get_or xs i blank
get_or-front [] x i low = absurd (omega (arith, low))
get_or-front (y ∷ xs) x zero low = refl
get_or-front (y ∷ xs) x (suc i) low = get_or-front xs x i (omega (arith, low))

pub get_or-end : (xs : List Link) (x : Link) → get_or (xs ++ x ∷ []) (length xs) blank ≡ x
get_or-end [] x = refl
get_or-end (y ∷ xs) x = get_or-end xs x

pub ring-open : (links : List Link) (new : Link) (xs : List ℕ) → IsRing links xs → new.after ≡ length links
    → new.before ≡ length links
    → IsRing (links ++ new ∷ []) xs
ring-open links new xs ring after_is before_is =
    let len : length (links ++ new ∷ []) ≡ length links + 1 = length-append links (new ∷ []) in
    let low_of : (x : ℕ) → has x (0 ∷ xs) ≡ true → x < length links = λ x h.
    ⊎_elim
    (λ (e : x ≡ 0). omega (arith, e, ring.some))
    (λ (ne : x ≢ 0). ring.within x (sym (has-rest x 0 xs ne) ∙ h))
    (cases_eq x 0) in
    record {
      some = omega (arith, len);
      path = path-same (after_of links) (before_of links) (after_of (links ++ new ∷ []))
          (before_of (links ++ new ∷ [])) 0 xs
          (λ x h. ap (λ (l : Link). l.after) (get_or-front links new x (low_of x h)))
          (λ x h. ap (λ (l : Link). l.before) (get_or-front links new x (low_of x h))) ring.path;
      once = ring.once;
      within = λ x h. omega (arith, ring.within x h, len);
      out = λ x none x_zero x_low.
          ⊎_elim
          (λ (e : x ≡ length links).
          subst (λ (y : ℕ). after_of (links ++ new ∷ []) y ≡ y) (sym e)
          (ap (λ (l : Link). l.after) (get_or-end links new) ∙ after_is))
          (λ (ne : x ≢ length links).
          let low : x < length links = omega (arith, x_low, len, ne) in
          ap (λ (l : Link). l.after) (get_or-front links new x low) ∙ ring.out x none x_zero low)
          (cases_eq x (length links));
      out_before = λ x none x_zero x_low.
          ⊎_elim
          (λ (e : x ≡ length links).
          subst (λ (y : ℕ). before_of (links ++ new ∷ []) y ≡ y) (sym e)
          (ap (λ (l : Link). l.before) (get_or-end links new) ∙ before_is))
          (λ (ne : x ≢ length links).
          let low : x < length links = omega (arith, x_low, len, ne) in
          ap (λ (l : Link). l.before) (get_or-front links new x low) ∙ ring.out_before x none x_zero low)
          (cases_eq x (length links));
      low = record {
        after = λ i i_low.
            ⊎_elim
            (λ (e : i ≡ length links).
            omega (
              arith,
              ap (λ (y : ℕ). after_of (links ++ new ∷ []) y) e,
              ap (λ (l : Link). l.after) (get_or-end links new),
              after_is,
              len,
            ))
            (λ (ne : i ≢ length links).
            let low : i < length links = omega (arith, i_low, len, ne) in
            omega (arith, ap (λ (l : Link). l.after) (get_or-front links new i low), ring.low.after i low, len))
            (cases_eq i (length links));
        before = λ i i_low.
            ⊎_elim
            (λ (e : i ≡ length links).
            omega (
              arith,
              ap (λ (y : ℕ). before_of (links ++ new ∷ []) y) e,
              ap (λ (l : Link). l.before) (get_or-end links new),
              before_is,
              len,
            ))
            (λ (ne : i ≢ length links).
            let low : i < length links = omega (arith, i_low, len, ne) in
            omega (arith, ap (λ (l : Link). l.before) (get_or-front links new i low), ring.low.before i low, len))
            (cases_eq i (length links));
      };
    }

-- a ring of a list is a ring of what clauses see
pub ring-seen : (links : List Link) (xs : List ℕ) → IsRing links xs → IsRing links (order_of links)
ring-seen links xs ring = subst (λ (ys : List ℕ). IsRing links ys) (sym (order-is links xs ring)) ring

-- what leads to itself is not in the list
pub ring-contains : (links : List Link) (xs : List ℕ) (s : ℕ) → IsRing links xs → 0 < s → s < length links
    → not (nat_eq (after_of links s) s) ≡ has s xs
ring-contains links xs s ring above below =
    ⊎_elim
    (λ (e : has s xs ≡ true).
    rw (
      e,
      other (after_of links s) s
          (not-itself (after_of links) (before_of links) 0 s xs ring.path ring.once ring.once.0 e),
    ) refl)
    (λ (e : has s xs ≡ false).
    rw (e, same (after_of links s) s (ring.out s e (omega (arith, above)) below)) refl)
    (cases_Bool (has s xs))

-- the last number goes, which is not in the list
pub ring-close : (links : List Link) (last : Link) (xs : List ℕ) → 0 < length links → IsRing (links ++ last ∷ []) xs
    → has (length links) xs ≡ false → IsRing links xs
ring-close links last xs some ring gone =
    let len : length (links ++ last ∷ []) ≡ length links + 1 = length-append links (last ∷ []) in
    let f = after_of (links ++ last ∷ []) in
    let g = before_of (links ++ last ∷ []) in
    let gone_all : has (length links) (0 ∷ xs) ≡ false = none-both (length links) 0 xs (omega (arith, some)) gone in
    let low_of : (x : ℕ) → has x (0 ∷ xs) ≡ true → x < length links = λ x h.
    let ne : length links ≢ x = apart (length links) x (0 ∷ xs) gone_all h in
    ⊎_elim
    (λ (e : x ≡ 0). omega (arith, e, some))
    (λ (no : x ≢ 0). omega (arith, ring.within x (sym (has-rest x 0 xs no) ∙ h), len, ne))
    (cases_eq x 0) in
    let after_is : (x : ℕ) → x < length links
    → after_of links x ≡ f x = λ x low. ap (λ (l : Link). l.after) (sym (get_or-front links last x low)) in
    let before_is : (x : ℕ) → x < length links
    → before_of links x ≡ g x = λ x low. ap (λ (l : Link). l.before) (sym (get_or-front links last x low)) in
    record {
      some = some;
      path = path-same f g (after_of links) (before_of links) 0 xs (λ x h. after_is x (low_of x h))
          (λ x h. before_is x (low_of x h)) ring.path;
      once = ring.once;
      within = λ x h. low_of x (has-there x 0 xs h);
      out = λ x none x_zero low. after_is x low ∙ ring.out x none x_zero (omega (arith, low, len));
      out_before = λ x none x_zero low. before_is x low ∙ ring.out_before x none x_zero (omega (arith, low, len));
      low = record {
        after = λ i low.
            ⊎_elim
            (λ (h : has i (0 ∷ xs) ≡ true).
            omega (arith, after_is i low, low_of (f i) (after-in f g 0 i xs ring.path h)))
            (λ (h : has i (0 ∷ xs) ≡ false).
            omega (
              arith,
              after_is i low,
              low,
              ring.out i (none-rest i 0 xs h) (none-first i 0 xs h) (omega (arith, low, len)),
            ))
            (cases_Bool (has i (0 ∷ xs)));
        before = λ i low.
            ⊎_elim
            (λ (e : i ≡ 0).
            let is : g i ≡ g 0 = ap (λ (y : ℕ). g y) e in
            omega (arith, before_is i low, is, low_of (g 0) (last-in f g 0 xs ring.path)))
            (λ (ne : i ≢ 0).
            ⊎_elim
            (λ (h : has i xs ≡ true). omega (arith, before_is i low, low_of (g i) (before-in f g 0 i xs ring.path h)))
            (λ (h : has i xs ≡ false).
            omega (arith, before_is i low, low, ring.out_before i h ne (omega (arith, low, len))))
            (cases_Bool (has i xs)))
            (cases_eq i 0);
      };
    }
