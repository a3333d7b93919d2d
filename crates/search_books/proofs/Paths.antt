-- Paths of links, and what a change of a few links leaves.
use Rattle.std.proofs.Common.{◌≡◌, ◌≢◌, ◌≤◌, ℕ, zero, suc, Bool, true, false, cond, List, [], ◌∷◌, ◌++◌, length, refl, ap, subst, sym, ◌∙◌, ⊎_elim, arith}
use Rattle.std.proofs.lemmas.Bool.{cases_eq, true≢false}
use Rattle.search_books.specs.Order.{has, strike, put_behind, first_of, next_of, prior_of, IsOnce}
use Rattle.search_books.specs.Rings.{IsPath, walk}
use Rattle.search_books.proofs.Lists.{same, other, has-here, has-there, has-rest, apart, none-first, none-rest, none-both}

-- links that are the same along a path
pub path-same : (f g f' g' : ℕ → ℕ) (a : ℕ) (xs : List ℕ)
    → ((x : ℕ) → has x (a ∷ xs) ≡ true → f' x ≡ f x) → ((x : ℕ) → has x (0 ∷ xs) ≡ true → g' x ≡ g x)
    → IsPath f g a xs → IsPath f' g' a xs
path-same f g f' g' a [] same_f same_g path =
    (same_f a (has-here a a [] refl) ∙ path.0, same_g 0 (has-here 0 0 [] refl) ∙ path.1)
path-same f g f' g' a (x ∷ xs) same_f same_g path = (
  same_f a (has-here a a (x ∷ xs) refl) ∙ path.0,
  same_g x (has-there x 0 (x ∷ xs) (has-here x x xs refl)) ∙ path.1,
  path-same f g f' g' x xs (λ y h. same_f y (has-there y a (x ∷ xs) h))
      (λ y h. same_g y (widen y h)) path.2,
)
  where
    widen : (y : ℕ) → has y (0 ∷ xs) ≡ true → has y (0 ∷ x ∷ xs) ≡ true
    widen y h =
        ⊎_elim
        (λ (e : y ≡ 0). has-here y 0 (x ∷ xs) e)
        (λ (ne : y ≢ 0). has-there y 0 (x ∷ xs) (has-there y x xs (sym (has-rest y 0 xs ne) ∙ h)))
        (cases_eq y 0)

-- what stands in front of a number of the path
pub before-in : (f g : ℕ → ℕ) (a s : ℕ) (xs : List ℕ) → IsPath f g a xs → has s xs ≡ true → has (g s) (a ∷ xs) ≡ true
before-in f g a s [] path some = absurd (true≢false (sym some))
before-in f g a s (x ∷ xs) path some =
    ⊎_elim
    (λ (e : s ≡ x). has-here (g s) a (x ∷ xs) (ap (λ (y : ℕ). g y) e ∙ path.1))
    (λ (ne : s ≢ x). has-there (g s) a (x ∷ xs) (before-in f g x s xs path.2 (sym (has-rest s x xs ne) ∙ some)))
    (cases_eq s x)

-- and what behind it, or behind the start
pub after-in : (f g : ℕ → ℕ) (a s : ℕ) (xs : List ℕ) → IsPath f g a xs → has s (a ∷ xs) ≡ true
    → has (f s) (0 ∷ xs) ≡ true
after-in f g a s [] path some =
    ⊎_elim
    (λ (e : s ≡ a). has-here (f s) 0 [] (ap (λ (y : ℕ). f y) e ∙ path.0))
    (λ (ne : s ≢ a). absurd (true≢false (sym (sym (has-rest s a [] ne) ∙ some))))
    (cases_eq s a)
after-in f g a s (x ∷ xs) path some =
    ⊎_elim
    (λ (e : s ≡ a).
    has-there (f s) 0 (x ∷ xs) (has-here (f s) x xs (ap (λ (y : ℕ). f y) e ∙ path.0)))
    (λ (ne : s ≢ a).
    let rest = after-in f g x s xs path.2 (sym (has-rest s a (x ∷ xs) ne) ∙ some) in
    ⊎_elim
    (λ (e : f s ≡ 0). has-here (f s) 0 (x ∷ xs) e)
    (λ (no : f s ≢ 0). has-there (f s) 0 (x ∷ xs) (has-there (f s) x xs (sym (has-rest (f s) 0 xs no) ∙ rest)))
    (cases_eq (f s) 0))
    (cases_eq s a)

-- the links without s
pub record IsCut (f g f' g' : ℕ → ℕ) (s : ℕ) : Type 0 where
  pub after : f' (g s) ≡ f s
  pub after_others : (x : ℕ) → x ≢ g s → x ≢ s → f' x ≡ f x
  pub before : g' (f s) ≡ g s
  pub before_others : (x : ℕ) → x ≢ f s → x ≢ s → g' x ≡ g x

pub path-cut : (f g f' g' : ℕ → ℕ) (a s : ℕ) (xs : List ℕ) → IsPath f g a xs → IsCut f g f' g' s → has s xs ≡ true
    → IsOnce (a ∷ xs) → has 0 xs ≡ false → IsPath f' g' a (strike s xs)
path-cut f g f' g' a s [] path cut some once zero_out = absurd (true≢false (sym some))
path-cut f g f' g' a s (x ∷ xs) path cut some once zero_out =
    ⊎_elim
    (λ (e : s ≡ x). rw (same s x e) (here e xs path once zero_out))
    (λ (ne : s ≢ x).
    let some_rest : has s xs ≡ true = sym (has-rest s x xs ne) ∙ some in
    let prior : has (g s) (x ∷ xs) ≡ true = before-in f g x s xs path.2 some_rest in
    let next : has (f s) (0 ∷ xs) ≡ true = after-in f g x s xs path.2 (has-there s x xs some_rest) in
    let x_zero : x ≢ 0 = λ (bad : x ≡ 0). none-first 0 x xs zero_out (sym bad) in
    let first : f' a ≡ x = cut.after_others a (apart a (g s) (x ∷ xs) once.0 prior) (apart a s (x ∷ xs) once.0 some)
    ∙ path.0 in
    let back : g' x ≡ a = cut.before_others x (apart x (f s) (0 ∷ xs) (none-both x 0 xs x_zero once.1.0) next)
    (λ (bad : x ≡ s). ne (sym bad)) ∙ path.1 in
    rw (other s x ne) (
      first,
      back,
      path-cut f g f' g' x s xs path.2 cut some_rest once.1 (none-rest 0 x xs zero_out),
    ))
    (cases_eq s x)
  where
    here : s ≡ x → (ys : List ℕ) → IsPath f g a (x ∷ ys) → IsOnce (a ∷ x ∷ ys) → has 0 (x ∷ ys) ≡ false
        → IsPath f' g' a ys
    here e [] p o z =
        let prior : g s ≡ a = ap (λ (y : ℕ). g y) e ∙ p.1 in
        let next : f s ≡ 0 = ap (λ (y : ℕ). f y) e ∙ p.2.0 in (
          ap (λ (y : ℕ). f' y) (sym prior) ∙ (cut.after ∙ next),
          ap (λ (y : ℕ). g' y) (sym next)
              ∙ (cut.before ∙ prior),
        )
    here e (y ∷ ys) p o z =
        let prior : g s ≡ a = ap (λ (n : ℕ). g n) e ∙ p.1 in
        let next : f s ≡ y = ap (λ (n : ℕ). f n) e ∙ p.2.0 in (
          ap (λ (n : ℕ). f' n) (sym prior) ∙ (cut.after ∙ next),
          ap (λ (n : ℕ). g' n) (sym next) ∙ (cut.before ∙ prior),
          path-same f g f' g' y ys
              (λ n h.
              let a_out : has a (y ∷ ys) ≡ false = none-rest a x (y ∷ ys) o.0 in
              cut.after_others n (λ (bad : n ≡ g s). apart a n (y ∷ ys) a_out h (sym (bad ∙ prior)))
              (λ (bad : n ≡ s). apart x n (y ∷ ys) o.1.0 h (sym (bad ∙ e))))
              (λ n h.
              cut.before_others n (λ (bad : n ≡ f s).
              let y_zero : y ≢ 0 = λ (is0 : y ≡ 0). none-first 0 y ys (none-rest 0 x (y ∷ ys) z) (sym is0) in
              apart y n (0 ∷ ys) (none-both y 0 ys y_zero o.1.1.0) h (sym (bad ∙ next)))
              (λ (bad : n ≡ s).
              let x_zero : x ≢ 0 = λ (is0 : x ≡ 0). none-first 0 x (y ∷ ys) z (sym is0) in
              apart x n (0 ∷ ys) (none-both x 0 ys x_zero (none-rest x y ys o.1.0)) h (sym (bad ∙ e))))
              p.2.2,
        )

-- the links with s behind p
pub record IsJoin (f g f' g' : ℕ → ℕ) (p s : ℕ) : Type 0 where
  pub after : f' p ≡ s
  pub after_new : f' s ≡ f p
  pub after_others : (x : ℕ) → x ≢ p → x ≢ s → f' x ≡ f x
  pub before : g' (f p) ≡ s
  pub before_new : g' s ≡ p
  pub before_others : (x : ℕ) → x ≢ f p → x ≢ s → g' x ≡ g x

pub path-join : (f g f' g' : ℕ → ℕ) (a p s : ℕ) (xs : List ℕ) → IsPath f g a xs → IsJoin f g f' g' p s
    → has p (a ∷ xs) ≡ true
    → IsOnce (a ∷ xs) → has 0 xs ≡ false → has s (a ∷ xs) ≡ false → s ≢ 0 → IsPath f' g' a (put_behind p s a xs)
path-join f g f' g' a p s [] path join some once zero_out out s_zero =
    ⊎_elim
    (λ (e : p ≡ a).
    let next : f p ≡ 0 = ap (λ (y : ℕ). f y) e ∙ path.0 in
    rw (same p a e) (
      ap (λ (y : ℕ). f' y) (sym e) ∙ join.after,
      join.before_new
          ∙ e,
      (join.after_new ∙ next, ap (λ (y : ℕ). g' y) (sym next) ∙ join.before),
    ))
    (λ (ne : p ≢ a). absurd (true≢false (sym (sym (has-rest p a [] ne) ∙ some))))
    (cases_eq p a)
path-join f g f' g' a p s (x ∷ xs) path join some once zero_out out s_zero =
    let x_zero : x ≢ 0 = λ (bad : x ≡ 0). none-first 0 x xs zero_out (sym bad) in
    ⊎_elim
    (λ (e : p ≡ a).
    let next : f p ≡ x = ap (λ (y : ℕ). f y) e ∙ path.0 in
    rw (same p a e) (
      ap (λ (y : ℕ). f' y) (sym e) ∙ join.after,
      join.before_new ∙ e,
      (
        join.after_new ∙ next,
        ap (λ (y : ℕ). g' y) (sym next) ∙ join.before,
        path-same f g f' g' x xs
            (λ n h.
            join.after_others n (λ (bad : n ≡ p). apart a n (x ∷ xs) once.0 h (sym (bad ∙ e)))
            (λ (bad : n ≡ s). apart s n (x ∷ xs) (none-rest s a (x ∷ xs) out) h (sym bad)))
            (λ n h.
            join.before_others n
            (λ (bad : n ≡ f p). apart x n (0 ∷ xs) (none-both x 0 xs x_zero once.1.0) h (sym (bad ∙ next)))
            (λ (bad : n ≡ s). apart s n (0 ∷ xs)
            (none-both s 0 xs s_zero (none-rest s x xs (none-rest s a (x ∷ xs) out))) h (sym bad)))
            path.2,
      ),
    ))
    (λ (ne : p ≢ a).
    let some_rest : has p (x ∷ xs) ≡ true = sym (has-rest p a (x ∷ xs) ne) ∙ some in
    let next : has (f p) (0 ∷ xs) ≡ true = after-in f g x p xs path.2 some_rest in
    let out_rest : has s (x ∷ xs) ≡ false = none-rest s a (x ∷ xs) out in
    let first : f' a ≡ x =
    join.after_others a (λ (bad : a ≡ p). ne (sym bad)) (λ (bad : a ≡ s). none-first s a (x ∷ xs) out (sym bad))
    ∙ path.0 in
    let back : g' x ≡ a =
    join.before_others x (apart x (f p) (0 ∷ xs) (none-both x 0 xs x_zero once.1.0) next)
    (λ (bad : x ≡ s). none-first s x xs out_rest (sym bad)) ∙ path.1 in
    rw (other p a ne) (
      first,
      back,
      path-join f g f' g' x p s xs path.2 join some_rest once.1 (none-rest 0 x xs zero_out) out_rest s_zero,
    ))
    (cases_eq p a)

-- a walk goes through the path
pub walk-path : (f g : ℕ → ℕ) (a n : ℕ) (xs : List ℕ) → IsPath f g a xs → has 0 xs ≡ false → length xs ≤ n
    → walk f n (f a) ≡ xs
walk-path f g a zero [] path zero_out low = refl
walk-path f g a zero (x ∷ xs) path zero_out low = absurd (omega (arith, low))
walk-path f g a (suc n) [] path zero_out low =
    ap (λ (b : Bool). cond b [] (f a ∷ walk f n (f (f a)))) (same (f a) 0 path.0)
walk-path f g a (suc n) (x ∷ xs) path zero_out low =
    let x_zero : x ≢ 0 = λ (bad : x ≡ 0). none-first 0 x xs zero_out (sym bad) in
    let rest = walk-path f g x n xs path.2 (none-rest 0 x xs zero_out) (omega (arith, low)) in
    subst (λ (y : ℕ). walk f (suc n) y ≡ x ∷ xs) (sym path.0)
    (ap (λ (b : Bool). cond b [] (x ∷ walk f n (f x))) (other x 0 x_zero) ∙ ap (λ (ys : List ℕ). x ∷ ys) rest)

-- the last of a path
pub last-in : (f g : ℕ → ℕ) (a : ℕ) (xs : List ℕ) → IsPath f g a xs → has (g 0) (a ∷ xs) ≡ true
last-in f g a [] path = has-here (g 0) a [] path.1
last-in f g a (x ∷ xs) path = has-there (g 0) a (x ∷ xs) (last-in f g x xs path.2)

-- behind the last is behind all
pub behind-last : (f g : ℕ → ℕ) (a s : ℕ) (xs : List ℕ) → IsPath f g a xs → IsOnce (a ∷ xs)
    → put_behind (g 0) s a xs ≡ xs ++ s ∷ []
behind-last f g a s [] path once = rw (same (g 0) a path.1) refl
behind-last f g a s (x ∷ xs) path once =
    let ne : g 0 ≢ a = λ (bad : g 0 ≡ a). apart a (g 0) (x ∷ xs) once.0 (last-in f g x xs path.2) (sym bad) in
    rw (other (g 0) a ne) (ap (λ (ys : List ℕ). x ∷ ys) (behind-last f g x s xs path.2 once.1))

-- a number of the path doesn't lead to itself
pub not-itself : (f g : ℕ → ℕ) (a s : ℕ) (xs : List ℕ) → IsPath f g a xs → IsOnce (a ∷ xs) → has 0 xs ≡ false
    → has s xs ≡ true → f s ≢ s
not-itself f g a s [] path once zero_out some = absurd (true≢false (sym some))
not-itself f g a s (x ∷ xs) path once zero_out some =
    ⊎_elim
    (λ (e : s ≡ x) (loop : f s ≡ s).
    let next : has (f x) (0 ∷ xs) ≡ true = after-in f g x x xs path.2 (has-here x x xs refl) in
    let x_zero : x ≢ 0 = λ (bad : x ≡ 0). none-first 0 x xs zero_out (sym bad) in
    apart x (f x) (0 ∷ xs) (none-both x 0 xs x_zero once.1.0) next (sym e ∙ (sym loop ∙ ap (λ (y : ℕ). f y) e)))
    (λ (ne : s ≢ x). not-itself f g x s xs path.2 once.1 (none-rest 0 x xs zero_out) (sym (has-rest s x xs ne)
    ∙ some))
    (cases_eq s x)

pub prior-other : (f g : ℕ → ℕ) (a s : ℕ) (xs : List ℕ) → IsPath f g a xs → IsOnce (a ∷ xs) → has s xs ≡ true
    → g s ≢ s
prior-other f g a s [] path once some = absurd (true≢false (sym some))
prior-other f g a s (x ∷ xs) path once some =
    ⊎_elim
    (λ (e : s ≡ x) (loop : g s ≡ s).
    none-first a x xs once.0 (sym path.1 ∙ (ap (λ (y : ℕ). g y) (sym e) ∙ (loop ∙ e))))
    (λ (ne : s ≢ x). prior-other f g x s xs path.2 once.1 (sym (has-rest s x xs ne) ∙ some))
    (cases_eq s x)

-- the links are the numbers right behind and in front
pub next-is : (f g : ℕ → ℕ) (a s : ℕ) (xs : List ℕ) → IsPath f g a xs → has s xs ≡ true → f s ≡ next_of s xs
next-is f g a s [] path some = absurd (true≢false (sym some))
next-is f g a s (x ∷ xs) path some =
    ⊎_elim
    (λ (e : s ≡ x). rw (same s x e) (ap (λ (y : ℕ). f y) e ∙ first-is f g x xs path.2))
    (λ (ne : s ≢ x). rw (other s x ne) (next-is f g x s xs path.2 (sym (has-rest s x xs ne) ∙ some)))
    (cases_eq s x)
  where
    first-is : (f g : ℕ → ℕ) (b : ℕ) (ys : List ℕ) → IsPath f g b ys → f b ≡ first_of ys
    first-is f g b [] p = p.0
    first-is f g b (y ∷ ys) p = p.0

pub prior-is : (f g : ℕ → ℕ) (a s : ℕ) (xs : List ℕ) → IsPath f g a xs → has s xs ≡ true → g s ≡ prior_of s a xs
prior-is f g a s [] path some = absurd (true≢false (sym some))
prior-is f g a s (x ∷ xs) path some =
    ⊎_elim
    (λ (e : s ≡ x). rw (same s x e) (ap (λ (y : ℕ). g y) e ∙ path.1))
    (λ (ne : s ≢ x). rw (other s x ne) (prior-is f g x s xs path.2 (sym (has-rest s x xs ne) ∙ some)))
    (cases_eq s x)

-- what was struck can be put back where it was
pub put_back : (s a : ℕ) (xs : List ℕ) → IsOnce (a ∷ xs) → has s xs ≡ true
    → put_behind (prior_of s a xs) s a (strike s xs) ≡ xs
put_back s a [] once some = absurd (true≢false (sym some))
put_back s a (x ∷ xs) once some =
    ⊎_elim
    (λ (e : s ≡ x). rw (same s x e) (here xs e))
    (λ (ne : s ≢ x).
    let some_rest : has s xs ≡ true = sym (has-rest s x xs ne) ∙ some in
    let ne_a : prior_of s x xs ≢ a = λ (bad : prior_of s x xs ≡ a).
    apart a (prior_of s x xs) (x ∷ xs) once.0 (prior-in x xs some_rest) (sym bad) in
    rw (other s x ne, other (prior_of s x xs) a ne_a)
    (ap (λ (ys : List ℕ). x ∷ ys) (put_back s x xs once.1 some_rest)))
    (cases_eq s x)
  where
    here : (ys : List ℕ) → s ≡ x → put_behind a s a ys ≡ x ∷ ys
    here [] e = rw (same a a refl) (ap (λ (y : ℕ). y ∷ []) e)
    here (y ∷ ys) e = rw (same a a refl) (ap (λ (n : ℕ). n ∷ y ∷ ys) e)

    prior-in : (b : ℕ) (ys : List ℕ) → has s ys ≡ true → has (prior_of s b ys) (b ∷ ys) ≡ true
    prior-in b [] none = absurd (true≢false (sym none))
    prior-in b (y ∷ ys) some_ys =
        ⊎_elim
        (λ (e : s ≡ y). subst (λ (t : Bool). has (cond t b (prior_of s y ys)) (b ∷ y ∷ ys) ≡ true) (sym (same s y e))
        (has-here b b (y ∷ ys) refl))
        (λ (ne : s ≢ y). subst (λ (t : Bool). has (cond t b (prior_of s y ys)) (b ∷ y ∷ ys) ≡ true)
        (sym (other s y ne))
        (has-there (prior_of s y ys) b (y ∷ ys) (prior-in y ys (sym (has-rest s y ys ne) ∙ some_ys))))
        (cases_eq s y)
