-- Facts on numbers in a list.
use Rattle.std.proofs.Common.{◌≡◌, ◌≢◌, ℕ, Bool, true, false, cond, nat_eq, List, [], ◌∷◌, ◌++◌, refl, ap, subst, sym, ◌∙◌, ⊎_elim, arith}
use Rattle.std.proofs.lemmas.Bool.{cases_Bool, cases_eq, true≢false}
use Rattle.std.proofs.lemmas.Bool.Decides.{nat_tests}
use Rattle.search_books.specs.Order.{has, strike, put_behind, first_of, next_of, IsOnce}

pub same : (a b : ℕ) → a ≡ b → nat_eq a b ≡ true
same a b e = grind (arith, nat_tests, e)

pub other : (a b : ℕ) → a ≢ b → nat_eq a b ≡ false
other a b ne = grind (arith, nat_tests, ne)

pub has-here : (s x : ℕ) (xs : List ℕ) → s ≡ x → has s (x ∷ xs) ≡ true
has-here s x xs e = rw (same s x e) refl

pub has-there : (s x : ℕ) (xs : List ℕ) → has s xs ≡ true → has s (x ∷ xs) ≡ true
has-there s x xs h =
    ⊎_elim
    (λ (e : s ≡ x). has-here s x xs e)
    (λ (ne : s ≢ x). rw (other s x ne) h)
    (cases_eq s x)

pub has-rest : (s x : ℕ) (xs : List ℕ) → s ≢ x → has s (x ∷ xs) ≡ has s xs
has-rest s x xs ne = rw (other s x ne) refl

-- what is not in a list differs from what is
pub apart : (s x : ℕ) (xs : List ℕ) → has s xs ≡ false → has x xs ≡ true → s ≢ x
apart s x xs none some e = absurd (true≢false (sym some ∙ (ap (λ (y : ℕ). has y xs) (sym e) ∙ none)))

pub none-first : (s x : ℕ) (xs : List ℕ) → has s (x ∷ xs) ≡ false → s ≢ x
none-first s x xs none e = absurd (true≢false (sym (has-here s x xs e) ∙ none))

pub none-rest : (s x : ℕ) (xs : List ℕ) → has s (x ∷ xs) ≡ false → has s xs ≡ false
none-rest s x xs none = sym (has-rest s x xs (none-first s x xs none)) ∙ none

pub none-both : (s x : ℕ) (xs : List ℕ) → s ≢ x → has s xs ≡ false → has s (x ∷ xs) ≡ false
none-both s x xs ne none = has-rest s x xs ne ∙ none

-- after a number is struck
pub strike-none : (s y : ℕ) (xs : List ℕ) → has y xs ≡ false → has y (strike s xs) ≡ false
strike-none s y [] none = refl
strike-none s y (x ∷ xs) none =
    ⊎_elim
    (λ (e : s ≡ x). rw (same s x e) (none-rest y x xs none))
    (λ (ne : s ≢ x). rw (other s x ne)
    (none-both y x (strike s xs) (none-first y x xs none) (strike-none s y xs (none-rest y x xs none))))
    (cases_eq s x)

pub strike-other : (s y : ℕ) (xs : List ℕ) → y ≢ s → has y (strike s xs) ≡ has y xs
strike-other s y [] ne = refl
strike-other s y (x ∷ xs) ne =
    ⊎_elim
    (λ (e : s ≡ x). rw (same s x e) (sym (has-rest y x xs (λ (bad : y ≡ x). ne (bad ∙ sym e)))))
    (λ (no : s ≢ x). rw (other s x no) (ap (λ (b : Bool). cond (nat_eq y x) true b) (strike-other s y xs ne)))
    (cases_eq s x)

pub strike-gone : (s : ℕ) (xs : List ℕ) → IsOnce xs → has s (strike s xs) ≡ false
strike-gone s [] once = refl
strike-gone s (x ∷ xs) once =
    ⊎_elim
    (λ (e : s ≡ x). rw (same s x e) (subst (λ (y : ℕ). has y xs ≡ false) (sym e) once.0))
    (λ (ne : s ≢ x). rw (other s x ne) (none-both s x (strike s xs) ne (strike-gone s xs once.1)))
    (cases_eq s x)

pub strike-once : (s : ℕ) (xs : List ℕ) → IsOnce xs → IsOnce (strike s xs)
strike-once s [] once = once
strike-once s (x ∷ xs) once =
    ⊎_elim
    (λ (e : s ≡ x). rw (same s x e) once.1)
    (λ (ne : s ≢ x). rw (other s x ne) (strike-none s x xs once.0, strike-once s xs once.1))
    (cases_eq s x)

pub strike-absent : (s : ℕ) (xs : List ℕ) → has s xs ≡ false → strike s xs ≡ xs
strike-absent s [] none = refl
strike-absent s (x ∷ xs) none =
    rw (other s x (none-first s x xs none))
    (ap (λ (rest : List ℕ). x ∷ rest) (strike-absent s xs (none-rest s x xs none)))

-- after a number is put in
pub behind-other : (p s a y : ℕ) (xs : List ℕ) → y ≢ s → has y (put_behind p s a xs) ≡ has y xs
behind-other p s a y [] ne =
    ⊎_elim
    (λ (e : p ≡ a). rw (same p a e) (has-rest y s [] ne))
    (λ (no : p ≢ a). rw (other p a no) refl)
    (cases_eq p a)
behind-other p s a y (x ∷ xs) ne =
    ⊎_elim
    (λ (e : p ≡ a). rw (same p a e) (has-rest y s (x ∷ xs) ne))
    (λ (no : p ≢ a). rw (other p a no) (ap (λ (b : Bool). cond (nat_eq y x) true b) (behind-other p s x y xs ne)))
    (cases_eq p a)

pub behind-once : (p s a : ℕ) (xs : List ℕ) → IsOnce xs → has s xs ≡ false → IsOnce (put_behind p s a xs)
behind-once p s a [] once none =
    ⊎_elim
    (λ (e : p ≡ a). rw (same p a e) (refl, tt))
    (λ (no : p ≢ a). rw (other p a no) tt)
    (cases_eq p a)
behind-once p s a (x ∷ xs) once none =
    ⊎_elim
    (λ (e : p ≡ a). rw (same p a e) (none, once))
    (λ (no : p ≢ a).
    let x_other : x ≢ s = λ (bad : x ≡ s). none-first s x xs none (sym bad) in
    rw (other p a no) (behind-other p s x x xs x_other ∙ once.0, behind-once p s x xs once.1 (none-rest s x xs none)))
    (cases_eq p a)

-- a list behind another
pub has-snoc : (t s : ℕ) (xs : List ℕ) → t ≢ s → has t (xs ++ s ∷ []) ≡ has t xs
has-snoc t s [] ne = has-rest t s [] ne
has-snoc t s (x ∷ xs) ne = ap (λ (b : Bool). cond (nat_eq t x) true b) (has-snoc t s xs ne)

pub first-append : (xs ys : List ℕ) → first_of xs ≢ 0 → first_of (xs ++ ys) ≡ first_of xs
first-append [] ys ne = absurd (ne refl)
first-append (x ∷ xs) ys ne = refl

pub first-empty : (xs ys : List ℕ) → has 0 xs ≡ false → first_of xs ≡ 0 → first_of (xs ++ ys) ≡ first_of ys
first-empty [] ys none e = refl
first-empty (x ∷ xs) ys none e = absurd (none-first 0 x xs none (sym e))

pub next-front : (s : ℕ) (xs ys : List ℕ) → next_of s xs ≢ 0 → next_of s (xs ++ ys) ≡ next_of s xs
next-front s [] ys ne = absurd (ne refl)
next-front s (x ∷ xs) ys ne =
    ⊎_elim
    (λ (e : s ≡ x).
    let is = ap (λ (b : Bool). cond b (first_of xs) (next_of s xs)) (same s x e) in
    rw (same s x e) (first-append xs ys (λ (bad : first_of xs ≡ 0). ne (is ∙ bad))))
    (λ (no : s ≢ x).
    let is = ap (λ (b : Bool). cond b (first_of xs) (next_of s xs)) (other s x no) in
    rw (other s x no) (next-front s xs ys (λ (bad : next_of s xs ≡ 0). ne (is ∙ bad))))
    (cases_eq s x)

pub next-end : (s : ℕ) (xs ys : List ℕ) → has s xs ≡ true → has 0 xs ≡ false → next_of s xs ≡ 0
    → next_of s (xs ++ ys) ≡ first_of ys
next-end s [] ys some none e = absurd (true≢false (sym some))
next-end s (x ∷ xs) ys some none zero_next =
    ⊎_elim
    (λ (e : s ≡ x).
    let is = ap (λ (b : Bool). cond b (first_of xs) (next_of s xs)) (same s x e) in
    rw (same s x e) (first-empty xs ys (none-rest 0 x xs none) (sym is ∙ zero_next)))
    (λ (no : s ≢ x).
    let is = ap (λ (b : Bool). cond b (first_of xs) (next_of s xs)) (other s x no) in
    rw (other s x no) (next-end s xs ys (sym (has-rest s x xs no) ∙ some) (none-rest 0 x xs none) (sym is
    ∙ zero_next)))
    (cases_eq s x)

pub next-back : (s : ℕ) (xs ys : List ℕ) → has s xs ≡ false → next_of s (xs ++ ys) ≡ next_of s ys
next-back s [] ys none = refl
next-back s (x ∷ xs) ys none = rw (other s x (none-first s x xs none)) (next-back s xs ys (none-rest s x xs none))

-- two lists with no number in both
pub strike-apart : (xs ys xs' ys' : List ℕ) (s : ℕ) → xs' ≡ strike s xs → has s xs' ≡ false → ys' ≡ strike s ys
    → ((t : ℕ) → has t xs ≡ true → has t ys ≡ false) → (t : ℕ) → has t xs' ≡ true → has t ys' ≡ false
strike-apart xs ys xs' ys' s xs_is gone ys_is apart_old t h =
    let ne : t ≢ s = λ (bad : t ≡ s). true≢false (sym h ∙ (ap (λ (n : ℕ). has n xs') bad ∙ gone)) in
    let old : has t xs ≡ true = sym (strike-other s t xs ne) ∙ (sym (ap (λ (zs : List ℕ). has t zs) xs_is) ∙ h) in
    ap (λ (zs : List ℕ). has t zs) ys_is ∙ strike-none s t ys (apart_old t old)

pub snoc-apart : (xs ys ys' : List ℕ) (s : ℕ) → has s xs ≡ false → ys' ≡ ys ++ s ∷ []
    → ((t : ℕ) → has t xs ≡ true → has t ys ≡ false) → (t : ℕ) → has t xs ≡ true → has t ys' ≡ false
snoc-apart xs ys ys' s gone ys_is apart_old t h =
    let ne : t ≢ s = λ (bad : t ≡ s). true≢false (sym h ∙ (ap (λ (n : ℕ). has n xs) bad ∙ gone)) in
    ap (λ (zs : List ℕ). has t zs) ys_is ∙ (has-snoc t s ys ne ∙ apart_old t h)

pub push-apart : (xs ys xs' ys' : List ℕ) (s : ℕ) → xs' ≡ xs ++ s ∷ [] → ys' ≡ ys → has s ys ≡ false
    → ((t : ℕ) → has t xs ≡ true → has t ys ≡ false) → (t : ℕ) → has t xs' ≡ true → has t ys' ≡ false
push-apart xs ys xs' ys' s xs_is ys_is none apart_old t h =
    ap (λ (zs : List ℕ). has t zs) ys_is
    ∙ ⊎_elim
    (λ (e : t ≡ s). ap (λ (n : ℕ). has n ys) e ∙ none)
    (λ (ne : t ≢ s). apart_old t (sym (has-snoc t s xs ne) ∙ (sym (ap (λ (zs : List ℕ). has t zs) xs_is) ∙ h)))
    (cases_eq t s)

pub behind-apart : (xs ys xs' ys' : List ℕ) (p s : ℕ) → xs' ≡ put_behind p s 0 xs → ys' ≡ strike s ys
    → has s ys' ≡ false
    → ((t : ℕ) → has t xs ≡ true → has t ys ≡ false) → (t : ℕ) → has t xs' ≡ true → has t ys' ≡ false
behind-apart xs ys xs' ys' p s xs_is ys_is gone apart_old t h =
    ⊎_elim
    (λ (e : t ≡ s). ap (λ (n : ℕ). has n ys') e ∙ gone)
    (λ (ne : t ≢ s).
    let old : has t xs ≡ true = sym (behind-other p s 0 t xs ne) ∙ (sym (ap (λ (zs : List ℕ). has t zs) xs_is) ∙ h) in
    ap (λ (zs : List ℕ). has t zs) ys_is ∙ strike-none s t ys (apart_old t old))
    (cases_eq t s)

pub apart-behind : (xs ys ys' zs : List ℕ) (p s : ℕ) → has s xs ≡ false → ys' ≡ strike s ys
    → zs ≡ put_behind p s 0 ys'
    → ((t : ℕ) → has t xs ≡ true → has t ys ≡ false) → (t : ℕ) → has t xs ≡ true → has t zs ≡ false
apart-behind xs ys ys' zs p s absent ys_is zs_is apart_old t h =
    let ne : t ≢ s = λ (bad : t ≡ s). true≢false (sym h ∙ (ap (λ (n : ℕ). has n xs) bad ∙ absent)) in
    ap (λ (l : List ℕ). has t l) zs_is
    ∙ (behind-other p s 0 t ys' ne ∙ (ap (λ (l : List ℕ). has t l) ys_is ∙ strike-none s t ys (apart_old t h)))

pub struck-apart : (xs ys xs' ys' : List ℕ) (s : ℕ) → xs' ≡ strike s xs → ys' ≡ ys
    → ((t : ℕ) → has t xs ≡ true → has t ys ≡ false) → (t : ℕ) → has t xs' ≡ true → has t ys' ≡ false
struck-apart xs ys xs' ys' s xs_is ys_is apart_old t h =
    ap (λ (zs : List ℕ). has t zs) ys_is
    ∙ ⊎_elim
    (λ (some : has t xs ≡ true). apart_old t some)
    (λ (none : has t xs ≡ false).
    absurd (true≢false (sym h ∙ (ap (λ (zs : List ℕ). has t zs) xs_is ∙ strike-none s t xs none))))
    (cases_Bool (has t xs))
