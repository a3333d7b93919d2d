-- A search that is moved or struck in two lists, and is put back where it stood.
use Rattle.std.proofs.Common.{◌≡◌, ◌≢◌, ℕ, ◌<◌, ◌≤◌, ◌⊎◌, inl, inr, nat_eq, Bool, true, false, cond, if◌then◌else◌, List, [], ◌∷◌, refl, sym, ap, ◌∙◌, ⊎_elim, arith, true≢false}
use Rattle.std.proofs.lemmas.Bool.{cases_eq}
use Rattle.search_books.specs.Order.{has, prior_of, put_behind, strike, IsOnce}
use Rattle.search_books.proofs.Lists.{has-here, has-rest, has-there, other, same, strike-absent, strike-gone}
use Rattle.search_books.proofs.Paths.{put_back}
use Rattle.farm_state.specs.Moves.{MayPutIn, StandsIn, Turns, prior_in, put_in}

-- what stands in front of a number is there after it is struck
prior-there : (s a : ℕ) (xs : List ℕ) → has s xs ≡ true → has (prior_of s a xs) (a ∷ strike s xs) ≡ true
prior-there s a [] h = absurd (true≢false (sym h))
prior-there s a (x ∷ xs) h =
    ⊎_elim
    (λ (e : s ≡ x).
    let prior : prior_of s a (x ∷ xs) ≡ a =
    ap (λ (b : Bool). cond b a (prior_of s x xs)) (same s x e) in
    ap (λ (p : ℕ). has p (a ∷ strike s (x ∷ xs))) prior ∙ has-here a a (strike s (x ∷ xs)) refl)
    (λ (ne : s ≢ x).
    let prior : prior_of s a (x ∷ xs) ≡ prior_of s x xs =
    ap (λ (b : Bool). cond b a (prior_of s x xs)) (other s x ne) in
    let left : strike s (x ∷ xs) ≡ x ∷ strike s xs =
    ap (λ (b : Bool). cond b xs (x ∷ strike s xs)) (other s x ne) in
    ap (λ (p : ℕ). has p (a ∷ strike s (x ∷ xs))) prior
    ∙ ap (λ (ys : List ℕ). has (prior_of s x xs) (a ∷ ys)) left
    ∙ has-there (prior_of s x xs) a (x ∷ strike s xs) (prior-there s x xs (sym (has-rest s x xs ne) ∙ h)))
    (cases_eq s x)

pub same_lists : (t u : Turns) → t.never ≡ u.never → t.leased ≡ u.leased → t ≡ u
same_lists t u never leased = λ i. record { never = never i; leased = leased i }

-- a search that stands in one of two lists, in which no number stands twice
pub record IsIn (t : Turns) (search count : ℕ) : Type 0 where
  pub there : StandsIn t search
  pub above : 0 < search
  pub below : search < count
  pub never_once : IsOnce (0 ∷ t.never)
  pub leased_once : IsOnce (0 ∷ t.leased)
  pub apart : has search t.never ≡ true → has search t.leased ≡ false

-- the lists without it, where it may stand last
pub record IsOut (t u : Turns) (search : ℕ) : Type 0 where
  pub never : u.never ≡ strike search t.never
  pub leased : strike search u.leased ≡ strike search t.leased

in-leased : (t : Turns) (s : ℕ) → StandsIn t s → has s t.never ≡ false → has s t.leased ≡ true
in-leased t s there none =
    ⊎_elim (λ (l : has s t.never ≡ true). absurd (true≢false (sym l ∙ none))) (λ (r : has s t.leased ≡ true). r) there

back-by : (fresh : Bool) (t u : Turns) (s count : ℕ) → IsIn t s count → IsOut t u s → has s t.never ≡ fresh →
    put_in fresh s (prior_in fresh s t) u ≡ t
back-by true t u s count i o is =
    same_lists (put_in true s (prior_in true s t) u) t
    (ap (put_behind (prior_of s 0 t.never) s 0) o.never ∙ put_back s 0 t.never i.never_once is)
    (o.leased ∙ strike-absent s t.leased (i.apart is))
back-by false t u s count i o is =
    same_lists (put_in false s (prior_in false s t) u) t
    (o.never ∙ strike-absent s t.never is)
    (ap (put_behind (prior_of s 0 t.leased) s 0) o.leased
    ∙ put_back s 0 t.leased i.leased_once (in-leased t s i.there is))

pub back : (t u : Turns) (s count : ℕ) → IsIn t s count → IsOut t u s →
    put_in (has s t.never) s (prior_in (has s t.never) s t) u ≡ t
back t u s count i o = back-by (has s t.never) t u s count i o refl

may-by : (fresh : Bool) (t u : Turns) (s count : ℕ) → IsIn t s count → IsOut t u s → has s t.never ≡ fresh →
    MayPutIn u count s fresh (prior_in fresh s t)
may-by true t u s count i o is = record {
  above = i.above;
  below = i.below;
  absent = ap (has s) o.never ∙ strike-gone s t.never i.never_once.1;
  behind = ap (λ (xs : List ℕ). has (prior_of s 0 t.never) (0 ∷ xs)) o.never ∙ prior-there s 0 t.never is;
}
may-by false t u s count i o is = record {
  above = i.above;
  below = i.below;
  absent = ap (has s) o.never ∙ strike-gone s t.never i.never_once.1;
  behind = ap (λ (xs : List ℕ). has (prior_of s 0 t.leased) (0 ∷ xs)) o.leased
      ∙ prior-there s 0 t.leased (in-leased t s i.there is);
}

pub may-back : (t u : Turns) (s count : ℕ) → IsIn t s count → IsOut t u s →
    MayPutIn u count s (has s t.never) (prior_in (has s t.never) s t)
may-back t u s count i o = may-by (has s t.never) t u s count i o refl

-- What stands in front of a search is one of the list, or what stands in front of that.

prior_of-le : (s a m : ℕ) (xs : List ℕ) → a ≤ m → ((n : ℕ) → has n xs ≡ true → n ≤ m) → prior_of s a xs ≤ m
prior_of-le s a m [] low all = omega arith
prior_of-le s a m (x ∷ xs) low all =
    let rest : prior_of s x xs ≤ m =
    prior_of-le s x m xs (all x (has-here x x xs refl)) (λ n there. all n (has-there n x xs there)) in
    elim (nat_eq s x) as (λ b. cond b a (prior_of s x xs) ≤ m) [ true ↦ low | false ↦ rest ]

pub prior_in-le : (fresh : Bool) (s m : ℕ) (t : Turns) → ((n : ℕ) → StandsIn t n → n ≤ m) →
    (if fresh then prior_of s 0 t.never else prior_of s 0 t.leased) ≤ m
prior_in-le true s m t all = prior_of-le s 0 m t.never (omega arith) (λ n there. all n (inl there))
prior_in-le false s m t all = prior_of-le s 0 m t.leased (omega arith) (λ n there. all n (inr there))
