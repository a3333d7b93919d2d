-- What seats lend to one another, where one of them changes, two do, or a new one is added; and what a seat with the
-- key knows of the loans that are out.
use Rattle.std.proofs.Common.{◌≡◌, ◌≢◌, ◌++◌, ◌∷◌, [], List, ℕ, zero, suc, Bool, true, false, set, ◌+◌, ◌≤◌, arith, sym, refl, ap, ◌∙◌, subst}
use mathlib.Core.Option.{some, some-injective, some-ne-none}
use lib.ListN.{get_elem?}
use Rattle.std.specs.Prelude.{nat_lt}
use Rattle.std.proofs.lemmas.Bool.Decides.{nat_tests}
use Rattle.atomic_table.proofs.Lists.{set_else}
use Rattle.farm_entry.specs.declared.entry.Entry.{Entry}
use Rattle.turn_lock.specs.Known.{borrowed, both_lendings, lending_given, lending_kept, lent_by, lent_if}
use Rattle.turn_lock.specs.Loans.{AreOut, AreSame, HasOut, weigh}
use Rattle.turn_lock.specs.Rule.{AreLent, Each, IsLender, borrowed_of, keys_of, lent_of}
use Rattle.turn_lock.specs.Views.{put_together, spent}
use Rattle.turn_lock.specs.declared.view.Lending.{Lending}
use Rattle.turn_lock.specs.declared.view.Loan.{Loan}
use Rattle.turn_lock.specs.declared.view.View.{View}
use Rattle.turn_lock.proofs.Rows.{Each-set, Each-push}

-- Sums of a weight

module _ {A : Type 0} (f : A → ℕ) where
  pub weigh-append : (xs ys : List A) → weigh f (xs ++ ys) ≡ weigh f xs + weigh f ys
  weigh-append [] ys = omega arith
  weigh-append (x ∷ xs) ys = let h = weigh-append xs ys in omega (arith, h)

  pub weigh-push : (xs : List A) (a : A) → weigh f (xs ++ a ∷ []) ≡ weigh f xs + f a
  weigh-push xs a = let h = weigh-append xs (a ∷ []) in omega (arith, h)

  pub weigh-set : (xs : List A) (i : ℕ) (a b : A) → get_elem? xs i ≡ some a
      → weigh f (set xs i b) + f a ≡ weigh f xs + f b
  weigh-set [] i a b at = absurd (some-ne-none a (sym at))
  weigh-set (x ∷ xs) zero a b at = let e : f x ≡ f a = ap f (some-injective x a at) in omega (arith, e)
  weigh-set (x ∷ xs) (suc i) a b at = let h = weigh-set xs i a b at in omega (arith, h)

  pub weigh-at : (xs : List A) (i : ℕ) (a : A) → get_elem? xs i ≡ some a → f a ≤ weigh f xs
  weigh-at [] i a at = absurd (some-ne-none a (sym at))
  weigh-at (x ∷ xs) zero a at = let e : f x ≡ f a = ap f (some-injective x a at) in omega (arith, e)
  weigh-at (x ∷ xs) (suc i) a at = let h = weigh-at xs i a at in omega (arith, h)

  pub weigh-two : (xs : List A) (i j : ℕ) (a b : A) → i ≢ j → get_elem? xs i ≡ some a → get_elem? xs j ≡ some b
      → f a + f b ≤ weigh f xs
  weigh-two [] i j a b ne at there = absurd (some-ne-none a (sym at))
  weigh-two (x ∷ xs) zero zero a b ne at there = absurd (ne refl)
  weigh-two (x ∷ xs) zero (suc j) a b ne at there =
      let e : f x ≡ f a = ap f (some-injective x a at) in
      let h = weigh-at xs j b there in
      omega (arith, e, h)
  weigh-two (x ∷ xs) (suc i) zero a b ne at there =
      let e : f x ≡ f b = ap f (some-injective x b there) in
      let h = weigh-at xs i a at in
      omega (arith, e, h)
  weigh-two (x ∷ xs) (suc i) (suc j) a b ne at there =
      let h = weigh-two xs i j a b (λ e. ne (ap suc e)) at there in omega (arith, h)

-- Seats

-- a seat changes that has lent and borrowed as much
pub AreLent-set : (views : List View) (id : ℕ) (v w : View) → get_elem? views id ≡ some v
    → v.stake.lending ≡ w.stake.lending → AreLent views → AreLent (set views id w)
AreLent-set views id v w at same k = record {
  one =
      let h = weigh-set keys_of views id v w at in
      let e : keys_of v ≡ keys_of w = ap (λ (l : Lending). l.keys) same in
      omega (arith, h, e, k.one);
  lenders = Each-set views IsLender id w k.lenders
      (subst (λ (l : Lending). l.keys ≡ 0 → l.lent ≡ []) same (k.lenders id v at));
  same = λ f.
      let h = weigh-set (lent_of f) views id v w at in
      let q = weigh-set (borrowed_of f) views id v w at in
      let e : lent_of f v ≡ lent_of f w = ap (λ (l : Lending). weigh f l.lent) same in
      let d : borrowed_of f v ≡ borrowed_of f w = ap (λ (l : Lending). weigh f l.loans) same in
      let s = k.same f in
      omega (arith, h, q, e, d, s);
}

-- Two seats became two others: those have the keys of these, and lent as much more as they borrowed more.
pub record Trades (v w x y : View) : Type 0 where
  pub keys : keys_of v + keys_of w ≡ keys_of x + keys_of y
  pub same : (f : Loan → ℕ)
      → borrowed_of f x + borrowed_of f y + (lent_of f v + lent_of f w)
      ≡ lent_of f x + lent_of f y + (borrowed_of f v + borrowed_of f w)
  pub first : IsLender x
  pub second : IsLender y

pub AreLent-two : (views : List View) (i j : ℕ) (v w x y : View) → i ≢ j → get_elem? views i ≡ some v
    → get_elem? views j ≡ some w → Trades v w x y → AreLent views → AreLent (set (set views i x) j y)
AreLent-two views i j v w x y ne at there t k =
    let now : List View = set views i x in
    let then_there : get_elem? now j ≡ some w = set_else views i j x (λ e. ne (sym e)) ∙ there in
    record {
      one =
          let h = weigh-set keys_of views i v x at in
          let p = weigh-set keys_of now j w y then_there in
          omega (arith, h, p, t.keys, k.one);
      lenders = Each-set now IsLender j y (Each-set views IsLender i x k.lenders t.first) t.second;
      same = λ f.
          let h = weigh-set (lent_of f) views i v x at in
          let p = weigh-set (lent_of f) now j w y then_there in
          let q = weigh-set (borrowed_of f) views i v x at in
          let r = weigh-set (borrowed_of f) now j w y then_there in
          let d = t.same f in
          let s = k.same f in
          omega (arith, h, p, q, r, d, s);
    }

-- a seat became another one and a new one
pub AreLent-moved : (views : List View) (id : ℕ) (v u w : View) → get_elem? views id ≡ some v → Trades v spent u w
    → AreLent views → AreLent (set views id u ++ w ∷ [])
AreLent-moved views id v u w at t k =
    let now : List View = set views id u in
    record {
      one =
          let h = weigh-set keys_of views id v u at in
          let p = weigh-push keys_of now w in
          omega (arith, h, p, t.keys, k.one);
      lenders = Each-push now IsLender w (Each-set views IsLender id u k.lenders t.first) t.second;
      same = λ f.
          let h = weigh-set (lent_of f) views id v u at in
          let p = weigh-push (lent_of f) now w in
          let q = weigh-set (borrowed_of f) views id v u at in
          let r = weigh-push (borrowed_of f) now w in
          let d = t.same f in
          let s = k.same f in
          omega (arith, h, p, q, r, d, s);
    }

no_key : (b : Bool) (seen : List Entry) (faults keys : ℕ) (lent : List Loan) → nat_lt 0 keys ≡ b → keys ≡ 0
    → lent_if b seen faults ++ lent ≡ lent
no_key true seen faults keys lent is bare = absurd (grind (arith, nat_tests, is, bare))
no_key false seen faults keys lent is bare = refl

-- a seat lends to one that is split off it
pub Trades-split : (v u w : View) → IsLender v → u.stake.lending ≡ lending_kept v.seen v.faults v.stake.lending
    → w.stake.lending ≡ lending_given v.seen v.faults v.stake.lending → Trades v spent u w
Trades-split v u w lender kept given = record {
  keys =
      let e : keys_of u ≡ keys_of v = ap (λ (l : Lending). l.keys) kept in
      let d : keys_of w ≡ 0 = ap (λ (l : Lending). l.keys) given in
      omega (arith, e, d);
  same = λ f.
      let more : List Loan = lent_by v.seen v.faults v.stake.lending in
      let a : lent_of f u ≡ weigh f (more ++ v.stake.lending.lent) = ap (λ (l : Lending). weigh f l.lent) kept in
      let b : borrowed_of f u ≡ borrowed_of f v = ap (λ (l : Lending). weigh f l.loans) kept in
      let c : lent_of f w ≡ 0 = ap (λ (l : Lending). weigh f l.lent) given in
      let d : borrowed_of f w ≡ weigh f more = ap (λ (l : Lending). weigh f l.loans) given in
      let s = weigh-append f more v.stake.lending.lent in
      omega (arith, a, b, c, d, s);
  first = subst (λ (l : Lending). l.keys ≡ 0 → l.lent ≡ []) (sym kept)
      (λ bare.
      no_key (nat_lt 0 v.stake.lending.keys) v.seen v.faults v.stake.lending.keys v.stake.lending.lent refl bare
      ∙ lender bare);
  second = λ _. ap (λ (l : Lending). l.lent) given;
}

-- what a seat lent and borrowed moves to another one
pub Trades-moved : (v w x y : View) → IsLender v → v.stake.lending ≡ y.stake.lending
    → w.stake.lending ≡ spent.stake.lending → x.stake.lending ≡ spent.stake.lending → Trades v w x y
Trades-moved v w x y lender same none gone = record {
  keys =
      let e : keys_of v ≡ keys_of y = ap (λ (l : Lending). l.keys) same in
      let d : keys_of w ≡ 0 = ap (λ (l : Lending). l.keys) none in
      let b : keys_of x ≡ 0 = ap (λ (l : Lending). l.keys) gone in
      omega (arith, e, d, b);
  same = λ f.
      let e : lent_of f v ≡ lent_of f y = ap (λ (l : Lending). weigh f l.lent) same in
      let d : borrowed_of f v ≡ borrowed_of f y = ap (λ (l : Lending). weigh f l.loans) same in
      let a : lent_of f w ≡ 0 = ap (λ (l : Lending). weigh f l.lent) none in
      let b : borrowed_of f w ≡ 0 = ap (λ (l : Lending). weigh f l.loans) none in
      let p : lent_of f x ≡ 0 = ap (λ (l : Lending). weigh f l.lent) gone in
      let q : borrowed_of f x ≡ 0 = ap (λ (l : Lending). weigh f l.loans) gone in
      omega (arith, e, d, a, b, p, q);
  first = λ _. ap (λ (l : Lending). l.lent) gone;
  second = subst (λ (l : Lending). l.keys ≡ 0 → l.lent ≡ []) same lender;
}

-- what two seats lent and borrowed is the one's that they became
pub Trades-joined : (v w : View) → IsLender v → IsLender w → Trades w v spent (put_together v w)
Trades-joined v w first second = record {
  keys = omega arith;
  same = λ f.
      let s = weigh-append f v.stake.lending.lent w.stake.lending.lent in
      let t = weigh-append f v.stake.lending.loans w.stake.lending.loans in
      omega (arith, s, t);
  first = λ _. refl;
  second = λ bare.
      subst (λ (l : List Loan). l ++ w.stake.lending.lent ≡ []) (sym (first (omega (arith, bare))))
      (second (omega (arith, bare)));
}

-- What a seat with the key knows

-- the loans of all seats
abbrev all_loans : List View → List Loan
all_loans [] = []
all_loans (v ∷ views) = v.stake.lending.loans ++ all_loans views

-- the loans of all seats but one
abbrev loans_but : List View → ℕ → List Loan
loans_but [] i = []
loans_but (v ∷ views) zero = all_loans views
loans_but (v ∷ views) (suc i) = v.stake.lending.loans ++ loans_but views i

all-weigh : (f : Loan → ℕ) (views : List View) → weigh f (all_loans views) ≡ weigh (borrowed_of f) views
all-weigh f [] = refl
all-weigh f (v ∷ views) =
    let h = all-weigh f views in
    let s = weigh-append f v.stake.lending.loans (all_loans views) in
    omega (arith, h, s)

but-weigh : (f : Loan → ℕ) (views : List View) (i : ℕ) (v : View) → get_elem? views i ≡ some v
    → borrowed_of f v + weigh f (loans_but views i) ≡ weigh (borrowed_of f) views
but-weigh f [] i v at = absurd (some-ne-none v (sym at))
but-weigh f (x ∷ xs) zero v at =
    let e : borrowed_of f x ≡ borrowed_of f v = ap (borrowed_of f) (some-injective x v at) in
    let h = all-weigh f xs in
    omega (arith, e, h)
but-weigh f (x ∷ xs) (suc i) v at =
    let h = but-weigh f xs i v at in
    let s = weigh-append f x.stake.lending.loans (loans_but xs i) in
    omega (arith, h, s)

none-lent : (f : Loan → ℕ) (views : List View) → Each views (λ u. u.stake.lending.lent ≡ [])
    → weigh (lent_of f) views ≡ 0
none-lent f [] all = refl
none-lent f (x ∷ xs) all =
    let e : lent_of f x ≡ 0 = ap (λ (l : List Loan). weigh f l) (all zero x refl) in
    let h = none-lent f xs (λ i u a. all (suc i) u a) in
    omega (arith, e, h)

-- of seats of which one alone lent anything, what it lent is all
lent-alone : (f : Loan → ℕ) (views : List View) (id : ℕ) (v : View) → get_elem? views id ≡ some v
    → ((i : ℕ) (u : View) → i ≢ id → get_elem? views i ≡ some u → u.stake.lending.lent ≡ [])
    → weigh (lent_of f) views ≡ lent_of f v
lent-alone f [] id v at others = absurd (some-ne-none v (sym at))
lent-alone f (x ∷ xs) zero v at others =
    let e : lent_of f x ≡ lent_of f v = ap (lent_of f) (some-injective x v at) in
    let h = none-lent f xs (λ i u a. others (suc i) u (λ n. omega (arith, n)) a) in
    omega (arith, e, h)
lent-alone f (x ∷ xs) (suc id) v at others =
    let e : lent_of f x ≡ 0 = ap (λ (l : List Loan). weigh f l) (others zero x (λ n. omega (arith, n)) refl) in
    let h = lent-alone f xs id v at (λ i u ne a. others (suc i) u (λ n. ne (omega (arith, n))) a) in
    omega (arith, e, h)

-- what it lent and didn't get back is what the others borrowed
pub AreLent-out : (views : List View) (id : ℕ) (v : View) → get_elem? views id ≡ some v → AreLent views
    → HasOut v.stake.lending
AreLent-out views id v at k = record {
  known = λ key. (
    loans_but views id,
    λ f.
        let others = λ (i : ℕ) (u : View) (ne : i ≢ id) (a : get_elem? views i ≡ some u).
        let two = weigh-two keys_of views i id u v ne a at in
        k.lenders i u a (omega (arith, two, key, k.one)) in
        let alone = lent-alone f views id v at others in
        let but = but-weigh f views id v at in
        let s = weigh-append f v.stake.lending.loans (loans_but views id) in
        let e = k.same f in
        omega (arith, alone, but, s, e),
  );
}

-- For a pass with the key

-- what it lends is out
pub AreOut-lent : (l : Lending) (seen : List Entry) (faults : ℕ) (out : List Loan) → l.keys ≡ 1 → AreOut l out
    → AreOut (lending_kept seen faults l) (record { seen = seen; faults = faults } ∷ out)
AreOut-lent l seen faults out key are =
    subst (λ (n : ℕ). AreSame (l.loans ++ record { seen = seen; faults = faults } ∷ out)
    (lent_if (nat_lt 0 n) seen faults ++ l.lent)) (sym key)
    (λ f.
    let loan : Loan = record { seen = seen; faults = faults } in
    let a = are f in
    let s = weigh-append f l.loans out in
    let t = weigh-append f l.loans (loan ∷ out) in
    omega (arith, a, s, t))

-- the loan of a pass that is joined with it was out
pub AreOut-back : (l : Lending) (loan : Loan) (before now : List Loan) → AreOut l before
    → AreOut (both_lendings l (borrowed loan)) now → AreSame before (loan ∷ now)
AreOut-back l loan before now first second f =
    let a = first f in
    let b = second f in
    let s = weigh-append f l.loans before in
    let t = weigh-append f (l.loans ++ loan ∷ []) now in
    let r = weigh-append f l.loans (loan ∷ []) in
    let n = weigh-append f l.lent [] in
    omega (arith, a, b, s, t, r, n)
