-- Look-ups in a list of entries with keys that differ.
use Rattle.std.proofs.Common.{◌≡◌, ◌≢◌, ◌==◌, ◌<◌, ◌+◌, ℕ, zero, suc, Bool, true, false, cond, List, [], ◌∷◌, ◌++◌, Option, Some, None, is_some, length, get_or, set, refl, ap, subst, sym, ◌∙◌, ⊎_elim, arith, length-append}
use Rattle.std.proofs.lemmas.Bool.{cases_eq, true≢false}
use Rattle.std.proofs.lemmas.Bool.Decides.{nat_tests}
use Rattle.std.proofs.lemmas.List.{get_or-set_same, get_or-set_other, length-set}
use Rattle.std.proofs.lemmas.Cmp.{nat_cmp_total}
use Rattle.std.specs.Ordering.{nat_cmp, eq_by_cmp}
use Rattle.std.specs.Cmp.{unsigned_tied}
use Rattle.std.specs.FinMap.{from_entries, get, remove, get-from_entries, get-remove, same_map, nat_cmp-IsAntisymmetric}
use Rattle.std.specs.FinMap.Entries.{find}
use Rattle.search_books.specs.KeyTable.{AreApart}

pub not_None : (x : ℕ) → Some x ≢ None
not_None x e = absurd (true≢false (ap (λ (o : Option ℕ). is_some o) e))

pub tied : (q k : ℕ) → q ≡ k → eq_by_cmp nat_cmp q k ≡ true
tied q k e = unsigned_tied q k ∙ (let test : (q == k) ≡ true = grind (arith, nat_tests, e) in test)

pub untied : (q k : ℕ) → q ≢ k → eq_by_cmp nat_cmp q k ≡ false
untied q k ne = unsigned_tied q k ∙ (let test : (q == k) ≡ false = grind (arith, nat_tests, ne) in test)

pub find-miss : (q : ℕ) (es : List (ℕ × ℕ)) → ((i : ℕ) → i < length es → (get_or es i (0, 0)).0 ≢ q)
    → find nat_cmp q es ≡ None
find-miss q [] none = refl
find-miss q (e ∷ es) none =
    let ne : q ≢ e.0 = λ (s : q ≡ e.0). none 0 (omega arith) (sym s) in
    ap (λ (t : Bool). cond t (Some e.1) (find nat_cmp q es)) (untied q e.0 ne)
    ∙ find-miss q es (λ i low. none (suc i) (omega (arith, low)))

pub apart-rest : (e : ℕ × ℕ) (es : List (ℕ × ℕ)) → AreApart (e ∷ es) → AreApart es
apart-rest e es apart i j i_low j_low same =
    let both : suc i ≡ suc j = apart (suc i) (suc j) (omega (arith, i_low)) (omega (arith, j_low)) same in
    omega (arith, both)

pub find-hit : (q : ℕ) (es : List (ℕ × ℕ)) (i : ℕ) → AreApart es → i < length es → (get_or es i (0, 0)).0 ≡ q
    → find nat_cmp q es ≡ Some (get_or es i (0, 0)).1
find-hit q [] i apart low is = absurd (omega (arith, low))
find-hit q (e ∷ es) zero apart low is = ap (λ (t : Bool). cond t (Some e.1) (find nat_cmp q es)) (tied q e.0 (sym is))
find-hit q (e ∷ es) (suc i) apart low is =
    let ne : q ≢ e.0 = λ (s : q ≡ e.0).
    let bad : suc i ≡ 0 = apart (suc i) 0 low (omega arith) (is ∙ s) in
    absurd (omega (arith, bad)) in
    ap (λ (t : Bool). cond t (Some e.1) (find nat_cmp q es)) (untied q e.0 ne)
    ∙ find-hit q es i (apart-rest e es apart) (omega (arith, low)) is

-- where nothing is found no entry has the key
pub none-found : (q : ℕ) (es : List (ℕ × ℕ)) → find nat_cmp q es ≡ None → (i : ℕ) → i < length es
    → (get_or es i (0, 0)).0 ≢ q
none-found q [] none i low is = absurd (omega (arith, low))
none-found q (e ∷ es) none zero low is =
    not_None e.1 (sym (ap (λ (t : Bool). cond t (Some e.1) (find nat_cmp q es)) (tied q e.0 (sym is))) ∙ none)
none-found q (e ∷ es) none (suc i) low is =
    ⊎_elim
    (λ (s : q ≡ e.0). not_None e.1 (sym (ap (λ (t : Bool). cond t (Some e.1) (find nat_cmp q es)) (tied q e.0 s))
    ∙ none))
    (λ (ne : q ≢ e.0).
    none-found q es (sym (ap (λ (t : Bool). cond t (Some e.1) (find nat_cmp q es)) (untied q e.0 ne))
    ∙ none) i (omega (arith, low)) is)
    (cases_eq q e.0)

pub find-push_miss : (q : ℕ) (es : List (ℕ × ℕ)) (x : ℕ × ℕ) → q ≢ x.0
    → find nat_cmp q (es ++ x ∷ []) ≡ find nat_cmp q es
find-push_miss q [] x ne = ap (λ (t : Bool). cond t (Some x.1) None) (untied q x.0 ne)
find-push_miss q (e ∷ es) x ne =
    ap (λ (r : Option ℕ). cond (eq_by_cmp nat_cmp q e.0) (Some e.1) r) (find-push_miss q es x ne)

pub find-set_miss : (q : ℕ) (es : List (ℕ × ℕ)) (j : ℕ) (x : ℕ × ℕ) → q ≢ (get_or es j (0, 0)).0 → q ≢ x.0
    → find nat_cmp q (set es j x) ≡ find nat_cmp q es
find-set_miss q [] j x old new = refl
find-set_miss q (e ∷ es) zero x old new =
    ap (λ (t : Bool). cond t (Some x.1) (find nat_cmp q es)) (untied q x.0 new)
    ∙ sym (ap (λ (t : Bool). cond t (Some e.1) (find nat_cmp q es)) (untied q e.0 old))
find-set_miss q (e ∷ es) (suc j) x old new =
    ap (λ (r : Option ℕ). cond (eq_by_cmp nat_cmp q e.0) (Some e.1) r) (find-set_miss q es j x old new)

pub front : (es : List (ℕ × ℕ)) (x : ℕ × ℕ) (i : ℕ) → i < length es
    → get_or (es ++ x ∷ []) i (0, 0) ≡ get_or es i (0, 0)
front [] x i low = absurd (omega (arith, low))
front (y ∷ es) x zero low = refl
front (y ∷ es) x (suc i) low = front es x i (omega (arith, low))

pub end : (es : List (ℕ × ℕ)) (x : ℕ × ℕ) → get_or (es ++ x ∷ []) (length es) (0, 0) ≡ x
end [] x = refl
end (y ∷ es) x = end es x

-- a new key joins
pub apart-push : (es : List (ℕ × ℕ)) (x : ℕ × ℕ) → AreApart es → find nat_cmp x.0 es ≡ None → AreApart (es ++ x ∷ [])
apart-push es x apart none i j i_low j_low same =
    let len : length (es ++ x ∷ []) ≡ length es + 1 = length-append es (x ∷ []) in
    ⊎_elim
    (λ (ie : i ≡ length es).
    ⊎_elim
    (λ (je : j ≡ length es). ie ∙ sym je)
    (λ (jn : j ≢ length es).
    let j_in : j < length es = omega (arith, j_low, len, jn) in
    let key_j = ap (λ (p : ℕ × ℕ). p.0) (front es x j j_in) in
    let key_i = subst (λ (n : ℕ). (get_or (es ++ x ∷ []) n (0, 0)).0 ≡ x.0) (sym ie)
    (ap (λ (p : ℕ × ℕ). p.0) (end es x)) in
    absurd (none-found x.0 es none j j_in (sym key_j ∙ (sym same ∙ key_i))))
    (cases_eq j (length es)))
    (λ (in_ : i ≢ length es).
    let i_in : i < length es = omega (arith, i_low, len, in_) in
    let key_i = ap (λ (p : ℕ × ℕ). p.0) (front es x i i_in) in
    ⊎_elim
    (λ (je : j ≡ length es).
    let key_j = subst (λ (n : ℕ). (get_or (es ++ x ∷ []) n (0, 0)).0 ≡ x.0) (sym je)
    (ap (λ (p : ℕ × ℕ). p.0) (end es x)) in
    absurd (none-found x.0 es none i i_in (sym key_i ∙ (same ∙ key_j))))
    (λ (jn : j ≢ length es).
    let j_in : j < length es = omega (arith, j_low, len, jn) in
    let key_j = ap (λ (p : ℕ × ℕ). p.0) (front es x j j_in) in
    apart i j i_in j_in (sym key_i ∙ (same ∙ key_j)))
    (cases_eq j (length es)))
    (cases_eq i (length es))

module _ (es : List (ℕ × ℕ)) (x : ℕ × ℕ) (apart : AreApart (es ++ x ∷ [])) where
  len_is : length (es ++ x ∷ []) ≡ length es + 1
  len_is = length-append es (x ∷ [])

  pub apart-front : AreApart es
  apart-front i j i_low j_low same =
      apart i j (omega (arith, i_low, len_is)) (omega (arith, j_low, len_is))
      (ap (λ (p : ℕ × ℕ). p.0) (front es x i i_low) ∙ (same ∙ sym (ap (λ (p : ℕ × ℕ). p.0) (front es x j j_low))))

  -- the last key is new
  pub last-new : (i : ℕ) → i < length es → (get_or es i (0, 0)).0 ≢ x.0
  last-new i low same =
      let bad : i ≡ length es = apart i (length es) (omega (arith, low, len_is)) (omega (arith, len_is))
      (ap (λ (p : ℕ × ℕ). p.0) (front es x i low) ∙ (same ∙ sym (ap (λ (p : ℕ × ℕ). p.0) (end es x)))) in
      absurd (omega (arith, bad, low))

  -- the last goes
  pub removed-last : from_entries {R = nat_cmp} es ≡ remove (from_entries (es ++ x ∷ [])) x.0
  removed-last =
      same_map nat_cmp_total nat_cmp-IsAntisymmetric _ _ (λ q.
      let left = get-from_entries nat_cmp_total es q in
      let right = get-remove nat_cmp_total (from_entries (es ++ x ∷ [])) x.0 q in
      let inner = get-from_entries nat_cmp_total (es ++ x ∷ []) q in
      ⊎_elim
      (λ (e : q ≡ x.0).
      left ∙ (subst (λ (k : ℕ). find nat_cmp k es ≡ None) (sym e) (find-miss x.0 es last-new)
      ∙ sym (right ∙ ap (λ (t : Bool). cond t None (get {R = nat_cmp} (from_entries (es ++ x ∷ [])) q))
      (tied q x.0 e))))
      (λ (ne : q ≢ x.0).
      left ∙ (sym (find-push_miss q es x ne)
      ∙ sym (right ∙ (ap (λ (t : Bool). cond t None (get {R = nat_cmp} (from_entries (es ++ x ∷ [])) q))
      (untied q x.0 ne) ∙ inner))))
      (cases_eq q x.0))

  module _ (j : ℕ) (low : j < length es) where
    set_len : length (set es j x) ≡ length es
    set_len = length-set es j x

    -- the last takes the place of another
    pub apart-set : AreApart (set es j x)
    apart-set a b a_low b_low same =
        ⊎_elim
        (λ (ae : a ≡ j).
        ⊎_elim
        (λ (be : b ≡ j). ae ∙ sym be)
        (λ (bn : b ≢ j).
        let key_b = ap (λ (p : ℕ × ℕ). p.0) (get_or-set_other es j b x (0, 0) bn) in
        let key_a = subst (λ (n : ℕ). (get_or (set es j x) n (0, 0)).0 ≡ x.0) (sym ae)
        (ap (λ (p : ℕ × ℕ). p.0) (get_or-set_same es j x (0, 0) low)) in
        absurd (last-new b (omega (arith, b_low, set_len)) (sym key_b ∙ (sym same ∙ key_a))))
        (cases_eq b j))
        (λ (an : a ≢ j).
        let key_a = ap (λ (p : ℕ × ℕ). p.0) (get_or-set_other es j a x (0, 0) an) in
        ⊎_elim
        (λ (be : b ≡ j).
        let key_b = subst (λ (n : ℕ). (get_or (set es j x) n (0, 0)).0 ≡ x.0) (sym be)
        (ap (λ (p : ℕ × ℕ). p.0) (get_or-set_same es j x (0, 0) low)) in
        absurd (last-new a (omega (arith, a_low, set_len)) (sym key_a ∙ (same ∙ key_b))))
        (λ (bn : b ≢ j).
        let key_b = ap (λ (p : ℕ × ℕ). p.0) (get_or-set_other es j b x (0, 0) bn) in
        apart-front a b (omega (arith, a_low, set_len)) (omega (arith, b_low, set_len)) (sym key_a ∙ (same ∙ key_b)))
        (cases_eq b j))
        (cases_eq a j)

    pub removed-set : (key : ℕ) → (get_or es j (0, 0)).0 ≡ key
        → from_entries {R = nat_cmp} (set es j x) ≡ remove (from_entries (es ++ x ∷ [])) key
    removed-set key is =
        same_map nat_cmp_total nat_cmp-IsAntisymmetric _ _ (λ q.
        let left = get-from_entries nat_cmp_total (set es j x) q in
        let right = get-remove nat_cmp_total (from_entries (es ++ x ∷ [])) key q in
        let inner = get-from_entries nat_cmp_total (es ++ x ∷ []) q in
        ⊎_elim
        (λ (e : q ≡ key).
        let gone : find nat_cmp q (set es j x) ≡ None =
        find-miss q (set es j x) (λ i i_low same.
        ⊎_elim
        (λ (ie : i ≡ j).
        let at_j = subst (λ (n : ℕ). (get_or (set es j x) n (0, 0)).0 ≡ x.0) (sym ie)
        (ap (λ (p : ℕ × ℕ). p.0) (get_or-set_same es j x (0, 0) low)) in
        absurd (last-new j low (is ∙ (sym e ∙ (sym same ∙ at_j)))))
        (λ (ne : i ≢ j).
        let at_i = ap (λ (p : ℕ × ℕ). p.0) (get_or-set_other es j i x (0, 0) ne) in
        absurd (ne (apart-front i j (omega (arith, i_low, set_len)) low (sym at_i ∙ (same ∙ (e ∙ sym is))))))
        (cases_eq i j)) in
        left ∙ (gone ∙ sym (right
        ∙ ap (λ (t : Bool). cond t None (get {R = nat_cmp} (from_entries (es ++ x ∷ [])) q)) (tied q key e))))
        (λ (ne : q ≢ key).
        let stays : get {R = nat_cmp} (remove (from_entries (es ++ x ∷ [])) key) q ≡ find nat_cmp q (es ++ x ∷ []) =
        right ∙ (ap (λ (t : Bool). cond t None (get {R = nat_cmp} (from_entries (es ++ x ∷ [])) q))
        (untied q key ne) ∙ inner) in
        ⊎_elim
        (λ (e : q ≡ x.0).
        let here : find nat_cmp q (set es j x) ≡ Some x.1 =
        find-hit q (set es j x) j apart-set (omega (arith, low, set_len))
        (ap (λ (p : ℕ × ℕ). p.0) (get_or-set_same es j x (0, 0) low) ∙ sym e)
        ∙ ap (λ (p : ℕ × ℕ). Some p.1) (get_or-set_same es j x (0, 0) low) in
        let there : find nat_cmp q (es ++ x ∷ []) ≡ Some x.1 =
        find-hit q (es ++ x ∷ []) (length es) apart (omega (arith, len_is)) (ap (λ (p : ℕ × ℕ). p.0) (end es x)
        ∙ sym e)
        ∙ ap (λ (p : ℕ × ℕ). Some p.1) (end es x) in
        left ∙ (here ∙ sym (stays ∙ there)))
        (λ (other : q ≢ x.0).
        let not_key : q ≢ (get_or es j (0, 0)).0 = λ (bad : q ≡ (get_or es j (0, 0)).0). ne (bad ∙ is) in
        left ∙ (find-set_miss q es j x not_key other ∙ (sym (find-push_miss q es x other) ∙ sym stays)))
        (cases_eq q x.0))
        (cases_eq q key))
