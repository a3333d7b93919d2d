-- What the calls need of the whole table.
use Rattle.std.proofs.Common.{◌≡◌, ◌≢◌, ◌<◌, ◌≤◌, ◌+◌, ◌-◌, ℕ, suc, List, [], ◌∷◌, ◌++◌, Some, None, length, get_or, set, refl, ap, subst, sym, ◌∙◌, ⊎_elim, arith, length-append}
use Rattle.std.proofs.lemmas.Bool.{cases_eq}
use Rattle.std.proofs.Math.ListN.{get_or-map}
use Rattle.std.proofs.lemmas.Cmp.{nat_cmp_total}
use Rattle.std.specs.Ordering.{nat_cmp}
use Rattle.std.specs.FinMap.{from_entries, get, insert, remove, get-from_entries, from_entries_push, nat_cmp-IsAntisymmetric}
use Rattle.search_books.specs.KeyChains.{blank}
use Rattle.search_books.specs.KeyTable.{entry_of, entries_of, places_of, AreApart}
use Rattle.search_books.specs.declared.key_chains.Item.{Item}
use Rattle.search_books.proofs.Finds.{find-miss, find-hit, not_None, apart-push, apart-front, apart-set, removed-last, removed-set, end, front}

pub entry_at : (items : List Item) (i : ℕ) → get_or (entries_of items) i (0, 0) ≡ entry_of (get_or items i blank)
entry_at items i = get_or-map entry_of items i blank

len_map : (items : List Item) → length (entries_of items) ≡ length items
len_map [] = refl
len_map (x ∷ items) = ap (λ (n : ℕ). suc n) (len_map items)

pub entries-len : (items : List Item) → length (entries_of items) ≡ length items
entries-len items = len_map items

-- a key that no item has
pub get-miss : (items : List Item) (key : ℕ) → ((k : ℕ) → k < length items → (get_or items k blank).key ≢ key)
    → get (places_of items) key ≡ None
get-miss items key none =
    get-from_entries nat_cmp_total (entries_of items) key
    ∙ find-miss key (entries_of items) (λ i low same.
    none i (omega (arith, low, entries-len items)) (sym (ap (λ (p : ℕ × ℕ). p.0) (entry_at items i)) ∙ same))

-- the key of an item
pub get-hit : (items : List Item) (key m : ℕ) → AreApart (entries_of items) → m < length items
    → (get_or items m blank).key ≡ key
    → get (places_of items) key ≡ Some (get_or items m blank).place
get-hit items key m apart low is =
    get-from_entries nat_cmp_total (entries_of items) key
    ∙ (find-hit key (entries_of items) m apart (omega (arith, low, entries-len items))
    (ap (λ (p : ℕ × ℕ). p.0) (entry_at items m) ∙ is)
    ∙ ap (λ (p : ℕ × ℕ). Some p.1) (entry_at items m))

-- a key that is there lies at what a search gives
pub present-at : (items : List Item) (key at : ℕ) → ((p : ℕ) × (get (places_of items) key ≡ Some p))
    → (at ≡ 0 → (k : ℕ) → k < length items → (get_or items k blank).key ≢ key) → 1 ≤ at
present-at items key at there absent =
    ⊎_elim
    (λ (e : at ≡ 0). absurd (not_None there.0 (sym there.1 ∙ get-miss items key (absent e))))
    (λ (ne : at ≢ 0). omega (arith, ne))
    (cases_eq at 0)

-- and there is an item
pub present-some : (items : List Item) (key : ℕ) → ((p : ℕ) × (get (places_of items) key ≡ Some p)) → 0 < length items
present-some items key there =
    ⊎_elim
    (λ (e : length items ≡ 0).
    absurd (not_None there.0 (sym there.1 ∙ get-miss items key (λ k low. absurd (omega (arith, low, e))))))
    (λ (ne : length items ≢ 0). omega (arith, ne))
    (cases_eq (length items) 0)

-- where a search for a key that is there leads
pub record IsSeen (items : List Item) (key at : ℕ) : Type 0 where
  pub low : 1 ≤ at
  pub within : at - 1 < length items
  pub key_is : (get_or items (at - 1) blank).key ≡ key

pub seen : (items xs : List Item) (key at : ℕ) → xs ≡ items → ((p : ℕ) × (get (places_of items) key ≡ Some p))
    → at ≤ length xs → ((m : ℕ) → at ≡ m + 1 → (get_or xs m blank).key ≡ key)
    → (at ≡ 0 → (k : ℕ) → k < length xs → (get_or xs k blank).key ≢ key) → IsSeen items key at
seen items xs key at same there in_range found absent =
    let low : 1 ≤ at =
    present-at items key at there
    (λ e. subst (λ (ys : List Item). (k : ℕ) → k < length ys → (get_or ys k blank).key ≢ key) same (absent e)) in
    record {
      low = low;
      within = omega (arith, low, in_range, ap (λ (ys : List Item). length ys) same);
      key_is = subst (λ (ys : List Item). (get_or ys (at - 1) blank).key ≡ key) same
          (found (at - 1) (omega (arith, low)));
    }

-- a new key
pub put-places : (items items' : List Item) (key place : ℕ)
    → entries_of items' ≡ entries_of items ++ (key, place) ∷ []
    → get (places_of items) key ≡ None → places_of items' ≡ insert (places_of items) key place
put-places items items' key place is none =
    ap (λ (es : List (ℕ × ℕ)). from_entries {R = nat_cmp} es) is
    ∙ from_entries_push nat_cmp_total nat_cmp-IsAntisymmetric (entries_of items) key place
    (sym (get-from_entries nat_cmp_total (entries_of items) key) ∙ none)

pub put-apart : (items items' : List Item) (key place : ℕ) → entries_of items' ≡ entries_of items ++ (key, place) ∷ []
    → get (places_of items) key ≡ None → AreApart (entries_of items) → AreApart (entries_of items')
put-apart items items' key place is none apart =
    subst (λ (es : List (ℕ × ℕ)). AreApart es) (sym is)
    (apart-push (entries_of items) (key, place) apart (sym (get-from_entries nat_cmp_total (entries_of items) key)
    ∙ none))

module _ (items rest : List Item) (last : Item) (is : entries_of items ≡ entries_of rest ++ entry_of last ∷ [])
    (apart : AreApart (entries_of items)) where
  apart_is : AreApart (entries_of rest ++ entry_of last ∷ [])
  apart_is = subst (λ (es : List (ℕ × ℕ)). AreApart es) is apart

  len_is : length items ≡ length rest + 1
  len_is =
      let a = entries-len items in
      let b = entries-len rest in
      let c = ap (λ (es : List (ℕ × ℕ)). length es) is ∙ length-append (entries_of rest) (entry_of last ∷ []) in
      omega (arith, a, b, c)

  key_is : (m : ℕ) → m < length rest → (get_or (entries_of rest) m (0, 0)).0 ≡ (get_or items m blank).key
  key_is m low =
      sym (ap (λ (p : ℕ × ℕ). p.0) (front (entries_of rest) (entry_of last) m (omega (arith, low, entries-len rest))))
      ∙ (sym (ap (λ (es : List (ℕ × ℕ)). (get_or es m (0, 0)).0) is) ∙ ap (λ (p : ℕ × ℕ). p.0) (entry_at items m))

  pub take-apart : AreApart (entries_of rest)
  take-apart = apart-front (entries_of rest) (entry_of last) apart_is

  -- the last item has the key
  pub take-last : (m key : ℕ) → m < length items → (get_or items m blank).key ≡ key → length rest ≤ m
      → places_of rest ≡ remove (places_of items) key
  take-last m key low same up =
      let m_is : m ≡ length (entries_of rest) = omega (arith, low, up, len_is, entries-len rest) in
      let key_last : last.key ≡ key =
      sym (ap (λ (p : ℕ × ℕ). p.0) (end (entries_of rest) (entry_of last)))
      ∙ (sym (ap (λ (es : List (ℕ × ℕ)). (get_or es (length (entries_of rest)) (0, 0)).0) is)
      ∙ (ap (λ (i : ℕ). (get_or (entries_of items) i (0, 0)).0) (sym m_is)
      ∙ (ap (λ (p : ℕ × ℕ). p.0) (entry_at items m) ∙ same))) in
      removed-last (entries_of rest) (entry_of last) apart_is
      ∙ (ap (λ (es : List (ℕ × ℕ)). remove (from_entries {R = nat_cmp} es) last.key) (sym is)
      ∙ ap (λ (k : ℕ). remove (places_of items) k) key_last)

  -- another item has it
  module _ (items' : List Item) (m : ℕ) (low : m < length rest)
      (set_is : entries_of items' ≡ set (entries_of rest) m (entry_of last)) where
    pub moved-apart : AreApart (entries_of items')
    moved-apart =
        subst (λ (es : List (ℕ × ℕ)). AreApart es) (sym set_is)
        (apart-set (entries_of rest) (entry_of last) apart_is m (omega (arith, low, entries-len rest)))

    pub take-moved : (key : ℕ) → (get_or items m blank).key ≡ key → places_of items' ≡ remove (places_of items) key
    take-moved key same =
        ap (λ (es : List (ℕ × ℕ)). from_entries {R = nat_cmp} es) set_is
        ∙ (removed-set (entries_of rest) (entry_of last) apart_is m (omega (arith, low, entries-len rest)) key
        (key_is m low ∙ same)
        ∙ ap (λ (es : List (ℕ × ℕ)). remove (from_entries {R = nat_cmp} es) key) (sym is))
