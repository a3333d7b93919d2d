-- The chains of the index of a table's rows.
use Rattle.std.proofs.Common.{◌≡◌, ◌≢◌, ◌<◌, ◌≤◌, ◌+◌, ◌-◌, ℕ, zero, suc, true, false, List, [], ◌∷◌, length, get_or, set, map, drop, Some, None, refl, ap, subst, sym, ◌∙◌, ⊎_elim, arith}
use Rattle.std.proofs.lemmas.Bool.{and_parts, cases_Bool, cases_eq}
use Rattle.std.proofs.lemmas.List.{drop_more, get_or-map, get_or-set_other, get_or-set_same, get_or_default, length-map, length-set}
use Rattle.std.proofs.lemmas.Slice.Eq.{bytes_eq-Decides}
use Rattle.std.specs.Str.{bytes_eq}
use Rattle.farm_types.specs.CommitId.{id_bytes}
use Rattle.test_runners.specs.Index.{IsFirst, IsIndex, IsLinked, bucket_of, buckets}
use Rattle.test_runners.specs.Rows.{TableRow, row_seen}
use Rattle.test_runners.specs.Tables.{is_row_of, tested_in}
use Rattle.test_runners.specs.declared.row.Row.{Row}
use Rattle.test_runners.proofs.Tables.{tested-behind, tested-here}

-- a place of another bucket in front changes nothing
first-past : (homes : List ℕ) (b i at : ℕ) → get_or homes i 0 ≢ b → IsFirst homes b (i + 1) at → IsFirst homes b i at
first-past homes b i at other f = record {
  later = omega (arith, f.later);
  others = λ j from below.
      ⊎_elim
      (λ (e : j ≡ i). subst (λ (k : ℕ). get_or homes k 0 ≢ b) (sym e) other)
      (λ (ne : j ≢ i). f.others j (omega (arith, from, ne)) below)
      (cases_eq j i);
  there = f.there;
}

first-here : (homes : List ℕ) (b i : ℕ) → get_or homes i 0 ≡ b → IsFirst homes b i i
first-here homes b i here = record {
  later = omega arith;
  others = λ j from below. absurd (omega (arith, from, below));
  there = λ inside. here;
}

-- one more row is linked, in front of those of its bucket
pub linked-more : (homes heads next : List ℕ) (i b : ℕ) → IsLinked homes (i + 1) heads next → i < length homes →
    b ≡ get_or homes i 0 → b < length heads → IsLinked homes i (set heads b i) (set next i (get_or heads b 0))
linked-more homes heads next i b l inside is low =
    let long : length (set heads b i) ≡ length heads = length-set heads b i in
    let same : length (set next i (get_or heads b 0)) ≡ length next = length-set next i (get_or heads b 0) in record {
      head = λ c c_low.
          ⊎_elim
          (λ (e : c ≡ b).
          subst (λ (d : ℕ). IsFirst homes d i (get_or (set heads b i) d 0)) (sym e)
          (subst (λ (n : ℕ). IsFirst homes b i n) (sym (get_or-set_same heads b i 0 low)) (first-here homes b i (sym is))))
          (λ (ne : c ≢ b).
          subst (λ (n : ℕ). IsFirst homes c i n) (sym (get_or-set_other heads b c i 0 ne))
          (first-past homes c i (get_or heads c 0) (λ (bad : get_or homes i 0 ≡ c). ne (sym bad ∙ sym is))
          (l.head c (omega (arith, c_low, long)))))
          (cases_eq c b);
      behind = λ k from k_low.
          ⊎_elim
          (λ (e : k ≡ i).
          subst (λ (j : ℕ). IsFirst homes (get_or homes j 0) (j + 1) (get_or (set next i (get_or heads b 0)) j 0)) (sym e)
          (subst (λ (n : ℕ). IsFirst homes (get_or homes i 0) (i + 1) n)
          (sym (get_or-set_same next i (get_or heads b 0) 0 (omega (arith, inside, l.count))))
          (subst (λ (c : ℕ). IsFirst homes c (i + 1) (get_or heads b 0)) is (l.head b low))))
          (λ (ne : k ≢ i).
          subst (λ (n : ℕ). IsFirst homes (get_or homes k 0) (k + 1) n) (sym (get_or-set_other next i k (get_or heads b 0) 0 ne))
          (l.behind k (omega (arith, from, ne)) k_low))
          (cases_eq k i);
      count = same ∙ l.count;
    }

-- a row of the test and the commit stands in their bucket
bucket-row : (size : ℕ) (row : TableRow) (test commit : List ℕ) → is_row_of test commit row ≡ true →
    bucket_of size row.test row.commit ≡ bucket_of size test commit
bucket-row size row test commit is =
    let parts = and_parts (bytes_eq row.commit commit) (bytes_eq row.test test) is in
    ap (λ (t : List ℕ). bucket_of size t row.commit) ((bytes_eq-Decides row.test test).0 parts.1)
    ∙ ap (λ (c : List ℕ). bucket_of size test c) ((bytes_eq-Decides row.commit commit).0 parts.0)

row-elsewhere : (size : ℕ) (row : TableRow) (test commit : List ℕ) →
    bucket_of size row.test row.commit ≢ bucket_of size test commit → is_row_of test commit row ≡ false
row-elsewhere size row test commit other =
    ⊎_elim
    (λ (is : is_row_of test commit row ≡ true). absurd (other (bucket-row size row test commit is)))
    (λ (no : is_row_of test commit row ≡ false). no)
    (cases_Bool (is_row_of test commit row))

-- the first place behind the first row
first-behind : (home : ℕ) (homes : List ℕ) (b from at : ℕ) → IsFirst (home ∷ homes) b (suc from) (suc at) →
    IsFirst homes b from at
first-behind home homes b from at f = record {
  later = omega (arith, f.later);
  others = λ j low below. f.others (suc j) (omega (arith, low)) (omega (arith, below));
  there = λ inside. f.there (omega (arith, inside));
}

-- no row before the first one of the bucket decides
pub skipped : (size : ℕ) (rows : List TableRow) (test commit : List ℕ) (from at : ℕ) →
    IsFirst (buckets size rows) (bucket_of size test commit) from at →
    tested_in (drop from rows) test commit ≡ tested_in (drop at rows) test commit
skipped size [] test commit from at f = nothing from ∙ sym (nothing at) where
  nothing : (n : ℕ) → tested_in (drop n []) test commit ≡ None
  nothing zero = refl
  nothing (suc n) = refl
skipped size (row ∷ rows) test commit zero zero f = refl
skipped size (row ∷ rows) test commit zero (suc at) f =
    tested-behind row rows test commit (row-elsewhere size row test commit (f.others 0 (omega arith) (omega arith)))
    ∙ skipped size rows test commit zero at (record {
      later = omega arith;
      others = λ j low below. f.others (suc j) (omega arith) (omega (arith, below));
      there = λ inside. f.there (omega (arith, inside));
    })
skipped size (row ∷ rows) test commit (suc from) zero f = absurd (omega (arith, f.later))
skipped size (row ∷ rows) test commit (suc from) (suc at) f =
    skipped size rows test commit from at
    (first-behind (bucket_of size row.test row.commit) (buckets size rows) (bucket_of size test commit) from at f)

-- the row that an index reads
seen-at : (rows : List Row) (i : ℕ) (row : Row) → row ≡ get_or rows i row → i < length rows →
    get_or (map row_seen rows) i (row_seen row) ≡ row_seen row
seen-at rows i row is low = get_or-map row_seen rows i row (row_seen row) low ∙ ap row_seen (sym is)

length-buckets : (size : ℕ) (rows : List TableRow) → length (buckets size rows) ≡ length rows
length-buckets size rows = length-map rows (λ (row : TableRow). bucket_of size row.test row.commit)

-- the row before those that are linked is linked
pub linked-row : (rows : List Row) (size : ℕ) (heads next : List ℕ) (left b : ℕ) (row : Row) →
    IsLinked (buckets size (map row_seen rows)) left heads next → 0 < left → left ≤ length rows →
    row ≡ get_or rows (left - 1) row → b ≡ bucket_of size row.test (id_bytes row.commit) → b < length heads →
    IsLinked (buckets size (map row_seen rows)) (left - 1) (set heads b (left - 1)) (set next (left - 1) (get_or heads b 0))
linked-row rows size heads next left b row l some within is b_is low =
    let seen = map row_seen rows in
    let all : length seen ≡ length rows = length-map rows row_seen in
    let more : left ≡ left - 1 + 1 = omega (arith, some) in
    let inside : left - 1 < length seen = omega (arith, some, within, all) in
    let home : get_or (buckets size seen) (left - 1) 0 ≡ bucket_of size row.test (id_bytes row.commit) =
    get_or-map (λ (r : TableRow). bucket_of size r.test r.commit) seen (left - 1) (row_seen row) 0 inside
    ∙ ap (λ (r : TableRow). bucket_of size r.test r.commit) (seen-at rows (left - 1) row is (omega (arith, some, within))) in
    linked-more (buckets size seen) heads next (left - 1) b (subst (λ (n : ℕ). IsLinked (buckets size seen) n heads next) more l)
    (omega (arith, inside, length-buckets size seen)) (b_is ∙ sym home) low

-- the row that is sought stands at this place or behind it, and the row there, if there is one, is of the right bucket
pub record IsSought (size : ℕ) (rows : List TableRow) (test commit : List ℕ) (at : ℕ) : Type 0 where
  pub left : tested_in (drop at rows) test commit ≡ tested_in rows test commit
  pub home : at < length rows → get_or (buckets size rows) at 0 ≡ bucket_of size test commit

sought-first : (size : ℕ) (rows : List TableRow) (test commit : List ℕ) (from at : ℕ) →
    tested_in (drop from rows) test commit ≡ tested_in rows test commit →
    IsFirst (buckets size rows) (bucket_of size test commit) from at → IsSought size rows test commit at
sought-first size rows test commit from at left f = record {
  left = sym (skipped size rows test commit from at f) ∙ left;
  home = λ inside. f.there (omega (arith, inside, length-buckets size rows));
}

pub sought-start : (rows : List TableRow) (heads next test commit : List ℕ) (b at : ℕ) → IsIndex rows heads next →
    b ≡ bucket_of (length heads) test commit → b < length heads → at ≡ get_or heads b at →
    IsSought (length heads) rows test commit at
sought-start rows heads next test commit b at index b_is low is =
    let at_is : get_or heads b 0 ≡ at = sym (is ∙ get_or_default heads b at 0 low) in
    sought-first (length heads) rows test commit 0 at refl
    (subst (λ (n : ℕ). IsFirst (buckets (length heads) rows) (bucket_of (length heads) test commit) 0 n) at_is
    (subst (λ (c : ℕ). IsFirst (buckets (length heads) rows) c 0 (get_or heads b 0)) b_is (index.linked.head b low)))

-- the next row of a bucket
next-first : (rows : List TableRow) (heads next : List ℕ) (at n : ℕ) → IsIndex rows heads next → at < length rows →
    n ≡ get_or next at n → IsFirst (buckets (length heads) rows) (get_or (buckets (length heads) rows) at 0) (at + 1) n
next-first rows heads next at n index inside is =
    let homes = buckets (length heads) rows in
    let long = length-buckets (length heads) rows in
    let low : at < length next = omega (arith, inside, long, index.linked.count) in
    subst (λ (m : ℕ). IsFirst homes (get_or homes at 0) (at + 1) m) (sym (is ∙ get_or_default next at n 0 low))
    (index.linked.behind at (omega arith) (omega (arith, inside, long)))

pub sought-next : (rows : List Row) (heads next test commit : List ℕ) (at n : ℕ) (row : Row) →
    IsIndex (map row_seen rows) heads next → IsSought (length heads) (map row_seen rows) test commit at → at < length rows →
    row ≡ get_or rows at row → is_row_of test commit (row_seen row) ≡ false → n ≡ get_or next at n →
    IsSought (length heads) (map row_seen rows) test commit n
sought-next rows heads next test commit at n row index sought inside row_is other is =
    let seen = map row_seen rows in
    let low : at < length seen = omega (arith, inside, length-map rows row_seen) in
    let first = next-first seen heads next at n index low is in
    let here : tested_in (drop at seen) test commit ≡ tested_in (row_seen row ∷ drop (at + 1) seen) test commit =
    ap (λ (l : List TableRow). tested_in l test commit) (drop_more seen at (row_seen row) low)
    ∙ ap (λ (r : TableRow). tested_in (r ∷ drop (at + 1) seen) test commit) (seen-at rows at row row_is inside) in
    sought-first (length heads) seen test commit (at + 1) n
    (sym (tested-behind (row_seen row) (drop (at + 1) seen) test commit other) ∙ sym here ∙ sought.left)
    (subst (λ (b : ℕ). IsFirst (buckets (length heads) seen) b (at + 1) n) (sought.home low) first)

pub sought-here : (rows : List Row) (size : ℕ) (test commit : List ℕ) (at : ℕ) (row : Row) →
    IsSought size (map row_seen rows) test commit at → at < length rows → row ≡ get_or rows at row →
    is_row_of test commit (row_seen row) ≡ true → Some row.tested ≡ tested_in (map row_seen rows) test commit
sought-here rows size test commit at row sought inside row_is is =
    let seen = map row_seen rows in
    let low : at < length seen = omega (arith, inside, length-map rows row_seen) in
    let here : tested_in (drop at seen) test commit ≡ tested_in (row_seen row ∷ drop (at + 1) seen) test commit =
    ap (λ (l : List TableRow). tested_in l test commit) (drop_more seen at (row_seen row) low)
    ∙ ap (λ (r : TableRow). tested_in (r ∷ drop (at + 1) seen) test commit) (seen-at rows at row row_is inside) in
    sym (tested-here (row_seen row) (drop (at + 1) seen) test commit is) ∙ sym here ∙ sought.left
