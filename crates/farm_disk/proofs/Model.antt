-- The images of a crash are what the disk model allows.
use Rattle.std.proofs.Common.{◌≡◌, inl, inr, ⊎_elim, ℕ, ◌+◌, ◌-◌, ◌≤◌, ◌<◌, max, min, nat_le, nat_lt, cond, List, [], ◌∷◌, length, get_or, take, drop, map, refl, sym, ◌∙◌, ap, subst, arith, length-drop}
use Rattle.std.proofs.lemmas.Bool.{cases_lt}
use Rattle.std.proofs.lemmas.Bool.Decides.{nat_tests}
use Rattle.std.proofs.lemmas.List.{ext_get_or, get_or-take, get_or-drop, length-take}
use Rattle.std.proofs.lemmas.List.FromFn.{length-map-range_with_len, get_or-map-range_with_len}
use Rattle.std.specs.List.{range_with_len}
use Rattle.farm_disk.specs.Images.{Step, still, write, cut, sync, Torn, Shortened, IsImage}
use Rattle.farm_disk.specs.Model.{synced, least, greatest, MayBeLeft, IsRun}

-- lists that have one front agree at each index of it
front-index : (n i : ℕ) (c d : List ℕ) → take n c ≡ take n d → i < n → get_or c i 0 ≡ get_or d i 0
front-index n i c d same below =
    sym (get_or-take n c i 0 below) ∙ ap (λ (l : List ℕ). get_or l i 0) same ∙ get_or-take n d i 0 below

front-length : (n : ℕ) (c d : List ℕ) → take n c ≡ take n d → min n (length c) ≡ min n (length d)
front-length n c d same = sym (length-take n c) ∙ ap length same ∙ length-take n d

back-index : (n i : ℕ) (c d : List ℕ) → drop n c ≡ drop n d → n ≤ i → get_or c i 0 ≡ get_or d i 0
back-index n i c d same above =
    let at : n + (i - n) ≡ i = omega (arith, above) in
    let here : get_or c (n + (i - n)) 0 ≡ get_or d (n + (i - n)) 0 =
    sym (get_or-drop n c (i - n) 0) ∙ ap (λ (l : List ℕ). get_or l (i - n) 0) same ∙ get_or-drop n d (i - n) 0 in
    subst (λ (k : ℕ). get_or c k 0 ≡ get_or d k 0) at here

back-length : (n : ℕ) (c d : List ℕ) → drop n c ≡ drop n d → length c - n ≡ length d - n
back-length n c d same = sym (length-drop n c) ∙ ap length same ∙ length-drop n d

-- each image is allowed
pub image-may_be_left : (steps : List Step) (c : List ℕ) → IsImage steps c → MayBeLeft steps c
image-may_be_left [] c image = let size : length c ≡ 0 = ap length image in record {
  no_shorter = omega arith;
  no_longer = omega (arith, size);
  same = λ i within held untouched. absurd (omega (arith, within, size));
}
image-may_be_left (still ∷ older) c image = let m = image-may_be_left older c image in record {
  no_shorter = m.no_shorter;
  no_longer = m.no_longer;
  same = m.same;
}
image-may_be_left (write at n ∷ older) c image =
    let d = image.0 in
    let m = image-may_be_left older d image.1 in
    let torn = image.2 in
    record {
      no_shorter = omega (arith, m.no_shorter, torn.no_shorter);
      no_longer = omega (arith, m.no_longer, torn.no_longer);
      same = λ i within held untouched.
          ⊎_elim
          (λ (below : i < at).
          front-index at i c d torn.before below
          ∙ m.same i (omega (arith, within, below, front-length at c d torn.before)) held (λ t. untouched (inr t)))
          (λ (above : at ≤ i).
          ⊎_elim
          (λ (inside : i < at + n). absurd (untouched (inl (above, inside))))
          (λ (behind : at + n ≤ i).
          back-index (at + n) i c d torn.after behind
          ∙ m.same i (omega (arith, within, behind, back-length (at + n) c d torn.after)) held (λ t. untouched (inr t)))
          (cases_lt i (at + n)))
          (cases_lt i at);
    }
image-may_be_left (cut n ∷ older) c image =
    let d = image.0 in
    let m = image-may_be_left older d image.1 in
    let short = image.2 in
    record {
      no_shorter = omega (arith, m.no_shorter, front-length n c d short.below);
      no_longer = omega (arith, m.no_longer, short.no_longer);
      same = λ i within held untouched.
          ⊎_elim
          (λ (below : i < n).
          front-index n i c d short.below below
          ∙ m.same i (omega (arith, within, short.no_longer)) held (λ t. untouched (inr t)))
          (λ (above : n ≤ i). absurd (untouched (inl above)))
          (cases_lt i n);
    }
image-may_be_left (sync bytes ∷ older) c image =
    let size : length c ≡ length bytes = ap length image in
    record {
      no_shorter = omega (arith, size);
      no_longer = omega (arith, size);
      same = λ i within held untouched. ap (λ (l : List ℕ). get_or l i 0) image;
    }

-- the least size is no greater than the greatest
pub least-le-greatest : (steps : List Step) → least steps ≤ greatest steps
least-le-greatest [] = omega arith
least-le-greatest (still ∷ older) = least-le-greatest older
least-le-greatest (write at n ∷ older) = omega (arith, least-le-greatest older)
least-le-greatest (cut n ∷ older) = omega (arith, least-le-greatest older)
least-le-greatest (sync bytes ∷ older) = omega arith

-- x at an index of the range, and y elsewhere
pick : (low high i x y : ℕ) → ℕ
pick low high i x y = cond (nat_le low i) (cond (nat_lt i high) x y) y

pick-inside : (low high i x y : ℕ) → low ≤ i → i < high → pick low high i x y ≡ x
unfolding pick
pick-inside low high i x y above below = grind (arith, nat_tests, above, below)

pick-below : (low high i x y : ℕ) → i < low → pick low high i x y ≡ y
unfolding pick
pick-below low high i x y below = grind (arith, nat_tests, below)

pick-behind : (low high i x y : ℕ) → high ≤ i → pick low high i x y ≡ y
unfolding pick
pick-behind low high i x y behind = grind (arith, nat_tests, behind)

same-front : (n : ℕ) (c d : List ℕ) → min n (length c) ≡ min n (length d)
    → ((i : ℕ) → i < n → i < length c → get_or c i 0 ≡ get_or d i 0) → take n c ≡ take n d
same-front n c d size same =
    ext_get_or 0 (take n c) (take n d) (length-take n c ∙ size ∙ sym (length-take n d)) (λ i within.
    let below : i < n = omega (arith, within, length-take n c) in
    let held : i < length c = omega (arith, within, length-take n c) in
    get_or-take n c i 0 below ∙ same i below held ∙ sym (get_or-take n d i 0 below))

same-back : (n : ℕ) (c d : List ℕ) → length c - n ≡ length d - n
    → ((i : ℕ) → n ≤ i → i < length c → get_or c i 0 ≡ get_or d i 0) → drop n c ≡ drop n d
same-back n c d size same =
    ext_get_or 0 (drop n c) (drop n d) (length-drop n c ∙ size ∙ sym (length-drop n d)) (λ i within.
    get_or-drop n c i 0 ∙ same (n + i) (omega arith) (omega (arith, within, length-drop n c))
    ∙ sym (get_or-drop n d i 0))

-- before the write there was an image that it tears to this one
untorn : (at n : ℕ) (older : List Step) (c : List ℕ) → at ≤ greatest older → MayBeLeft (write at n ∷ older) c
    → (d : List ℕ) × MayBeLeft older d × Torn at n d c
untorn at n older c begins m =
    let size = min (length c) (greatest older) in
    let f : ℕ → ℕ = λ i. pick at (at + n) i (get_or (synced older) i 0) (get_or c i 0) in
    let d = map f (range_with_len 0 size) in
    let len : length d ≡ size = length-map-range_with_len f 0 size in
    let at_index : (i : ℕ) → i < size → get_or d i 0 ≡ f i =
    λ i within. get_or-map-range_with_len f 0 size i i 0 within (omega arith) in
    let low = least-le-greatest older in (
      d,
      record {
        no_shorter = omega (arith, m.no_shorter, low, len);
        no_longer = omega (arith, len);
        same = λ i within held untouched.
            let here : i < size = omega (arith, within, len) in
            let in_c : i < length c = omega (arith, here) in
            at_index i here ∙ ⊎_elim
            (λ (below : i < at).
            pick-below at (at + n) i (get_or (synced older) i 0) (get_or c i 0) below
            ∙ m.same i in_c held
            (λ t. ⊎_elim (λ (r : (at ≤ i) × (i < at + n)). absurd (omega (arith, r.0, below))) untouched t))
            (λ (above : at ≤ i).
            ⊎_elim
            (λ (inside : i < at + n). pick-inside at (at + n) i (get_or (synced older) i 0) (get_or c i 0) above inside)
            (λ (behind : at + n ≤ i).
            pick-behind at (at + n) i (get_or (synced older) i 0) (get_or c i 0) behind
            ∙ m.same i in_c held
            (λ t. ⊎_elim (λ (r : (at ≤ i) × (i < at + n)). absurd (omega (arith, r.1, behind))) untouched t))
            (cases_lt i (at + n)))
            (cases_lt i at);
      },
      record {
        before = same-front at c d (omega (arith, len, begins)) (λ i below within.
            sym (at_index i (omega (arith, below, begins, within))
            ∙ pick-below at (at + n) i (get_or (synced older) i 0) (get_or c i 0) below));
        after = same-back (at + n) c d (omega (arith, len, m.no_longer)) (λ i behind within.
            sym (at_index i (omega (arith, behind, within, m.no_longer))
            ∙ pick-behind at (at + n) i (get_or (synced older) i 0) (get_or c i 0) behind));
        no_shorter = omega (arith, len);
        no_longer = omega (arith, len, m.no_longer);
      },
    )

-- before the cut there was an image that it shortens to this one
uncut : (n : ℕ) (older : List Step) (c : List ℕ) → MayBeLeft (cut n ∷ older) c
    → (d : List ℕ) × MayBeLeft older d × Shortened n d c
uncut n older c m =
    let size = max (length c) (least older) in
    let f : ℕ → ℕ = λ i. pick 0 n i (get_or c i 0) (get_or (synced older) i 0) in
    let d = map f (range_with_len 0 size) in
    let len : length d ≡ size = length-map-range_with_len f 0 size in
    let at_index : (i : ℕ) → i < size → get_or d i 0 ≡ f i =
    λ i within. get_or-map-range_with_len f 0 size i i 0 within (omega arith) in
    let low = least-le-greatest older in (
      d,
      record {
        no_shorter = omega (arith, len);
        no_longer = omega (arith, len, low, m.no_longer);
        same = λ i within held untouched.
            let here : i < size = omega (arith, within, len) in
            at_index i here ∙ ⊎_elim
            (λ (below : i < n).
            pick-inside 0 n i (get_or c i 0) (get_or (synced older) i 0) (omega arith) below
            ∙ m.same i (omega (arith, here, below, m.no_shorter)) held
            (λ t. ⊎_elim (λ (r : n ≤ i). absurd (omega (arith, r, below))) untouched t))
            (λ (behind : n ≤ i). pick-behind 0 n i (get_or c i 0) (get_or (synced older) i 0) behind)
            (cases_lt i n);
      },
      record {
        below = same-front n c d (omega (arith, len, m.no_shorter)) (λ i below within.
            sym (at_index i (omega (arith, within))
            ∙ pick-inside 0 n i (get_or c i 0) (get_or (synced older) i 0) (omega arith) below));
        no_longer = omega (arith, len);
      },
    )

-- all that is allowed is an image
pub may_be_left-image : (steps : List Step) (c : List ℕ) → IsRun steps → MayBeLeft steps c → IsImage steps c
may_be_left-image [] c run m = empty c m.no_longer
  where
    empty : (c : List ℕ) → length c ≤ 0 → c ≡ []
    empty [] none = refl
    empty (x ∷ xs) none = absurd (omega (arith, none))
may_be_left-image (still ∷ older) c run m = may_be_left-image older c run (record {
  no_shorter = m.no_shorter;
  no_longer = m.no_longer;
  same = m.same;
})
may_be_left-image (write at n ∷ older) c run m =
    let from = untorn at n older c run.0 m in
    (from.0, may_be_left-image older from.0 run.1 from.1, from.2)
may_be_left-image (cut n ∷ older) c run m =
    let from = uncut n older c m in
    (from.0, may_be_left-image older from.0 run from.1, from.2)
may_be_left-image (sync bytes ∷ older) c run m =
    let size : length c ≡ length bytes = omega (arith, m.no_shorter, m.no_longer) in
    ext_get_or 0 c bytes size (λ i within. m.same i within (omega (arith, within, size)) (λ t. t))
