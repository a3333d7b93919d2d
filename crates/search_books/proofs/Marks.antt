-- Leases that are marked as answered, or as not answered.
use Rattle.std.proofs.Common.{◌≡◌, ℕ, zero, suc, Bool, true, false, List, [], ◌∷◌, length, get_or, set, refl, ap, ◌∙◌, arith}
use Rattle.search_books.specs.Leases.{Held, marked}
use Rattle.search_books.specs.LeaseChains.{AreKept, AreWaiting, Kept, held_of, helds, kept_marked, none, with_marks}
use Rattle.search_books.specs.declared.lease.Lease.{Lease}

-- what is kept is marked as the list of leases is
pub helds-kept_marked : (told linked : Bool) (at : ℕ) (kept : List Kept)
    → helds (kept_marked told linked at kept) ≡ marked told at (helds kept)
helds-kept_marked told linked at [] = refl
helds-kept_marked told linked zero (k ∷ kept) = refl
helds-kept_marked told linked (suc at) (k ∷ kept) =
    ap (λ (rest : List Held). held_of k ∷ rest) (helds-kept_marked told linked at kept)

-- a mark that is there already changes nothing
pub marked-again : (told : Bool) (at : ℕ) (kept : List Kept) → (get_or kept at none).is_answered ≡ told
    → helds kept ≡ marked told at (helds kept)
marked-again told at [] is = refl
marked-again told zero (k ∷ kept) is =
    ap (λ (b : Bool). record { lease = k.lease; is_answered = b } ∷ helds kept) is
marked-again told (suc at) (k ∷ kept) is =
    ap (λ (rest : List Held). held_of k ∷ rest) (marked-again told at kept is)

-- a row with other marks
pub kept_marked-set : (told linked : Bool) (at : ℕ) (kept : List Kept) (k : Kept) → k ≡ get_or kept at none
    → set kept at (with_marks told linked k) ≡ kept_marked told linked at kept
kept_marked-set told linked at [] k is = refl
kept_marked-set told linked zero (x ∷ kept) k is = ap (λ (y : Kept). with_marks told linked y ∷ kept) is
kept_marked-set told linked (suc at) (x ∷ kept) k is =
    ap (λ (rest : List Kept). x ∷ rest) (kept_marked-set told linked at kept k is)

-- leases and deadlines stay
pub kept_marked-length : (told linked : Bool) (at : ℕ) (kept : List Kept)
    → length (kept_marked told linked at kept) ≡ length kept
kept_marked-length told linked at [] = refl
kept_marked-length told linked zero (k ∷ kept) = refl
kept_marked-length told linked (suc at) (k ∷ kept) = ap (λ (n : ℕ). suc n) (kept_marked-length told linked at kept)

pub kept_marked-lease : (told linked : Bool) (at : ℕ) (kept : List Kept) (i : ℕ)
    → (get_or (kept_marked told linked at kept) i none).lease ≡ (get_or kept i none).lease
kept_marked-lease told linked at [] i = refl
kept_marked-lease told linked zero (k ∷ kept) zero = refl
kept_marked-lease told linked zero (k ∷ kept) (suc i) = refl
kept_marked-lease told linked (suc at) (k ∷ kept) zero = refl
kept_marked-lease told linked (suc at) (k ∷ kept) (suc i) = kept_marked-lease told linked at kept i

pub kept_marked-greatest : (told linked : Bool) (at : ℕ) (kept : List Kept) (i : ℕ)
    → (get_or (kept_marked told linked at kept) i none).greatest ≡ (get_or kept i none).greatest
kept_marked-greatest told linked at [] i = refl
kept_marked-greatest told linked zero (k ∷ kept) zero = refl
kept_marked-greatest told linked zero (k ∷ kept) (suc i) = refl
kept_marked-greatest told linked (suc at) (k ∷ kept) zero = refl
kept_marked-greatest told linked (suc at) (k ∷ kept) (suc i) = kept_marked-greatest told linked at kept i

-- what waits for an answer stays linked
kept_marked-waiting : (told linked : Bool) (at : ℕ) (kept : List Kept) → (told ≡ false → linked ≡ true)
    → AreWaiting kept
    → AreWaiting (kept_marked told linked at kept)
kept_marked-waiting told linked at [] own all i low open_ = absurd (omega (arith, low))
kept_marked-waiting told linked zero (k ∷ kept) own all zero low open_ = own open_
kept_marked-waiting told linked zero (k ∷ kept) own all (suc i) low open_ = all (suc i) low open_
kept_marked-waiting told linked (suc at) (k ∷ kept) own all zero low open_ = all zero (omega arith) open_
kept_marked-waiting told linked (suc at) (k ∷ kept) own all (suc i) low open_ =
    kept_marked-waiting told linked at kept own (λ j j_low j_open. all (suc j) (omega (arith, j_low)) j_open) i
    (omega (arith, low)) open_

pub marked-kept : (told linked : Bool) (at : ℕ) (kept : List Kept) (bound : ℕ) → (told ≡ false → linked ≡ true)
    → AreKept kept bound → AreKept (kept_marked told linked at kept) bound
marked-kept told linked at kept bound own k =
    let len = kept_marked-length told linked at kept in
    let lease = kept_marked-lease told linked at kept in
    let greatest = kept_marked-greatest told linked at kept in
    record {
      numbered = λ i low. ap (λ (x : Lease). x.run) (lease i) ∙ k.numbered i (omega (arith, low, len));
      searches = λ i low. omega
          (arith, ap (λ (x : Lease). x.search) (lease i), k.searches i (omega (arith, low, len)));
      waiting = kept_marked-waiting told linked at kept own k.waiting;
      timed = λ a i up low.
          omega (
            arith,
            ap (λ (x : Lease). x.deadline) (lease a),
            greatest i,
            k.timed a i up (omega (arith, low, len)),
          );
    }
