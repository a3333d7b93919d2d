-- What is read of some bytes is what was spelled there, and what was spelled is read again: the words for that,
-- numbers, and runs of bytes.
use Rattle.std.proofs.Common.{◌≡◌, ℕ, zero, suc, ◌+◌, ◌*◌, ◌^◌, ◌<◌, ◌≤◌, Bool, true, false, cond, ltb, List, [], ◌∷◌, ◌++◌, length, take, drop, Option, Some, None, refl, sym, ap, subst, ◌∙◌, append_assoc, arith, inl, inr}
use Rattle.std.specs.Int.{byte_at, bytes_high_first}
use Rattle.std.proofs.Math.Nat.{mod-lt}
use Rattle.std.proofs.lemmas.Bool.{cases_lt, le-ltb, ltb-false}
use Rattle.std.proofs.lemmas.List.{append-nil, drop_at, get_or-drop, get_or-take, get_or_past, length-append, length-take, take-append-drop, take_at}
use Rattle.std.proofs.lemmas.Nat.{same_from_place}
use Rattle.byteorder.specs.Endian.{big_from}
use Rattle.byteorder.specs.Numbers.{big_from-cons, big_from-lt, big_number-reads_back, length-bytes_high_first}
use Rattle.hex.specs.Hex.{IsBytes}
use Rattle.entry_codec.specs.Spelling.{number_bytes}
use Rattle.entry_codec.specs.Reading.{◌>>=◌, bytes_at, made_of, number_at}

-- what was read stands in front of the bytes
pub record Took {X : Type 0} (Fits : X → Type 0) (spell : X → List ℕ)
    (bytes : List ℕ) (x : X) (rest : List ℕ) : Type 0 where
  pub fits : Fits x
  pub parts : bytes ≡ spell x ++ rest
  pub rest_bytes : IsBytes rest

-- reading and spelling are each other's inverse, at values that fit
pub record IsRead {X : Type 0} (Fits : X → Type 0) (spell : X → List ℕ)
    (read : List ℕ → Option (X × List ℕ)) : Type 0 where
  pub takes : (bytes : List ℕ) (x : X) (rest : List ℕ) → IsBytes bytes → read bytes ≡ Some (x, rest) →
      Took Fits spell bytes x rest
  pub again : (x : X) (rest : List ℕ) → Fits x → read (spell x ++ rest) ≡ Some (x, rest)

-- what the first of two steps read, and that the second one goes on from there
pub record Step {X Y : Type 0} (Fits : X → Type 0) (spell : X → List ℕ)
    (more : X × List ℕ → Option Y) (bytes : List ℕ) (y : Y) : Type 0 where
  pub value : X
  pub rest : List ℕ
  pub took : Took Fits spell bytes value rest
  pub goes_on : more (value, rest) ≡ Some y

pub step : {X Y : Type 0} {Fits : X → Type 0} {spell : X → List ℕ} {read : List ℕ → Option (X × List ℕ)}
    {more : X × List ℕ → Option Y} {bytes : List ℕ} {y : Y}
    → IsRead Fits spell read → IsBytes bytes → (read bytes >>= more) ≡ Some y → Step Fits spell more bytes y
step {X} {Y} {Fits} {spell} {read} {more} {bytes} {y} is fits e = go (read bytes) refl e
  where
    go : (o : Option (X × List ℕ)) → read bytes ≡ o → (o >>= more) ≡ Some y → Step Fits spell more bytes y
    go None same e = absurd (cc)
    go (Some x) same e = record { value = x.0; rest = x.1; took = is.takes bytes x.0 x.1 fits same; goes_on = e }

-- the same, for what follows from it: with names for the value and the rest, long readings stay small
pub after : {X Y R : Type 0} {Fits : X → Type 0} {spell : X → List ℕ}
    {more : X × List ℕ → Option Y} {bytes : List ℕ} {y : Y}
    → Step Fits spell more bytes y
    → ((x : X) (rest : List ℕ) → Took Fits spell bytes x rest → more (x, rest) ≡ Some y → R) → R
after s follows = follows s.value s.rest s.took s.goes_on

pub some_is : {X : Type 0} (x y : X) → Some x ≡ Some y → x ≡ y
some_is x y e = cc

-- two parts that stand one after the other
pub joined : (bytes front rest part after : List ℕ) → bytes ≡ front ++ rest → rest ≡ part ++ after →
    bytes ≡ (front ++ part) ++ after
joined bytes front rest part after p q = p ∙ ap (λ (t : List ℕ). front ++ t) q ∙ sym (append_assoc front part after)

-- a value that was made of another one
made_from : {B : Type 0} (o : Option B) (rest : List ℕ) (b : B) (after : List ℕ) →
    ◌>>=◌ {B = B × List ℕ} o (λ value. Some (value, rest)) ≡ Some (b, after) → (o ≡ Some b) × (rest ≡ after)
made_from None rest b after e = absurd (cc)
made_from {B} (Some x) rest b after e =
    let same : (x, rest) ≡ (b, after) = some_is _ _ e in
    (ap (λ (p : B × List ℕ). Some p.0) same, ap (λ (p : B × List ℕ). p.1) same)

pub made_is : {A B : Type 0} (make : A → Option B) (a : A) (rest : List ℕ) (b : B) (after : List ℕ) →
    made_of make (a, rest) ≡ Some (b, after) → (make a ≡ Some b) × (rest ≡ after)
made_is {A} make a rest b after e = made_from (make a) rest b after e

-- values that are made of others are read where those are
pub made_are_read : {A B : Type 0} {FitsA : A → Type 0} {spell : A → List ℕ} {read : List ℕ → Option (A × List ℕ)}
    (Fits : B → Type 0) (number : B → A) (make : A → Option B) → IsRead FitsA spell read →
    ((b : B) → Fits b → FitsA (number b) × (make (number b) ≡ Some b)) →
    ((a : A) (b : B) → FitsA a → make a ≡ Some b → Fits b × (number b ≡ a)) →
    IsRead Fits (λ b. spell (number b)) (λ bytes. read bytes >>= made_of make)
made_are_read {A} {B} {FitsA} {spell} {read} Fits number make is back forth = record {
  takes = λ bytes b rest fits e.
      let a = step is fits e in
      let m = made_is make a.value a.rest b rest a.goes_on in
      let f = forth a.value b a.took.fits m.0 in
      record {
        fits = f.0;
        parts = a.took.parts ∙ ap (λ (r : List ℕ). spell a.value ++ r) m.1 ∙ ap (λ (x : A). spell x ++ rest) (sym f.1);
        rest_bytes = subst (λ (r : List ℕ). IsBytes r) m.1 a.took.rest_bytes;
      };
  again = λ b rest fits.
      let f = back b fits in
      rw (is.again (number b) rest f.0, f.1) refl;
}

-- bytes

pub IsBytes-drop : (n : ℕ) (bytes : List ℕ) → IsBytes bytes → IsBytes (drop n bytes)
IsBytes-drop n bytes h i = rw get_or-drop (h (n + i))

pub IsBytes-take : (n : ℕ) (bytes : List ℕ) → IsBytes bytes → IsBytes (take n bytes)
IsBytes-take n bytes h i = elim (cases_lt i n) [
  | inl lt ↦ rw (get_or-take n bytes i 0 lt) (h i)
  | inr le ↦ rw (get_or_past (take n bytes) i 0 (omega (arith, length-take n bytes))) (omega arith)
]

-- a test that let something be read
passes : {X : Type 0} (b : Bool) (x y : X) → cond b None (Some x) ≡ Some y → (b ≡ false) × (x ≡ y)
passes true x y e = absurd (cc)
passes false x y e = (refl, some_is x y e)

bytes-take : (n : ℕ) (bytes x rest : List ℕ) → IsBytes bytes → bytes_at n bytes ≡ Some (x, rest) →
    Took (λ (b : List ℕ). length b ≡ n) (λ b. b) bytes x rest
unfolding bytes_at
bytes-take n bytes x rest fits e =
    let p = passes (ltb (length bytes) n) (take n bytes, drop n bytes) (x, rest) e in
    let long : n ≤ length bytes = ltb-false _ _ p.0 in
    let x-is : take n bytes ≡ x = ap (λ (q : List ℕ × List ℕ). q.0) p.1 in
    let rest-is : drop n bytes ≡ rest = ap (λ (q : List ℕ × List ℕ). q.1) p.1 in
    record {
      fits = rw (← x-is) (omega (arith, length-take n bytes));
      parts = rw (← x-is, ← rest-is) (sym (take-append-drop n bytes));
      rest_bytes = rw (← rest-is) (IsBytes-drop n bytes fits);
    }

bytes-again : (n : ℕ) (x rest : List ℕ) → length x ≡ n → bytes_at n (x ++ rest) ≡ Some (x, rest)
unfolding bytes_at
bytes-again n x rest len =
    let long : ltb (length (x ++ rest)) n ≡ false = le-ltb _ _ (omega (arith, length-append x rest)) in
    rw (long, take_at x rest n len, drop_at x rest n len) refl

pub bytes_are_read : (n : ℕ) → IsRead (λ (b : List ℕ). length b ≡ n) (λ b. b) (bytes_at n)
bytes_are_read n = record { takes = bytes-take n; again = bytes-again n }

-- numbers

byte_at-lt : (k x : ℕ) → byte_at k x < 256
byte_at-lt zero x = mod-lt x (omega arith)
byte_at-lt (suc k) x = mod-lt _ (omega arith)

IsBytes-cons : (b : ℕ) (bytes : List ℕ) → b < 256 → IsBytes bytes → IsBytes (b ∷ bytes)
IsBytes-cons b bytes first others zero = first
IsBytes-cons b bytes first others (suc i) = others i

IsBytes-bytes_high_first : (n x : ℕ) → IsBytes (bytes_high_first n x)
IsBytes-bytes_high_first zero x = λ i. omega arith
IsBytes-bytes_high_first (suc n) x =
    IsBytes-cons (byte_at n x) (bytes_high_first n x) (byte_at-lt n x) (IsBytes-bytes_high_first n x)

-- bytes that make the same number are the same
big_from-injective : (n : ℕ) (xs ys : List ℕ) → length xs ≡ n → length ys ≡ n → IsBytes xs → IsBytes ys →
    big_from 0 n xs ≡ big_from 0 n ys → xs ≡ ys
big_from-injective zero [] [] lx ly bx by e = refl
big_from-injective zero [] (y ∷ ys) lx ly bx by e = absurd (omega arith)
big_from-injective zero (x ∷ xs) ys lx ly bx by e = absurd (omega arith)
big_from-injective (suc n) [] ys lx ly bx by e = absurd (omega arith)
big_from-injective (suc n) (x ∷ xs) [] lx ly bx by e = absurd (omega arith)
big_from-injective (suc n) (x ∷ xs) (y ∷ ys) lx ly bx by e =
    let others_x : IsBytes xs = λ i. bx (suc i) in
    let others_y : IsBytes ys = λ i. by (suc i) in
    let moved : x * 256 ^ n + big_from 0 n xs ≡ y * 256 ^ n + big_from 0 n ys =
    sym (ap (λ (w : ℕ). x * 256 ^ n + w) (big_from-cons 0 n x xs)) ∙ e
    ∙ ap (λ (w : ℕ). y * 256 ^ n + w) (big_from-cons 0 n y ys) in
    let both = same_from_place x (big_from 0 n xs) y (big_from 0 n ys) (256 ^ n) (big_from-lt 0 n xs others_x)
    (big_from-lt 0 n ys others_y) moved in
    let tails = big_from-injective n xs ys (omega arith) (omega arith) others_x others_y both.1 in
    ap (λ (b : ℕ). b ∷ xs) both.0 ∙ ap (λ (t : List ℕ). y ∷ t) tails

-- the bytes of the number that bytes make
bytes_high_first-back : (n : ℕ) (xs : List ℕ) → length xs ≡ n → IsBytes xs → bytes_high_first n (big_from 0 n xs) ≡ xs
bytes_high_first-back n xs len fits =
    let same = ap (big_from 0 n) (sym (append-nil (bytes_high_first n (big_from 0 n xs))))
    ∙ big_number-reads_back n (big_from 0 n xs) [] (big_from-lt 0 n xs fits) in
    big_from-injective n _ xs (length-bytes_high_first n _) len (IsBytes-bytes_high_first n _) fits same

number-take : (n : ℕ) (bytes : List ℕ) (x : ℕ) (rest : List ℕ) → IsBytes bytes → number_at n bytes ≡ Some (x, rest) →
    Took (λ (k : ℕ). k < 256 ^ n) (number_bytes n) bytes x rest
unfolding number_at number_bytes
number-take n bytes x rest fits e =
    let p = passes (ltb (length bytes) n) (big_from 0 n (take n bytes), drop n bytes) (x, rest) e in
    let long : n ≤ length bytes = ltb-false _ _ p.0 in
    let x-is : big_from 0 n (take n bytes) ≡ x = ap (λ (q : ℕ × List ℕ). q.0) p.1 in
    let rest-is : drop n bytes ≡ rest = ap (λ (q : ℕ × List ℕ). q.1) p.1 in
    let len : length (take n bytes) ≡ n = omega (arith, length-take n bytes) in
    let front : IsBytes (take n bytes) = IsBytes-take n bytes fits in
    let spelled : bytes_high_first n x ≡ take n bytes =
    rw (← x-is) (bytes_high_first-back n (take n bytes) len front) in
    record {
      fits = rw (← x-is) (big_from-lt 0 n (take n bytes) front);
      parts = rw (spelled, ← rest-is) (sym (take-append-drop n bytes));
      rest_bytes = rw (← rest-is) (IsBytes-drop n bytes fits);
    }

pub number-again : (n x : ℕ) (rest : List ℕ) → x < 256 ^ n → number_at n (number_bytes n x ++ rest) ≡ Some (x, rest)
unfolding number_at number_bytes
number-again n x rest lt =
    let len = length-bytes_high_first n x in
    let long : ltb (length (bytes_high_first n x ++ rest)) n ≡ false =
    le-ltb _ _ (omega (arith, length-append (bytes_high_first n x) rest)) in
    let same : big_from 0 n (bytes_high_first n x) ≡ x = ap (big_from 0 n) (sym (append-nil (bytes_high_first n x)))
    ∙ big_number-reads_back n x [] lt in
    rw (long, take_at (bytes_high_first n x) rest n len, drop_at (bytes_high_first n x) rest n len, same) refl

pub number_is_read : (n : ℕ) → IsRead (λ (k : ℕ). k < 256 ^ n) (number_bytes n) (number_at n)
number_is_read n = record { takes = number-take n; again = number-again n }

pub length-number_bytes : (n x : ℕ) → length (number_bytes n x) ≡ n
unfolding number_bytes
length-number_bytes n x = length-bytes_high_first n x
