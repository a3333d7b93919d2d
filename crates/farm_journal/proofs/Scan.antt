-- Going over the records of a file.
use Rattle.std.proofs.Common.{◌≡◌, ◌≢◌, ℕ, zero, suc, ◌+◌, ◌-◌, ◌≤◌, ◌<◌, Bool, true, false, List, [], ◌∷◌, ◌++◌, length, get_or, take, drop, Some, refl, sym, ◌∙◌, ap, arith, length-drop, drop-drop, ⊎_elim}
use Rattle.std.specs.Prelude.{if◌then◌else◌, ◌==◌}
use Rattle.std.proofs.lemmas.Bool.{cases_lt}
use Rattle.std.proofs.lemmas.Bool.Decides.{nat_tests}
use Rattle.std.proofs.lemmas.List.{drop_more, take_all, length-take-le}
use Rattle.std.proofs.Math.ListN.{drop_of_length-le}
use Rattle.farm_journal.specs.Layout.{Opening, damaged, holds, told_length, is_whole, with_payload, records, first_difference, records_length, gate_of}
use Rattle.farm_journal.specs.Found.{in_order}
use Rattle.farm_journal.specs.declared.layout.TheConstants.{FIRST_GATE}
use Rattle.farm_journal.proofs.Openings.{record-parts}

-- payloads before those that are found
abbrev pub with_payloads : List (List ℕ) → Opening → Opening
with_payloads [] found = found
with_payloads (p ∷ ps) found = with_payload p (with_payloads ps found)

pub with_payloads-push : (ps : List (List ℕ)) (p : List ℕ) (found : Opening)
    → with_payloads (ps ++ p ∷ []) found ≡ with_payloads ps (with_payload p found)
with_payloads-push [] p found = refl
with_payloads-push (q ∷ ps) p found = ap (λ (f : Opening). with_payload q f) (with_payloads-push ps p found)

pub with_payloads-end : (ps : List (List ℕ)) → with_payloads ps (holds []) ≡ holds ps
with_payloads-end [] = refl
with_payloads-end (p ∷ ps) = ap (λ (f : Opening). with_payload p f) (with_payloads-end ps)

pub with_payloads-damaged : (ps : List (List ℕ)) (o : ℕ) → with_payloads ps (damaged o) ≡ damaged o
with_payloads-damaged [] o = refl
with_payloads-damaged (p ∷ ps) o = ap (λ (f : Opening). with_payload p f) (with_payloads-damaged ps o)

pub records_length-push : (ps : List (List ℕ)) (p : List ℕ)
    → records_length (ps ++ p ∷ []) ≡ records_length ps + 5 + length p
records_length-push [] p = omega arith
records_length-push (q ∷ ps) p = omega (arith, records_length-push ps p)

pub gate_of-push : (ps : List (List ℕ)) (p : List ℕ) → gate_of (ps ++ p ∷ []) ≡ gate_of ps + 5 + length p
gate_of-push ps p = omega (arith, records_length-push ps p)

-- the number of records that may be read at most makes no difference, where it is no smaller than that of the bytes
records-enough : (n m o : ℕ) (bytes : List ℕ) → length bytes ≤ n → length bytes ≤ m
    → records n o bytes ≡ records m o bytes
records-enough zero zero o bytes a b = refl
records-enough zero (suc m) o [] a b = refl
records-enough zero (suc m) o (gate ∷ rest) a b = absurd (omega (arith, a))
records-enough (suc n) zero o [] a b = refl
records-enough (suc n) zero o (gate ∷ rest) a b = absurd (omega (arith, b))
records-enough (suc n) (suc m) o [] a b = refl
records-enough (suc n) (suc m) o (gate ∷ rest) a b =
    let size = told_length rest in
    let behind = drop (4 + size) rest in
    let short : length behind ≤ length rest = omega (arith, length-drop (4 + size) rest) in
    ap (λ (found : Opening). if gate == 0 then holds [] else if is_whole rest
    then with_payload (take size (drop 4 rest)) found else damaged o)
    (records-enough n m (o + 5 + size) behind (omega (arith, a, short)) (omega (arith, b, short)))

-- the records from a gate on
abbrev pub from_gate : List ℕ → ℕ → Opening
from_gate bytes at = records (length (drop at bytes)) at (drop at bytes)

-- all that stands behind an offset
pub all_behind : (bytes : List ℕ) (at : ℕ) → take (length bytes - at) (drop at bytes) ≡ drop at bytes
all_behind bytes at = take_all (length bytes - at) (drop at bytes) (omega (arith, length-drop at bytes))

-- what was found so far
pub record SoFar (bytes : List ℕ) (at : ℕ) (payloads told : List (List ℕ)) : Type 0 where
  pub within : at ≤ length bytes
  pub same : records (length bytes) FIRST_GATE (drop FIRST_GATE bytes) ≡ with_payloads payloads (from_gate bytes at)
  pub in_turn : in_order told ≡ payloads
  pub gate : at ≡ gate_of payloads

pub sofar-start : (bytes : List ℕ) → FIRST_GATE ≤ length bytes → SoFar bytes FIRST_GATE [] []
sofar-start bytes long = record {
  within = long;
  same = records-enough (length bytes) (length (drop FIRST_GATE bytes)) FIRST_GATE (drop FIRST_GATE bytes)
      (omega (arith, length-drop FIRST_GATE bytes)) (omega arith);
  in_turn = refl;
  gate = refl;
}

-- one gate is read
one_gate : (bytes : List ℕ) (at : ℕ) → at < length bytes
    → from_gate bytes at ≡ records (suc (length (drop (at + 1) bytes))) at (get_or bytes at 0 ∷ drop (at + 1) bytes)
one_gate bytes at within = ap (λ (l : List ℕ). records (length l) at l) (drop_more bytes at 0 within)

pub shut_gate : (bytes : List ℕ) (at : ℕ) → at < length bytes → get_or bytes at 0 ≡ 0 → from_gate bytes at ≡ holds []
shut_gate bytes at within shut =
    one_gate bytes at within
    ∙ ap (λ (gate : ℕ). records (suc (length (drop (at + 1) bytes))) at (gate ∷ drop (at + 1) bytes)) shut

torn_gate : (bytes : List ℕ) (at : ℕ) → at < length bytes → get_or bytes at 0 ≢ 0
    → is_whole (drop (at + 1) bytes) ≡ false → from_gate bytes at ≡ damaged at
torn_gate bytes at within is_open torn =
    let rest = drop (at + 1) bytes in
    let found = with_payload (take (told_length rest) (drop 4 rest))
    (records (length rest) (at + 5 + told_length rest) (drop (4 + told_length rest) rest)) in
    let test : (get_or bytes at 0 == 0) ≡ false = grind (arith, nat_tests, is_open) in
    one_gate bytes at within
    ∙ ap (λ (b : Bool). if b then holds [] else if is_whole rest then found else damaged at) test
    ∙ ap (λ (b : Bool). if b then found else damaged at) torn

open_gate : (bytes : List ℕ) (at n : ℕ) → at < length bytes → get_or bytes at 0 ≢ 0
    → is_whole (drop (at + 1) bytes) ≡ true → n ≡ told_length (drop (at + 1) bytes)
    → from_gate bytes at ≡ with_payload (take n (drop (at + 5) bytes)) (from_gate bytes (at + (5 + n)))
open_gate bytes at n within is_open whole size =
    let rest = drop (at + 1) bytes in
    let found : ℕ → Opening =
    λ k. with_payload (take k (drop 4 rest)) (records (length rest) (at + 5 + k) (drop (4 + k) rest)) in
    let test : (get_or bytes at 0 == 0) ≡ false = grind (arith, nat_tests, is_open) in
    let front : drop 4 rest ≡ drop (at + 5) bytes =
    drop-drop 4 (at + 1) bytes ∙ ap (λ (k : ℕ). drop k bytes) (omega arith) in
    let back : drop (4 + n) rest ≡ drop (at + (5 + n)) bytes =
    drop-drop (4 + n) (at + 1) bytes ∙ ap (λ (k : ℕ). drop k bytes) (omega arith) in
    let fewer : length (drop (at + (5 + n)) bytes) ≤ length rest =
    omega (arith, length-drop (at + (5 + n)) bytes, length-drop (at + 1) bytes) in
    one_gate bytes at within
    ∙ ap (λ (b : Bool). if b then holds [] else if is_whole rest then found (told_length rest) else damaged at) test
    ∙ ap (λ (b : Bool). if b then found (told_length rest) else damaged at) whole
    ∙ ap (λ (k : ℕ). found k) (sym size)
    ∙ ap (λ (l : List ℕ). with_payload (take n l) (records (length rest) (at + 5 + n) (drop (4 + n) rest))) front
    ∙ ap (λ (l : List ℕ). with_payload (take n (drop (at + 5) bytes)) (records (length rest) (at + 5 + n) l)) back
    ∙ ap (λ (k : ℕ). with_payload (take n (drop (at + 5) bytes)) (records (length rest) k (drop (at + (5 + n)) bytes)))
    (omega arith)
    ∙ ap (λ (f : Opening). with_payload (take n (drop (at + 5) bytes)) f)
    (records-enough (length rest) (length (drop (at + (5 + n)) bytes)) (at + (5 + n)) (drop (at + (5 + n)) bytes) fewer
    (omega arith))

-- one record more
pub sofar-more : (bytes p : List ℕ) (at n : ℕ) (payloads told payloads' told' : List (List ℕ))
    → SoFar bytes at payloads told → at < length bytes → get_or bytes at 0 ≢ 0
    → is_whole (drop (at + 1) bytes) ≡ true → n ≡ told_length (drop (at + 1) bytes) → p ≡ take n (drop (at + 5) bytes)
    → payloads' ≡ payloads ++ p ∷ [] → told' ≡ p ∷ told → SoFar bytes (at + (5 + n)) payloads' told'
sofar-more bytes p at n payloads told payloads' told' so_far within is_open whole size payload pushed tell =
    let parts = record-parts (drop (at + 1) bytes) whole in
    let fits : at + (5 + n) ≤ length bytes = omega (arith, parts.3, size, length-drop (at + 1) bytes) in
    let long : length p ≡ n =
    ap length payload ∙ length-take-le n (drop (at + 5) bytes) (omega (arith, fits, length-drop (at + 5) bytes)) in
    let one : from_gate bytes at ≡ with_payload p (from_gate bytes (at + (5 + n))) =
    open_gate bytes at n within is_open whole size
    ∙ ap (λ (l : List ℕ). with_payload l (from_gate bytes (at + (5 + n)))) (sym payload) in
    record {
      within = fits;
      same = so_far.same ∙ ap (λ (f : Opening). with_payloads payloads f) one
          ∙ sym (with_payloads-push payloads p (from_gate bytes (at + (5 + n))))
          ∙ ap (λ (l : List (List ℕ)). with_payloads l (from_gate bytes (at + (5 + n)))) (sym pushed);
      in_turn = ap in_order tell ∙ ap (λ (l : List (List ℕ)). l ++ p ∷ []) so_far.in_turn ∙ sym pushed;
      gate = more long so_far.gate (gate_of-push payloads p) ∙ ap gate_of (sym pushed);
    }
  where
    more : length p ≡ n → at ≡ gate_of payloads → gate_of (payloads ++ p ∷ []) ≡ gate_of payloads + 5 + length p
        → at + (5 + n) ≡ gate_of (payloads ++ p ∷ [])
    more long here next = omega (arith, here, next, long)

-- the ends
pub sofar-shut : (bytes : List ℕ) (at : ℕ) (payloads told : List (List ℕ)) → SoFar bytes at payloads told
    → at < length bytes → get_or bytes at 0 ≡ 0
    → records (length bytes) FIRST_GATE (drop FIRST_GATE bytes) ≡ holds payloads
sofar-shut bytes at payloads told so_far within shut =
    so_far.same ∙ ap (λ (f : Opening). with_payloads payloads f) (shut_gate bytes at within shut)
    ∙ with_payloads-end payloads

pub sofar-torn : (bytes : List ℕ) (at : ℕ) (payloads told : List (List ℕ)) → SoFar bytes at payloads told
    → at < length bytes → get_or bytes at 0 ≢ 0 → is_whole (drop (at + 1) bytes) ≡ false
    → records (length bytes) FIRST_GATE (drop FIRST_GATE bytes) ≡ damaged at
sofar-torn bytes at payloads told so_far within is_open torn =
    so_far.same ∙ ap (λ (f : Opening). with_payloads payloads f) (torn_gate bytes at within is_open torn)
    ∙ with_payloads-damaged payloads at

pub sofar-past : (bytes : List ℕ) (at : ℕ) (payloads told : List (List ℕ)) → SoFar bytes at payloads told
    → length bytes ≤ at → records (length bytes) FIRST_GATE (drop FIRST_GATE bytes) ≡ damaged at
sofar-past bytes at payloads told so_far past =
    so_far.same ∙ ap (λ (f : Opening). with_payloads payloads f)
    (ap (λ (l : List ℕ). records (length l) at l) (drop_of_length-le bytes past)) ∙ with_payloads-damaged payloads at

-- one byte more of the header is as it should be
pub difference-later : (o i : ℕ) (wants bytes : List ℕ) → i < length wants → i + 1 < length bytes
    → get_or bytes (i + 1) 0 ≡ get_or wants i 0
    → first_difference o (drop i wants) (drop (i + 1) bytes)
    ≡ first_difference (o + 1) (drop (i + 1) wants) (drop (i + 1 + 1) bytes)
difference-later o i wants bytes held long same =
    let test : (get_or bytes (i + 1) 0 == get_or wants i 0) ≡ true = grind (arith, nat_tests, same) in
    ap (λ (l : List ℕ). first_difference o l (drop (i + 1) bytes)) (drop_more wants i 0 held)
    ∙ ap (λ (l : List ℕ). first_difference o (get_or wants i 0 ∷ drop (i + 1) wants) l) (drop_more bytes (i + 1) 0 long)
    ∙ ap (λ (b : Bool). if b then first_difference (o + 1) (drop (i + 1) wants) (drop (i + 1 + 1) bytes) else Some o)
    test

-- a byte that isn't, or is missing
pub difference-here : (o i : ℕ) (wants bytes : List ℕ) → i < length wants
    → (i + 1 < length bytes → get_or bytes (i + 1) 0 ≢ get_or wants i 0)
    → first_difference o (drop i wants) (drop (i + 1) bytes) ≡ Some o
difference-here o i wants bytes held other = ⊎_elim
    (λ (long : i + 1 < length bytes).
    let unlike = other long in
    let test : (get_or bytes (i + 1) 0 == get_or wants i 0) ≡ false = grind (arith, nat_tests, unlike) in
    ap (λ (l : List ℕ). first_difference o l (drop (i + 1) bytes)) (drop_more wants i 0 held)
    ∙ ap (λ (l : List ℕ). first_difference o (get_or wants i 0 ∷ drop (i + 1) wants) l) (drop_more bytes (i + 1) 0 long)
    ∙ ap (λ (b : Bool). if b then first_difference (o + 1) (drop (i + 1) wants) (drop (i + 1 + 1) bytes) else Some o)
    test)
    (λ (short : length bytes ≤ i + 1).
    ap (λ (l : List ℕ). first_difference o l (drop (i + 1) bytes)) (drop_more wants i 0 held)
    ∙ ap (λ (l : List ℕ). first_difference o (get_or wants i 0 ∷ drop (i + 1) wants) l) (drop_of_length-le bytes short))
    (cases_lt (i + 1) (length bytes))
