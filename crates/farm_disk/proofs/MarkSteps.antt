-- The marks of the certain bytes, through the calls of a disk.
use Rattle.std.proofs.Common.{◌≡◌, ⊎_elim, ℕ, ◌≤◌, ◌<◌, max, min, nat_le, nat_lt, ◌&&◌, true, false, Bool, Option, None, List, length, get_or, map, refl, sym, ◌∙◌, ap, arith}
use Rattle.std.specs.Prelude.{slice_index, unwrap_or, if◌then◌else◌}
use Rattle.std.specs.List.{range_with_len}
use Rattle.std.proofs.lemmas.Bool.{cases_lt}
use Rattle.std.proofs.lemmas.Bool.Decides.{nat_tests}
use Rattle.std.proofs.lemmas.List.FromFn.{length-map-range_with_len, get_or-map-range_with_len}
use Rattle.std.proofs.lemmas.Option.{slice_get_past}
use Rattle.farm_disk.specs.Images.{Step, IsImage}
use Rattle.farm_disk.specs.Model.{least, greatest, IsRun}
use Rattle.farm_disk.specs.Certain.{certain, mark_at}
use Rattle.farm_disk.proofs.CertainBytes.{allowed-is-certain}
use Rattle.farm_disk.proofs.Model.{least-le-greatest, may_be_left-image}

-- past the marks there is none
pub mark_at-past : (marks : List (Option ℕ)) (k : ℕ) → length marks ≤ k → mark_at marks k ≡ None
mark_at-past marks k past = ap (λ (o : Option (Option ℕ)). unwrap_or o None) (slice_get_past marks k past)

-- the range of the marks that were taken away ends with the marks, or where it should
pub mark_at-end : (old : List (Option ℕ)) (from to start end k : ℕ) → end ≡ min to (length old) → start ≡ min from end
    → (if nat_le start k && nat_lt k end then None else mark_at old k)
    ≡ (if nat_le from k && nat_lt k to then None else mark_at old k)
mark_at-end old from to start end k ends starts = ⊎_elim
    (λ (held : k < length old). ap (λ (b : Bool). if b then None else mark_at old k) (tests held))
    (λ (past : length old ≤ k).
    let none = mark_at-past old k past in
    either (nat_le start k && nat_lt k end) (mark_at old k) none
    ∙ sym (either (nat_le from k && nat_lt k to) (mark_at old k) none))
    (cases_lt k (length old))
  where
    either : (b : Bool) (o : Option ℕ) → o ≡ None → (if b then None else o) ≡ None
    either true o none = refl
    either false o none = none

    tests : k < length old → (nat_le start k && nat_lt k end) ≡ (nat_le from k && nat_lt k to)
    tests held = grind (arith, nat_tests, ends, starts, held)

-- the bytes of an image, with this byte where none is certain
pub length-filled : (marks : List (Option ℕ)) (size fill : ℕ) (bytes : List ℕ)
    → bytes ≡ map (λ i. unwrap_or (mark_at marks i) fill) (range_with_len 0 size) → length bytes ≡ size
length-filled marks size fill bytes is =
    ap length is ∙ length-map-range_with_len (λ i. unwrap_or (mark_at marks i) fill) 0 size

pub filled-byte : (marks : List (Option ℕ)) (size fill : ℕ) (bytes : List ℕ) (i : ℕ)
    → bytes ≡ map (λ i. unwrap_or (mark_at marks i) fill) (range_with_len 0 size) → i < length bytes
    → slice_index bytes i ≡ unwrap_or (mark_at marks i) fill
filled-byte marks size fill bytes i is within =
    let below : i < size = omega (arith, length-filled marks size fill bytes is, within) in
    ap (λ (l : List ℕ). get_or l i 0) is
    ∙ get_or-map-range_with_len (λ j. unwrap_or (mark_at marks j) fill) 0 size i i 0 below (omega arith)

-- an image made of the certain bytes is an image
pub filled-image : (steps : List Step) (fill size : ℕ) (c : List ℕ) → IsRun steps
    → length c ≡ min (max size (least steps)) (greatest steps)
    → ((i : ℕ) → i < length c → slice_index c i ≡ unwrap_or (certain steps i) fill) → IsImage steps c
filled-image steps fill size c run is each =
    let low = least-le-greatest steps in
    may_be_left-image steps c run (record {
      no_shorter = omega (arith, is, low);
      no_longer = omega (arith, is);
      same = λ i within held untouched. each i within
          ∙ ap (λ (o : Option ℕ). unwrap_or o fill) (allowed-is-certain steps i held untouched);
    })
