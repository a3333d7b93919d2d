-- Openings are read as they are spelled.
use Rattle.std.proofs.Common.{◌≡◌, ℕ, ◌≤◌, Bool, not, nat_eq, List, ◌++◌, Some, refl, ap, subst, ◌∙◌, append_assoc, arith}
use Rattle.hex.specs.Hex.{IsBytes}
use Rattle.flake_rate.specs.Miss.{miss_numerator}
use Rattle.weight_exact.specs.declared.limits.TheConstants.{MAX_WIDTH}
use Rattle.farm_entry.specs.declared.limits.TheConstants.{MAX_RERUNS}
use Rattle.farm_entry.specs.declared.opening.Opening.{Opening}
use Rattle.entry_codec.specs.Grammar.{IsOpening}
use Rattle.entry_codec.specs.Spelling.{bar_bytes, miss_bytes, name_bytes, number_bytes, opening_bytes, range_bytes, rate_bytes}
use Rattle.entry_codec.specs.Reading.{opening_at, up_to_at}
use Rattle.entry_codec.proofs.FieldLaws.{IsRead, Took, after, joined, number-again, number_is_read, some_is, step}
use Rattle.entry_codec.proofs.PartLaws.{bar_is_read, key_is_read, miss_is_read, name_is_read, rate_is_read, up_to_is_read}
use Rattle.entry_codec.proofs.RangeLaws.{range_is_read}

-- nine parts in front of the rest
regroup_9 : (a b c d e f g h i rest : List ℕ) → ((((((((a ++ b) ++ c) ++ d) ++ e) ++ f) ++ g) ++ h) ++ i) ++ rest
    ≡ a ++ (b ++ (c ++ (d ++ (e ++ (f ++ (g ++ (h ++ (i ++ rest))))))))
regroup_9 a b c d e f g h i rest = simp append_assoc

-- an opening whose miss rate is above 0 as its tag says
pub record IsOpeningAt (above_zero : Bool) (o : Opening) : Type 0 where
  pub opening : IsOpening o
  pub sign : nat_eq (miss_numerator o.miss) 0 ≡ not above_zero

width_is_read : IsRead (λ (n : ℕ). (1 ≤ n) × (n ≤ MAX_WIDTH)) (number_bytes 1) (up_to_at MAX_WIDTH)
width_is_read = up_to_is_read MAX_WIDTH (omega arith)

reruns_are_read : IsRead (λ (n : ℕ). (1 ≤ n) × (n ≤ MAX_RERUNS)) (number_bytes 1) (up_to_at MAX_RERUNS)
reruns_are_read = up_to_is_read MAX_RERUNS (omega arith)

opening-take : (above_zero : Bool) (bytes : List ℕ) (o : Opening) (rest : List ℕ) → IsBytes bytes →
    opening_at above_zero bytes ≡ Some (o, rest) →
    Took (IsOpeningAt above_zero) opening_bytes bytes o rest
unfolding opening_at
opening-take above_zero bytes o rest fits e =
    after (step key_is_read fits e) (λ key r1 t1 e1.
    after (step (number_is_read 4) t1.rest_bytes e1) (λ search r2 t2 e2.
    after (step name_is_read t2.rest_bytes e2) (λ test r3 t3 e3.
    after (step range_is_read t3.rest_bytes e3) (λ range r4 t4 e4.
    after (step rate_is_read t4.rest_bytes e4) (λ rate r5 t5 e5.
    after (step (miss_is_read above_zero rate) t5.rest_bytes e5) (λ miss r6 t6 e6.
    after (step bar_is_read t6.rest_bytes e6) (λ bar r7 t7 e7.
    after (step width_is_read t7.rest_bytes e7) (λ width r8 t8 e8.
    after (step reruns_are_read t8.rest_bytes e8) (λ reruns r9 t9 e9.
    let p2 = joined bytes _ r1 _ r2 t1.parts t2.parts in
    let p3 = joined bytes _ r2 _ r3 p2 t3.parts in
    let p4 = joined bytes _ r3 _ r4 p3 t4.parts in
    let p5 = joined bytes _ r4 _ r5 p4 t5.parts in
    let p6 = joined bytes _ r5 _ r6 p5 t6.parts in
    let p7 = joined bytes _ r6 _ r7 p6 t7.parts in
    let p8 = joined bytes _ r7 _ r8 p7 t8.parts in
    let p9 = joined bytes _ r8 _ r9 p8 t9.parts in
    subst (λ (p : Opening × List ℕ). Took (IsOpeningAt above_zero) opening_bytes bytes p.0 p.1) (some_is _ _ e9)
    (record {
      fits = record {
        opening = record {
          key = t1.fits;
          search = t2.fits;
          test = t3.fits;
          range = t4.fits;
          within = record { miss = t6.fits.fits; width = t8.fits; reruns = t9.fits };
        };
        sign = t6.fits.sign;
      };
      parts = p9;
      rest_bytes = t9.rest_bytes;
    }))))))))))

opening-again : (above_zero : Bool) (o : Opening) (rest : List ℕ) → IsOpeningAt above_zero o →
    opening_at above_zero (opening_bytes o ++ rest) ≡ Some (o, rest)
unfolding opening_at
opening-again above_zero o rest is =
    let fits = is.opening in
    let reruns : List ℕ = number_bytes 1 o.reruns ++ rest in
    let width : List ℕ = number_bytes 1 o.width ++ reruns in
    let bar : List ℕ = bar_bytes o.bar ++ width in
    let miss : List ℕ = miss_bytes o.miss ++ bar in
    let rate : List ℕ = rate_bytes o.rate ++ miss in
    let range : List ℕ = range_bytes o.range ++ rate in
    let test : List ℕ = name_bytes o.test ++ range in
    let search : List ℕ = number_bytes 4 o.search ++ test in
    ap (opening_at above_zero)
    (regroup_9 (number_bytes 16 o.key.0) (number_bytes 4 o.search) (name_bytes o.test) (range_bytes o.range)
    (rate_bytes o.rate)
    (miss_bytes o.miss) (bar_bytes o.bar) (number_bytes 1 o.width) (number_bytes 1 o.reruns) rest)
    ∙ rw (
      key_is_read.again o.key search fits.key,
      number-again 4 o.search test fits.search,
      name_is_read.again o.test range fits.test,
      range_is_read.again o.range rate fits.range,
      rate_is_read.again o.rate miss tt,
      (miss_is_read above_zero o.rate).again o.miss bar (record { fits = fits.within.miss; sign = is.sign }),
      bar_is_read.again o.bar width tt,
      width_is_read.again o.width reruns fits.within.width,
      reruns_are_read.again o.reruns rest fits.within.reruns,
    ) refl

pub opening_is_read : (above_zero : Bool) → IsRead (IsOpeningAt above_zero) opening_bytes (opening_at above_zero)
opening_is_read above_zero = record { takes = opening-take above_zero; again = opening-again above_zero }
