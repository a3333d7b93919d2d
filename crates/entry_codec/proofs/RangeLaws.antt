-- Ranges of suspects are read as they are spelled.
use Rattle.std.proofs.Common.{◌≡◌, ℕ, zero, suc, ◌^◌, ◌<◌, List, [], ◌∷◌, ◌++◌, length, Some, refl, sym, ap, subst, ◌∙◌, append_assoc, arith}
use Rattle.std.specs.List.{AllByRecursion, flat_map}
use Rattle.std.proofs.lemmas.List.Elements.{recursion_from_All}
use Rattle.hex.specs.Hex.{IsBytes}
use Rattle.farm_types.specs.CommitId.{id_bytes}
use Rattle.suspect_range.specs.Range.{IsSuspectRange, RangeView}
use Rattle.suspect_range.specs.declared.suspect.Suspect.{Suspect}
use Rattle.entry_codec.specs.Spelling.{number_bytes, range_bytes, suspect_bytes}
use Rattle.entry_codec.specs.Values.{range_of}
use Rattle.entry_codec.specs.Reading.{range_at, suspect_at, suspects_at}
use Rattle.entry_codec.proofs.FieldLaws.{IsRead, Took, after, joined, made_is, number-again, number_is_read, some_is, step}
use Rattle.entry_codec.proofs.Made.{range_of-parts, range_of-range}
use Rattle.entry_codec.proofs.PartLaws.{id_is_read}

-- four parts in front of the rest
regroup_4 : (a b c d rest : List ℕ) → (((a ++ b) ++ c) ++ d) ++ rest ≡ a ++ (b ++ (c ++ (d ++ rest)))
regroup_4 a b c d rest = simp append_assoc

-- a weight that fits its field
abbrev IsSmall : Suspect → Type 0
IsSmall s = s.weight < 2 ^ 16

suspect-take : (bytes : List ℕ) (s : Suspect) (rest : List ℕ) → IsBytes bytes → suspect_at bytes ≡ Some (s, rest) →
    Took IsSmall suspect_bytes bytes s rest
unfolding suspect_at
suspect-take bytes s rest fits e =
    let a = step id_is_read fits e in
    let b = step (number_is_read 2) a.took.rest_bytes a.goes_on in
    let two = joined bytes _ a.rest _ b.rest a.took.parts b.took.parts in
    subst (λ (p : Suspect × List ℕ). Took IsSmall suspect_bytes bytes p.0 p.1) (some_is _ _ b.goes_on)
    (record { fits = b.took.fits; parts = two; rest_bytes = b.took.rest_bytes })

suspect-again : (s : Suspect) (rest : List ℕ) → IsSmall s → suspect_at (suspect_bytes s ++ rest) ≡ Some (s, rest)
unfolding suspect_at
suspect-again s rest small =
    let grouped : suspect_bytes s ++ rest ≡ id_bytes s.commit ++ (number_bytes 2 s.weight ++ rest) =
    append_assoc _ (number_bytes 2 s.weight) rest in
    ap suspect_at grouped ∙ rw (
      id_is_read.again s.commit (number_bytes 2 s.weight ++ rest) tt,
      number-again 2 s.weight rest small,
    ) refl

suspect_is_read : IsRead IsSmall suspect_bytes suspect_at
suspect_is_read = record { takes = suspect-take; again = suspect-again }

-- so many suspects, with weights that fit
record AreCounted (count : ℕ) (suspects : List Suspect) : Type 0 where
  count_is : length suspects ≡ count
  small : AllByRecursion IsSmall suspects

suspects-again : (count : ℕ) (suspects : List Suspect) (rest : List ℕ) → AreCounted count suspects →
    suspects_at count (flat_map suspect_bytes suspects ++ rest) ≡ Some (suspects, rest)
unfolding suspects_at
suspects-again zero [] rest is = refl
suspects-again zero (s ∷ suspects) rest is = absurd (omega (arith, is.count_is))
suspects-again (suc count) [] rest is = absurd (omega (arith, is.count_is))
suspects-again (suc count) (s ∷ suspects) rest is =
    let others : AreCounted count suspects = record { count_is = omega (arith, is.count_is); small = is.small.1 } in
    let after : List ℕ = flat_map suspect_bytes suspects ++ rest in
    let grouped : flat_map suspect_bytes (s ∷ suspects) ++ rest ≡ suspect_bytes s ++ after =
    append_assoc (suspect_bytes s) (flat_map suspect_bytes suspects) rest in
    ap (suspects_at (suc count)) grouped
    ∙ rw (suspect-again s after is.small.0, suspects-again count suspects rest others) refl

suspects-take : (count : ℕ) (bytes : List ℕ) (suspects : List Suspect) (rest : List ℕ) → IsBytes bytes →
    suspects_at count bytes ≡ Some (suspects, rest) →
    Took (AreCounted count) (flat_map suspect_bytes) bytes suspects rest
unfolding suspects_at
suspects-take zero bytes suspects rest fits e =
    subst (λ (p : List Suspect × List ℕ). Took (AreCounted zero) (flat_map suspect_bytes) bytes p.0 p.1) (some_is _ _ e)
    (record { fits = record { count_is = refl; small = tt }; parts = refl; rest_bytes = fits })
suspects-take (suc count) bytes suspects rest fits e =
    let others_read : IsRead (AreCounted count) (flat_map suspect_bytes) (suspects_at count) =
    record { takes = suspects-take count; again = suspects-again count } in
    let a = step suspect_is_read fits e in
    let b = step others_read a.took.rest_bytes a.goes_on in
    let two = joined bytes (suspect_bytes a.value) a.rest (flat_map suspect_bytes b.value) b.rest a.took.parts
    b.took.parts in
    subst (λ (p : List Suspect × List ℕ). Took (AreCounted (suc count)) (flat_map suspect_bytes) bytes p.0 p.1)
    (some_is _ _ b.goes_on)
    (record {
      fits = record { count_is = omega (arith, b.took.fits.count_is); small = (a.took.fits, b.took.fits.small) };
      parts = two;
      rest_bytes = b.took.rest_bytes;
    })

suspects_are_read : (count : ℕ) → IsRead (AreCounted count) (flat_map suspect_bytes) (suspects_at count)
suspects_are_read count = record { takes = suspects-take count; again = suspects-again count }

-- a range within its limits
abbrev pub IsLegalRange : RangeView → Type 0
IsLegalRange range = IsSuspectRange range.base range.suspects range.calm

range-take : (bytes : List ℕ) (range : RangeView) (rest : List ℕ) → IsBytes bytes →
    range_at bytes ≡ Some (range, rest) → Took IsLegalRange range_bytes bytes range rest
unfolding range_at
range-take bytes range rest fits e =
    after (step id_is_read fits e) (λ base r1 t1 e1.
    after (step (number_is_read 4) t1.rest_bytes e1) (λ calm r2 t2 e2.
    after (step (number_is_read 2) t2.rest_bytes e2) (λ count r3 t3 e3.
    after (step (suspects_are_read count) t3.rest_bytes e3) (λ suspects r4 t4 e4.
    let p2 = joined bytes _ r1 _ r2 t1.parts t2.parts in
    let p3 = joined bytes _ r2 _ r3 p2 t3.parts in
    let p4 = joined bytes _ r3 _ r4 p3 t4.parts in
    let front : List ℕ = id_bytes base ++ number_bytes 4 calm in
    let counted =
    ap (λ (n : ℕ). ((front ++ number_bytes 2 n) ++ flat_map suspect_bytes suspects) ++ r4) (sym t4.fits.count_is) in
    let m = made_is (range_of base calm) suspects r4 range rest e4 in
    let parts = range_of-parts base calm suspects range m.0 in
    record {
      fits = parts.legal;
      parts =
          p4 ∙ counted ∙ ap (λ (r : RangeView). range_bytes r ++ r4) parts.is
          ∙ ap (λ (t : List ℕ). range_bytes range ++ t) m.1;
      rest_bytes = subst (λ (t : List ℕ). IsBytes t) m.1 t4.rest_bytes;
    }))))

range-again : (range : RangeView) (rest : List ℕ) → IsLegalRange range →
    range_at (range_bytes range ++ rest) ≡ Some (range, rest)
unfolding range_at
range-again range rest legal =
    let suspects : List ℕ = flat_map suspect_bytes range.suspects in
    let count : List ℕ = number_bytes 2 (length range.suspects) in
    let calm : List ℕ = number_bytes 4 range.calm in
    let small : AllByRecursion IsSmall range.suspects =
    recursion_from_All IsSmall range.suspects (λ k d within. omega (arith, (legal.weights k d within).1)) in
    ap range_at (regroup_4 (id_bytes range.base) calm count suspects rest)
    ∙ rw (
      id_is_read.again range.base (calm ++ (count ++ (suspects ++ rest))) tt,
      number-again 4 range.calm (count ++ (suspects ++ rest)) (omega (arith, legal.calm_in.1)),
      number-again 2 (length range.suspects) (suspects ++ rest) (omega (arith, legal.few)),
      suspects-again (length range.suspects) range.suspects rest (record { count_is = refl; small = small }),
      range_of-range range legal,
    ) refl

pub range_is_read : IsRead IsLegalRange range_bytes range_at
range_is_read = record { takes = range-take; again = range-again }
