-- What `==` says of two ranges, and that it says it rightly.
use Rattle.std.specs.Prelude.{Bool, ◌==◌}
use Rattle.std.specs.Cmp.{IsEquivalence, and_equiv, on_equiv}
use Rattle.std.specs.Cmp.Lexicographic.{lists_equiv, pointwise}
use Rattle.std.specs.Ordering.{eq_of_both, on}
use Rattle.std.proofs.lemmas.Cmp.{nat_eq_equiv, nat_list_eq_equiv}
use Rattle.farm_types.specs.CommitId.{id_bytes, same_id}
use Rattle.suspect_range.specs.Range.{RangeView}
use Rattle.suspect_range.specs.declared.suspect.Suspect.{Suspect}

-- whether two suspects are the same
abbrev pub same_suspect : Suspect → Suspect → Bool
same_suspect = eq_of_both (on (λ suspect. suspect.commit) same_id) (on (λ suspect. suspect.weight) ◌==◌)

-- whether two ranges are the same
abbrev pub same_range : RangeView → RangeView → Bool
same_range =
    eq_of_both (on (λ range. range.base) same_id)
    (eq_of_both (on (λ range. range.suspects) (pointwise same_suspect)) (on (λ range. range.calm) ◌==◌))

same_id-equiv : IsEquivalence same_id
same_id-equiv = on_equiv id_bytes nat_list_eq_equiv

same_suspect-equiv : IsEquivalence same_suspect
same_suspect-equiv = and_equiv (on_equiv (λ suspect. suspect.commit) same_id-equiv) (on_equiv (λ suspect. suspect.weight) nat_eq_equiv)

pub same_range-equiv : IsEquivalence same_range
same_range-equiv =
    and_equiv (on_equiv (λ range. range.base) same_id-equiv)
    (and_equiv (on_equiv (λ range. range.suspects) (lists_equiv same_suspect-equiv)) (on_equiv (λ range. range.calm) nat_eq_equiv))
