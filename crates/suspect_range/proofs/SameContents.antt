-- `==` decides whether suspects and ranges hold the same.
use Rattle.std.proofs.Common.{◌≡◌, ◌==◌, ◌&&◌, Decides, refl, ap}
use Rattle.std.proofs.lemmas.Bool.Decides.{Decides-and, Decides-eqb}
use Rattle.std.proofs.lemmas.Slice.Eq.{slice_eq-Decides}
use Rattle.std.specs.Cmp.Lexicographic.{pointwise}
use Rattle.farm_types.specs.CommitId.{same_id}
use Rattle.farm_types.proofs.SameValues.{same_id-Decides}
use Rattle.suspect_range.specs.Range.{RangeView}
use Rattle.suspect_range.specs.SameRange.{same_range, same_suspect}
use Rattle.suspect_range.specs.declared.suspect.Suspect.{Suspect}

pub same_suspect-Decides : (a b : Suspect) → Decides (same_suspect a b) (a ≡ b)
same_suspect-Decides a b =
    let both = Decides-and (same_id a.commit b.commit) (a.weight == b.weight) (same_id-Decides a.commit b.commit) (Decides-eqb a.weight b.weight) in (
      λ h. let parts = both.0 h in λ i. record { commit = parts.0 i; weight = parts.1 i },
      λ e. both.1 (ap (λ (s : Suspect). s.commit) e, ap (λ (s : Suspect). s.weight) e),
    )

pub same_range-Decides : (a b : RangeView) → Decides (same_range a b) (a ≡ b)
same_range-Decides a b =
    let suspects = slice_eq-Decides same_suspect-Decides a.suspects b.suspects (pointwise same_suspect a.suspects b.suspects) refl in
    let rest = Decides-and (pointwise same_suspect a.suspects b.suspects) (a.calm == b.calm) suspects (Decides-eqb a.calm b.calm) in
    let all = Decides-and (same_id a.base b.base) (pointwise same_suspect a.suspects b.suspects && (a.calm == b.calm)) (same_id-Decides a.base b.base) rest in (
      λ h. let parts = all.0 h in λ i. record { base = parts.0 i; suspects = parts.1.0 i; calm = parts.1.1 i },
      λ e. all.1 (ap (λ (r : RangeView). r.base) e, (ap (λ (r : RangeView). r.suspects) e, ap (λ (r : RangeView). r.calm) e)),
    )
