-- `==` decides whether openings and entries are equal, field by field.
use Rattle.std.proofs.Common.{◌≡◌, ◌==◌, Decides, ap, refl, rules}
use Rattle.std.proofs.lemmas.Bool.Decides.{Decides-and, Decides-eqb, Decides-like}
use Rattle.std.proofs.lemmas.Slice.Eq.{bytes_eq-Decides}
use Rattle.farm_types.specs.declared.key.Key.{Key}
use Rattle.farm_types.specs.declared.stage.Stage.{Stage}
use Rattle.farm_types.specs.contracts.stage.StagePartialEq.TheImpl as stage_eq
use Rattle.farm_types.proofs.SameValues.{same_id-Decides}
use Rattle.suspect_range.proofs.SameContents.{same_range-Decides}
use Rattle.weight_exact.specs.declared.run.Verdict.{Verdict}
use Rattle.weight_exact.specs.contracts.run.VerdictPartialEq.TheImpl as verdict_eq
use Rattle.farm_entry.specs.declared.entry.Entry.{Entry}
use Rattle.farm_entry.specs.declared.entry.Fate.{Fate}
use Rattle.farm_entry.specs.declared.entry.SkipFate.{SkipFate}
use Rattle.farm_entry.specs.declared.entry.What.{What}
use Rattle.farm_entry.specs.declared.entry.What.TheVariants.{Founded, Opened, Leased, Reported, Skipped, Cancelled, Ordered, Carried, Closed}
use Rattle.farm_entry.specs.declared.opening.Opening.{Opening}
use Rattle.farm_entry.specs.contracts.entry.EntryPartialEq.TheImpl as entry_eq
use Rattle.farm_entry.specs.contracts.entry.FatePartialEq.TheImpl as fate_eq
use Rattle.farm_entry.specs.contracts.entry.SkipFatePartialEq.TheImpl as skip_eq
use Rattle.farm_entry.specs.contracts.entry.WhatPartialEq.TheImpl as what_eq
use Rattle.farm_entry.specs.contracts.opening.OpeningPartialEq.TheImpl as opening_eq
use Rattle.farm_laws.proofs.SameValues.{same_bar-Decides, same_miss-Decides, same_moment-Decides, same_rate-Decides, same_settings-Decides}

same_key-Decides : (a b : Key) → Decides (a.0 == b.0) (a ≡ b)
same_key-Decides a b = Decides-like _ (λ same. λ i. record { 0 = same i }) (λ e. ap (λ (key : Key). key.0) e) (Decides-eqb a.0 b.0)

same_stage-Decides : (a b : Stage) → Decides (stage_eq.ghosts.eq a b) (a ≡ b)
same_stage-Decides a b = search rules

same_verdict-Decides : (a b : Verdict) → Decides (verdict_eq.ghosts.eq a b) (a ≡ b)
same_verdict-Decides a b = search rules

same_fate-Decides : (a b : Fate) → Decides (fate_eq.ghosts.eq a b) (a ≡ b)
same_fate-Decides a b = search rules

same_skip-Decides : (a b : SkipFate) → Decides (skip_eq.ghosts.eq a b) (a ≡ b)
same_skip-Decides a b = search rules

pub same_opening-Decides : (a b : Opening) → Decides (opening_eq.ghosts.eq a b) (a ≡ b)
same_opening-Decides a b =
    Decides-like _ (λ same. λ i. record {
      key = same.0 i;
      search = same.1.0 i;
      test = same.1.1.0 i;
      range = same.1.1.1.0 i;
      rate = same.1.1.1.1.0 i;
      miss = same.1.1.1.1.1.0 i;
      bar = same.1.1.1.1.1.1.0 i;
      width = same.1.1.1.1.1.1.1.0 i;
      reruns = same.1.1.1.1.1.1.1.1 i;
    }) (λ e. (cc, (cc, (cc, (cc, (cc, (cc, (cc, (cc, cc)))))))))
    (Decides-and _ _ (same_key-Decides a.key b.key)
    (Decides-and _ _ (Decides-eqb a.search b.search)
    (Decides-and _ _ (bytes_eq-Decides a.test b.test)
    (Decides-and _ _ (same_range-Decides a.range b.range)
    (Decides-and _ _ (same_rate-Decides a.rate b.rate)
    (Decides-and _ _ (same_miss-Decides a.miss b.miss)
    (Decides-and _ _ (same_bar-Decides a.bar b.bar)
    (Decides-and _ _ (Decides-eqb a.width b.width) (Decides-eqb a.reruns b.reruns)))))))))

-- entries of different kinds differ, as `==` says at once
same_what-Decides : (a b : What) → Decides (what_eq.ghosts.eq a b) (a ≡ b)
same_what-Decides (Founded s) (Founded s') = Decides-like _ (ap Founded) (λ e. cc) (same_settings-Decides s s')
same_what-Decides (Opened o) (Opened o') = Decides-like _ (ap Opened) (λ e. cc) (same_opening-Decides o o')
same_what-Decides (Leased k w r s t p d) (Leased k' w' r' s' t' p' d') =
    Decides-like _ (λ same. cc) (λ e. (cc, (cc, (cc, (cc, (cc, (cc, cc)))))))
    (Decides-and _ _ (same_key-Decides k k')
    (Decides-and _ _ (bytes_eq-Decides w w')
    (Decides-and _ _ (Decides-eqb r r')
    (Decides-and _ _ (Decides-eqb s s')
    (Decides-and _ _ (same_stage-Decides t t')
    (Decides-and _ _ (Decides-eqb p p') (Decides-eqb d d')))))))
same_what-Decides (Reported r v f) (Reported r' v' f') =
    Decides-like _ (λ same. cc) (λ e. (cc, (cc, cc)))
    (Decides-and _ _ (Decides-eqb r r') (Decides-and _ _ (same_verdict-Decides v v') (same_fate-Decides f f')))
same_what-Decides (Skipped r f) (Skipped r' f') =
    Decides-like _ (λ same. cc) (λ e. (cc, cc)) (Decides-and _ _ (Decides-eqb r r') (same_skip-Decides f f'))
same_what-Decides (Cancelled k s) (Cancelled k' s') =
    Decides-like _ (λ same. cc) (λ e. (cc, cc)) (Decides-and _ _ (same_key-Decides k k') (Decides-eqb s s'))
same_what-Decides (Ordered k w o c s d) (Ordered k' w' o' c' s' d') =
    Decides-like _ (λ same. cc) (λ e. (cc, (cc, (cc, (cc, (cc, cc))))))
    (Decides-and _ _ (same_key-Decides k k')
    (Decides-and _ _ (bytes_eq-Decides w w')
    (Decides-and _ _ (Decides-eqb o o')
    (Decides-and _ _ (same_id-Decides c c')
    (Decides-and _ _ (Decides-eqb s s') (Decides-eqb d d'))))))
same_what-Decides (Carried c d) (Carried c' d') =
    Decides-like _ (λ same. cc) (λ e. (cc, cc)) (Decides-and _ _ (same_id-Decides c c') (Decides-eqb d d'))
same_what-Decides Closed Closed = (λ h. refl, λ e. refl)
same_what-Decides a b = (λ h. cc, λ e. cc)

pub same_entry-Decides : (a b : Entry) → Decides (entry_eq.ghosts.eq a b) (a ≡ b)
same_entry-Decides a b =
    Decides-like _ (λ same. λ i. record { at = same.0 i; what = same.1 i })
    (λ e. (ap (λ (entry : Entry). entry.at) e, ap (λ (entry : Entry). entry.what) e))
    (Decides-and _ _ (same_moment-Decides a.at b.at) (same_what-Decides a.what b.what))
