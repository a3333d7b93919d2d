-- Farms on which trees can't be tested, for worked numbers.
use Rattle.std.specs.Prelude.{List, [], ◌∷◌, ◌++◌, take, ℕ, refl}
use Rattle.flake_rate.proofs.Limits.{bar-within}
use Rattle.farm_types.specs.declared.stage.Stage.TheVariants.{Search, Verify}
use Rattle.weight_exact.specs.declared.run.Verdict.TheVariants.{Fail, Pass}
use Rattle.farm_entry.specs.declared.entry.Entry.{Entry}
use Rattle.farm_entry.specs.declared.entry.Fate.TheVariants as fate
use Rattle.farm_entry.specs.declared.entry.SkipFate.TheVariants as skip
use Rattle.farm_entry.specs.declared.entry.What.TheVariants.{Founded, Leased, Opened, Reported, Skipped}
use Rattle.farm_entry.specs.declared.opening.Opening.{Opening}
use Rattle.leaf_laws.specs.WorkedFarms.{at_end, confirmed_farm, counted_report, late_report, leased, opening_for, recorded, the_key, the_settings, the_worker}

-- a first report at the first moment that a run's tree can't be tested, which is taken, and one that is late
abbrev pub taken_skip : (run : ℕ) → Entry
taken_skip run = recorded (Skipped run skip.Taken)

abbrev pub late_skip : (run : ℕ) → Entry
late_skip run = recorded (Skipped run skip.Late)

-- a farm on which no tree of a search among four suspects can be tested
abbrev pub untestable_farm : List Entry
untestable_farm =
    recorded (Founded the_settings)
    ∷ recorded (Opened (opening_for 4 1 1))
    ∷ leased 2 1 Search 2
    ∷ taken_skip 1
    ∷ leased 3 2 Search 3
    ∷ taken_skip 2
    ∷ leased 4 3 Search 1
    ∷ taken_skip 3
    ∷ leased 5 4 Search 4
    ∷ taken_skip 4
    ∷ []

-- the same up to the first skip, with a pass at 3 behind it, so that the last open position is at 4
abbrev pub cleared_farm : List Entry
cleared_farm =
    take 5 untestable_farm ++ counted_report 2 Pass ∷ leased 4 3 Search 4 ∷ taken_skip 3 ∷ []

-- the same up to the first skip, with a fail at 3 and a pass at 1 behind it: the culprit is suspect 2 or 3
abbrev pub hidden_farm : List Entry
hidden_farm =
    take 5 untestable_farm ++ counted_report 2 Fail ∷ leased 4 3 Search 1 ∷ counted_report 3 Pass ∷ []

-- that search with a bar of 19/20
abbrev pub surer_opening : Opening
surer_opening = record (opening_for 4 1 1) { bar = record { t = 19; u = 20; in_limits = bar-within 19 20 refl } }

-- its farm, with a further fail at 3
abbrev pub surer_farm : List Entry
surer_farm =
    recorded (Founded the_settings)
    ∷ recorded (Opened surer_opening)
    ∷ leased 2 1 Search 2
    ∷ taken_skip 1
    ∷ leased 3 2 Search 3
    ∷ counted_report 2 Fail
    ∷ leased 4 3 Search 1
    ∷ counted_report 3 Pass
    ∷ leased 5 4 Search 3
    ∷ counted_report 4 Fail
    ∷ []

-- the farm that confirms the second suspect, up to its first rerun, whose tree can't be tested, and up to its second
abbrev pub unprovable_farm : List Entry
unprovable_farm = take 9 confirmed_farm ++ taken_skip 4 ∷ []

abbrev pub unprovable_base_farm : List Entry
unprovable_base_farm = take 11 confirmed_farm ++ taken_skip 5 ∷ []

-- the first rerun is handed out twice: one of the two fails, and the other one's tree can't be tested
abbrev pub proved_farm : List Entry
proved_farm =
    take 9 confirmed_farm
    ++ record { at = at_end; what = Leased (the_key 6) the_worker 5 1 Verify 2 100120000 }
    ∷ record { at = at_end; what = Reported 4 Fail fate.Counted }
    ∷ record { at = at_end; what = Skipped 5 skip.Taken }
    ∷ record { at = at_end; what = Leased (the_key 7) the_worker 6 1 Verify 1 100120000 }
    ∷ record { at = at_end; what = Reported 6 Pass fate.Counted }
    ∷ []

-- three runs of a search are out at once, and the tree of the second can't be tested: a fourth one is at 3, and passes
abbrev pub wide_untestable_farm : List Entry
wide_untestable_farm =
    recorded (Founded the_settings)
    ∷ recorded (Opened (opening_for 4 1 3))
    ∷ leased 2 1 Search 1
    ∷ leased 3 2 Search 2
    ∷ leased 4 3 Search 4
    ∷ taken_skip 2
    ∷ leased 5 4 Search 3
    ∷ counted_report 3 Pass
    ∷ late_skip 1
    ∷ []

-- two runs of a search among one suspect are out at once, and the tree can't be tested
abbrev pub single_farm : List Entry
single_farm =
    recorded (Founded the_settings)
    ∷ recorded (Opened (opening_for 1 1 2))
    ∷ leased 2 1 Search 1
    ∷ leased 3 2 Search 1
    ∷ taken_skip 1
    ∷ late_report 2 Fail
    ∷ []
