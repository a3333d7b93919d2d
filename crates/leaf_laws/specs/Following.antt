-- A farm that is closed, and one that follows it and carries its order over, for worked numbers.
use Rattle.std.specs.Prelude.{ℕ, List, [], ◌∷◌, ◌++◌, pos}
use Rattle.std.specs.Int.Signed.{le_z_yes}
use Rattle.std.proofs.Math.Facts.{leb_yes}
use Rattle.farm_types.specs.declared.moment.Moment.{Moment}
use Rattle.farm_types.specs.declared.stage.Stage.TheVariants.{Verify}
use Rattle.weight_exact.specs.declared.run.Verdict.TheVariants.{Fail, Pass}
use Rattle.farm_entry.specs.declared.command.OpenAsk.{OpenAsk}
use Rattle.farm_entry.specs.declared.entry.Entry.{Entry}
use Rattle.farm_entry.specs.declared.entry.What.TheVariants.{Founded, Opened, Leased, Ordered, Carried, Closed}
use Rattle.farm_entry.specs.declared.opening.Opening.{Opening}
use Rattle.farm_entry.specs.declared.settings.Settings.{Settings}
use Rattle.leaf_laws.specs.WorkedFarms.{ask_for, confirmed_farm, counted_report, opening_for, recorded, the_agent, the_commit, the_key, the_moment, the_worker}

-- the farm that confirms suspect 2 and orders its commit, closed
abbrev pub closed_farm : List Entry
closed_farm = confirmed_farm ++ recorded Closed ∷ []

-- a moment before the founding's, and the first moment of the day behind it
abbrev pub before_first : Moment
before_first = the_moment 99999999 tt tt

abbrev pub next_day : Moment
next_day = the_moment 172800000 tt tt

-- leases of a minute, this many orders a day, and days by UTC
abbrev pub one_a_day : Settings
one_a_day = record {
  lease_ms = 60000;
  daily = 1;
  zone_minutes = pos 0;
  lease_in_range = (leb_yes tt, leb_yes tt);
  daily_in_range = leb_yes tt;
  zone_in_range = (le_z_yes tt, le_z_yes tt);
}

-- a farm with one order a day that carries over the order of the closed one
abbrev pub carrying : List Entry
carrying = recorded (Founded one_a_day) ∷ recorded (Carried (the_commit 2) 1) ∷ []

-- the open with a key of a search of one suspect, a commit, that the prior alone names, and the search
abbrev pub ask_about : (key_number commit : ℕ) → OpenAsk
ask_about key_number commit = record (ask_for 1 1000 1) {
  key = the_key key_number;
  suspects = record { commit = the_commit commit; weight = 1000 } ∷ [];
}

abbrev pub opening_about : (key_number search commit : ℕ) → Opening
opening_about key_number search commit = record (opening_for 1 1000 1) {
  key = the_key key_number;
  search = search;
  range = record {
    base = the_commit 0;
    suspects = record { commit = the_commit commit; weight = 1000 } ∷ [];
    calm = 1;
  };
}

-- the lease of a rerun of it
abbrev pub rerun_of : (key_number run search position : ℕ) → Entry
rerun_of key_number run search position =
    recorded (Leased (the_key key_number) the_worker run search Verify position 100060000)

-- that farm, on which a search finds the commit again, and another one finds commit 3, up to their confirmations
abbrev pub found_again_farm : List Entry
found_again_farm =
    carrying
    ++ recorded (Opened (opening_about 1 1 2))
    ∷ rerun_of 2 1 1 1
    ∷ counted_report 1 Fail
    ∷ rerun_of 3 2 1 0
    ∷ counted_report 2 Pass
    ∷ []

abbrev pub full_day_farm : List Entry
full_day_farm =
    found_again_farm
    ++ recorded (Opened (opening_about 4 2 3))
    ∷ rerun_of 5 3 2 1
    ∷ counted_report 3 Fail
    ∷ rerun_of 6 4 2 0
    ∷ counted_report 4 Pass
    ∷ []

-- and with the order that it gives on the next day
abbrev pub following_farm : List Entry
following_farm =
    full_day_farm ++ record { at = next_day; what = Ordered (the_key 8) the_agent 1 (the_commit 3) 2 2 } ∷ []
