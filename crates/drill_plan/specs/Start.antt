-- The history of a farm once all searches of a drill are opened.
use Rattle.std.specs.Prelude.{◌≡◌, ℕ, ◌+◌, ◌-◌, ◌*◌, ◌/◌, List, [], ◌∷◌, length, Ok, ⊤}
use Rattle.std.specs.Int.Signed.{le_z_yes}
use Rattle.std.proofs.Math.Facts.{leb_yes}
use Rattle.farm_types.specs.declared.moment.Moment.{Moment}
use Rattle.farm_entry.specs.Ask.{opening_of}
use Rattle.farm_entry.specs.declared.entry.Entry.{Entry}
use Rattle.farm_entry.specs.declared.entry.What.TheVariants.{Founded, Opened}
use Rattle.farm_entry.specs.declared.opening.Opening.{Opening}
use Rattle.farm_entry.specs.declared.settings.Settings.{Settings}
use Rattle.drill_plan.specs.Plan.{planned_ask}
use Rattle.drill_plan.specs.declared.limits.TheConstants.{DAY_MS, DRILL_DAILY, DRILL_LEASE_MS, DRILL_MS, DRILL_ZONE_MINUTES}

-- the moment of a drill
abbrev pub drill_moment : Moment
drill_moment = record { ms = DRILL_MS; in_range = (leb_yes tt, leb_yes tt) }

-- what the farm of a drill is founded with
abbrev pub drill_settings : Settings
drill_settings = record {
  lease_ms = DRILL_LEASE_MS;
  daily = DRILL_DAILY;
  zone_minutes = DRILL_ZONE_MINUTES;
  lease_in_range = (leb_yes tt, leb_yes tt);
  daily_in_range = leb_yes tt;
  zone_in_range = (le_z_yes tt, le_z_yes tt);
}

-- its founding
abbrev pub drill_founding : Entry
drill_founding = record { at = drill_moment; what = Founded drill_settings }

-- an entry opens a search as the plan asks
abbrev pub IsOpened : (search : ℕ) → Entry → Type 0
IsOpened search e =
    (o : Opening) × (opening_of (planned_ask search) search ≡ Ok o) × (e ≡ record { at = drill_moment; what = Opened o })

-- entries open the searches from a number on, one after the other
abbrev pub AreOpened : (search : ℕ) → List Entry → Type 0
AreOpened search [] = ⊤
AreOpened search (e ∷ more) = IsOpened search e × AreOpened (search + 1) more

-- a history is that of the founding and the opens of so many searches
pub record IsStart (searches : ℕ) (H : List Entry) : Type 0 where
  pub openings : List Entry
  pub opened : AreOpened 1 openings
  pub all : length openings ≡ searches
  pub is : H ≡ drill_founding ∷ openings

-- the moment of a revert, in milliseconds: the first thousand are taken on the second day after the first, each further
-- thousand a day later
abbrev pub revert_ms : (revert : ℕ) → ℕ
revert_ms revert = DAY_MS * (2 + (revert - 1) / DRILL_DAILY)
