-- A leader and a follower, with all that they sent each other.
use Rattle.std.specs.Prelude.{ℕ, List, [], ◌∷◌}
use Rattle.farm_types.specs.declared.moment.Moment.{Moment}
use Rattle.farm_entry.specs.declared.entry.Entry.{Entry}
use Rattle.farm_entry.specs.declared.entry.What.TheVariants.{Founded}
use Rattle.farm_entry.specs.declared.settings.Settings.{Settings}
use Rattle.journal_follow.specs.Taking.{Held}

-- a page on its way from the leader: entries of its history, from the one of this number on, counted from 1
pub record Page : Type 0 where
  pub from : ℕ
  pub entries : List Entry

-- The leader's history; what the follower holds, and how many entries of it are compared; and everything that was ever
-- sent, the asks each by the number of the first entry that it asks for. The network may hand it over never, late,
-- often and in any order
pub record World : Type 0 where
  pub leader : List Entry
  pub follower : Held
  pub compared : ℕ
  pub asks : List ℕ
  pub pages : List Page

-- a leader that was just founded, and a follower that holds nothing
abbrev pub founded : Settings → Moment → World
founded settings at = record {
  leader = record { at = at; what = Founded settings } ∷ [];
  follower = record { history = []; pending = [] };
  compared = 0;
  asks = [];
  pages = [];
}
