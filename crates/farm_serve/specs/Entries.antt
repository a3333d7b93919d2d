-- What serving began with.
use Rattle.std.specs.Prelude.{ℕ, List, [], Option, None}
use Rattle.atomic_table.specs.Seated.{TableId}
use Rattle.connection_laws.specs.Marks.{Mark, mark_with}
use Rattle.farm_entry.specs.declared.entry.Entry.{Entry}
use Rattle.link_io.specs.Events.{NetworkEvent}

-- the farm's lock, its history and its disk's count at entry, what the network had told and its count at entry, and how
-- many accepts are to be made
pub record AtEntry : Type 0 where
  pub lock : TableId
  pub first : List Entry
  pub faults : ℕ
  pub told : Option (List NetworkEvent)
  pub count : ℕ
  pub links : ℕ

abbrev pub no_table : TableId
no_table = record {
  words = 0;
  slots = 0;
  views_name = 0;
  atom = 0;
  block = 0;
  offset = 0;
  slot_names = [];
}

abbrev pub at_no_entry : AtEntry
at_no_entry = record { lock = no_table; first = []; faults = 0; told = None; count = 0; links = 0 }

-- what was seen of the farm at entry
abbrev pub start_of : AtEntry → Mark
start_of a = mark_with a.first a.faults
