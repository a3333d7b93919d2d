-- The page of a history that is handed on at once: entries from one on, as many as fit.
use Rattle.std.specs.Prelude.{◌≡◌, ℕ, ◌-◌, ◌≤◌, List, [], ◌∷◌, ◌++◌, length, drop, nat_le, if◌then◌else◌}
use Rattle.farm_entry.specs.declared.entry.Entry.{Entry}
use Rattle.entry_codec.specs.Spelling.{entry_bytes, spelling}
use Rattle.entry_codec.specs.declared.limits.TheConstants.{LOG_PAGE_BYTES}

-- the most entries at the front that have together at most so many bytes
abbrev pub front_within : (most : ℕ) → List Entry → List Entry
front_within most [] = []
front_within most (e ∷ entries) =
    if nat_le (length (entry_bytes e)) most then e ∷ front_within (most - length (entry_bytes e)) entries else []

-- the entries of a log page: those of a history from this one on, counted from 1
unfoldable pub page_entries : (from : ℕ) → List Entry → List Entry
page_entries from history = front_within LOG_PAGE_BYTES (drop (from - 1) history)

-- the bytes of a log page
unfoldable pub log_page : (from : ℕ) → List Entry → List ℕ
log_page from history = spelling (page_entries from history)

-- a front of some entries has at most so many bytes, and no longer one has
pub record IsLongestFront (most : ℕ) (entries front : List Entry) : Type 0 where
  pub rest : List Entry
  pub begins : entries ≡ front ++ rest
  pub fits : length (spelling front) ≤ most
  pub longest : (longer more : List Entry) → entries ≡ longer ++ more → length (spelling longer) ≤ most
      → length longer ≤ length front
