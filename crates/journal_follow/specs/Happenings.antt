-- What may happen to a leader and its follower, in any order and any number.
use Rattle.std.specs.Prelude.{◌≡◌, ◌+◌, ◌-◌, ℕ, List, [], ◌∷◌, ◌++◌, length, take, drop, slice_get, Some}
use Rattle.farm_entry.specs.Legal.{IsLegal}
use Rattle.farm_entry.specs.declared.entry.Entry.{Entry}
use Rattle.journal_follow.specs.Taking.{Came, Held, IsDecided, IsLeft, Takes, stored}
use Rattle.journal_follow.specs.World.{Page, World}

-- Asks and pages are named by their places in the lists of the world
pub data Happening : Type 0 where
  leader_appends : Entry → Happening  -- the leader appends a legal entry
  leader_starts_anew : Happening  -- it starts anew, with its history
  -- it answers any ask that was ever sent, with so many entries at most
  leader_answers : (ask : ℕ) → (count : ℕ) → Happening
  follower_asks : Happening  -- the follower asks for the entries after those compared
  follower_takes : (page : ℕ) → Came → Happening  -- it takes any page that was ever sent, whatever its disk does
  follower_loses : (page : ℕ) → Happening  -- a page is lost
  follower_begins_anew : Happening  -- it compares from the first entry on again
  follower_crashes : Happening  -- it crashes, and opens any image
  follower_crashes_taking : (page : ℕ) → Came → Happening  -- it crashes at any moment while it takes a page

-- what the leader answers to an ask: entries of its history, from the one asked for on
abbrev pub page_of : (leader : List Entry) → (from count : ℕ) → Page
page_of leader from count = record { from = from; entries = take count (drop (from - 1) leader) }

-- how many entries are compared once a page was taken so
abbrev pub compared_after : Came → Page → (compared : ℕ) → ℕ
compared_after (stored count) page compared = page.from - 1 + length page.entries
compared_after _ page compared = compared

-- a follower that was started on this history has compared nothing of it
abbrev pub reopened : World → List Entry → World
reopened w history = record w { follower = record { history = history; pending = [] }; compared = 0 }

-- what happens, from one world to the next
abbrev pub Happens : World → Happening → World → Type 0
Happens w (leader_appends e) next = IsLegal (w.leader ++ e ∷ []) × (next ≡ record w { leader = w.leader ++ e ∷ [] })
Happens w leader_starts_anew next = next ≡ w
Happens w (leader_answers ask count) next =
    (from : ℕ) × (slice_get w.asks ask ≡ Some from)
    × (next ≡ record w { pages = w.pages ++ page_of w.leader from count ∷ [] })
Happens w follower_asks next = next ≡ record w { asks = w.asks ++ (w.compared + 1) ∷ [] }
Happens w (follower_takes page came) next =
    (p : Page) × (slice_get w.pages page ≡ Some p)
    × (held : Held) × Takes came p.from p.entries w.follower held
    × (next ≡ record w { follower = held; compared = compared_after came p w.compared })
Happens w (follower_loses page) next = next ≡ w
Happens w follower_begins_anew next = next ≡ record w { compared = 0 }
Happens w follower_crashes next = (H : List Entry) × IsDecided w.follower H × (next ≡ reopened w H)
Happens w (follower_crashes_taking page came) next =
    (p : Page) × (slice_get w.pages page ≡ Some p)
    × (held : Held) × Takes came p.from p.entries w.follower held
    × (H : List Entry) × IsLeft w.follower held H × (next ≡ reopened w H)

-- from one world to the one after a list of happenings
abbrev pub AllHappen : World → List Happening → World → Type 0
AllHappen w [] last = last ≡ w
AllHappen w (h ∷ more) last = (next : World) × Happens w h next × AllHappen next more last
