-- What an entry changes in the order of turns, and how that is undone.
use Rattle.std.specs.Prelude.{ℕ, ◌≡◌, ◌+◌, ◌-◌, ◌<◌, ◌≤◌, ◌⊎◌, Bool, true, false, List, [], ◌∷◌, ◌++◌, if◌then◌else◌, Option, Some, None, ⊤}
use Rattle.search_books.specs.Active.{Active}
use Rattle.search_books.specs.Order.{has, prior_of, put_behind, strike}
use Rattle.farm_entry.specs.History.{lease_of, opening_numbered}
use Rattle.farm_entry.specs.Standing.{is_active, standing}
use Rattle.farm_entry.specs.declared.entry.Entry.{Entry}
use Rattle.farm_entry.specs.declared.entry.What.{What}
use Rattle.farm_entry.specs.declared.entry.What.TheVariants.{Founded, Opened, Leased, Reported, Skipped, Cancelled, Ordered, Carried, Closed}
use Rattle.farm_entry.specs.declared.lease.LeasedRun.{LeasedRun}
use Rattle.farm_entry.specs.declared.limits.TheConstants.{MAX_SEARCHES}
use Rattle.farm_entry.specs.declared.opening.Opening.{Opening}
use Rattle.farm_state.specs.declared.moves.Change.{Change}
use Rattle.farm_state.specs.declared.moves.Change.TheVariants as change
use Rattle.farm_state.specs.declared.moves.Move.{Move}
use Rattle.farm_state.specs.declared.moves.Move.TheVariants.{Stay, Open, Lease, Touch}

-- the active searches in two lists: those never leased by number, the others by their last lease
pub record Turns : Type 0 where
  pub never : List ℕ
  pub leased : List ℕ

abbrev pub turns_in : Active → Turns
turns_in a = record { never = a.never; leased = a.leased }

-- What an entry does.

abbrev pub goes_on : List Entry → Option Opening → Bool
goes_on H None = false
goes_on H (Some o) = is_active (standing H o)

-- whether the search with a number was opened and is active
abbrev pub is_going : List Entry → (search : ℕ) → Bool
is_going H search = goes_on H (opening_numbered H search)

-- what an entry about a search does: it may end the search, where that is active
abbrev pub about_move : List Entry → (search : ℕ) → Move
about_move H search = if is_going H search then Touch search else Stay

abbrev pub reported_move : List Entry → Option LeasedRun → Move
reported_move H None = Stay
reported_move H (Some l) = about_move H l.search

-- what an entry does after a history
abbrev pub move_in : List Entry → What → Move
move_in H (Founded settings) = Stay
move_in H (Opened o) = Open o.search
move_in H (Leased key worker run search stage position deadline) = Lease search
move_in H (Reported run verdict _) = reported_move H (lease_of H run)
move_in H (Skipped run _) = reported_move H (lease_of H run)
move_in H (Cancelled key search) = about_move H search
move_in H (Ordered key agent order commit search day) = Stay
move_in H (Carried commit day) = Stay
move_in H Closed = Stay

-- The order with it.

abbrev pub struck : (search : ℕ) → Turns → Turns
struck search t = record { never = strike search t.never; leased = strike search t.leased }

abbrev pub joined : (search : ℕ) → Turns → Turns
joined search t = record { never = t.never ++ search ∷ []; leased = t.leased }

abbrev pub moved_last : (search : ℕ) → Turns → Turns
moved_last search t = record { never = strike search t.never; leased = strike search t.leased ++ search ∷ [] }

-- a search that was opened comes in, and goes at once where it ended with that
abbrev pub added : Bool → (search : ℕ) → Turns → Turns
added going search t = if going then joined search t else struck search (joined search t)

-- the order after a move, by the history that has the entry
abbrev pub made : List Entry → Move → Turns → Turns
made G Stay t = t
made G (Open search) t = added (is_going G search) search t
made G (Lease search) t = moved_last search t
made G (Touch search) t = if is_going G search then t else struck search t

-- how many searches there are then
abbrev pub count_after : Move → ℕ → ℕ
count_after (Open search) count = count + 1
count_after _ count = count

abbrev pub StandsIn : Turns → (search : ℕ) → Type 0
StandsIn t search = (has search t.never ≡ true) ⊎ (has search t.leased ≡ true)

-- what stands in the order are searches that a farm may have
abbrev pub AreFew : Turns → Type 0
AreFew t = (search : ℕ) → StandsIn t search → search ≤ MAX_SEARCHES

-- a search that is moved stands in the order, and one that is opened has the next number
abbrev pub MayMove : Turns → (count : ℕ) → Move → Type 0
MayMove t count Stay = ⊤
MayMove t count (Open search) = search ≡ count
MayMove t count (Lease search) = StandsIn t search
MayMove t count (Touch search) = StandsIn t search

-- What is kept of it.

abbrev pub prior_in : Bool → (search : ℕ) → Turns → ℕ
prior_in fresh search t = if fresh then prior_of search 0 t.never else prior_of search 0 t.leased

-- where a search stands
abbrev pub place_of : (search : ℕ) → Turns → Change
place_of search t = change.Moved search (has search t.never) (prior_in (has search t.never) search t)

abbrev pub change_of : List Entry → Move → Turns → Change
change_of G Stay t = change.Nothing
change_of G (Open search) t = change.Opened
change_of G (Lease search) t = place_of search t
change_of G (Touch search) t = if is_going G search then change.Nothing else place_of search t

-- The order without it.

-- a search is put back
abbrev pub put_in : Bool → (search prior : ℕ) → Turns → Turns
put_in fresh search prior t = record {
  never = if fresh then put_behind prior search 0 t.never else t.never;
  leased = if fresh then strike search t.leased else put_behind prior search 0 (strike search t.leased);
}

abbrev pub undone : Change → (count : ℕ) → Turns → Turns
undone change.Nothing count t = t
undone change.Opened count t = record { never = strike (count - 1) t.never; leased = t.leased }
undone (change.Moved search fresh prior) count t = put_in fresh search prior t

abbrev pub count_before : Change → ℕ → ℕ
count_before change.Opened count = count - 1
count_before _ count = count

-- a search can be put back
pub record MayPutIn (t : Turns) (count search : ℕ) (fresh : Bool) (prior : ℕ) : Type 0 where
  pub above : 0 < search
  pub below : search < count
  pub absent : has search t.never ≡ false
  pub behind : has prior (0 ∷ (if fresh then t.never else strike search t.leased)) ≡ true

-- the last search can be closed
pub record MayClose (t : Turns) (count : ℕ) : Type 0 where
  pub some : 1 < count
  pub out : has (count - 1) t.leased ≡ false

abbrev pub MayUndo : Turns → (count : ℕ) → Change → Type 0
MayUndo t count change.Nothing = ⊤
MayUndo t count change.Opened = MayClose t count
MayUndo t count (change.Moved search fresh prior) = MayPutIn t count search fresh prior
