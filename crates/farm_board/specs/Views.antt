-- The shapes of a seat's view.
use Rattle.std.specs.Prelude.{◌≡◌, ◌≤◌, ◌*◌, ℕ, Bool, true, false, List, [], length, Some, None}
use Rattle.atomic_table.specs.Table.{Me}
use Rattle.farm_entry.specs.Legal.{IsLegal}
use Rattle.farm_entry.specs.Pages.{totals}
use Rattle.farm_entry.specs.declared.entry.Entry.{Entry}
use Rattle.farm_entry.specs.declared.reply.Totals.{Totals}
use Rattle.common_types.specs.Prefix.{longer}
use Rattle.farm_board.specs.declared.row.View.{View}

-- a seat that is in the middle of nothing
abbrev pub still : Bool → ℕ → List Entry → View
still posts version seen = record {
  posts = posts;
  writes = false;
  reads = false;
  version = version;
  seen = seen;
  at = [];
  numbers = [];
  joined = None;
}

-- the seat that posts, between two posts
abbrev pub resting : ℕ → List Entry → View
resting version seen = still true version seen

-- the seat that posts, in a post, with the numbers that stand in the row
abbrev pub posting : ℕ → List Entry → List ℕ → View
posting version seen numbers = record {
  posts = true;
  writes = true;
  reads = false;
  version = version;
  seen = seen;
  at = [];
  numbers = numbers;
  joined = None;
}

-- a seat that reads, between two looks
abbrev pub idle : List Entry → View
idle seen = still false 0 seen

-- a seat in the middle of a look, with the numbers read so far, and the history whose totals they are unless a post
-- came between
abbrev pub reading : ℕ → List Entry → List Entry → List ℕ → View
reading version seen at numbers = record {
  posts = false;
  writes = false;
  reads = true;
  version = version;
  seen = seen;
  at = at;
  numbers = numbers;
  joined = None;
}

-- two seats that read as one. That the longer list begins with each of the two isn't told yet
abbrev pub put_together : View → View → View
put_together v w = record (idle (longer v.seen w.seen)) { joined = Some (v.seen, w.seen) }

-- a seat that took in another one, and has seen no more than before. That this begins with what the other had seen
-- isn't told yet
abbrev pub met : View → View → View
met v w = record v { joined = Some (v.seen, w.seen) }

-- a seat when it is told how what it was joined from goes together
abbrev pub told : View → View
told v = record v { joined = None }

-- what is left of a seat that was joined to another
abbrev pub spent : View
spent = idle []

-- what a pass keeps: it is in the middle of nothing, the history that it has seen is legal, the totals that it read
-- last are those of that history, and where it posts there were no more posts than entries
pub record IsStill {S : Type 0} (posts : Bool) (me : Me S View) (last : Totals) : Type 0 where
  pub me_is : me ≡ (still posts me.0.version me.0.seen, [])
  pub legal : IsLegal me.0.seen
  pub totals_are : last ≡ totals me.0.seen
  pub reader : posts ≡ false → me.0.version ≡ 0
  pub few : me.0.version ≤ 2 * length me.0.seen
