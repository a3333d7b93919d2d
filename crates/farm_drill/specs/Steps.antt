-- What one command of the caller adds to a history.
use Rattle.std.specs.Prelude.{◌≡◌, ◌<◌, true, false, nat_le, List, [], ◌∷◌, ◌++◌, length, is_some, Option, Some, None, Result, Ok, Err}
use Rattle.farm_types.specs.Moment.{moment_ms}
use Rattle.farm_types.specs.declared.key.Key.{Key}
use Rattle.farm_entry.specs.Decision.{moment_used}
use Rattle.farm_entry.specs.Due.{next_run}
use Rattle.farm_entry.specs.History.{key_in, lease_in, order_in}
use Rattle.farm_entry.specs.declared.entry.Entry.{Entry}
use Rattle.farm_entry.specs.declared.lease.LeasedRun.{LeasedRun}
use Rattle.farm_entry.specs.declared.limits.TheConstants.{MAX_ENTRIES}
use Rattle.farm_entry.specs.declared.refusal.Refusal.{Refusal}
use Rattle.farm_entry.specs.declared.reply.Reply.{Reply}
use Rattle.farm_core.specs.Outcome.{handed_out}
use Rattle.drill_plan.specs.Start.{drill_moment}

-- a history is longer by one entry, for which it had room, and which holds this key
pub record IsOneMore (H : List Entry) (key : Key) (new : List Entry) : Type 0 where
  pub entry : Entry
  pub is : new ≡ H ++ entry ∷ []
  pub keyed : key_in entry.what ≡ Some key
  pub room : length H < MAX_ENTRIES

-- the entry hands out a run
pub record HandsOut (H : List Entry) (key : Key) (lease : LeasedRun) (new : List Entry) : Type 0 where
  pub more : IsOneMore H key new
  pub handed : lease_in more.entry.what ≡ Some lease

-- the run that a store's answer hands out, if it does
abbrev pub run_given : Result Reply Refusal → Option LeasedRun
run_given (Ok reply) = handed_out reply
run_given (Err cause) = None

-- there is room for a further entry, and no run is due at the moment of a drill
pub record FindsNone (H : List Entry) : Type 0 where
  pub room : nat_le MAX_ENTRIES (length H) ≡ false
  pub none : next_run H (moment_ms (moment_used H drill_moment)) ≡ None

-- the entry gives an order
pub record GivesOrder (H : List Entry) (key : Key) (new : List Entry) : Type 0 where
  pub more : IsOneMore H key new
  pub order : is_some (order_in more.entry.what) ≡ true
