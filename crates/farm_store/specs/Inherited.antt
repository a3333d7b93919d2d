-- What founding a store with the orders of a farm before it leaves.
use Rattle.std.specs.Prelude.{◌⊎◌, ℕ, List, ◌++◌, map}
use Rattle.farm_rules.specs.Orders.{Ordered}
use Rattle.farm_types.specs.declared.moment.Moment.{Moment}
use Rattle.farm_entry.specs.declared.entry.Entry.{Entry}
use Rattle.farm_entry.specs.declared.entry.What.TheVariants.{Carried}
use Rattle.farm_entry.specs.declared.settings.Settings.{Settings}
use Rattle.farm_journal.specs.Created.{IsUnborn}
use Rattle.farm_store.specs.Bytes.{StandsFor}
use Rattle.farm_store.specs.Founded.{founding}

-- an order that is carried over, at this moment
abbrev pub carried_at : Moment → Ordered → Entry
carried_at at order = record { at = at; what = Carried order.commit order.day }

-- the history of a farm that was founded with these settings at this moment, and with these orders
abbrev pub inheriting : Settings → Moment → List Ordered → List Entry
inheriting settings at orders = founding settings at ++ map (carried_at at) orders

-- nothing was created there, or the journal of this founding with all of its orders
abbrev pub IsUnbornOrInheriting : Settings → Moment → List Ordered → List ℕ → Type 0
IsUnbornOrInheriting settings at orders bytes = IsUnborn bytes ⊎ StandsFor (inheriting settings at orders) bytes
