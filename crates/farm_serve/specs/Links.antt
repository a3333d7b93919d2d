-- What is held of a link that was served.
use Rattle.std.specs.Prelude.{◌≡◌, ◌⊎◌, ◌<◌, List, Bool, true, false, IfSome, Result, Ok, Err}
use Rattle.connection_laws.specs.Marks.{Mark}
use Rattle.connection_laws.specs.Moments.{with_counts}
use Rattle.connection_laws.specs.Owners.{Owned, holding_of}
use Rattle.connection_laws.specs.Serving.{IsHeldOf}
use Rattle.connection_laws.specs.Told.{Saying}
use Rattle.connection_laws.specs.declared.served.ServeFault.{ServeFault}
use Rattle.connection_laws.specs.declared.served.ServeFault.TheVariants.{ReadFault, WriteFault, Memory}
use Rattle.connection_laws.specs.declared.served.Served.{Served}
use Rattle.farm_entry.specs.declared.entry.Entry.{Entry}
use Rattle.farm_http.specs.Callers.{mark_of, noted_by}
use Rattle.farm_types.specs.declared.moment.Moment.{Moment}
use Rattle.link_io.specs.Links.{LinkState}
use Rattle.link_io.specs.Notes.{Note}
use Rattle.turn_lock.specs.Known.{Known, borrowed}
use Rattle.turn_lock.specs.declared.view.Loan.{Loan}
use Rattle.farm_serve.specs.Entries.{AtEntry, start_of}

-- what is lent of a mark: the history, and the count of faults
abbrev pub loan_of : Mark → Loan
loan_of mark = record { seen = mark.seen; faults = mark.faults }

-- the mark at which a link begins to which this was lent. Its reader has seen no more for sure than there was at entry
abbrev pub mark_lent : (start : Mark) → Loan → Mark
mark_lent start loan = record { seen = loan.seen; totals = start.totals; faults = loan.faults }

-- the two clocks may give the same moments
pub record GiveAlike (one other : Moment → Type 0) : Type 0 where
  pub there : (at : Moment) → one at → other at
  pub back : (at : Moment) → other at → one at

-- the link was read to its end and answered, or it failed, or memory ran out, by the answer of its serving; a part is
-- held of what was put to it in each case, and these entries are its own
abbrev pub IsServedLink : Mark → Mark → (Moment → Type 0) → (List Note → Saying) → Owned → LinkState
    → Result Served ServeFault → Type 0
IsServedLink start final clock said owned link (Ok served) =
    IsHeldOf start final (with_counts clock) said owned link true
IsServedLink start final clock said owned link (Err ReadFault) =
    IsHeldOf start final (with_counts clock) said owned link false × (0 < link.count)
IsServedLink start final clock said owned link (Err WriteFault) =
    IsHeldOf start final (with_counts clock) said owned link false × (0 < link.count)
IsServedLink start final clock said owned link (Err Memory) =
    IsHeldOf start final (with_counts clock) said owned link false

-- What is held of a link that was taken back. It was read and answered whole; or a part is held, and then the link
-- failed, or memory ran out.
abbrev pub IsHeldBack : Mark → Mark → (Moment → Type 0) → (List Note → Saying) → (short : Bool) → Owned → LinkState
    → Type 0
IsHeldBack start final clock said short owned link =
    IsHeldOf start final (with_counts clock) said owned link true
    ⊎ (IsHeldOf start final (with_counts clock) said owned link false × ((short ≡ true) ⊎ (0 < link.count)))

-- A link was served by this pass, from what the pass borrowed.
pub record IsServedBy (a : AtEntry) (clock : Moment → Type 0) (pass : Known) (read : List Entry) (link : LinkState)
    (served : Result Served ServeFault) : Type 0 where
  pub loan : Loan
  pub borrows : pass.stake.lending ≡ borrowed loan
  pub held : IfSome a.told (λ _. IsServedLink (mark_lent (start_of a) loan) (mark_of pass read) clock (noted_by pass)
      (holding_of pass).owned link served)
