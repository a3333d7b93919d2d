-- What the serving of a connection came to, as what is held of a link.
use Rattle.std.proofs.Common.{Result, Ok, Err, List, [], ◌++◌, ℕ, ◌≡◌, ◌+◌, length, Option, Some, IfSome, arith, ap, sym, ◌∙◌, append-nil, le_refl, subst}
use Rattle.farm_entry.specs.declared.entry.Entry.{Entry}
use Rattle.connection_laws.specs.Moments.{Given}
use Rattle.link_io.specs.Links.{LinkState, fresh_link}
use Rattle.link_io.specs.Notes.{Note}
use Rattle.common_types.specs.declared.row.Row.{Row}
use Rattle.connection_laws.specs.Marks.{Mark, Follows}
use Rattle.connection_laws.specs.Outcomes.{Step}
use Rattle.connection_laws.specs.Owners.{AreLeftIn, HoldsMore, Holding, IsOwnedBy, Owned, none_owned}
use Rattle.connection_laws.specs.Progress.{progress_at, progress_from, IsBefore, recorded_places}
use Rattle.turn_lock.specs.declared.view.Undecided.{Undecided}
use Rattle.connection_laws.specs.Serving.{IsHeldOf, Serves, is_whole}
use Rattle.connection_laws.specs.declared.served.Served.{Served}
use Rattle.connection_laws.specs.declared.served.ServeFault.{ServeFault}
use Rattle.connection_laws.specs.Told.{IsNoted, noted_in}
use Rattle.connection_laws.proofs.Loop.{held-earlier, held-longer, held-said}
use Rattle.connection_laws.proofs.Noting.{noted-later}

-- of a new link all that was put is what it has
said-fresh : (rows : List Row) (link : LinkState) (notes : List Note) (place : ℕ) (H : List Entry)
    → link.notes ≡ Some notes → noted_in rows fresh_link link place H → IsNoted rows notes place H
said-fresh rows link notes place H is holds =
    let n : IsNoted rows notes (0 + place) H =
    subst (λ (o : Option (List Note)). IfSome o (λ all. IsNoted rows all (0 + place) H)) is holds in
    noted-later rows notes (0 + place) place H H (omega arith) (le_refl (length H)) n

-- what a pass holds that held nothing is what the steps came to
owned-new : (steps : List Step) (mine kept : Holding) → mine.owned ≡ none_owned → HoldsMore steps mine kept
    → IsOwnedBy steps kept.owned
owned-new steps mine kept none h = record {
  places = h.places ∙ ap (λ (o : Owned). o.places ++ recorded_places steps) none;
  undecided = subst (λ (us : List Undecided). AreLeftIn steps us)
      (sym
      (h.undecided ∙ ap (λ (o : Owned). h.newer ++ o.undecided) none ∙ append-nil h.newer))
      h.left;
}

-- of a new link, from earlier marks, for later ones
pub served-held : (result : Result Served ServeFault) (start final later : Mark) (seen totals read : List Entry)
    (faults : ℕ) (gives : Given → Type 0) (rows : List Row) (link : LinkState)
    (mine kept : Holding)
    → mine.owned ≡ none_owned → IsBefore (progress_at start) (progress_from seen totals faults) → Follows final later
    → Serves result (progress_from seen totals faults) final gives (noted_in rows fresh_link link)
    fresh_link link mine kept read
    → IsHeldOf start later gives (λ notes. IsNoted rows notes) kept.owned link (is_whole result)
unfolding held-said held-longer held-earlier
served-held (Ok served) start final later seen totals read faults gives rows link mine kept none b f s = record {
  taken = s.taken;
  put = s.put;
  takes = s.passed.takes;
  puts = s.passed.puts;
  notes = s.passed.notes.0 ++ [];
  tells = s.passed.notes.1;
  held =
      held-said (progress_at start) later gives (noted_in rows fresh_link link) (IsNoted rows (s.passed.notes.0 ++ []))
      s.taken s.put link.ended _ (λ place H p. said-fresh rows link (s.passed.notes.0 ++ []) place H s.passed.notes.1)
      (held-longer (progress_at start) final later gives (noted_in rows fresh_link link) s.taken s.put link.ended _ f
      (held-earlier (progress_at start) (progress_from seen totals faults) final gives (noted_in rows fresh_link link)
      s.taken s.put link.ended _ b s.held));
  owns = owned-new s.held.steps mine kept none s.keeps.holds;
}
served-held (Err fault) start final later seen totals read faults gives rows link mine kept none b f s = record {
  taken = s.taken;
  put = s.put;
  takes = s.passed.takes;
  puts = s.passed.puts;
  notes = s.passed.notes.0 ++ [];
  tells = s.passed.notes.1;
  held =
      held-said (progress_at start) later gives (noted_in rows fresh_link link) (IsNoted rows (s.passed.notes.0 ++ []))
      s.taken s.put link.ended _ (λ place H p. said-fresh rows link (s.passed.notes.0 ++ []) place H s.passed.notes.1)
      (held-longer (progress_at start) final later gives (noted_in rows fresh_link link) s.taken s.put link.ended _ f
      (held-earlier (progress_at start) (progress_from seen totals faults) final gives (noted_in rows fresh_link link)
      s.taken s.put link.ended _ b s.held));
  owns = owned-new s.held.steps mine kept none s.keeps.holds;
}
