-- What is held of a link that was served.
use Rattle.std.proofs.Common.{◌≡◌, ◌≤◌, ℕ, List, Result, Ok, Err, sym, subst, arith}
use Rattle.connection_laws.proofs.Serving.{served-held}
use Rattle.connection_laws.specs.Marks.{Mark}
use Rattle.connection_laws.specs.Moments.{given_by, with_counts}
use Rattle.connection_laws.specs.Owners.{Holding, Owned, none_owned}
use Rattle.connection_laws.specs.Progress.{IsBefore, progress_at, progress_from}
use Rattle.connection_laws.specs.Serving.{IsHeldOf, Serves, is_whole}
use Rattle.connection_laws.specs.Told.{IsNoted, Saying, noted_in}
use Rattle.connection_laws.specs.declared.served.ServeFault.{ServeFault}
use Rattle.connection_laws.specs.declared.served.ServeFault.TheVariants.{ReadFault, WriteFault, Memory}
use Rattle.connection_laws.specs.declared.served.Served.{Served}
use Rattle.farm_entry.specs.declared.entry.Entry.{Entry}
use Rattle.farm_http.specs.Faults.{OnLinkFault}
use Rattle.farm_types.specs.declared.moment.Moment.{Moment}
use Rattle.common_types.specs.Counts.{Rose}
use Rattle.link_io.specs.Links.{LinkState, fresh_link}
use Rattle.link_io.specs.Notes.{Note}
use Rattle.common_types.specs.declared.row.Row.{Row}
use Rattle.common_types.specs.Prefix.{IsPrefix}
use Rattle.farm_serve.proofs.Counts.{Rose-zero}
use Rattle.farm_serve.proofs.Marks.{Follows-refl, IsHeldOf-more, any_counts}
use Rattle.farm_serve.specs.Links.{IsServedLink}

-- by the answer of its serving, with what is held of it, where its count was 0
by_answer : (result : Result Served ServeFault) (start final : Mark) (clock : Moment → Type 0)
    (said : List Note → Saying) (owned : Owned) (new : LinkState) (none : ℕ)
    → none ≡ 0 → OnLinkFault result (Rose none new.count)
    → IsHeldOf start final (with_counts clock) said owned new (is_whole result)
    → IsServedLink start final clock said owned new result
by_answer (Ok done) start final clock said owned new none is cause held = held
by_answer (Err ReadFault) start final clock said owned new none is cause held =
    (held, Rose-zero none new.count is cause)
by_answer (Err WriteFault) start final clock said owned new none is cause held =
    (held, Rose-zero none new.count is cause)
by_answer (Err Memory) start final clock said owned new none is cause held = held

-- from a mark with which its pass and its reader began, for a clock that may give more, and as it is left at last
pub served_link : (result : Result Served ServeFault) (start final : Mark) (seen totals read : List Entry) (faults : ℕ)
    (clock other : Moment → Type 0) (counts : ℕ → Type 0) (rows : List Row) (old new last : LinkState)
    (mine kept : Holding) → mine.owned ≡ none_owned
    → ((at : Moment) → clock at → other at) → IsPrefix start.seen seen → start.faults ≤ faults
    → IsPrefix start.totals totals
    → old.count ≡ 0 → last ≡ new → OnLinkFault result (Rose old.count new.count)
    → Serves result (progress_from seen totals faults) final (given_by clock counts) (noted_in rows old new) old new
    mine kept read → old ≡ fresh_link
    → IsServedLink start final other (λ notes. IsNoted rows notes) kept.owned last result
served_link result start final seen totals read faults clock other counts rows old new last mine kept unowned more
    begins count counted none same cause serves fresh =
    let before : IsBefore (progress_at start) (progress_from seen totals faults) =
    record { seen = begins; totals = counted; faults = count; left = omega arith } in
    let held : IsHeldOf start final (given_by clock counts) (λ notes. IsNoted rows notes) kept.owned new
    (is_whole result) =
    served-held result start final final seen totals read faults (given_by clock counts) rows new mine kept unowned
    before (Follows-refl final)
    (subst (λ (l : LinkState). Serves result (progress_from seen totals faults) final (given_by clock counts)
    (noted_in rows l new) l new mine kept read) fresh serves) in
    subst (λ (l : LinkState). IsServedLink start final other (λ notes. IsNoted rows notes) kept.owned l result)
    (sym same)
    (by_answer result start final other (λ notes. IsNoted rows notes) kept.owned new old.count none cause
    (IsHeldOf-more start final final (given_by clock counts) (with_counts other) (λ notes. IsNoted rows notes)
    (λ notes. IsNoted rows notes) kept.owned new (is_whole result)
    (Follows-refl final) (any_counts clock other counts more) (λ notes place H begins holds. holds) held))
