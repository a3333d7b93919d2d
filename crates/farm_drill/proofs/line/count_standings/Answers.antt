use Rattle.std.proofs.Common.{◌≡◌, ◌+◌, ℕ, List, Some, sym, ap, subst, ◌∙◌, arith}
use Rattle.farm_entry.specs.History.{opening_numbered, openings}
use Rattle.farm_entry.specs.declared.entry.Entry.{Entry}
use Rattle.farm_entry.specs.declared.limits.TheConstants.{MAX_SEARCHES}
use Rattle.farm_entry.specs.Standing.{standing}
use Rattle.farm_disk.specs.Images.{DiskState}
use Rattle.farm_store.specs.State.{StoreState}
use Rattle.farm_laws.proofs.Bounds.{openings-bounded}
use Rattle.farm_drill.specs.Line.{IsBelow, tally_with}
use Rattle.farm_drill.specs.declared.line.Tally.{Tally}
use Rattle.farm_drill.proofs.Counts.{opening-at, tally-all, tally-below, tally-more}
use Rattle.farm_drill.proofs.line.count_standings.Goals as goal

pub standing_of-requires-clause-opened : goal.standing_of-requires-clause-opened
standing_of-requires-clause-opened c =
    let H : List Entry = c.args.store.now.history in
    let at = opening-at H c.loop-before.before c.requires.legal (omega arith) in (
      at.0,
      ap (λ (s : StoreState DiskState). opening_numbered s.history (c.loop-before.before + 1))
          c.loop-before.invariant.kept ∙ at.1,
    )

pub note-requires : goal.note-requires
note-requires c =
    let H : List Entry = c.args.store.now.history in
    subst (IsBelow MAX_SEARCHES) (sym c.loop-before.invariant.tally)
    (tally-below H (openings H) c.loop-before.before (omega arith) (openings-bounded H c.requires.legal))

pub loop-before-preserved : goal.loop-before-preserved
loop-before-preserved c =
    let H : List Entry = c.args.store.now.history in
    let i : ℕ = c.loop-before.before in
    let at = opening-at H i c.requires.legal (omega arith) in
    let numbered : opening_numbered c.loop-before.store.history (i + 1) ≡ Some at.0 =
    ap (λ (s : StoreState DiskState). opening_numbered s.history (i + 1)) c.loop-before.invariant.kept ∙ at.1 in
    record {
      kept = c.standing_of.ensures.kept ∙ c.loop-before.invariant.kept;
      tally = c.note.ensures
          ∙ ap (λ (t : Tally). tally_with t c.standing_of.result) c.loop-before.invariant.tally
          ∙ tally-more H (openings H) i at.0 c.standing_of.result (omega arith) at.2
          (c.standing_of.ensures.standing at.0 numbered
          ∙ ap (λ (s : StoreState DiskState). standing s.history at.0) c.loop-before.invariant.kept);
    }

pub returns-clause-tally : goal.returns-clause-tally
returns-clause-tally c =
    let H : List Entry = c.args.store.now.history in
    tally-all H (openings H) c.loop-before.before c.loop-before.tally c.loop-before.invariant.tally (omega arith)
