use Rattle.std.proofs.Common.{◌+◌, ◌<◌, ◌++◌, ℕ, List, length, take, sym, ap, ◌∙◌, append_assoc, arith}
use Rattle.std.specs.Prelude.{string_bytes}
use Rattle.farm_entry.specs.History.{opening_numbered, openings}
use Rattle.farm_entry.specs.Pages.{totals}
use Rattle.farm_entry.specs.declared.reply.Reply.TheVariants as reply
use Rattle.farm_store.specs.State.{StoreState}
use Rattle.farm_script.specs.Shown.{shown_line, shown_opening, shown_searches}
use Rattle.farm_script.proofs.ShownLines.{shown-next}
use Rattle.farm_script.proofs.shown.shown_text.Goals as goal

pub loop-before-preserved : goal.loop-before-preserved
loop-before-preserved g c =
    let H = c.args.store.now.history in
    let k = c.loop-before.before in
    let line = shown_line (reply.Farm (totals H)) in
    let more = shown_opening H (opening_numbered H (k + 1)) in
    let below : k < length (openings H) =
    omega (arith, c.loop-before-test.true, c.searches_count-count.ensures.count) in
    record {
      kept = c.push_search.ensures.kept ∙ c.loop-before.invariant.kept;
      text = c.in_ok-push_search.ensures.text
          ∙ ap (λ (s : StoreState g.row.D.Denot). string_bytes c.loop-before.text
          ++ shown_opening s.history (opening_numbered s.history (k + 1))) c.loop-before.invariant.kept
          ∙ ap (λ (t : List ℕ). t ++ more) c.loop-before.invariant.text
          ∙ append_assoc line (shown_searches H (take k (openings H))) more
          ∙ ap (λ (t : List ℕ). line ++ t) (sym (shown-next H k c.searches_count-count.ensures.legal below));
    }
