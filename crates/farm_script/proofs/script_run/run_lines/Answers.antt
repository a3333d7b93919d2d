use Rattle.std.proofs.Common.{◌∙◌, ◌+◌, ◌≤◌, Err, ap, length, true, false, rules, sym}
use Rattle.std.proofs.lemmas.Bool.{eqb-true, false≢true}
use Rattle.std.proofs.lemmas.List.{nil_from_length}
use Rattle.farm_script.proofs.SoFar.{so_far-fail, so_far-fail_end, so_far-piece, so_far-stop, so_far-stop_end}
use Rattle.farm_script.proofs.SoFar.{so_far-nothing}
use Rattle.farm_script.proofs.Growing.{grows-trans}
use Rattle.farm_script.proofs.Endings.{done-ends, ended-from, stopped-run}
use Rattle.farm_script.proofs.script_run.run_lines.Goals as goal
use Rattle.link_io.specs.declared.source.TheConstants.{INPUT_LIMIT}
use Rattle.farm_script.proofs.ByHeld.{farm_rule-by_held}

pub loop-taken-preserved : goal.loop-taken-preserved
loop-taken-preserved g c =
    let more = c.in_default-answer_piece.ensures in
    record {
      so_far = so_far-piece c.in-Ok.piece.now farm_rule-by_held c.loop-taken.invariant.so_far c.in-Ok.ensures.taken
          more.answered more.rest;
      few = search rules;
      images = grows-trans c.loop-taken.invariant.decided c.loop-taken.invariant.images more.images;
      decided = search rules;
      reads = search rules;
      writes = search rules;
      stores = search rules;
    }

pub returns-then-is_empty-clause-ends : goal.returns-then-is_empty-clause-ends
returns-then-is_empty-clause-ends g c =
    let took = c.in-Ok.ensures in
    let none = nil_from_length c.in-Ok.piece.now (eqb-true _ _ (sym c.is_empty.ensures ∙ c.if-is_empty.true)) in
    let s = so_far-nothing c.in-Ok.piece.now none c.loop-taken.invariant.so_far took.taken in
    done-ends _ farm_rule-by_held _ _ _ _ s c.loop-taken-test.true
    (ended-from _ _ _ none took.taken took.end) c.in_default.ensures.answered

pub returns-in-Err-answer_rest-clause-ends : goal.returns-in-Err-answer_rest-clause-ends
returns-in-Err-answer_rest-clause-ends g c =
    let old = c.loop-taken.invariant in
    let took = c.in-Ok.ensures in
    let none = nil_from_length c.in-Ok.piece.now (eqb-true _ _ (sym c.is_empty.ensures ∙ c.if-is_empty.true)) in
    let stop = c.in-Err-answer_rest.ensures in
    stopped-run _ c.in-Err-answer_rest.end _ _ true c.loop-taken.taken old.writes stop.cause
    (so_far-stop_end farm_rule-by_held (so_far-nothing c.in-Ok.piece.now none old.so_far took.taken) stop.stops)
    (λ is. so_far-fail_end farm_rule-by_held (so_far-nothing c.in-Ok.piece.now none old.so_far took.taken)
    (stop.fails (ap (λ f. Err f) is)))
    old.few (λ _. ended-from _ _ _ none took.taken took.end)

pub returns-in-Err-answer_piece-clause-ends : goal.returns-in-Err-answer_piece-clause-ends
returns-in-Err-answer_piece-clause-ends g c =
    let old = c.loop-taken.invariant in
    let stop = c.in-Err-answer_piece.ensures in
    let few : c.loop-taken.taken + length c.in-Ok.piece.now ≤ INPUT_LIMIT = search rules in
    stopped-run _ c.in-Err-answer_piece.end _ _ false _ old.writes stop.cause
    (so_far-stop c.in-Ok.piece.now farm_rule-by_held old.so_far c.in-Ok.ensures.taken stop.stops)
    (λ is. so_far-fail c.in-Ok.piece.now farm_rule-by_held old.so_far c.in-Ok.ensures.taken
    (stop.fails (ap (λ f. Err f) is)))
    few (λ e. absurd {0} (false≢true e))
