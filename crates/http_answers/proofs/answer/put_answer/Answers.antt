use Rattle.std.proofs.Common.{ℕ, ◌≡◌, ◌∙◌, ◌<◌, List, OnOk, OnErr, decimal, length, rules, subst, take}
use Rattle.std.specs.Io.KnownBytes.{append_known}
use Rattle.http_answers.specs.Answers.{allow_line, answer_bytes, body_put, close_line, status_line}
use Rattle.http_answers.specs.Pieces.{by_parts}
use Rattle.http_answers.proofs.Parts.{by_parts-joined}
use Rattle.http_answers.proofs.answer.put_answer.Goals as goal

pub returns-clause-done : goal.returns-clause-done
unfolding answer_bytes
returns-clause-done g c =
    let a = c.args.answer.now in
    let size : c.as_bytes-length.result.now ≡ decimal (length a.body.now) = search rules in
    let same = (λ k. by_parts (c.opening.ensures k) (size k) (c.ending-ending.ensures k) (c.body_put-body.ensures k))
    ∙ by_parts-joined (status_line a.status) (decimal (length a.body.now)) (allow_line a.allow) (close_line a.closes)
    (body_put a.withheld a.body.now) in
    subst (λ (l : List ℕ). OnOk c.put_parts.result
    (g.K.Sink.written c.put_parts.new.output ≡ append_known (g.K.Sink.written c.args.output.now) l)) same c.put_parts.ensures.done

pub returns-clause-stopped : goal.returns-clause-stopped
unfolding answer_bytes
returns-clause-stopped g c =
    let a = c.args.answer.now in
    let size : c.as_bytes-length.result.now ≡ decimal (length a.body.now) = search rules in
    let same = (λ k. by_parts (c.opening.ensures k) (size k) (c.ending-ending.ensures k) (c.body_put-body.ensures k))
    ∙ by_parts-joined (status_line a.status) (decimal (length a.body.now)) (allow_line a.allow) (close_line a.closes)
    (body_put a.withheld a.body.now) in
    subst (λ (l : List ℕ). OnErr c.put_parts.result ((n : ℕ) × (n < length l)
    × (g.K.Sink.written c.put_parts.new.output ≡ append_known (g.K.Sink.written c.args.output.now) (take n l)))) same
    c.put_parts.ensures.stopped
