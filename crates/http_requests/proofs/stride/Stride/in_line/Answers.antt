use Rattle.std.proofs.Common.{sym, ap, arith, length, take, ◌+◌, ◌∙◌}
use Rattle.std.proofs.lemmas.List.{length-take, take-take}
use Rattle.http_requests.specs.Looks.{feeds}
use Rattle.http_requests.specs.Places.{is_end, place_from}
use Rattle.http_requests.specs.declared.place.Place.TheVariants as place
use Rattle.http_requests.proofs.Feeds.{feeds-line, no-feeds}
use Rattle.http_requests.proofs.Strides.{line-feed, line-on}
use Rattle.http_requests.proofs.stride.Stride.in_line.Goals as goal

pub returns-in-Some-clause-leads : goal.returns-in-Some-clause-leads
returns-in-Some-clause-leads c =
    let found = c.in-Some.ensures in
    let bytes = c.args.bytes.now in
    let room = c.min.result in
    let at = c.in-Some.at in
    sym (line-feed (take room bytes) at found.0.high (λ k below. found.0.before k (omega arith) below) found.1)
    ∙ ap (place_from place.Line) (take-take (at + 1) room bytes (omega (arith, found.0.high, length-take room bytes)))

pub returns-in-Some-clause-lines : goal.returns-in-Some-clause-lines
returns-in-Some-clause-lines c =
    let found = c.in-Some.ensures in
    let bytes = c.args.bytes.now in
    let room = c.min.result in
    let at = c.in-Some.at in
    let same = ap feeds (take-take (at + 1) room bytes (omega (arith, found.0.high, length-take room bytes))) in
    omega (arith, same, feeds-line (take room bytes) at found.0.high (λ k below. found.0.before k (omega arith) below))

pub returns-in-Some-clause-first : goal.returns-in-Some-clause-first
returns-in-Some-clause-first c n below =
    let found = c.in-Some.ensures in
    let bytes = c.args.bytes.now in
    let room = c.min.result in
    let same = take-take n room bytes (omega (arith, below, found.0.high, length-take room bytes)) in
    ap is_end
    (sym (ap (place_from place.Line) same)
    ∙ line-on (take room bytes) n (λ k less. found.0.before k (omega arith) (omega (arith, less, below))))

pub returns-in-None-clause-leads : goal.returns-in-None-clause-leads
returns-in-None-clause-leads c =
    let bytes = c.args.bytes.now in
    let room = c.min.result in
    let front = take room bytes in
    sym (line-on front (length front) (λ k below. c.in-None.ensures k (omega arith) below))
    ∙ ap (place_from place.Line) (take-take (length front) room bytes (omega (arith, length-take room bytes)))

pub returns-in-None-clause-lines : goal.returns-in-None-clause-lines
returns-in-None-clause-lines c =
    let bytes = c.args.bytes.now in
    let room = c.min.result in
    let front = take room bytes in
    let same = ap feeds (take-take (length front) room bytes (omega (arith, length-take room bytes))) in
    omega (arith, same, no-feeds front (length front) (λ k below. c.in-None.ensures k (omega arith) below))

pub returns-in-None-clause-first : goal.returns-in-None-clause-first
returns-in-None-clause-first c n below =
    let bytes = c.args.bytes.now in
    let room = c.min.result in
    ap is_end
    (sym (ap (place_from place.Line) (take-take n room bytes (omega (arith, below, length-take room bytes))))
    ∙ line-on (take room bytes) n (λ k less. c.in-None.ensures k (omega arith) (omega (arith, less, below))))
