use Rattle.std.proofs.Common.{ℕ, ◌≡◌, ◌≤◌, length, subst, ⊎_elim}
use Rattle.httparse.specs.Spans.{RequestOverflows}
use Rattle.http_words.specs.declared.limits.TheConstants.{MAX_FIELDS}
use Rattle.http_requests.specs.Looks.{feeds}
use Rattle.http_requests.proofs.Feeds.{error-never}
use Rattle.http_requests.proofs.front.front_in.Goals as goal

pub returns-in-Err-clause-says : goal.returns-in-Err-clause-says
returns-in-Err-clause-says g c =
    let bytes = c.args.bytes.now in
    let room = length c.args.spans.now in
    let parsed = c.parse_request in
    ⊎_elim
    (λ (all : room ≡ MAX_FIELDS). subst (λ (n : ℕ). RequestOverflows n bytes) all c.in-Err.ensures.no_room)
    (λ (few : feeds bytes ≤ room) more h rest reads.
    absurd (error-never parsed.result c.in-Err.field-0 room bytes c.in-Err.is parsed.ensures.invalid parsed.ensures.too_many few more h rest reads))
    c.requires.fits
