use Rattle.std.proofs.Common.{◌≡◌, ◌≤◌, length, take, sym, ap, subst, ◌∙◌, ℕ, List, true, arith}
use Rattle.std.proofs.lemmas.List.{length-take}
use Rattle.std.specs.Str.{IsUtf8}
use Rattle.http_requests.specs.Items.{head_size}
use Rattle.http_requests.specs.Places.{is_end, place_of}
use Rattle.http_requests.proofs.Counts.{first-head}
use Rattle.http_requests.proofs.Heads.{HasHead-size}
use Rattle.http_requests.proofs.Parts.{parts-is_head}
use Rattle.http_requests.proofs.Places.{end-some}
use Rattle.http_requests.proofs.Read.{at-HasHead, awaited-front, bad-end, never-headless, other-headless, whole-HasHead}
use Rattle.http_requests.proofs.Says.{refused-says}
use Rattle.http_requests.proofs.next.find_request.Goals as goal

pub known_request-requires-clause-some : goal.known_request-requires-clause-some
known_request-requires-clause-some g c =
    end-some (take c.args.look.count c.args.held.now) (sym (ap is_end c.requires.look.place) ∙ c.requires.at_end)

pub known_request-requires-clause-tried : goal.known_request-requires-clause-tried
known_request-requires-clause-tried g c =
    omega (arith, c.requires.tried, length-take c.args.look.count c.args.held.now, c.requires.look.within)

pub find_body-requires : goal.find_body-requires
find_body-requires g c = awaited-front c.in-Some.request c.args.held.now c.args.look.count c.in-Some.ensures.is

pub returns-in-Some-clause-few : goal.returns-in-Some-clause-few
returns-in-Some-clause-few g c =
    let held = c.args.held.now in
    let count = c.args.look.count in
    let request = c.in-Some.request in
    let is = awaited-front request held count c.in-Some.ensures.is in
    let given : length (take count held) ≡ count = omega (arith, length-take count held, c.requires.look.within) in
    let first : count ≤ head_size is.head = first-head held count is.head is.has c.requires.first in
    omega (arith, c.known_request.ensures.few, given, c.find_body.ensures.most, is.becomes.whole.body, first)

pub becomes-requires-clause-short : goal.becomes-requires-clause-short
becomes-requires-clause-short g c =
    let held = c.args.held.now in
    let at = c.in-Head.ensures.says in
    omega (arith, at.is.size, (HasHead-size held at.head (at-HasHead held c.args.look.count c.in-Head.head c.requires.few at)).0)

pub becomes-requires-clause-text : goal.becomes-requires-clause-text
becomes-requires-clause-text g c =
    let at = c.in-Head.ensures.says in
    subst (λ (l : List ℕ). IsUtf8 l) (sym at.is.target) at.reads.0.target_text

pub keep-requires : goal.keep-requires
keep-requires g c =
    let front = take c.args.look.count c.args.held.now in
    let at = c.in-Head.ensures.says in
    record {
      head = at.head;
      has = whole-HasHead front c.in-Head.head (omega (arith, length-take c.args.look.count c.args.held.now, c.requires.few)) at;
      becomes = c.in-Ok.ensures at.head at.is;
    }

pub find_body-requires-in-Ok : goal.find_body-requires-in-Ok
find_body-requires-in-Ok g c =
    let at = c.in-Head.ensures.says in
    record {
      head = at.head;
      has = at-HasHead c.args.held.now c.args.look.count c.in-Head.head c.requires.few at;
      becomes = c.in-Ok.ensures at.head at.is;
    }

pub returns-in-Ok-clause-few : goal.returns-in-Ok-clause-few
returns-in-Ok-clause-few g c =
    let held = c.args.held.now in
    let count = c.args.look.count in
    let at = c.in-Head.ensures.says in
    let has = at-HasHead held count c.in-Head.head c.requires.few at in
    let became = c.in-Ok.ensures at.head at.is in
    let first : count ≤ head_size at.head = first-head held count at.head has c.requires.first in
    let given : length (take count held) ≡ count = omega (arith, length-take count held, c.requires.look.within) in
    omega (arith, c.known_request.ensures.few, c.front_of.ensures.counted, given, c.find_body-in-Ok.ensures.most, became.whole.body, first)

pub returns-in-Err-clause-found : goal.returns-in-Err-clause-found
returns-in-Err-clause-found g c =
    let held = c.args.held.now in
    let at = c.in-Head.ensures.says in
    c.found_refused.ensures.found c.args.ended held
    (refused-says c.args.ended held at.head c.in-Err.fault c.is_head.result
    (at-HasHead held c.args.look.count c.in-Head.head c.requires.few at) (c.in-Err.ensures at.head at.is)
    (c.is_head.ensures ∙ parts-is_head c.in-Head.head at.head at.is))

pub returns-in-Open-clause-found : goal.returns-in-Open-clause-found
returns-in-Open-clause-found g c =
    let held = c.args.held.now in
    let count = c.args.look.count in
    let end : is_end (place_of (take count held)) ≡ true = sym (ap is_end c.requires.look.place) ∙ c.requires.at_end in
    c.found_refused-in-Open.ensures.found c.args.ended held
    (bad-end c.args.ended held count end
    (other-headless c.args.ended held count c.requires.look.within c.requires.few end c.in-Open.ensures.says.0))

pub returns-in-Never-clause-found : goal.returns-in-Never-clause-found
returns-in-Never-clause-found g c =
    let held = c.args.held.now in
    let count = c.args.look.count in
    let end : is_end (place_of (take count held)) ≡ true = sym (ap is_end c.requires.look.place) ∙ c.requires.at_end in
    c.found_refused-in-Never.ensures.found c.args.ended held
    (bad-end c.args.ended held count end
    (never-headless c.args.ended held count c.requires.look.within c.requires.few c.in-Never.ensures.says))
