use Rattle.std.proofs.Common.{◌≡◌, ◌-◌, ◌≤◌, false, take, drop, refl, sym, ap, ◌∙◌, arith}
use Rattle.http_requests.specs.Places.{is_end, place_from, place_of}
use Rattle.http_requests.specs.declared.place.Place.{Place}
use Rattle.http_requests.proofs.Counts.{earlier-open}
use Rattle.http_requests.proofs.Feeds.{feeds-add}
use Rattle.http_requests.proofs.Strides.{first-add, place_of-add}
use Rattle.http_requests.proofs.look.Look.on.Goals as goal

pub loop-count-init : goal.loop-count-init
loop-count-init g c =
    let count = c.args.self.count in
    let bytes = c.args.bytes.now in
    let is = c.requires.look in
    let still : is_end (place_of (take count bytes)) ≡ false = sym (ap is_end is.place) ∙ c.requires.no_end in
    record {
      before = omega (arith, c.min-last.ensures, is.within, c.requires.few);
      onward = omega arith;
      lines = is.lines;
      few_lines = is.few_lines;
      place = is.place;
      first = λ n below. earlier-open bytes count n (omega (arith, below)) still;
      counted = refl;
    }

pub loop-count-preserved : goal.loop-count-preserved
loop-count-preserved g c =
    let l = c.loop-count in
    let bytes = c.args.bytes.now in
    let room = c.min-last.result - l.count in
    let stride = c.of-stride in
    let within : stride.result.count ≤ room = omega (arith, stride.ensures.within) in
    record {
      before = omega (arith, within, l.invariant.before);
      onward = omega (arith, l.invariant.onward);
      lines = omega (arith, feeds-add bytes l.count room stride.result.count within, stride.ensures.lines, l.invariant.lines);
      few_lines = omega (arith, stride.ensures.few, l.invariant.few_lines);
      place =
          stride.ensures.leads
          ∙ ap (λ (at : Place). place_from at (take stride.result.count (take room (drop l.count bytes)))) l.invariant.place
          ∙ sym (place_of-add bytes l.count room stride.result.count within);
      first = first-add bytes l.count room stride.result.count l.place l.invariant.place within l.invariant.first stride.ensures.first;
      counted = omega (arith, c.add.ensures, l.invariant.counted);
    }
