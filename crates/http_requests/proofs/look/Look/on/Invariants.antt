use Rattle.std.proofs.Common.{ℕ, ◌-◌, ◌+◌, ◌<◌, ◌≡◌, ◌≤◌, false, take}
use Rattle.http_requests.specs.Looks.{feeds}
use Rattle.http_requests.specs.Places.{is_end, place_of}
use Rattle.http_requests.proofs.look.Look.on.Given as goal

-- the bytes up to `count` were looked at, and no head ends before
abbrev pub invariant-loop-count : goal.invariant-loop-count
invariant-loop-count g l = record {
  before : l.count ≤ l.last;
  onward : l.fn.self.count ≤ l.count;
  lines : feeds (take l.count l.bytes) ≤ l.lines;
  few_lines : l.lines ≤ l.count;
  place : l.place ≡ place_of (take l.count l.bytes);
  first : (n : ℕ) → n < l.count → is_end (place_of (take n l.bytes)) ≡ false;
  counted : l.looked + l.fn.self.count ≡ l.fn.looked + l.count;
}

abbrev pub decreases-loop-count : goal.decreases-loop-count
decreases-loop-count g l = l.last - l.count
