-- How far the bytes of a head were looked at.
use Rattle.std.specs.Prelude.{ℕ, ◌≡◌, ◌⊎◌, ◌==◌, ◌≤◌, false, List, filter, length, take, min}
use Rattle.httparse.specs.Ascii.{line_feed}
use Rattle.httparse.specs.Grammar.{MayBecomeRequest}
use Rattle.http_requests.specs.Places.{is_end, place_of}
use Rattle.http_requests.specs.declared.look.Look.{Look}
use Rattle.http_words.specs.declared.limits.TheConstants.{MAX_HEAD_BYTES}

-- how many line feeds there are
abbrev pub feeds : List ℕ → ℕ
feeds bytes = length (filter (λ b. b == line_feed) bytes)

-- so many bytes at the front were looked at, so many lines ended in them at most, and that is where they end
pub record IsLook (look : Look) (bytes : List ℕ) : Type 0 where
  pub within : look.count ≤ length bytes
  pub lines : feeds (take look.count bytes) ≤ look.lines
  pub few_lines : look.lines ≤ look.count
  pub place : look.place ≡ place_of (take look.count bytes)

-- so many bytes at the front, which the parser was last given, may become a head, or it was given none
pub record IsTried (tried : ℕ) (look : Look) (bytes : List ℕ) : Type 0 where
  pub before : tried ≤ look.count
  pub may : (tried ≡ 0) ⊎ MayBecomeRequest (take tried bytes)

-- all bytes that a head may have were looked at, and no head ends in them
pub record IsLookThrough (look : Look) (bytes : List ℕ) : Type 0 where
  pub is : IsLook look bytes
  pub all : look.count ≡ min (length bytes) MAX_HEAD_BYTES
  pub no_end : is_end look.place ≡ false
