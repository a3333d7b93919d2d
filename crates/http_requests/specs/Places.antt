-- Where in a head some bytes end (RFC 9112, sections 2.1 and 2.2): a head ends with the first empty line behind its
-- start.
use Rattle.std.specs.Prelude.{ℕ, ◌==◌, Bool, true, false, List, [], ◌∷◌, if◌then◌else◌}
use Rattle.httparse.specs.Ascii.{carriage_return, line_feed}
use Rattle.http_requests.specs.Items.{is_line_end}
use Rattle.http_requests.specs.declared.place.Place.{Place}
use Rattle.http_requests.specs.declared.place.Place.TheVariants as place

-- where one byte more leads
abbrev pub place_behind : Place → ℕ → Place
place_behind place.Blank b = if is_line_end b then place.Blank else place.Line
place_behind place.Line b = if b == line_feed then place.Start else place.Line
place_behind place.Start b =
    if b == line_feed then place.End else if b == carriage_return then place.Return else place.Line
place_behind place.Return b = if b == line_feed then place.End else place.Line
place_behind place.End b = place.End

-- where bytes lead from a place
abbrev pub place_from : Place → List ℕ → Place
place_from at [] = at
place_from at (b ∷ bytes) = place_from (place_behind at b) bytes

-- where bytes end, of which the first one may begin a head
unfoldable pub place_of : List ℕ → Place
place_of bytes = place_from place.Blank bytes

-- a head ends here, if the bytes are one
abbrev pub is_end : Place → Bool
is_end place.Blank = false
is_end place.Line = false
is_end place.Start = false
is_end place.Return = false
is_end place.End = true

-- the bytes end lines at most
abbrev pub is_blank : Place → Bool
is_blank place.Blank = true
is_blank place.Line = false
is_blank place.Start = false
is_blank place.Return = false
is_blank place.End = false
