-- The bytes of a request (RFC 9112, section 3), sent on a connection that closes behind it.
use Rattle.std.specs.Prelude.{ℕ, List, [], ◌∷◌, ◌++◌, length, codes, decimal}

-- a text and its line end
abbrev pub line : List ℕ → List ℕ
line text = text ++ 13 ∷ 10 ∷ []

-- what stands before the path of a request, and behind it up to the length of the body or to the end of the fields
unfoldable pub get_method : List ℕ
get_method = codes "GET "

unfoldable pub post_method : List ℕ
post_method = codes "POST "

unfoldable pub host_lines : List ℕ
host_lines = line (codes " HTTP/1.1") ++ line (codes "Host: farm")

unfoldable pub length_name : List ℕ
length_name = codes "Content-Length: "

unfoldable pub close_lines : List ℕ
close_lines = line (codes "Connection: close") ++ line []

-- a request for what a path shows
abbrev pub get_request : (path : List ℕ) → List ℕ
get_request path = get_method ++ path ++ host_lines ++ close_lines

-- a request that sends a body to a path
abbrev pub post_request : (path body : List ℕ) → List ℕ
post_request path body =
    post_method ++ path ++ host_lines ++ length_name ++ decimal (length body) ++ line [] ++ close_lines ++ body
