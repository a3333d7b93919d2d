-- Worked items, and what is put for them.
use Rattle.std.specs.Prelude.{ℕ, true, false, List, [], ◌++◌, codes, Ok, Err}
use Rattle.http_answers.specs.Lines.{line}
use Rattle.http_requests.specs.Items.{Item, refused}
use Rattle.http_words.specs.declared.endpoint.Endpoint.TheVariants as endpoint
use Rattle.http_words.specs.declared.route.Route.TheVariants as route
use Rattle.http_words.specs.declared.fault.Allow.TheVariants.{Post}
use Rattle.http_words.specs.declared.fault.Fault.TheVariants.{BadRequest, Foreign, MethodNotAllowed}

-- a request whose body was asked for and is cut off, and what is put
abbrev pub cut_item : Item
cut_item = refused true false BadRequest

abbrev pub cut_bytes : List ℕ
cut_bytes =
    line (line (codes "HTTP/1.1 100 Continue"))
    ++ line (codes "HTTP/1.1 400 Bad Request")
    ++ line (codes "Content-Type: application/json")
    ++ line (codes "Content-Length: 24")
    ++ line (codes "Connection: close")
    ++ line []
    ++ codes "{\"refused\":\"BadRequest\"}"

-- a POST with a field named Origin, and what is put
abbrev pub foreign_item : Item
foreign_item = refused false false Foreign

abbrev pub foreign_bytes : List ℕ
foreign_bytes =
    line (codes "HTTP/1.1 403 Forbidden")
    ++ line (codes "Content-Type: application/json")
    ++ line (codes "Content-Length: 21")
    ++ line (codes "Connection: close")
    ++ line []
    ++ codes "{\"refused\":\"Foreign\"}"

-- a HEAD request on a path for POST, and what is put
abbrev pub head_item : Item
head_item = record {
  interim = false;
  withheld = true;
  closes = false;
  asks = Err (MethodNotAllowed Post);
  body = [];
  size = 0;
}

abbrev pub head_bytes : List ℕ
head_bytes =
    line (codes "HTTP/1.1 405 Method Not Allowed")
    ++ line (codes "Content-Type: application/json")
    ++ line (codes "Content-Length: 30")
    ++ line (codes "Allow: POST")
    ++ line []

-- a lease, and what is put where the disk failed and where memory ran out
abbrev pub lease_item : Item
lease_item = record {
  interim = false;
  withheld = false;
  closes = false;
  asks = Ok (endpoint.Command route.Lease);
  body = [];
  size = 0;
}

abbrev pub failed_bytes : List ℕ
failed_bytes =
    line (codes "HTTP/1.1 503 Service Unavailable")
    ++ line (codes "Content-Type: application/json")
    ++ line (codes "Content-Length: 24")
    ++ line []
    ++ codes "{\"refused\":\"StoreFault\"}"

abbrev pub no_memory_bytes : List ℕ
no_memory_bytes =
    line (codes "HTTP/1.1 507 Insufficient Storage")
    ++ line (codes "Content-Type: application/json")
    ++ line (codes "Content-Length: 20")
    ++ line []
    ++ codes "{\"refused\":\"Memory\"}"
