-- The heads that a worker and a follower send, and what they ask for on a connection.
use Rattle.std.proofs.Common.{◌≡◌, ◌+◌, ℕ, List, [], ◌∷◌, ◌++◌, length, decimal, codes, sym, ap, ◌∙◌, arith}
use Rattle.std.proofs.Common.{append_assoc, length-append}
use Rattle.http_exchange.specs.Requests.{close_lines, get_method, get_request, host_lines, length_name, line}
use Rattle.http_exchange.specs.Requests.{post_method, post_request}
use Rattle.http_requests.specs.Items.{head_size}
use Rattle.httparse.specs.Grammar.{Field, RequestHead, crlf, print_request, print_section}
use Rattle.httparse.proofs.GrammarLemmas.{print_request-append}

abbrev pub host_field : Field
host_field = record { name = codes "Host"; raw = codes " farm"; end = crlf }

abbrev pub length_field : (digits : List ℕ) → Field
length_field digits = record { name = codes "Content-Length"; raw = 32 ∷ digits; end = crlf }

abbrev pub close_field : Field
close_field = record { name = codes "Connection"; raw = codes " close"; end = crlf }

-- a head that sends a body whose length these digits write
abbrev pub post_head : (path digits : List ℕ) → RequestHead
post_head path digits = record {
  blank = [];
  method = codes "POST";
  target = path;
  minor = 1;
  line_end = crlf;
  fields = host_field ∷ length_field digits ∷ close_field ∷ [];
  last = crlf;
}

-- a head without a body
abbrev pub get_head : (path : List ℕ) → RequestHead
get_head path = record {
  blank = [];
  method = codes "GET";
  target = path;
  minor = 1;
  line_end = crlf;
  fields = host_field ∷ close_field ∷ [];
  last = crlf;
}

-- ---- the bytes of a head that sends a body

abbrev lines_before : List ℕ
lines_before = line (codes " HTTP/1.1") ++ (line (codes "Host: farm") ++ codes "Content-Length: ")

abbrev lines_behind : List ℕ
lines_behind = line [] ++ (line (codes "Connection: close") ++ line [])

abbrev post_bytes : (path digits body : List ℕ) → List ℕ
post_bytes path digits body = codes "POST " ++ (path ++ (lines_before ++ (digits ++ (lines_behind ++ body))))

five : (d a b c e : List ℕ) → (((d ++ a) ++ b) ++ c) ++ e ≡ d ++ (a ++ (b ++ (c ++ e)))
five d a b c e = simp append_assoc

seven : (p a b d c e f : List ℕ) → (((((p ++ a) ++ b) ++ d) ++ c) ++ e) ++ f ≡ p ++ (a ++ (b ++ (d ++ (c ++ (e ++ f)))))
seven p a b d c e f = simp append_assoc

post-section : (digits body : List ℕ)
    → print_section (host_field ∷ length_field digits ∷ close_field ∷ []) crlf ++ body
    ≡ line (codes "Host: farm") ++ (codes "Content-Length: " ++ (digits ++ (lines_behind ++ body)))
post-section digits body =
    ap (λ (rest : List ℕ). line (codes "Host: farm") ++ (codes "Content-Length: " ++ rest))
    (five digits (line []) (line (codes "Connection: close")) (line []) body)

post-printed : (path digits body : List ℕ) → print_request (post_head path digits) ++ body ≡ post_bytes path digits body
post-printed path digits body =
    print_request-append (post_head path digits) body
    ∙ ap (λ (rest : List ℕ). codes "POST " ++ (path ++ (line (codes " HTTP/1.1") ++ rest))) (post-section digits body)

post-sent : (path body : List ℕ) → post_request path body ≡ post_bytes path (decimal (length body)) body
unfolding post_method host_lines length_name close_lines
post-sent path body =
    ap (λ (rest : List ℕ). codes "POST " ++ rest)
    (seven path host_lines length_name (decimal (length body)) (line []) close_lines body)

-- a request that sends a body is that head with the body
pub post-is : (path body : List ℕ)
    → print_request (post_head path (decimal (length body))) ++ body ≡ post_request path body
post-is path body = post-printed path (decimal (length body)) body ∙ sym (post-sent path body)

pub post-size : (path digits : List ℕ) → head_size (post_head path digits) ≡ length path + (length digits + 67)
post-size path digits =
    let whole = ap length (post-printed path digits []) in
    let none = length-append (print_request (post_head path digits)) [] in
    let first = length-append path (lines_before ++ (digits ++ (lines_behind ++ []))) in
    let second = length-append digits (lines_behind ++ []) in
    omega (arith, whole, none, first, second)

-- ---- the bytes of a head without a body

abbrev lines_close : List ℕ
lines_close = line (codes "Connection: close") ++ line []

abbrev get_bytes : (path : List ℕ) → List ℕ
get_bytes path = codes "GET " ++ (path ++ (line (codes " HTTP/1.1") ++ (line (codes "Host: farm") ++ lines_close)))

three : (p a b : List ℕ) → ((p ++ a) ++ b) ≡ p ++ (a ++ b)
three p a b = append_assoc p a b

get-printed : (path : List ℕ) → print_request (get_head path) ++ [] ≡ get_bytes path
get-printed path = print_request-append (get_head path) []

get-sent : (path : List ℕ) → get_request path ≡ get_bytes path
unfolding get_method host_lines close_lines
get-sent path = ap (λ (rest : List ℕ). codes "GET " ++ rest) (three path host_lines close_lines)

-- a request for what a path shows is that head
pub get-is : (path : List ℕ) → print_request (get_head path) ++ [] ≡ get_request path
get-is path = get-printed path ∙ sym (get-sent path)

pub get-size : (path : List ℕ) → head_size (get_head path) ≡ length path + 48
get-size path =
    let whole = ap length (get-printed path) in
    let none = length-append (print_request (get_head path)) [] in
    let first = length-append path (line (codes " HTTP/1.1") ++ (line (codes "Host: farm") ++ lines_close)) in
    omega (arith, whole, none, first)
