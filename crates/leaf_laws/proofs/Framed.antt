-- The heads that a worker and a follower send ask for what their paths say, on a connection that closes behind them.
use Rattle.std.proofs.Common.{◌≡◌, ◌<◌, ◌≤◌, ◌^◌, ◌&&◌, ℕ, Bool, true, false, List, [], ◌∷◌, length, get_or, decimal}
use Rattle.std.proofs.Common.{codes, Ok, refl, ap, subst, ◌∙◌, arith, nat_lt}
use Rattle.std.specs.Char.{is_ascii_digit}
use Rattle.std.specs.List.{list_all}
use Rattle.std.specs.Str.{IsUtf8}
use Rattle.std.specs.Str.Parse.{digits_value}
use Rattle.std.proofs.lemmas.Bool.{le-ltb, ltb-true}
use Rattle.std.proofs.lemmas.Fmt.{length-decimal-le}
use Rattle.std.proofs.lemmas.List.Elements.{All-cons, All-nil}
use Rattle.common_types.specs.Decimals.{are_digits}
use Rattle.http_exchange.specs.Requests.{get_request, post_request}
use Rattle.http_requests.specs.FieldTexts.{FieldText, expects_continue, has_close}
use Rattle.http_requests.specs.Lengths.{length_in, stated_length}
use Rattle.http_requests.specs.Texts.{same_text}
use Rattle.http_requests.specs.declared.lengths.StatedLength.TheVariants.{Bytes}
use Rattle.http_requests.specs.Fields.{fields_of}
use Rattle.http_requests.specs.Framing.{body_length, closes_after, is_head_method, length_by, wants_interim}
use Rattle.http_requests.specs.Routes.{endpoint_of}
use Rattle.http_words.specs.declared.endpoint.Endpoint.{Endpoint}
use Rattle.http_words.specs.declared.limits.TheConstants.{MAX_BODY_BYTES}
use Rattle.httparse.specs.Grammar.{AllPass, IsField, IsRequestHead, IsToken, is_token_byte, is_uri_byte, is_value_byte}
use Rattle.httparse.specs.Grammar.{trim_ows}
use Rattle.leaf_laws.proofs.Decimals.{are_digits-decimal, digits-decimal, pass-each, trim-digits, value-decimal}
use Rattle.leaf_laws.proofs.Decimals.{value-digit}
use Rattle.leaf_laws.proofs.Heads.{close_field, get-is, get-size, get_head, host_field, length_field, post-is}
use Rattle.leaf_laws.proofs.Heads.{post-size, post_head}
use Rattle.leaf_laws.proofs.OneRequest.{one-request}
use Rattle.leaf_laws.specs.Sent.{IsOneRequest}

-- ---- the fields

token : (text : List ℕ) → nat_lt 0 (length text) ≡ true → list_all is_token_byte text ≡ true → IsToken text
token text some pass = (ltb-true _ _ some, pass-each is_token_byte text pass)

host-field : IsField host_field
unfolding is_token_byte
host-field = record {
  name = token (codes "Host") refl refl;
  raw = pass-each is_value_byte (codes " farm") refl;
}

close-field : IsField close_field
unfolding is_token_byte
close-field = record {
  name = token (codes "Connection") refl refl;
  raw = pass-each is_value_byte (codes " close") refl;
}

length-field : (digits : List ℕ) → AllPass is_ascii_digit digits → IsField (length_field digits)
unfolding is_token_byte
length-field digits are = record {
  name = token (codes "Content-Length") refl refl;
  raw =
      All-cons (λ b. is_value_byte b ≡ true) 32 digits refl
      (λ i d within. value-digit (get_or digits i d) (are i d within));
}

-- a path that a head may name
pub record IsPath (path : List ℕ) : Type 0 where
  pub some : 0 < length path
  pub short : length path ≤ 4096
  pub visible : AllPass is_uri_byte path
  pub text : IsUtf8 path

post-head : (path digits : List ℕ) → IsPath path → AllPass is_ascii_digit digits → IsRequestHead (post_head path digits)
unfolding is_token_byte
post-head path digits is are = record {
  method = token (codes "POST") refl refl;
  target = (is.some, is.visible);
  target_text = is.text;
  minor = omega arith;
  fields =
      All-cons IsField host_field (length_field digits ∷ close_field ∷ []) host-field
      (All-cons IsField (length_field digits) (close_field ∷ []) (length-field digits are)
      (All-cons IsField close_field [] close-field (All-nil IsField)));
}

get-head : (path : List ℕ) → IsPath path → IsRequestHead (get_head path)
unfolding is_token_byte
get-head path is = record {
  method = token (codes "GET") refl refl;
  target = (is.some, is.visible);
  target_text = is.text;
  minor = omega arith;
  fields =
      All-cons IsField host_field (close_field ∷ []) host-field
      (All-cons IsField close_field [] close-field (All-nil IsField));
}

-- ---- what the fields say

abbrev post_fields : (digits : List ℕ) → List FieldText
post_fields digits =
    (codes "Host", codes "farm") ∷ (codes "Content-Length", digits) ∷ (codes "Connection", codes "close") ∷ []

abbrev get_fields : List FieldText
get_fields = (codes "Host", codes "farm") ∷ (codes "Connection", codes "close") ∷ []

post-fields : (path digits : List ℕ) → trim_ows (32 ∷ digits) ≡ digits
    → fields_of (post_head path digits) ≡ post_fields digits
unfolding trim_ows
post-fields path digits is = ap post_fields is

get-fields : (path : List ℕ) → fields_of (get_head path) ≡ get_fields
unfolding trim_ows
get-fields path = refl

length-read : (n : ℕ) (digits : List ℕ) → are_digits digits ≡ true → digits_value 10 digits ≡ n → n ≤ MAX_BODY_BYTES
    → length_in digits ≡ Bytes n
length-read n digits are is short =
    let within : nat_lt MAX_BODY_BYTES n ≡ false = le-ltb MAX_BODY_BYTES n short in
    rw (are, is, within) refl

post-length : (n : ℕ) (digits : List ℕ) → length_in digits ≡ Bytes n
    → body_length (codes "POST") 1 (post_fields digits) ≡ Ok n
unfolding body_length stated_length same_text
post-length n digits is = ap (length_by (codes "POST")) is

get-length : body_length (codes "GET") 1 get_fields ≡ Ok 0
unfolding body_length stated_length same_text
get-length = refl

and-false : (b : Bool) → (b && false) ≡ false
and-false true = refl
and-false false = refl

post-silent : (n : ℕ) (digits : List ℕ) → wants_interim 1 (post_fields digits) n ≡ false
unfolding wants_interim expects_continue same_text
post-silent n digits = and-false (nat_lt 0 n)

get-silent : wants_interim 1 get_fields 0 ≡ false
unfolding wants_interim
get-silent = refl

post-closes : (digits : List ℕ) → closes_after 1 (post_fields digits) ≡ true
unfolding closes_after has_close same_text trim_ows
post-closes digits = refl

get-closes : closes_after 1 get_fields ≡ true
unfolding closes_after has_close same_text trim_ows
get-closes = refl

post-answered : is_head_method (codes "POST") ≡ false
unfolding is_head_method
post-answered = refl

get-answered : is_head_method (codes "GET") ≡ false
unfolding is_head_method
get-answered = refl

-- ---- the requests

-- a request that sends a body to a path is one request for what the path says
pub post-asks : (path body : List ℕ) (asks : Endpoint) → IsPath path → length body ≤ MAX_BODY_BYTES
    → endpoint_of (codes "POST") path ≡ Ok asks → IsOneRequest asks (post_request path body) body
post-asks path body asks is short asked =
    let n = length body in
    let fits : n < 2 ^ 64 = omega (arith, short) in
    let digits = decimal n in
    let are = digits-decimal n fits in
    let few = length-decimal-le 6 n (omega arith) (omega (arith, short)) fits in
    let fields = post-fields path digits (trim-digits digits are) in
    let read = length-read n digits (are_digits-decimal n fits) (value-decimal n fits) short in
    subst (λ (bytes : List ℕ). IsOneRequest asks bytes body) (post-is path body)
    (one-request (post_head path digits) body asks
    (record {
      head_is = post-head path digits is are;
      short = omega (arith, post-size path digits, is.short, few);
      few_fields = omega arith;
      states = ap (body_length (codes "POST") 1) fields ∙ post-length n digits read;
      silent = ap (λ (fs : List FieldText). wants_interim 1 fs n) fields ∙ post-silent n digits;
      answered = post-answered;
      closes = ap (closes_after 1) fields ∙ post-closes digits;
      asked = asked;
    }))

-- a request for what a path shows is one request for what the path says
pub get-asks : (path : List ℕ) (asks : Endpoint) → IsPath path → endpoint_of (codes "GET") path ≡ Ok asks
    → IsOneRequest asks (get_request path) []
get-asks path asks is asked =
    let fields = get-fields path in
    subst (λ (bytes : List ℕ). IsOneRequest asks bytes []) (get-is path)
    (one-request (get_head path) [] asks
    (record {
      head_is = get-head path is;
      short = omega (arith, get-size path, is.short);
      few_fields = omega arith;
      states = ap (body_length (codes "GET") 1) fields ∙ get-length;
      silent = ap (λ (fs : List FieldText). wants_interim 1 fs 0) fields ∙ get-silent;
      answered = get-answered;
      closes = ap (closes_after 1) fields ∙ get-closes;
      asked = asked;
    }))
