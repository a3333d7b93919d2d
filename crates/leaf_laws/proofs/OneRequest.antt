-- A head and its body, alone on a connection.
use Rattle.std.proofs.Common.{◌≡◌, ◌+◌, ◌-◌, ◌≤◌, ℕ, inl, true, false, List, ◌++◌, length, take, drop, Ok, refl, sym}
use Rattle.std.proofs.Common.{ap, ◌∙◌, arith, length-append}
use Rattle.std.proofs.Math.Seq.{take-append-add}
use Rattle.std.proofs.lemmas.List.{drop_at, take_all}
use Rattle.httparse.specs.Grammar.{IsRequestHead, RequestHead, print_request}
use Rattle.http_requests.specs.Fields.{fields_of}
use Rattle.http_requests.specs.Framing.{closes_after, is_head_method, wants_interim}
use Rattle.http_requests.specs.Items.{HasHead, body_of, head_size, item_of}
use Rattle.http_requests.proofs.ItemLaws.{item_of-whole, whole_item}
use Rattle.http_requests.specs.Routes.{endpoint_of}
use Rattle.http_words.specs.declared.endpoint.Endpoint.{Endpoint}
use Rattle.http_words.specs.declared.limits.TheConstants.{MAX_FIELDS, MAX_HEAD_BYTES}
use Rattle.leaf_laws.specs.Sent.{IsOneRequest, sent_item}

-- a head within the limits, with a body as long as it states, which asks for this on a connection that closes
pub record Asks (head : RequestHead) (body : List ℕ) (asks : Endpoint) : Type 0 where
  pub head_is : IsRequestHead head
  pub short : head_size head ≤ MAX_HEAD_BYTES
  pub few_fields : length head.fields ≤ MAX_FIELDS
  pub states : body_of head ≡ Ok (length body)
  pub silent : wants_interim head.minor (fields_of head) (length body) ≡ false
  pub answered : is_head_method head.method ≡ false
  pub closes : closes_after head.minor (fields_of head) ≡ true
  pub asked : endpoint_of head.method head.target ≡ Ok asks

-- the head stands at the front
has-head : (head : RequestHead) (body : List ℕ) → IsRequestHead head → head_size head ≤ MAX_HEAD_BYTES
    → length head.fields ≤ MAX_FIELDS → HasHead (print_request head ++ body) head
has-head head body is short few =
    let room = MAX_HEAD_BYTES - head_size head in
    let sum : MAX_HEAD_BYTES ≡ length (print_request head) + room = omega (arith, short) in
    record {
      rest = take room body;
      reads = (
        is,
        ap (λ (n : ℕ). take n (print_request head ++ body)) sum ∙ take-append-add (print_request head) body room,
      );
      few_fields = few;
    }

item-sent : (head : RequestHead) (body : List ℕ) (asks : Endpoint) → Asks head body asks
    → item_of head body ≡ sent_item asks (print_request head ++ body) body
unfolding whole_item
item-sent head body asks all =
    let whole = item_of-whole head (length body) body all.states (omega arith) in
    let size : head_size head + length body ≡ length (print_request head ++ body) =
    sym (length-append (print_request head) body) in
    whole
    ∙ (λ i. record {
      interim = all.silent i;
      withheld = all.answered i;
      closes = all.closes i;
      asks = all.asked i;
      body = take_all (length body) body (omega arith) i;
      size = size i;
    })

-- such a head and its body are one request, and nothing else
pub one-request : (head : RequestHead) (body : List ℕ) (asks : Endpoint) → Asks head body asks
    → IsOneRequest asks (print_request head ++ body) body
one-request head body asks all =
    let bytes = print_request head ++ body in
    let left : drop (head_size head) bytes ≡ body = drop_at (print_request head) body (head_size head) refl in (
      inl
          (record {
            head = head;
            has = has-head head body all.head_is all.short all.few_fields;
            item_is = sym (ap (item_of head) left ∙ item-sent head body asks all);
          }),
      inl (refl, refl, refl),
    )
