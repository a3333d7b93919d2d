-- What the reader may say of the bytes held: each answer with what it rests on.
use Rattle.std.proofs.Common.{ℕ, ◌≡◌, ◌+◌, ◌-◌, ◌<◌, ◌≤◌, inl, inr, Bool, true, false, List, ◌++◌, length, take, drop, refl, sym, ap, subst, ◌∙◌, Ok, Err, append-nil, length-append, length-drop, arith}
use Rattle.std.specs.List.{slice_range}
use Rattle.std.proofs.lemmas.List.Edits.{between_none}
use Rattle.httparse.specs.Grammar.{RequestHead}
use Rattle.http_requests.specs.Fields.{fields_of}
use Rattle.http_requests.specs.Framing.{is_head_method, wants_interim}
use Rattle.http_requests.specs.Items.{Item, IsIdle, HasHead, IsNext, head_size, body_of, refused}
use Rattle.http_requests.specs.Next.{HasNoHeadFor, IsNextFor, MayFollow, item_in, refusal}
use Rattle.http_requests.specs.Readings.{IsWholeOf}
use Rattle.http_words.specs.declared.fault.Fault.{Fault}
use Rattle.http_words.specs.declared.fault.Fault.TheVariants as fault
use Rattle.http_words.specs.declared.limits.TheConstants.{MAX_HEAD_BYTES}
use Rattle.http_requests.specs.declared.request.Request.{Request}
use Rattle.http_requests.proofs.Heads.{HasHead-append, HasHead-size}
use Rattle.http_requests.proofs.ItemLaws.{whole_item, item_of-refused, item_of-cut, whole-append}

refusal-item : (bytes : List ℕ) (interim withheld : Bool) (f : Fault) → item_in bytes (refusal interim withheld f) ≡ refused interim withheld f
refusal-item bytes interim withheld f =
    let made : List ℕ → Item = λ body. record { interim = interim; withheld = withheld; closes = true; asks = Err f; body = body; size = 0 } in
    ap made (between_none bytes 0)

-- a head whose fields are refused
pub refused-says : (ended : Bool) (bytes : List ℕ) (head : RequestHead) (f : Fault) (withheld : Bool) → HasHead bytes head → body_of head ≡ Err f
    → withheld ≡ is_head_method head.method → IsNextFor ended bytes (refusal false withheld f)
refused-says ended bytes head f withheld has is held = record {
  body = omega arith;
  within = omega arith;
  next = λ more _. inl (record {
    head = head;
    has = HasHead-append bytes more head has;
    item_is = refusal-item bytes false withheld f ∙ ap (λ (b : Bool). refused false b f) held
        ∙ sym (item_of-refused head (drop (head_size head) (bytes ++ more)) f is);
  });
}

pub nothing-follows : (bytes more : List ℕ) → MayFollow true more → bytes ++ more ≡ bytes
nothing-follows bytes more follows = ap (λ (m : List ℕ). bytes ++ m) (follows refl) ∙ append-nil bytes

-- a body that the end of the input cuts off
pub cut-says : (bytes : List ℕ) (head : RequestHead) (len : ℕ) (interim withheld : Bool) → HasHead bytes head → body_of head ≡ Ok len
    → length bytes < head_size head + len → interim ≡ wants_interim head.minor (fields_of head) len → withheld ≡ is_head_method head.method
    → IsNextFor true bytes (refusal interim withheld fault.BadRequest)
cut-says bytes head len interim withheld has is short asks held = record {
  body = omega arith;
  within = omega arith;
  next = λ more follows.
      let size = head_size head in
      let item = item_in bytes (refusal interim withheld fault.BadRequest) in
      let lacks : length (drop size bytes) < len = omega (arith, length-drop size bytes, (HasHead-size bytes head has).1) in
      let here : IsNext bytes item = inl (record {
        head = head;
        has = has;
        item_is = refusal-item bytes interim withheld fault.BadRequest ∙ (λ k. refused (asks k) (held k) fault.BadRequest)
            ∙ sym (item_of-cut head len (drop size bytes) is lacks);
      }) in
      subst (λ (l : List ℕ). IsNext l item) (sym (nothing-follows bytes more follows)) here;
}

whole-item : (bytes : List ℕ) (request : Request) (head : RequestHead) (len : ℕ) → IsWholeOf request head len
    → item_in bytes request ≡ whole_item head len (drop (head_size head) bytes)
unfolding whole_item
whole-item bytes request head len w =
    let at = head_size head in
    let count : at + len - at ≡ len = omega arith in
    let body : slice_range bytes request.body request.size ≡ take len (drop at bytes) =
    (λ k. take (w.size k - w.body k) (drop (w.body k) bytes)) ∙ ap (λ (n : ℕ). take n (drop at bytes)) count
    in
    λ k. record { interim = w.interim k; withheld = w.withheld k; closes = w.closes k; asks = w.asks k; body = body k; size = w.size k }

-- a whole request
pub whole-says : (ended : Bool) (bytes : List ℕ) (head : RequestHead) (len : ℕ) (request : Request) → HasHead bytes head → body_of head ≡ Ok len
    → head_size head + len ≤ length bytes → IsWholeOf request head len → IsNextFor ended bytes request
whole-says ended bytes head len request has is room w = record {
  body = omega (arith, w.body, w.size);
  within = omega (arith, w.size, room);
  next = λ more _. inl (record {
    head = head;
    has = HasHead-append bytes more head has;
    item_is = whole-item bytes request head len w ∙ sym (whole-append bytes more head len has is room);
  });
}

-- bytes that begin with no head, whatever follows
pub bad-says : (ended : Bool) (bytes : List ℕ) → HasNoHeadFor ended bytes → ((more : List ℕ) → ¬ (IsIdle (bytes ++ more)))
    → IsNextFor ended bytes (refusal false false fault.BadRequest)
bad-says ended bytes none busy = record {
  body = omega arith;
  within = omega arith;
  next = λ more follows. inr (record {
    busy = busy more;
    none = none more follows;
    item_is = refusal-item bytes false false fault.BadRequest;
  });
}

pub full-busy : (bytes : List ℕ) → MAX_HEAD_BYTES ≤ length bytes → (more : List ℕ) → ¬ (IsIdle (bytes ++ more))
full-busy bytes full more idle = omega (arith, full, idle.few, length-append bytes more)
