-- The head at the front of some bytes: it is one, and it stays whatever follows.
use Rattle.std.proofs.Common.{ℕ, ◌≡◌, ◌+◌, ◌-◌, ◌<◌, ◌≤◌, true, false, List, [], ◌∷◌, ◌++◌, length, take, drop, sym, ap, subst, ◌∙◌, append-nil, length-append, arith, ⊎_elim}
use Rattle.std.specs.List.{list_all}
use Rattle.std.proofs.Math.Seq.{take-append-add}
use Rattle.std.proofs.lemmas.Bool.{cases_lt, and_parts, false≢true}
use Rattle.std.proofs.lemmas.List.{take-append-le, take_all, take-append-drop, length-take}
use Rattle.std.proofs.lemmas.List.Folds.{list_all-append}
use Rattle.httparse.specs.Grammar.{RequestHead, ReadsRequest, print_request, print_blank, print_end, print_section, print_version}
use Rattle.httparse.proofs.GrammarLemmas.{request_unique, ReadsRequest-append, print_request-append}
use Rattle.http_requests.specs.Items.{HasHead, IsIdle, head_size, is_line_end}
use Rattle.http_words.specs.declared.limits.TheConstants.{MAX_HEAD_BYTES}

-- the first n of two lists begin with the first n of the first
pub take-append-some : (n : ℕ) (a b : List ℕ) → (rest : List ℕ) × (take n (a ++ b) ≡ take n a ++ rest)
take-append-some n a b =
    ⊎_elim
    (λ (longer : length a < n).
    let more = n - length a in
    let sum : n ≡ length a + more = omega arith in (
      take more b,
      ap (λ (m : ℕ). take m (a ++ b)) sum ∙ take-append-add a b more ∙ ap (λ (l : List ℕ). l ++ take more b) (sym (take_all n a (omega arith))),
    ))
    (λ (within : n ≤ length a). ([], take-append-le n a b within ∙ sym (append-nil (take n a))))
    (cases_lt (length a) n)

pub HasHead-append : (bytes more : List ℕ) (head : RequestHead) → HasHead bytes head → HasHead (bytes ++ more) head
HasHead-append bytes more head has =
    let cut = take-append-some MAX_HEAD_BYTES bytes more in
    let rest = has.rest ++ cut.0 in
    record {
      rest = rest;
      reads = subst (λ (l : List ℕ). ReadsRequest l head rest) (sym cut.1)
          (ReadsRequest-append (take MAX_HEAD_BYTES bytes) head has.rest cut.0 has.reads);
      few_fields = has.few_fields;
    }

pub HasHead-unique : (bytes : List ℕ) (a b : RequestHead) → HasHead bytes a → HasHead bytes b → a ≡ b
HasHead-unique bytes a b x y = (request_unique (take MAX_HEAD_BYTES bytes) a b x.rest y.rest x.reads y.reads).0

-- a head lies in the bytes, and isn't too long
pub HasHead-size : (bytes : List ℕ) (head : RequestHead) → HasHead bytes head → (head_size head ≤ MAX_HEAD_BYTES) × (head_size head ≤ length bytes)
HasHead-size bytes head has =
    let same = ap length has.reads.1 in
    let cut = length-take MAX_HEAD_BYTES bytes in
    let parts = length-append (print_request head) has.rest in
    (omega (arith, same, cut, parts), omega (arith, same, cut, parts))

-- a head has a byte or more
pub head_size-some : (head : RequestHead) → 0 < head_size head
head_size-some head =
    let whole = ap length (print_request-append head []) in
    let method = head.target ++ 32 ∷ (print_version head.minor ++ (print_end head.line_end ++ (print_section head.fields head.last ++ []))) in
    let front = length-append (print_blank head.blank) (head.method ++ 32 ∷ method) in
    omega (arith, whole, front, length-append head.method (32 ∷ method), length-append (print_request head) [])

-- a head holds a space, which ends no line
pub HasHead-busy : (bytes : List ℕ) (head : RequestHead) → HasHead bytes head → list_all is_line_end bytes ≡ true → ⊥
HasHead-busy bytes head has blank =
    let front : list_all is_line_end (take MAX_HEAD_BYTES bytes) ≡ true =
    (and_parts _ _
    (sym (list_all-append is_line_end (take MAX_HEAD_BYTES bytes) (drop MAX_HEAD_BYTES bytes))
    ∙ ap (list_all is_line_end) (take-append-drop MAX_HEAD_BYTES bytes) ∙ blank)).0
    in
    let pieces = has.reads.1 ∙ print_request-append head has.rest in
    let behind = (and_parts _ _ (sym (list_all-append is_line_end (print_blank head.blank) _) ∙ ap (list_all is_line_end) (sym pieces) ∙ front)).1 in
    let spaced = (and_parts _ _ (sym (list_all-append is_line_end head.method _) ∙ behind)).1 in
    false≢true spaced

-- bytes that hold more than line ends still do, whatever follows
pub busy-append : (bytes more : List ℕ) → list_all is_line_end bytes ≡ false → ¬ (IsIdle (bytes ++ more))
busy-append bytes more busy idle =
    false≢true (sym busy ∙ (and_parts _ _ (sym (list_all-append is_line_end bytes more) ∙ idle.blank)).0)
