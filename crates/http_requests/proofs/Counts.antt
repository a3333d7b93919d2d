-- How many bytes are looked at.
use Rattle.std.proofs.Common.{ℕ, ◌≡◌, ◌<◌, ◌≤◌, true, false, List, [], ◌++◌, take, drop, sym, ap, ◌∙◌, append-nil, arith, ⊎_elim}
use Rattle.std.proofs.lemmas.Bool.{false≢true, cases_Bool, cases_lt}
use Rattle.std.proofs.lemmas.List.{take-append-le, take_all, take-append-drop, take-take}
use Rattle.httparse.specs.Grammar.{RequestHead, print_request}
use Rattle.http_requests.specs.Costs.{head_room}
use Rattle.http_requests.specs.Items.{HasHead, head_size}
use Rattle.http_requests.specs.Places.{is_end, place_of}
use Rattle.http_requests.specs.Readings.{IsBodyAwaited}
use Rattle.http_requests.specs.declared.next.Next.TheVariants as next
use Rattle.http_requests.specs.declared.request.Request.{Request}
use Rattle.http_words.specs.declared.limits.TheConstants.{MAX_HEAD_BYTES}
use Rattle.http_requests.proofs.Heads.{HasHead-size, head_size-some}
use Rattle.http_requests.proofs.Places.{ended-append, head-ends}

-- where no head ends, none has ended before
pub earlier-open : (bytes : List ℕ) (m n : ℕ) → n ≤ m → is_end (place_of (take m bytes)) ≡ false → is_end (place_of (take n bytes)) ≡ false
earlier-open bytes m n before still =
    let front = take m bytes in
    ⊎_elim
    (λ (there : is_end (place_of (take n bytes)) ≡ true).
    let here = ap (λ (l : List ℕ). is_end (place_of l)) (take-take n m bytes before) ∙ there in
    let reached = ended-append (take n front) (drop n front) here in
    absurd (false≢true (sym still ∙ sym (ap (λ (l : List ℕ). is_end (place_of l)) (take-append-drop n front)) ∙ reached)))
    (λ (not_yet : is_end (place_of (take n bytes)) ≡ false). not_yet)
    (cases_Bool (is_end (place_of (take n bytes))))

-- the bytes up to where a head may end first are no more than those of the head
pub first-head : (held : List ℕ) (count : ℕ) (head : RequestHead) → HasHead held head
    → ((n : ℕ) → n < count → is_end (place_of (take n held)) ≡ false) → count ≤ head_size head
first-head held count head has first =
    let bytes = print_request head in
    let size = head_size head in
    let front : take size held ≡ bytes ++ [] =
    sym (take-take size MAX_HEAD_BYTES held (HasHead-size held head has).0)
    ∙ ap (take size) has.reads.1
    ∙ take-append-le size bytes has.rest (omega arith)
    ∙ take_all size bytes (omega arith)
    ∙ sym (append-nil bytes)
    in
    ⊎_elim
    (λ (short : size < count).
    absurd (false≢true (sym (first size short) ∙ head-ends (take size held) head [] (has.reads.0, front))))
    (λ (long : count ≤ size). long)
    (cases_lt size count)

-- the head of an awaited body is held, and has bytes
pub awaited-room : (request : Request) (held : List ℕ) → IsBodyAwaited request held → (request.body ≤ head_room held) × (0 < request.size)
awaited-room request held is =
    let whole = is.becomes.whole in
    let within = HasHead-size held is.head is.has in
    (omega (arith, whole.body, within.0, within.1), omega (arith, whole.size, head_size-some is.head))
