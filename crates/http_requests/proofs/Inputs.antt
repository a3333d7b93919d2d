-- An input that is read to its end.
use Rattle.std.proofs.Common.{ℕ, ◌≡◌, ◌+◌, ◌-◌, ◌<◌, ◌≤◌, inl, true, false, List, [], ◌∷◌, ◌++◌, length, take, drop, refl, subst, append-nil, length-drop, arith}
use Rattle.std.proofs.lemmas.List.{drop-drop, take_all}
use Rattle.http_requests.specs.Items.{Item, Items, IsNext, IsIdle, End, ended, closed}
use Rattle.http_requests.specs.Next.{IsNextFor, item_in}
use Rattle.http_requests.specs.declared.request.Request.{Request}
use Rattle.http_requests.proofs.FrontLaws.{IsReadTo, read-all, read-more}
use Rattle.http_requests.proofs.ItemLaws.{open-some}

pub read-rest : (bytes : List ℕ) (from : ℕ) → take (length bytes - from) (drop from bytes) ≡ drop from bytes
read-rest bytes from = take_all (length bytes - from) (drop from bytes) (omega (arith, length-drop from bytes))

pub read-next : (bytes : List ℕ) (from : ℕ) (request : Request) → IsNextFor true (take (length bytes - from) (drop from bytes)) request
    → IsNext (drop from bytes) (item_in (drop from bytes) request)
read-next bytes from request is =
    let held = take (length bytes - from) (drop from bytes) in
    let here : IsNext (held ++ []) (item_in held request) = is.next [] (λ _. refl) in
    let alone = subst (λ (l : List ℕ). IsNext l (item_in held request)) (append-nil held) here in
    subst (λ (l : List ℕ). IsNext l (item_in l request)) (read-rest bytes from) alone

-- one request more
pub read-on : (bytes : List ℕ) (from : ℕ) (request : Request) → IsReadTo bytes (drop from bytes)
    → IsNextFor true (take (length bytes - from) (drop from bytes)) request → request.closes ≡ false → IsReadTo bytes (drop (from + request.size) bytes)
read-on bytes from request so_far is stays =
    let rest = drop from bytes in
    subst (IsReadTo bytes) (drop-drop request.size from bytes) (read-more bytes rest (item_in rest request) so_far (read-next bytes from request is) stays)

-- it takes a byte or more, and lies in the input
pub read-some : (bytes : List ℕ) (from : ℕ) (request : Request) → IsNextFor true (take (length bytes - from) (drop from bytes)) request
    → request.closes ≡ false → (0 < request.size) × (request.size ≤ length bytes - from)
read-some bytes from request is stays =
    let rest = drop from bytes in
    let within : request.size ≤ length rest = subst (λ (l : List ℕ). request.size ≤ length l) (read-rest bytes from) is.within in
    (open-some rest (item_in rest request) (read-next bytes from request is) stays, omega (arith, within, length-drop from bytes))

-- all items, where the request closes
pub read-closed : (bytes : List ℕ) (from : ℕ) (request : Request) → IsReadTo bytes (drop from bytes)
    → IsNextFor true (take (length bytes - from) (drop from bytes)) request → request.closes ≡ true → (all : List Item) × (last : End) × Items bytes all last
read-closed bytes from request so_far is shut =
    let rest = drop from bytes in
    let item = item_in rest request in
    read-all bytes rest (item ∷ []) closed so_far (read-next bytes from request is, inl (shut, refl, refl))

-- or nothing is left
pub read-ended : (bytes : List ℕ) (from : ℕ) → IsReadTo bytes (drop from bytes) → IsIdle (take (length bytes - from) (drop from bytes))
    → (all : List Item) × (last : End) × Items bytes all last
read-ended bytes from so_far idle =
    read-all bytes (drop from bytes) [] ended so_far (subst IsIdle (read-rest bytes from) idle, refl)
