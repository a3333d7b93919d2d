-- How many items there are, how much is left to do, and why the serving ends.
use Rattle.std.proofs.Common.{ℕ, ◌≡◌, ◌≤◌, ◌<◌, ◌+◌, ◌-◌, ◌*◌, ◌==◌, ◌||◌, inl, inr, Bool, true, false, if◌then◌else◌, List, [], ◌∷◌, length, drop, Option, refl, sym, ap, ◌∙◌, subst, append-nil, length-append, length-drop, arith}
use Rattle.std.proofs.lemmas.Bool.Decides.{nat_tests}
use Rattle.connection_laws.specs.Progress.{Progress}
use Rattle.connection_laws.specs.declared.served.Why.{Why}
use Rattle.connection_laws.specs.declared.served.Why.TheVariants as whys
use Rattle.connection_laws.specs.Moments.{Given}
use Rattle.http_requests.specs.Items.{Item, Items, End, closed}
use Rattle.http_requests.proofs.ItemLaws.{open-append, open-some}
use Rattle.link_io.specs.declared.source.TheConstants.{INPUT_LIMIT}
use Rattle.farm_http.specs.Callers.{CallerState}
use Rattle.farm_http.specs.Connection.{work_left}
use Rattle.farm_http.specs.Fronts.{AreAnswered, AreClosing, AreOpen, Halves}
use Rattle.farm_http.specs.Received.{IsTaken, ReceivedState, is_complete}
use Rattle.farm_http.specs.declared.front.Answered.{Answered}

items-count : (bytes : List ℕ) (items : List Item) (end : End) → Items bytes items end → length items ≤ length bytes + 1
items-count bytes [] end x = omega arith
items-count bytes (item ∷ items) end (p, inl x) = omega (arith, ap (λ (l : List Item). length l) x.1)
items-count bytes (item ∷ items) end (p, inr x) =
    let some = open-some bytes item p x.0 in
    let within = (open-append bytes [] item p x.0).1 in
    let rest = items-count (drop item.size bytes) items end x.1 in
    omega (arith, some, within, rest, length-drop item.size bytes)

closes-count : (b complete : Bool) (held : List ℕ) (items : List Item) (size : ℕ)
    → (b ≡ true → AreClosing complete held items)
    → (b ≡ false → AreOpen held items size) → length items ≤ length held + 1
closes-count true complete held items size one other =
    items-count held items closed (subst (λ (l : List ℕ). Items l items closed) (append-nil held)
    (one refl [] (λ e. refl)))
closes-count false complete held items size one other =
    let o = other refl in let few = o.few in let within = o.within in omega arith

-- what was answered at once is not more than what is held, but for one
pub answered-count : (gives : Given → Type 0) (c : Progress) (complete : Bool) (held : List ℕ) (out : Bool)
    (put : List ℕ) (link : Halves) (old new : CallerState) (done : Answered)
    → AreAnswered gives c complete held out put link old new done
    → done.requests ≤ length held + 1
answered-count gives c complete held out put link old new done a =
    let all = closes-count done.closes complete held a.items done.size a.front.0 a.front.1 in
    let same = a.requests in omega arith

fewer-taken : (limit t u h k n : ℕ) (b : Bool) → u ≡ t + n → u ≤ limit → k ≡ h + n → (b ≡ false → 0 < n)
    → 2 * (limit - u) + k + (if b then 0 else 1) < 2 * (limit - t) + h + 1
fewer-taken limit t u h k n true more most longer some = omega arith
fewer-taken limit t u h k n false more most longer some = let one = some refl in omega arith

-- a take leaves less to do, and so does an answer
pub work-takes : (r s : ReceivedState) (before now : Option (List ℕ)) (over : Bool) → IsTaken r s before now over
    → r.ended ≡ false
    → work_left s < work_left r
work-takes r s before now over t open_ =
    let longer : length s.held ≡ length r.held + length t.piece =
    ap (λ (l : List ℕ). length l) t.held ∙ length-append r.held t.piece in
    subst (λ (b : Bool). work_left s < 2 * (INPUT_LIMIT - r.taken) + length r.held + (if b then 0 else 1)) (sym open_)
    (fewer-taken INPUT_LIMIT r.taken s.taken (length r.held) (length s.held) (length t.piece) s.ended t.size t.most
    longer t.some)

less-by : (a b h k size : ℕ) → 0 < size → size ≤ h → k ≡ h - size → a + k + b < a + h + b
less-by a b h k size some within same = omega arith

pub work-answers : (r s : ReceivedState) (size : ℕ) → 0 < size → size ≤ length r.held
    → s ≡ record r { held = drop size r.held; interim = false } → work_left s < work_left r
work-answers r s size some within same =
    subst (λ (x : ReceivedState). work_left x < work_left r) (sym same)
    (less-by (2 * (INPUT_LIMIT - r.taken)) (if r.ended then 0 else 1) (length r.held) (length (drop size r.held)) size
    some within
    (length-drop size r.held))

first_by : (a b : Bool) → (a || b) ≡ false → a ≡ false
first_by false b is = refl
first_by true b is = is

-- no more is taken of what is complete
pub open-ended : (r : ReceivedState) → is_complete r ≡ false → r.ended ≡ false
open-ended r is = first_by r.ended (r.taken == INPUT_LIMIT) is

why_at : (b : Bool) (n limit : ℕ) (why : Why) → (n == limit) ≡ b → n ≤ limit → (n ≡ limit → why ≡ whys.Limit)
    → (n < limit → why ≡ whys.End) → why ≡ (if b then whys.Limit else whys.End)
why_at true n limit why is most one other = one (grind (arith, nat_tests))
why_at false n limit why is most one other = other (grind (arith, nat_tests))

pub why_by : (n m limit : ℕ) (why : Why) → n ≡ m → n ≤ limit → (n ≡ limit → why ≡ whys.Limit)
    → (n < limit → why ≡ whys.End)
    → why ≡ (if m == limit then whys.Limit else whys.End)
why_by n m limit why same most one other =
    subst (λ (k : ℕ). why ≡ (if k == limit then whys.Limit else whys.End)) same
    (why_at (n == limit) n limit why refl most one other)
