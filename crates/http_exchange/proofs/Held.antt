-- What is held of the bytes that were taken, and what they come to.
use Rattle.std.proofs.Common.{◌≡◌, ◌+◌, ◌<◌, ◌≤◌, ◌↔◌, ℕ, Bool, true, false, List, [], ◌++◌, ◌-◌, length, take, drop, slice_range, Result, IfOk, IfErr, OnOk, Ok, Err, sym, ap, subst, ◌∙◌, inl, inr, append_assoc, append-nil, length-append, length-drop, arith}
use Rattle.http_exchange.specs.Reading.{IsUnfinished, Says}
use Rattle.http_exchange.specs.Whole.{IsWhole}
use Rattle.http_exchange.specs.declared.progress.ResponseProgress.TheVariants as progress
use Rattle.http_exchange.specs.declared.progress.Response.{Response}
use Rattle.link_io.specs.declared.source.TheConstants.{PIECE}
use Rattle.std.proofs.lemmas.List.{length-take-le, take-append-drop}
use Rattle.http_exchange.specs.Received.{IsHeld, IsOver, IsTaken, ReceivedBytes, TakesUntil}
use Rattle.http_exchange.specs.Responses.{ComesTo, HasJustCome, HasNone, IsBroken}
use Rattle.http_exchange.specs.declared.response.NoResponse.{NoResponse}
use Rattle.http_exchange.specs.declared.response.NoResponse.TheVariants.{Broken, Failed, Memory}
use Rattle.http_exchange.specs.declared.response.Response as made

-- a response at the front is the same in both lists
same-now : (bytes : List ℕ) (r : ReceivedBytes) → IsHeld bytes r → (status : ℕ) (body : List ℕ) → IsWhole bytes status body ↔ IsWhole r.held status body
same-now bytes r held status body =
    subst (λ (l : List ℕ). IsWhole l status body ↔ IsWhole r.held status body) (append-nil bytes)
    (subst (λ (l : List ℕ). IsWhole (bytes ++ []) status body ↔ IsWhole l status body) (append-nil r.held)
    (held.same [] status body))

-- more is taken
pub held-on : (bytes : List ℕ) (r s : ReceivedBytes) (piece : List ℕ) → IsHeld bytes r → IsTaken r s piece → IsHeld (bytes ++ piece) s
held-on bytes r s piece held taken = record {
  taken =
      let before : r.taken ≡ length bytes = held.taken in
      let now : s.taken ≡ r.taken + length piece = taken.taken in
      let both : length (bytes ++ piece) ≡ length bytes + length piece = length-append bytes piece in
      omega (arith, before, now, both);
  same = λ more status body.
      subst (λ (l : List ℕ). IsWhole l status body ↔ IsWhole (s.held ++ more) status body) (sym (append_assoc bytes piece more))
      (subst (λ (l : List ℕ). IsWhole (bytes ++ (piece ++ more)) status body ↔ IsWhole l status body)
      (sym (append_assoc r.held piece more) ∙ ap (λ (l : List ℕ). l ++ more) (sym taken.held))
      (held.same (piece ++ more) status body));
}

pub comes-whole : (bytes : List ℕ) (r : ReceivedBytes) (found : Response) → IsHeld bytes r → Says r.held (progress.Whole found) →
    IsWhole bytes found.status (slice_range r.held found.body found.end)
comes-whole bytes r found held says =
    (same-now bytes r held found.status (slice_range r.held found.body found.end)).1
    (subst (λ (l : List ℕ). IsWhole l found.status (slice_range r.held found.body found.end)) (append-nil r.held) (says.2 []))

pub comes-never : (bytes : List ℕ) (r : ReceivedBytes) (ended : Bool) → IsHeld bytes r → Says r.held progress.Never → IsBroken bytes ended
comes-never bytes r ended held says = record {
  none = λ status body whole.
      says [] status body
      (subst (λ (l : List ℕ). IsWhole l status body) (sym (append-nil r.held)) ((same-now bytes r held status body).0 whole));
  over = inr (λ more status body whole. says more status body ((held.same more status body).0 whole));
}

-- fewer bytes are held than a response needs
none-yet : (bytes : List ℕ) (r s : ReceivedBytes) (piece : List ℕ) (size : ℕ) → IsHeld bytes r → IsUnfinished r.held size →
    IsTaken r s piece → length s.held < size → HasNone (bytes ++ piece)
none-yet bytes r s piece size held waits taken few status body whole =
    let now : length s.held ≡ length (r.held ++ piece) = ap length taken.held in
    let both : length (r.held ++ piece) ≡ length r.held + length piece = length-append r.held piece in
    waits.none piece status body (omega (arith, now, both, few)) ((held.same piece status body).0 whole)

pub comes-short : (bytes : List ℕ) (r s : ReceivedBytes) (piece : List ℕ) (size : ℕ) (ended : Bool) → IsHeld bytes r →
    IsUnfinished r.held size → TakesUntil size r s piece ended (Ok false) → IsBroken (bytes ++ piece) ended
comes-short bytes r s piece size ended held waits takes = record {
  none = none-yet bytes r s piece size held waits takes.0 takes.1;
  over = inl (subst (IsOver ended) (held-on bytes r s piece held takes.0).taken takes.2);
}

pub comes-fault : (bytes : List ℕ) (r s : ReceivedBytes) (piece : List ℕ) (size : ℕ) (ended : Bool) (f : NoResponse) →
    IsHeld bytes r → IsUnfinished r.held size → TakesUntil size r s piece ended (Err f) → ComesTo (bytes ++ piece) ended (Err f)
comes-fault bytes r s piece size ended Failed held waits takes = none-yet bytes r s piece size held waits takes.0 takes.1
comes-fault bytes r s piece size ended Broken held waits takes = absurd takes
comes-fault bytes r s piece size ended Memory held waits takes = tt

pub held-until : (bytes : List ℕ) (r s : ReceivedBytes) (piece : List ℕ) (size : ℕ) (ended : Bool) → IsHeld bytes r →
    TakesUntil size r s piece ended (Ok true) → IsHeld (bytes ++ piece) s
held-until bytes r s piece size ended held takes = held-on bytes r s piece held takes.0

pub comes-made : (bytes : List ℕ) (ended : Bool) (result : Result made.Response NoResponse) (status : ℕ) (body : List ℕ) →
    IfOk result (λ response. response.status ≡ status) → IfOk result (λ response. response.body ≡ body) →
    IfErr result (λ none. none ≡ Memory) → IsWhole bytes status body → ComesTo bytes ended result
comes-made bytes ended (Ok response) status body status_is body_is short whole =
    subst (λ (n : ℕ). IsWhole bytes n response.body) (sym status_is)
    (subst (λ (l : List ℕ). IsWhole bytes status l) (sym body_is) whole)
comes-made bytes ended (Err none) status body status_is body_is short whole =
    subst (λ (x : NoResponse). ComesTo bytes ended (Err x)) (sym short) tt

-- the last piece that was taken made a response whole
pub just-until : (bytes : List ℕ) (r s : ReceivedBytes) (piece : List ℕ) (size : ℕ) (ended : Bool) → IsHeld bytes r →
    IsUnfinished r.held size → TakesUntil size r s piece ended (Ok true) →
    (length r.held < size → length s.held < size + PIECE) → HasJustCome (bytes ++ piece)
just-until bytes r s piece size ended held waits takes most =
    let ahead = waits.ahead in
    let few : length s.held < size + PIECE = most ahead in
    let all : length s.held ≡ length (r.held ++ piece) = ap length takes.0.held in
    let both : length (r.held ++ piece) ≡ length r.held + length piece = length-append r.held piece in
    let n : ℕ = size - 1 - length r.held in
    let n_is : n + length r.held + 1 ≡ size = omega (arith, ahead) in
    let within : n ≤ length piece = omega (arith, n_is, all, both, takes.1) in
    let front : length (take n piece) ≡ n = length-take-le n piece within in
    let rest : length (drop n piece) ≡ length piece - n = length-drop n piece in
    record {
      before = bytes ++ take n piece;
      last = drop n piece;
      is = ap (λ (l : List ℕ). bytes ++ l) (sym (take-append-drop n piece)) ∙ sym (append_assoc bytes (take n piece) (drop n piece));
      few = omega (arith, rest, few, all, both, n_is, within);
      none = inr (λ status body whole.
          waits.none (take n piece) status body (omega (arith, front, n_is)) ((held.same (take n piece) status body).0 whole));
    }

-- what holds anyway holds where a call succeeded
pub on_ok : {A E P : Type 0} (result : Result A E) → P → OnOk result P
on_ok (Ok a) p = p
on_ok (Err e) p = tt
