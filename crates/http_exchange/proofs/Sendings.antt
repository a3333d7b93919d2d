-- From tries one after the other to what sending a request comes to.
use Rattle.std.proofs.Common.{◌≡◌, ◌<◌, ◌≤◌, ◌+◌, ⊎_elim, ℕ, List, [], ◌∷◌, ◌++◌, length, Option, Result, Ok, Err, refl, sym, ap, subst, ◌∙◌, inl, inr, arith}
use Rattle.std.proofs.Math.Nat.{eq-or-lt_of_le}
use Rattle.std.proofs.lemmas.List.{length-append}
use Rattle.common_types.specs.Counts.{Rose}
use Rattle.common_types.specs.declared.memory.Memory.{Memory}
use Rattle.link_io.specs.Events.{NetworkEvent}
use Rattle.http_exchange.specs.Exchanges.{AnsweredBy, Exchange, IsPut, exchange_events, talked, tell_all, unconnected}
use Rattle.http_exchange.specs.Sending.{AreLost, IsLost, IsTry, Sends, SendsOnce, Try, sent_of, told_tries, told_try}
use Rattle.http_exchange.specs.declared.connection.Exchanged.{Exchanged}
use Rattle.http_exchange.specs.declared.connection.Exchanged.TheVariants as came
use Rattle.http_exchange.specs.declared.sending.Sent.{Sent}
use Rattle.http_exchange.specs.declared.sending.TheConstants.{MAX_TRIES}

-- what was put in a try that was answered
pub put-tried : (request : List ℕ) (x : Exchange) (answer : Exchanged) → AnsweredBy request x (Ok answer)
    → IsPut request x
put-tried request unconnected answer by = tt
put-tried request (talked t) (came.Answered response) by = inl by.1
put-tried request (talked t) came.Failed by = by.1
put-tried request (talked t) came.Broken by = inl by.1

-- one try more
lost-on : (request : List ℕ) (lost : List Try) (t : Try) → AreLost request lost → IsTry request t
    → IsLost (sent_of t.answer) → AreLost request (lost ++ t ∷ [])
lost-on request [] t are try is = (try, is, tt)
lost-on request (x ∷ xs) t are try is = (are.0, are.1, lost-on request xs t are.2 try is)

told-tries-on : (lost : List Try) (t : Try) (told : Option (List NetworkEvent))
    → told_tries (lost ++ t ∷ []) told ≡ told_try t (told_tries lost told)
told-tries-on [] t told = refl
told-tries-on (x ∷ xs) t told = told-tries-on xs t (told_try x told)

-- so many tries were made, and lost
pub record HasLost (request : List ℕ) (count : ℕ) (before now : Option (List NetworkEvent)) : Type 0 where
  pub lost : List Try
  pub are : AreLost request lost
  pub many : length lost ≡ count
  pub tells : now ≡ told_tries lost before

pub lost-none : (request : List ℕ) (told : Option (List NetworkEvent)) → HasLost request 0 told told
lost-none request told = record { lost = []; are = tt; many = refl; tells = refl }

pub lost-more : (request : List ℕ) (count : ℕ) (before now later : Option (List NetworkEvent)) (sent : Sent)
    → HasLost request count before now → SendsOnce request now later (Ok sent) → IsLost sent
    → HasLost request (count + 1) before later
lost-more request count before now later sent so_far once is =
    let many = so_far.many in
    record {
      lost = so_far.lost ++ once.0 ∷ [];
      are = lost-on request so_far.lost once.0 so_far.are once.2 (subst IsLost once.3 is);
      many = omega (arith, length-append so_far.lost (once.0 ∷ []), many);
      tells = once.1 ∙ ap (λ (o : Option (List NetworkEvent)). told_try once.0 o) so_far.tells
          ∙ sym (told-tries-on so_far.lost once.0 before);
    }

-- the last try
pub sends-on : (request : List ℕ) (count : ℕ) (before now later : Option (List NetworkEvent))
    (result : Result Sent Memory) → HasLost request count before now → count < MAX_TRIES
    → SendsOnce request now later result
    → ((sent : Sent) → result ≡ Ok sent → IsLost sent → count + 1 ≡ MAX_TRIES) → Sends request before later result
sends-on request count before now later (Ok sent) so_far few once all =
    let many = so_far.many in
    record {
      lost = so_far.lost;
      last = once.0;
      were_lost = so_far.are;
      few = omega (arith, many, few);
      tells = once.1 ∙ ap (λ (o : Option (List NetworkEvent)). told_try once.0 o) so_far.tells;
      is_try = once.2;
      comes = once.3;
      all = λ is. let last = all sent refl is in omega (arith, many, last);
    }
sends-on request count before now later (Err memory) so_far few once all =
    let many = so_far.many in
    record {
      lost = so_far.lost;
      exchange = once.0;
      were_lost = so_far.are;
      few = omega (arith, many, few);
      tells = once.1 ∙ ap (λ (o : Option (List NetworkEvent)). tell_all (exchange_events once.0) o) so_far.tells;
      put = once.2;
    }

-- a count that rose later rose
pub rose-later : (first before now : ℕ) → first ≤ before → Rose before now → Rose first now
rose-later first before now low (inl rose) = inl (omega arith)
rose-later first before now low (inr stands) = ⊎_elim
    (λ same. inr (omega arith, stands.1))
    (λ below. inl (omega arith))
    (eq-or-lt_of_le low)
