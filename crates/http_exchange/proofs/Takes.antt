-- Takes one after the other.
use Rattle.std.proofs.Common.{◌≡◌, ◌+◌, ℕ, List, [], ◌++◌, length, Bool, Option, Err, ◌<◌, sym, ap, ◌∙◌, append_assoc, append-nil, length-append, arith}
use Rattle.std.specs.Io.KnownBytes.{append_known}
use Rattle.link_io.proofs.Told.{append_known-append, append_known-nil}
use Rattle.http_exchange.specs.Received.{IsTaken, ReceivedBytes, Takes, TakesUntil}
use Rattle.http_exchange.specs.declared.response.NoResponse.{NoResponse}
use Rattle.http_exchange.specs.declared.response.NoResponse.TheVariants.{Broken, Failed, Memory}

pub taken-on : (a b c : ReceivedBytes) (first second : List ℕ) → IsTaken a b first → IsTaken b c second → IsTaken a c (first ++ second)
taken-on a b c first second one two = record {
  held = two.held ∙ ap (λ (l : List ℕ). l ++ second) one.held ∙ append_assoc a.held first second;
  taken =
      let first_is : b.taken ≡ a.taken + length first = one.taken in
      let second_is : c.taken ≡ b.taken + length second = two.taken in
      let both : length (first ++ second) ≡ length first + length second = length-append first second in
      omega (arith, first_is, second_is, both);
}

pub known-on : (a b c : Option (List ℕ)) (first second : List ℕ) → b ≡ append_known a first → c ≡ append_known b second →
    c ≡ append_known a (first ++ second)
known-on a b c first second one two =
    two ∙ ap (λ (k : Option (List ℕ)). append_known k second) one ∙ append_known-append a first second

pub known-none : (a : Option (List ℕ)) → a ≡ append_known a []
known-none a = sym (append_known-nil a)

held-still : (b c : ReceivedBytes) (piece : List ℕ) → IsTaken b c piece → piece ≡ [] → c.held ≡ b.held
held-still b c piece taken none = taken.held ∙ ap (λ (l : List ℕ). b.held ++ l) none ∙ append-nil b.held

-- fewer bytes are held where no more came
still-few : (size : ℕ) (b c : ReceivedBytes) (piece : List ℕ) → IsTaken b c piece → piece ≡ [] → length b.held < size → length c.held < size
still-few size b c piece taken none few = let same : length c.held ≡ length b.held = ap length (held-still b c piece taken none) in omega (arith, same, few)

pub until-err : (size : ℕ) (a b c : ReceivedBytes) (first second : List ℕ) (ended : Bool) (f : NoResponse) → IsTaken a b first →
    length b.held < size → Takes b c second ended (Err f) → TakesUntil size a c (first ++ second) ended (Err f)
until-err size a b c first second ended Failed before few takes =
    (taken-on a b c first second before takes.0, still-few size b c second takes.0 takes.1 few)
until-err size a b c first second ended Broken before few takes = absurd takes
until-err size a b c first second ended Memory before few takes = tt
