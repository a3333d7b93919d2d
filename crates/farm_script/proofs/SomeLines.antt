-- Where answering stopped, as numbers of lines.
use Rattle.std.proofs.Common.{◌≡◌, ◌-◌, ◌<◌, ℕ, zero, suc, List, [], ◌∷◌, ◌++◌, Option, length, take, drop, refl, sym}
use Rattle.std.proofs.Common.{ap, ◌∙◌, subst, inl, inr, append_assoc, arith}
use Rattle.std.proofs.lemmas.List.{append-nil, length-append, length-take-le, take-append-drop}
use Rattle.std.specs.Prelude.{◌⊎◌}
use Rattle.std.specs.Io.KnownBytes.{append_known}
use Rattle.link_io.proofs.Told.{append_known-nil, append_known-append}
use Rattle.farm_script.specs.Script.{Rule, reply_line, next_history, text_of, SomeAnswered, StopPoint, StopsIn}

-- no reply is empty
reply_line-some : {E : Type 0} (rule : Rule E) (first : List E) (line : List ℕ)
    → 0 < length (reply_line rule first line)
reply_line-some rule first line = omega (arith, length-append ((rule first line).0) (10 ∷ []))

-- nothing was answered
some-none : {E : Type 0} (rule : Rule E) (first now : List E) (w0 w : Option (List ℕ)) (counted : List (List ℕ))
    → now ≡ first → w ≡ w0 → SomeAnswered rule first w0 counted now w
some-none rule first now w0 w counted same unwritten = record {
  n = 0;
  shown = 0;
  put = [];
  among = omega arith;
  known = omega arith;
  one_more = omega arith;
  history = same;
  written = unwritten ∙ sym (append_known-nil w0);
  partly = record { unput = []; prefix = refl; reached = inl refl };
}

-- the first line changed the history, and so many bytes of its reply were put
some-first : {E : Type 0} (rule : Rule E) (first now : List E) (w0 w : Option
    (List ℕ)) (line : List ℕ) (others : List (List ℕ)) (k : ℕ)
    → now ≡ next_history rule first line → k < length (reply_line rule first line)
    → w ≡ append_known w0 (take k (reply_line rule first line)) → SomeAnswered rule first w0 (line ∷ others) now w
some-first rule first now w0 w line others zero next below put = record {
  n = 1;
  shown = 0;
  put = [];
  among = omega arith;
  known = omega arith;
  one_more = omega arith;
  history = next;
  written = put;
  partly = record { unput = []; prefix = refl; reached = inl refl };
}
some-first rule first now w0 w line others (suc k) next below put =
    let reply = reply_line rule first line in
    record {
      n = 1;
      shown = 1;
      put = take (suc k) reply;
      among = omega arith;
      known = omega arith;
      one_more = omega arith;
      history = next;
      written = put;
      partly = record {
        unput = drop (suc k) reply;
        prefix = take-append-drop (suc k) reply ∙ sym (append-nil reply);
        reached = inr (omega (arith, length-take-le (suc k) reply (omega arith)));
      };
    }

-- what was put reaches further with the reply to a line before
reached-further : {E : Type 0} (rule : Rule E) (first : List E) (line : List ℕ) (others : List
    (List ℕ)) (put : List ℕ) (shown : ℕ)
    → (shown ≡ 0) ⊎ (length (text_of rule (next_history rule first line) (take (shown - 1) others)) < length put)
    → length (text_of rule first (take shown (line ∷ others))) < length (reply_line rule first line ++ put)
reached-further rule first line others put zero reached =
    omega (arith, length-append (reply_line rule first line) put, reply_line-some rule first line)
reached-further rule first line others put (suc m) (inl none) = absurd (omega arith)
reached-further rule first line others put (suc m) (inr reached) =
    let reply = reply_line rule first line in
    let text = text_of rule (next_history rule first line) (take m others) in
    let one_less : suc m - 1 ≡ m = omega arith in
    let further : length text < length put =
    subst (λ k. length (text_of rule (next_history rule first line) (take k others)) < length put) one_less reached in
    omega (arith, length-append reply put, length-append reply text)

-- the first line was answered, and some of the others
some-more : {E : Type 0} (rule : Rule E) (first now : List E) (w0 w : Option
    (List ℕ)) (line : List ℕ) (others : List (List ℕ))
    → SomeAnswered rule (next_history rule first line) (append_known w0 (reply_line rule first line)) others now w
    → SomeAnswered rule first w0 (line ∷ others) now w
some-more rule first now w0 w line others r =
    let reply = reply_line rule first line in
    let one_less : suc r.shown - 1 ≡ r.shown = omega arith in
    let further : length (text_of rule first (take (suc r.shown - 1) (line ∷ others))) < length (reply ++ r.put) =
    subst (λ k. length (text_of rule first (take k (line ∷ others))) < length (reply ++ r.put)) (sym one_less)
    (reached-further rule first line others r.put r.shown r.partly.reached) in
    record {
      n = suc r.n;
      shown = suc r.shown;
      put = reply ++ r.put;
      among = let a = r.among in omega arith;
      known = let a = r.known in omega arith;
      one_more = let a = r.one_more in omega arith;
      history = r.history;
      written = r.written ∙ append_known-append w0 reply r.put;
      partly = record {
        unput = r.partly.unput;
        prefix = append_assoc reply r.put r.partly.unput ∙ ap (λ t. reply ++ t) r.partly.prefix;
        reached = inr further;
      };
    }

some-from_point : {E : Type 0} (rule : Rule E) (now : List E) (w : Option
    (List ℕ)) (counted : List (List ℕ)) (first : List E) (w0 : Option (List ℕ))
    → StopPoint rule first w0 counted now w → SomeAnswered rule first w0 counted now w
some-from_point rule now w [] first w0 s = some-none rule first now w0 w [] s.0 s.1
some-from_point rule now w (line ∷ others) first w0 (inl s) = some-none rule first now w0 w (line ∷ others) s.0 s.1
some-from_point rule now w (line ∷ others) first w0 (inr (inl s)) =
    some-first rule first now w0 w line others s.1.0 s.0 s.1.1 s.1.2
some-from_point rule now w (line ∷ others) first w0 (inr (inr s)) =
    some-more rule first now w0 w line others (some-from_point rule now w others (next_history rule first line)
    (append_known w0 (reply_line rule first line)) s)

-- where answering stopped, so many lines are in the history, and so many were shown
pub some-from_stops : {E : Type 0} {rule : Rule E} {first now : List E} {w0 w : Option
    (List ℕ)} {counted : List (List ℕ)}
    → StopsIn rule first w0 counted now w → SomeAnswered rule first w0 counted now w
some-from_stops {E} {rule} {first} {now} {w0} {w} {counted} s = some-from_point rule now w counted first w0 s.point
