-- Lines that were answered, and where answering stopped.
use Rattle.std.proofs.Common.{◌≡◌, ℕ, List, [], ◌∷◌, ◌++◌, Option, refl, sym, ap, ◌∙◌, subst, inl, inr, append_assoc}
use Rattle.std.proofs.Common.{arith}
use Rattle.std.proofs.lemmas.List.{append-nil, length-append}
use Rattle.std.specs.Io.KnownBytes.{append_known}
use Rattle.std.specs.Prelude.{Result, Ok, Err, IsErrOf}
use Rattle.std.specs.Result.{IsErrAnd}
use Rattle.link_io.proofs.Told.{append_known-nil, append_known-append}
use Rattle.farm_script.specs.Script.{Rule, reply_line, next_history, text_of, history_of, Answered, FailsIn}
use Rattle.farm_script.specs.Script.{IsPendingOf, StopPoint, StopsIn, IsUnshown}

pub text_of-append : {E : Type 0} (rule : Rule E) (history : List E) (some more : List (List ℕ))
    → text_of rule history (some ++ more)
    ≡ text_of rule history some ++ text_of rule (history_of rule history some) more
text_of-append rule history [] more = refl
text_of-append rule history (line ∷ some) more =
    let next = next_history rule history line in
    ap (λ t. reply_line rule history line ++ t) (text_of-append rule next some more)
    ∙ sym (append_assoc (reply_line rule history line) (text_of rule next some)
    (text_of rule (history_of rule next some) more))

pub history_of-append : {E : Type 0} (rule : Rule E) (history : List E) (some more : List (List ℕ))
    → history_of rule history (some ++ more) ≡ history_of rule (history_of rule history some) more
history_of-append rule history [] more = refl
history_of-append rule history (line ∷ some) more = history_of-append rule (next_history rule history line) some more

-- of no line nothing is put
pub answered-none : {E : Type 0} (rule : Rule E) (first : List E) (w : Option (List ℕ))
    → Answered rule first w [] first w
answered-none rule first w = record { history = refl; written = sym (append_known-nil w) }

-- lines that were answered, and then more
pub answered-append : {E : Type 0} {rule : Rule E} {first mid now : List E} {w0 w1 w : Option
    (List ℕ)} {some more : List (List ℕ)}
    → Answered rule first w0 some mid w1 → Answered rule mid w1 more now w
    → Answered rule first w0 (some ++ more) now w
answered-append {E} {rule} {first} {mid} {now} {w0} {w1} {w} {some} {more} a b =
    let rest_text = λ (h : List E). text_of rule h more in
    record {
      history = b.history ∙ ap (λ h. history_of rule h more) a.history ∙ sym (history_of-append rule first some more);
      written =
          b.written
          ∙ ap (λ o. append_known o (rest_text mid)) a.written
          ∙ append_known-append w0 (text_of rule first some) (rest_text mid)
          ∙ ap (λ h. append_known w0 (text_of rule first some ++ rest_text h)) a.history
          ∙ ap (λ t. append_known w0 t) (sym (text_of-append rule first some more));
    }

-- answering stopped before the first of some lines
point-before : {E : Type 0} (rule : Rule E) (first : List E) (w : Option (List ℕ)) (all : List (List ℕ))
    → StopPoint rule first w all first w
point-before rule first w [] = (refl, refl)
point-before rule first w (line ∷ others) = inl (refl, refl)

point-append : {E : Type 0} (rule : Rule E) (mid now : List E) (w1 w : Option
    (List ℕ)) (more some : List (List ℕ)) (first : List E) (w0 : Option (List ℕ))
    → Answered rule first w0 some mid w1 → StopPoint rule mid w1 more now w
    → StopPoint rule first w0 (some ++ more) now w
point-append {E} rule mid now w1 w more [] first w0 a s =
    let P : List E → Option (List ℕ) → Type 0 = λ h o. StopPoint rule h o more now w in
    let s1 : P first w1 = subst (λ h. P h w1) a.history s in
    subst (λ o. P first o) (a.written ∙ append_known-nil w0) s1
point-append {E} rule mid now w1 w more (line ∷ some) first w0 a s =
    let next = next_history rule first line in
    let reply = reply_line rule first line in
    let tail : Answered rule next (append_known w0 reply) some mid w1 = record {
      history = a.history;
      written = a.written ∙ sym (append_known-append w0 reply (text_of rule next some));
    } in
    inr (inr (point-append rule mid now w1 w more some next (append_known w0 reply) tail s))

point-more : {E : Type 0} (rule : Rule E) (now : List E) (w : Option
    (List ℕ)) (more some : List (List ℕ)) (first : List E) (w0 : Option (List ℕ))
    → StopPoint rule first w0 some now w → StopPoint rule first w0 (some ++ more) now w
point-more {E} rule now w more [] first w0 s =
    let P : List E → Option (List ℕ) → Type 0 = λ h o. StopPoint rule first w0 more h o in
    subst (λ o. P now o) (sym s.1) (subst (λ h. P h w0) (sym s.0) (point-before rule first w0 more))
point-more rule now w more (line ∷ some) first w0 (inl s) = inl s
point-more rule now w more (line ∷ some) first w0 (inr (inl s)) = inr (inl s)
point-more rule now w more (line ∷ some) first w0 (inr (inr s)) =
    inr (inr (point-more rule now w more some (next_history rule first line)
    (append_known w0 (reply_line rule first line)) s))

-- answering stopped before the first of some lines
pub stops-before : {E : Type 0} (rule : Rule E) (first : List E) (w : Option (List ℕ)) (all : List (List ℕ))
    → StopsIn rule first w all first w
stops-before rule first w all = record { point = point-before rule first w all }

-- answering stopped before a byte of the reply to a line was put
pub stops-unshown : {E : Type 0} (rule : Rule E) (first now : List E) (w : Option (List ℕ)) (line : List ℕ)
    → IsUnshown rule first line now → StopsIn rule first w (line ∷ []) now w
stops-unshown rule first now w line (inl same) = record { point = inl (same, refl) }
stops-unshown rule first now w line (inr next) = record {
  point = inr (inl (next, (0, omega (arith, length-append ((rule first line).0) (10 ∷ [])), sym (append_known-nil w))));
}

pub ruleset unshown = (stops-unshown)

-- lines were answered, and then answering stopped
pub stops-append : {E : Type 0} {rule : Rule E} {first mid now : List E} {w0 w1 w : Option
    (List ℕ)} {some more : List (List ℕ)}
    → Answered rule first w0 some mid w1 → StopsIn rule mid w1 more now w → StopsIn rule first w0 (some ++ more) now w
stops-append {E} {rule} {first} {mid} {now} {w0} {w1} {w} {some} {more} a s =
    record { point = point-append rule mid now w1 w more some first w0 a s.point }

-- answering stopped among the first of some lines
pub stops-more : {E : Type 0} {rule : Rule E} {first now : List E} {w0 w : Option
    (List ℕ)} {some : List (List ℕ)} (more : List (List ℕ))
    → StopsIn rule first w0 some now w → StopsIn rule first w0 (some ++ more) now w
stops-more {E} {rule} {first} {now} {w0} {w} {some} more s =
    record { point = point-more rule now w more some first w0 s.point }

-- the store failed at one line, before which none was answered
pub fails-first : {E : Type 0} (rule : Rule E) (first now pending : List E) (w : Option (List ℕ)) (line : List ℕ)
    → now ≡ first → IsPendingOf rule first line pending → FailsIn rule first w (line ∷ []) now pending w
fails-first {E} rule first now pending w line same undecided = record {
  done = [];
  line = line;
  others = [];
  parts = refl;
  answered = record { history = same; written = sym (append_known-nil w) };
  undecided = subst (λ (h : List E). IsPendingOf rule h line pending) (sym same) undecided;
}

-- the fault that a `?` hands on is the one that the call answered
pub handed_on : {A E : Type 0} (r : Result A E) (x y : E) → IsErrAnd r (λ e. e ≡ x) → IsErrOf r y → x ≡ y
handed_on (Ok a) x y is same = absurd is
handed_on {A} {E} (Err e) x y is same =
    let one : e ≡ y = cc in
    sym is ∙ one

-- lines were answered, and then the store failed
pub fails-append : {E : Type 0} {rule : Rule E} {first mid now pending : List E} {w0 w1 w : Option
    (List ℕ)} {some more : List (List ℕ)}
    → Answered rule first w0 some mid w1 → FailsIn rule mid w1 more now pending w
    → FailsIn rule first w0 (some ++ more) now pending w
fails-append {E} {rule} {first} {mid} {now} {pending} {w0} {w1} {w} {some} {more} a f = record {
  done = some ++ f.done;
  line = f.line;
  others = f.others;
  parts = ap (λ l. some ++ l) f.parts ∙ sym (append_assoc some f.done (f.line ∷ f.others));
  answered = answered-append a f.answered;
  undecided = f.undecided;
}

-- the store failed at one of the first of some lines
pub fails-more : {E : Type 0} {rule : Rule E} {first now pending : List E} {w0 w : Option
    (List ℕ)} {some : List (List ℕ)} (more : List (List ℕ))
    → FailsIn rule first w0 some now pending w → FailsIn rule first w0 (some ++ more) now pending w
fails-more {E} {rule} {first} {now} {pending} {w0} {w} {some} more f = record {
  done = f.done;
  line = f.line;
  others = f.others ++ more;
  parts = ap (λ l. l ++ more) f.parts ∙ append_assoc f.done (f.line ∷ f.others) more;
  answered = f.answered;
  undecided = f.undecided;
}

-- of all lines some were answered, and these are left
pub record Reached {E : Type 0} (rule : Rule E) (first : List E) (w0 : Option (List ℕ)) (all : List (List ℕ))
    (now : List E) (w : Option (List ℕ)) (left : List (List ℕ)) : Type 0 where
  pub done : List (List ℕ)
  pub parts : all ≡ done ++ left
  pub answered : Answered rule first w0 done now w

pub reached-start : {E : Type 0} (rule : Rule E) (first : List E) (w0 : Option (List ℕ)) (all : List (List ℕ))
    → Reached rule first w0 all first w0 all
reached-start rule first w0 all = record { done = []; parts = refl; answered = answered-none rule first w0 }

-- one more line was answered
pub reached-step : {E : Type 0} {rule : Rule E} {first mid now : List E} {w0 w1 w : Option
    (List ℕ)} {all left others : List (List ℕ)} {line : List ℕ}
    → left ≡ line ∷ others → Reached rule first w0 all mid w1 left → Answered rule mid w1 (line ∷ []) now w
    → Reached rule first w0 all now w others
reached-step {E} {rule} {first} {mid} {now} {w0} {w1} {w} {all} {left} {others} {line} is r a = record {
  done = r.done ++ line ∷ [];
  parts = r.parts ∙ ap (λ l. r.done ++ l) is ∙ sym (append_assoc r.done (line ∷ []) others);
  answered = answered-append r.answered a;
}

-- no line is left
pub reached-end : {E : Type 0} {rule : Rule E} {first now : List E} {w0 w : Option (List ℕ)} {all left : List (List ℕ)}
    → left ≡ [] → Reached rule first w0 all now w left → Answered rule first w0 all now w
reached-end {E} {rule} {first} {now} {w0} {w} {all} {left} none r =
    subst (λ l. Answered rule first w0 l now w)
    (sym (r.parts ∙ ap (λ l. r.done ++ l) none ∙ append-nil r.done)) r.answered

-- answering stopped among the lines that were left
pub reached-stop : {E : Type 0} {rule : Rule E} {first mid now : List E} {w0 w1 w : Option
    (List ℕ)} {all left : List (List ℕ)}
    → Reached rule first w0 all mid w1 left → StopsIn rule mid w1 left now w → StopsIn rule first w0 all now w
reached-stop {E} {rule} {first} {mid} {now} {w0} {w1} {w} {all} {left} r s =
    subst (λ l. StopsIn rule first w0 l now w) (sym r.parts) (stops-append r.answered s)

-- answering stopped in the first line that was left
pub reached-stop_first : {E : Type 0} {rule : Rule E} {first mid now : List E} {w0 w1 w : Option
    (List ℕ)} {all left others : List (List ℕ)} {line : List ℕ}
    → left ≡ line ∷ others → Reached rule first w0 all mid w1 left → StopsIn rule mid w1 (line ∷ []) now w
    → StopsIn rule first w0 all now w
reached-stop_first {E} {rule} {first} {mid} {now} {w0} {w1} {w} {all} {left} {others} {line} is r s =
    reached-stop r (subst (λ l. StopsIn rule mid w1 l now w) (sym is) (stops-more others s))

-- the store failed at the first line that was left
pub reached-fail_first : {E : Type 0} {rule : Rule E} {first mid now pending : List E} {w0 w1 w : Option
    (List ℕ)} {all left others : List (List ℕ)} {line : List ℕ}
    → left ≡ line ∷ others → Reached rule first w0 all mid w1 left → FailsIn rule mid w1 (line ∷ []) now pending w
    → FailsIn rule first w0 all now pending w
reached-fail_first {E} {rule} {first} {mid} {now} {pending} {w0} {w1} {w} {all} {left} {others} {line} is r f =
    subst (λ l. FailsIn rule first w0 l now pending w) (sym (r.parts ∙ ap (λ l. r.done ++ l) is))
    (fails-append r.answered (fails-more others f))

-- answering stopped before the first line that was left
pub reached-stop_before : {E : Type 0} {rule : Rule E} {first now : List E} {w0 w : Option
    (List ℕ)} {all left : List (List ℕ)}
    → Reached rule first w0 all now w left → StopsIn rule first w0 all now w
reached-stop_before {E} {rule} {first} {now} {w0} {w} {all} {left} r = reached-stop r (stops-before rule now w left)

pub ruleset reaching = (reached-start, reached-step, reached-end, reached-stop, reached-stop_first, reached-stop_before)
