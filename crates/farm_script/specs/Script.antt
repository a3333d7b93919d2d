-- The replies to a script's lines, one after the other, and the history that they leave.
use Rattle.std.specs.Prelude.{◌≡◌, ◌≢◌, ℕ, ◌+◌, ◌-◌, ◌<◌, ◌≤◌, List, [], ◌∷◌, ◌++◌, Option, length, take, ◌⊎◌}
use Rattle.std.specs.Io.KnownBytes.{append_known}
use Rattle.farm_script.specs.Held.{held}

-- how a line is answered: from the history before it to the reply's text, without its line feed, and the history after
-- it
abbrev pub Rule : Type 0 → Type 0
Rule E = List E → List ℕ → List ℕ × List E

-- a rule answers a line by what is held of it
abbrev pub IsByHeld : {E : Type 0} → Rule E → Type 0
IsByHeld {E} rule = (history : List E) (line : List ℕ) → rule history (held line) ≡ rule history line

-- the reply to a line, with its line feed
abbrev pub reply_line : {E : Type 0} → Rule E → List E → List ℕ → List ℕ
reply_line rule history line = (rule history line).0 ++ 10 ∷ []

-- the history after a line
abbrev pub next_history : {E : Type 0} → Rule E → List E → List ℕ → List E
next_history rule history line = (rule history line).1

-- the reply lines to these lines, one after the other
abbrev pub text_of : {E : Type 0} → Rule E → List E → List (List ℕ) → List ℕ
text_of rule history [] = []
text_of rule history (line ∷ others) =
    reply_line rule history line ++ text_of rule (next_history rule history line) others

-- the history after these lines
abbrev pub history_of : {E : Type 0} → Rule E → List E → List (List ℕ) → List E
history_of rule history [] = history
history_of rule history (line ∷ others) = history_of rule (next_history rule history line) others

-- all of these lines were answered, from the first history and what was written at first to those now
pub record Answered {E : Type 0} (rule : Rule E) (first : List E) (written_first : Option (List ℕ))
    (answered : List (List ℕ)) (now : List E) (written_now : Option (List ℕ)) : Type 0 where
  pub history : now ≡ history_of rule first answered
  pub written : written_now ≡ append_known written_first (text_of rule first answered)

-- `put` is a prefix of the replies to the first `shown` of these lines, and reaches into the last of those replies
pub record IsPartly {E : Type 0} (rule : Rule E) (first : List E) (counted : List (List ℕ)) (shown : ℕ)
    (put : List ℕ) : Type 0 where
  pub unput : List ℕ
  pub prefix : put ++ unput ≡ text_of rule first (take shown counted)
  pub reached : (shown ≡ 0) ⊎ (length (text_of rule first (take (shown - 1) counted)) < length put)

-- The history is the one after the first n of these lines, and what was put reaches into the reply to the last of
-- them, or into the one before it and no further
pub record SomeAnswered {E : Type 0} (rule : Rule E) (first : List E) (written_first : Option (List ℕ))
    (counted : List (List ℕ)) (now : List E) (written_now : Option (List ℕ)) : Type 0 where
  pub n : ℕ
  pub shown : ℕ
  pub put : List ℕ
  pub among : n ≤ length counted
  pub known : shown ≤ n
  pub one_more : n ≤ shown + 1
  pub history : now ≡ history_of rule first (take n counted)
  pub written : written_now ≡ append_known written_first put
  pub partly : IsPartly rule first counted shown put

-- no byte of a line's reply was put, and the line stands in the history or not
abbrev pub IsUnshown : {E : Type 0} → Rule E → List E → List ℕ → List E → Type 0
IsUnshown rule first line now = (now ≡ first) ⊎ (now ≡ next_history rule first line)

-- what is pending is what a line adds to the history, and it adds something
pub record IsPendingOf {E : Type 0} (rule : Rule E) (history : List E) (line : List ℕ) (pending : List E) : Type 0 where
  pub some : pending ≢ []
  pub all : history ++ pending ≡ next_history rule history line

-- The store failed at one of these lines: those before it were answered whole, nothing was put of its own reply, and
-- what is pending is what it adds to the history
pub record FailsIn {E : Type 0} (rule : Rule E) (first : List E) (written_first : Option (List ℕ))
    (counted : List (List ℕ)) (now pending : List E) (written_now : Option (List ℕ)) : Type 0 where
  pub done : List (List ℕ)
  pub line : List ℕ
  pub others : List (List ℕ)
  pub parts : counted ≡ done ++ line ∷ others
  pub answered : Answered rule first written_first done now written_now
  pub undecided : IsPendingOf rule now line pending

-- where answering lines stopped: before the first of them, after it changed the history and a part of its reply was
-- put, or among the others
abbrev pub StopPoint : {E : Type 0} → Rule E → List E → Option (List ℕ) → List (List ℕ) → List E → Option (List ℕ)
    → Type 0
StopPoint rule first written_first [] now written_now = (now ≡ first) × (written_now ≡ written_first)
StopPoint rule first written_first (line ∷ others) now written_now =
    ((now ≡ first) × (written_now ≡ written_first))
    ⊎ ((now ≡ next_history rule first line)
    × ((k : ℕ) × (k < length (reply_line rule first line))
    × (written_now ≡ append_known written_first (take k (reply_line rule first line)))))
    ⊎ StopPoint rule (next_history rule first line) (append_known written_first (reply_line rule first line))
    others now written_now

-- answering these lines stopped among them
pub record StopsIn {E : Type 0} (rule : Rule E) (first : List E) (written_first : Option (List ℕ))
    (answered : List (List ℕ)) (now : List E) (written_now : Option (List ℕ)) : Type 0 where
  pub point : StopPoint rule first written_first answered now written_now
