-- What a run has read and answered so far.
use Rattle.std.proofs.Common.{◌≡◌, ◌+◌, ℕ, List, [], ◌∷◌, ◌++◌, map, Option, Some, None, length, refl, sym, ap, ◌∙◌}
use Rattle.std.proofs.Common.{subst, append_assoc}
use Rattle.std.proofs.lemmas.List.{length-append}
use Rattle.std.specs.Io.KnownBytes.{prepend_known}
use Rattle.farm_script.specs.Lines.{ended_after, rest_after, ended_lines, rest_of, as_line, lines}
use Rattle.farm_script.specs.Held.{held}
use Rattle.farm_script.specs.Script.{Answered, FailsIn, IsByHeld, Rule, StopsIn}
use Rattle.farm_script.proofs.LineEnds.{ended_after-append, rest_after-append}
use Rattle.farm_script.proofs.Helds.{held-nil, held-cons, held-held}
use Rattle.farm_script.proofs.Answering.{answered-none, answered-append, fails-append, stops-append}
use Rattle.farm_script.proofs.SameAnswers.{answered-same, fails-same, stops-same, ended_after-same, rest_after-same}

-- what was left before a first piece and then a second was both, one after the other
prepend_known-append : (first second : List ℕ) (left : Option (List ℕ))
    → prepend_known first (prepend_known second left) ≡ prepend_known (first ++ second) left
prepend_known-append first second None = refl
prepend_known-append first second (Some rest) = ap (λ (bytes : List ℕ). Some bytes)
    (sym (append_assoc first second rest))

pub prepend_known-nil : (left : Option (List ℕ)) → left ≡ prepend_known [] left
prepend_known-nil None = refl
prepend_known-nil (Some rest) = refl

-- so many bytes were taken, the lines that end in them were answered, and of the next line it is held what was read
pub record SoFar {E : Type 0} (rule : Rule E) (left_first : Option (List ℕ)) (first : List E) (w0 : Option (List ℕ))
    (left : Option (List ℕ)) (now : List E) (w : Option (List ℕ)) (line : List ℕ) (count : ℕ) : Type 0 where
  pub bytes : List ℕ
  pub taken : left_first ≡ prepend_known bytes left
  pub size : length bytes ≡ count
  pub answered : Answered rule first w0 (ended_lines bytes) now w
  pub is_held : line ≡ held (rest_of bytes)

pub so_far-start : {E : Type 0} (rule : Rule E) (left : Option (List ℕ)) (first : List E) (w0 : Option (List ℕ))
    → SoFar rule left first w0 left first w0 [] 0
so_far-start rule left first w0 = record {
  bytes = [];
  taken = prepend_known-nil left;
  size = refl;
  answered = answered-none rule first w0;
  is_held = sym held-nil;
}

-- the lines that end in a piece, by what is held and by what was read
piece-same : (line bytes piece : List ℕ) → line ≡ held (rest_of bytes)
    → map held (ended_after line piece) ≡ map held (ended_after (rest_of bytes) piece)
piece-same line bytes piece is = ended_after-same line (rest_of bytes) piece (ap held is ∙ held-held (rest_of bytes))

-- a piece was taken and its lines answered
pub so_far-piece : {E : Type 0} {rule : Rule E} {left_first left1 left : Option
    (List ℕ)} {first mid now : List E} {w0 w1 w : Option (List ℕ)} {line next : List ℕ} {count : ℕ} (piece : List ℕ)
    → IsByHeld rule
    → SoFar rule left_first first w0 left1 mid w1 line count → left1 ≡ prepend_known piece left
    → Answered rule mid w1 (ended_after line piece) now w → next ≡ held (rest_after line piece)
    → SoFar rule left_first first w0 left now w next (count + length piece)
so_far-piece {rule} {left} {first} {now} {w0} {w} {line} piece alike s took a is = record {
  bytes = s.bytes ++ piece;
  taken = s.taken ∙ ap (prepend_known s.bytes) took ∙ prepend_known-append s.bytes piece left;
  size = length-append s.bytes piece ∙ ap (λ k. k + length piece) s.size;
  answered = subst (λ l. Answered rule first w0 l now w) (sym (ended_after-append [] s.bytes piece))
      (answered-append s.answered (answered-same alike (piece-same line s.bytes piece s.is_held) a));
  is_held = is ∙ rest_after-same line (rest_of s.bytes) piece (ap held s.is_held ∙ held-held (rest_of s.bytes))
      ∙ ap held (sym (rest_after-append [] s.bytes piece));
}

-- what was taken when answering stopped, and where it stopped
pub record StoppedAt {E : Type 0} (rule : Rule E) (left_first : Option (List ℕ)) (first : List E)
    (w0 : Option (List ℕ)) (left : Option (List ℕ)) (now : List E) (w : Option (List ℕ))
    (counted : List ℕ → List (List ℕ)) (count : ℕ) : Type 0 where
  pub bytes : List ℕ
  pub taken : left_first ≡ prepend_known bytes left
  pub size : length bytes ≡ count
  pub stops : StopsIn rule first w0 (counted bytes) now w

-- answering stopped in a piece
pub so_far-stop : {E : Type 0} {rule : Rule E} {left_first left1 left : Option
    (List ℕ)} {first mid now : List E} {w0 w1 w : Option (List ℕ)} {line : List ℕ} {count : ℕ} (piece : List ℕ)
    → IsByHeld rule
    → SoFar rule left_first first w0 left1 mid w1 line count → left1 ≡ prepend_known piece left
    → StopsIn rule mid w1 (ended_after line piece) now w
    → StoppedAt rule left_first first w0 left now w ended_lines (count + length piece)
so_far-stop {rule} {left} {first} {now} {w0} {w} {line} piece alike s took stops = record {
  bytes = s.bytes ++ piece;
  taken = s.taken ∙ ap (prepend_known s.bytes) took ∙ prepend_known-append s.bytes piece left;
  size = length-append s.bytes piece ∙ ap (λ k. k + length piece) s.size;
  stops = subst (λ l. StopsIn rule first w0 l now w) (sym (ended_after-append [] s.bytes piece))
      (stops-append s.answered (stops-same alike (piece-same line s.bytes piece s.is_held) stops));
}

-- what follows the last line feed, by what is held and by what was read
rest-same : (rest : List ℕ) → map held (as_line (held rest)) ≡ map held (as_line rest)
rest-same [] = ap (λ l. map held (as_line l)) held-nil
rest-same (b ∷ bs) = ap (λ l. map held (as_line l)) (held-cons b bs)
    ∙ ap (λ l. l ∷ []) (ap held (sym (held-cons b bs)) ∙ held-held (b ∷ bs))

line-same : (line bytes : List ℕ) → line ≡ held (rest_of bytes)
    → map held (as_line line) ≡ map held (as_line (rest_of bytes))
line-same line bytes is = ap (λ l. map held (as_line l)) is ∙ rest-same (rest_of bytes)

-- the last line was answered too
pub so_far-end : {E : Type 0} {rule : Rule E} {left_first left : Option
    (List ℕ)} {first mid now : List E} {w0 w1 w : Option (List ℕ)} {line : List ℕ} {count : ℕ}
    → IsByHeld rule → (s : SoFar rule left_first first w0 left mid w1 line count)
    → Answered rule mid w1 (as_line line) now w
    → Answered rule first w0 (lines s.bytes) now w
so_far-end alike s a = answered-append s.answered (answered-same alike (line-same _ s.bytes s.is_held) a)

-- answering stopped in the last line
pub so_far-stop_end : {E : Type 0} {rule : Rule E} {left_first left : Option
    (List ℕ)} {first mid now : List E} {w0 w1 w : Option (List ℕ)} {line : List ℕ} {count : ℕ}
    → IsByHeld rule → SoFar rule left_first first w0 left mid w1 line count → StopsIn rule mid w1 (as_line line) now w
    → StoppedAt rule left_first first w0 left now w lines count
so_far-stop_end {E} {rule} {left_first} {left} {first} {mid} {now} {w0} {w1} {w} {line} {count} alike s stops = record {
  bytes = s.bytes;
  taken = s.taken;
  size = s.size;
  stops = stops-append s.answered (stops-same alike (line-same line s.bytes s.is_held) stops);
}

-- what was taken when the store failed, and where it failed
pub record FailedAt {E : Type 0} (rule : Rule E) (left_first : Option (List ℕ)) (first : List E)
    (w0 : Option (List ℕ)) (left : Option (List ℕ)) (now pending : List E) (w : Option (List ℕ))
    (counted : List ℕ → List (List ℕ)) (count : ℕ) : Type 0 where
  pub bytes : List ℕ
  pub taken : left_first ≡ prepend_known bytes left
  pub size : length bytes ≡ count
  pub fails : FailsIn rule first w0 (counted bytes) now pending w

-- the store failed in a piece
pub so_far-fail : {E : Type 0} {rule : Rule E} {left_first left1 left : Option
    (List ℕ)} {first mid now pending : List E} {w0 w1 w : Option (List ℕ)} {line : List ℕ} {count : ℕ} (piece : List ℕ)
    → IsByHeld rule → SoFar rule left_first first w0 left1 mid w1 line count → left1 ≡ prepend_known piece left
    → FailsIn rule mid w1 (ended_after line piece) now pending w
    → FailedAt rule left_first first w0 left now pending w ended_lines (count + length piece)
so_far-fail {rule} {left} {first} {now} {pending} {w0} {w} {line} piece alike s took fails = record {
  bytes = s.bytes ++ piece;
  taken = s.taken ∙ ap (prepend_known s.bytes) took ∙ prepend_known-append s.bytes piece left;
  size = length-append s.bytes piece ∙ ap (λ k. k + length piece) s.size;
  fails = subst (λ l. FailsIn rule first w0 l now pending w) (sym (ended_after-append [] s.bytes piece))
      (fails-append s.answered (fails-same alike (piece-same line s.bytes piece s.is_held) fails));
}

-- the store failed in the last line
pub so_far-fail_end : {E : Type 0} {rule : Rule E} {left_first left : Option
    (List ℕ)} {first mid now pending : List E} {w0 w1 w : Option (List ℕ)} {line : List ℕ} {count : ℕ}
    → IsByHeld rule → SoFar rule left_first first w0 left mid w1 line count
    → FailsIn rule mid w1 (as_line line) now pending w
    → FailedAt rule left_first first w0 left now pending w lines count
so_far-fail_end {line} alike s fails = record {
  bytes = s.bytes;
  taken = s.taken;
  size = s.size;
  fails = fails-append s.answered (fails-same alike (line-same line s.bytes s.is_held) fails);
}

-- no byte more was taken
pub so_far-nothing : {E : Type 0} {rule : Rule E} {left_first left1 left : Option
    (List ℕ)} {first now : List E} {w0 w : Option (List ℕ)} {line : List ℕ} {count : ℕ} (piece : List ℕ)
    → piece ≡ [] → SoFar rule left_first first w0 left1 now w line count → left1 ≡ prepend_known piece left
    → SoFar rule left_first first w0 left now w line count
so_far-nothing {E} {rule} {left_first} {left1} {left} {first} {now} {w0} {w} {line} {count} piece none s took =
    let same : left1 ≡ left = took ∙ ap (λ p. prepend_known p left) none ∙ sym (prepend_known-nil left) in
    subst (λ l. SoFar rule left_first first w0 l now w line count) same s

-- a run begins
pub ruleset beginning = (so_far-start)
