-- What is held of a line is enough to answer it.
use Rattle.std.proofs.Common.{◌≡◌, ◌<◌, ℕ, List, [], ◌∷◌, ◌++◌, map, Option, length, take, refl, sym, ap, ◌∙◌, subst}
use Rattle.std.proofs.Common.{inl, inr, ⊎_elim}
use Rattle.std.proofs.lemmas.Bool.{cases_eq}
use Rattle.std.specs.Io.KnownBytes.{append_known}
use Rattle.farm_script.specs.Lines.{ended_after, rest_after}
use Rattle.farm_script.specs.Held.{held}
use Rattle.farm_script.specs.Script.{IsByHeld, Rule, reply_line, next_history, text_of, history_of, Answered, FailsIn}
use Rattle.farm_script.specs.Script.{StopPoint, StopsIn}
use Rattle.farm_script.proofs.LineEnds.{ended_after-feed, ended_after-other, rest_after-feed, rest_after-other}
use Rattle.farm_script.proofs.Helds.{held-append-same}

-- lines of which the same is held have one answer
rule-same : {E : Type 0} (rule : Rule E) → IsByHeld rule → (history : List E) (x y : List ℕ) → held x ≡ held y
    → rule history x ≡ rule history y
rule-same rule alike history x y same =
    sym (alike history x) ∙ ap (λ (line : List ℕ). rule history line) same ∙ alike history y

reply_line-same : {E : Type 0} (rule : Rule E) → IsByHeld rule → (history : List E) (x y : List ℕ) → held x ≡ held y
    → reply_line rule history x ≡ reply_line rule history y
reply_line-same {E} rule alike history x y same =
    ap (λ (said : List ℕ × List E). said.0 ++ 10 ∷ []) (rule-same rule alike history x y same)

next_history-same : {E : Type 0} (rule : Rule E) → IsByHeld rule → (history : List E) (x y : List ℕ) → held x ≡ held y
    → next_history rule history x ≡ next_history rule history y
next_history-same {E} rule alike history x y same =
    ap (λ (said : List ℕ × List E). said.1) (rule-same rule alike history x y same)

text_of-same : {E : Type 0} (rule : Rule E) → IsByHeld rule → (history : List E) (xs ys : List (List ℕ))
    → map held xs ≡ map held ys
    → text_of rule history xs ≡ text_of rule history ys
text_of-same rule alike history [] [] same = refl
text_of-same rule alike history [] (y ∷ ys) same = absurd (cc)
text_of-same rule alike history (x ∷ xs) [] same = absurd (cc)
text_of-same {E} rule alike history (x ∷ xs) (y ∷ ys) same =
    let one : held x ≡ held y = cc in
    let others : map held xs ≡ map held ys = cc in
    ap (λ r. r ++ text_of rule (next_history rule history x) xs) (reply_line-same rule alike history x y one)
    ∙ ap (λ (h : List E). reply_line rule history y ++ text_of rule h xs) (next_history-same rule alike history x y one)
    ∙ ap (λ t. reply_line rule history y ++ t) (text_of-same rule alike (next_history rule history y) xs ys others)

history_of-same : {E : Type 0} (rule : Rule E) → IsByHeld rule → (history : List E) (xs ys : List (List ℕ))
    → map held xs ≡ map held ys
    → history_of rule history xs ≡ history_of rule history ys
history_of-same rule alike history [] [] same = refl
history_of-same rule alike history [] (y ∷ ys) same = absurd (cc)
history_of-same rule alike history (x ∷ xs) [] same = absurd (cc)
history_of-same {E} rule alike history (x ∷ xs) (y ∷ ys) same =
    let one : held x ≡ held y = cc in
    let others : map held xs ≡ map held ys = cc in
    ap (λ (h : List E). history_of rule h xs) (next_history-same rule alike history x y one)
    ∙ history_of-same rule alike (next_history rule history y) xs ys others

pub answered-same : {E : Type 0} {rule : Rule E} {first now : List E} {w0 w : Option (List ℕ)} {xs ys : List (List ℕ)}
    → IsByHeld rule → map held xs ≡ map held ys → Answered rule first w0 xs now w → Answered rule first w0 ys now w
answered-same {E} {rule} {first} {now} {w0} {w} {xs} {ys} alike same a = record {
  history = a.history ∙ history_of-same rule alike first xs ys same;
  written = a.written ∙ ap (λ t. append_known w0 t) (text_of-same rule alike first xs ys same);
}

point-same : {E : Type 0} (rule : Rule E) → IsByHeld rule → (now : List E) (w : Option
    (List ℕ)) (xs ys : List (List ℕ)) (first : List E) (w0 : Option (List ℕ))
    → map held xs ≡ map held ys → StopPoint rule first w0 xs now w → StopPoint rule first w0 ys now w
point-same rule alike now w [] [] first w0 same s = s
point-same rule alike now w [] (y ∷ ys) first w0 same s = absurd (cc)
point-same rule alike now w (x ∷ xs) [] first w0 same s = absurd (cc)
point-same rule alike now w (x ∷ xs) (y ∷ ys) first w0 same (inl s) = inl s
point-same {E} rule alike now w (x ∷ xs) (y ∷ ys) first w0 same (inr (inl s)) =
    let one : held x ≡ held y = cc in
    let P : List ℕ → List E → Type 0 =
    λ r h. (now ≡ h) × ((k : ℕ) × (k < length r) × (w ≡ append_known w0 (take k r))) in
    let with_reply : P (reply_line rule first y) (next_history rule first x) =
    subst (λ r. P r (next_history rule first x)) (reply_line-same rule alike first x y one) s in
    inr (inl (subst (λ h. P (reply_line rule first y) h) (next_history-same rule alike first x y one) with_reply))
point-same {E} rule alike now w (x ∷ xs) (y ∷ ys) first w0 same (inr (inr s)) =
    let one : held x ≡ held y = cc in
    let others : map held xs ≡ map held ys = cc in
    let s1 : StopPoint rule (next_history rule first x) (append_known w0 (reply_line rule first x)) ys now w =
    point-same rule alike now w xs ys (next_history rule first x)
    (append_known w0 (reply_line rule first x)) others s in
    let P : List ℕ → List E → Type 0 = λ r h. StopPoint rule h (append_known w0 r) ys now w in
    let with_reply : P (reply_line rule first y) (next_history rule first x) =
    subst (λ r. P r (next_history rule first x)) (reply_line-same rule alike first x y one) s1 in
    inr (inr (subst (λ h. P (reply_line rule first y) h) (next_history-same rule alike first x y one) with_reply))

pub stops-same : {E : Type 0} {rule : Rule E} {first now : List E} {w0 w : Option (List ℕ)} {xs ys : List (List ℕ)}
    → IsByHeld rule → map held xs ≡ map held ys → StopsIn rule first w0 xs now w → StopsIn rule first w0 ys now w
stops-same {E} {rule} {first} {now} {w0} {w} {xs} {ys} alike same s =
    record { point = point-same rule alike now w xs ys first w0 same s.point }

-- lines that are held alike are parted alike
record Parted (done : List (List ℕ)) (line : List ℕ) (ys : List (List ℕ)) : Type 0 where
  pub before : List (List ℕ)
  pub at : List ℕ
  pub others : List (List ℕ)
  pub parts : ys ≡ before ++ at ∷ others
  pub same : map held done ≡ map held before
  pub alike : held line ≡ held at

parted : (done : List (List ℕ)) (line : List ℕ) (others ys : List (List ℕ))
    → map held (done ++ line ∷ others) ≡ map held ys
    → Parted done line ys
parted [] line others [] same = absurd (cc)
parted [] line others (y ∷ ys) same = record { before = []; at = y; others = ys; parts = refl; same = refl; alike = cc }
parted (x ∷ done) line others [] same = absurd (cc)
parted (x ∷ done) line others (y ∷ ys) same =
    let one : held x ≡ held y = cc in
    let rest : map held (done ++ line ∷ others) ≡ map held ys = cc in
    let p = parted done line others ys rest in
    record {
      before = y ∷ p.before;
      at = p.at;
      others = p.others;
      parts = ap (λ l. y ∷ l) p.parts;
      same = ap (λ h. h ∷ map held done) one ∙ ap (λ l. held y ∷ l) p.same;
      alike = p.alike;
    }

pub fails-same : {E : Type 0} {rule : Rule E} {first now pending : List E} {w0 w : Option (List ℕ)}
    {xs ys : List (List ℕ)}
    → IsByHeld rule → map held xs ≡ map held ys → FailsIn rule first w0 xs now pending w
    → FailsIn rule first w0 ys now pending w
fails-same {E} {rule} {first} {now} {pending} {w0} {w} {xs} {ys} alike same f =
    let p = parted f.done f.line f.others ys (ap (map held) (sym f.parts) ∙ same) in
    record {
      done = p.before;
      line = p.at;
      others = p.others;
      parts = p.parts;
      answered = answered-same alike p.same f.answered;
      undecided = record {
        some = f.undecided.some;
        all = f.undecided.all ∙ next_history-same rule alike now f.line p.at p.alike;
      };
    }

-- what was read before a text matters only as far as it is held
pub ended_after-same : (line other bytes : List ℕ) → held line ≡ held other
    → map held (ended_after line bytes) ≡ map held (ended_after other bytes)
ended_after-same line other [] same = refl
ended_after-same line other (b ∷ bs) same = ⊎_elim
    (λ feed.
    ap (map held) (ended_after-feed line b bs feed)
    ∙ ap (λ l. l ∷ map held (ended_after [] bs)) same
    ∙ sym (ap (map held) (ended_after-feed other b bs feed)))
    (λ none.
    ap (map held) (ended_after-other line b bs none)
    ∙ ended_after-same (line ++ b ∷ []) (other ++ b ∷ []) bs (held-append-same line other (b ∷ []) same)
    ∙ sym (ap (map held) (ended_after-other other b bs none)))
    (cases_eq b 10)

pub rest_after-same : (line other bytes : List ℕ) → held line ≡ held other
    → held (rest_after line bytes) ≡ held (rest_after other bytes)
rest_after-same line other [] same = same
rest_after-same line other (b ∷ bs) same = ⊎_elim
    (λ feed. ap held (rest_after-feed line b bs feed ∙ sym (rest_after-feed other b bs feed)))
    (λ none.
    ap held (rest_after-other line b bs none)
    ∙ rest_after-same (line ++ b ∷ []) (other ++ b ∷ []) bs (held-append-same line other (b ∷ []) same)
    ∙ sym (ap held (rest_after-other other b bs none)))
    (cases_eq b 10)
