-- Bytes that stand for a history aren't damaged, and bytes are damaged at one offset.
use Rattle.std.proofs.Common.{◌≡◌, ◌≢◌, ◌⊎◌, ⊎_elim, ℕ, ◌+◌, List, [], ◌∷◌, ◌++◌, length, map, All, refl, sym, ◌∙◌, ap, subst, arith}
use Rattle.std.proofs.lemmas.Grind.{flat_map-append}
use Rattle.std.proofs.lemmas.List.{append_assoc, length-append, take_at, drop_at}
use Rattle.std.proofs.lemmas.List.Elements.{All-drop, All-head, All-take}
use Rattle.entry_codec.specs.Grammar.{AreSpelled, HasSpelling}
use Rattle.entry_codec.specs.Spelling.{spelling}
use Rattle.farm_entry.specs.Legal.{IsLegal}
use Rattle.farm_entry.specs.declared.entry.Entry.{Entry}
use Rattle.farm_laws.proofs.Induct.{IsLegal-first}
use Rattle.farm_journal.proofs.Fits.{opens-fit}
use Rattle.farm_journal.specs.Layout.{IsPayload, damaged, gate_of, holds, opens, unborn}
use Rattle.farm_store.specs.Bytes.{Spells, StandsFor, joined}
use Rattle.farm_store.specs.Damage.{HoldsUnfit, IsDamagedAt, IsEmptyAt, IsUnfitAt}
use Rattle.farm_store.proofs.Spellings.{spelling-nonempty, spells-none, spells-unique}

holds-one : (ps qs : List (List ℕ)) → holds ps ≡ holds qs → ps ≡ qs
holds-one ps qs same = cc

holds-damaged : (ps : List (List ℕ)) (o : ℕ) → holds ps ≡ damaged o → ⊥
holds-damaged ps o same = cc

holds-unborn : (ps : List (List ℕ)) → holds ps ≡ unborn → ⊥
holds-unborn ps same = cc

damaged-unborn : (o : ℕ) → damaged o ≡ unborn → ⊥
damaged-unborn o same = cc

damaged-one : (a b : ℕ) → damaged a ≡ damaged b → a ≡ b
damaged-one a b same = cc

first-same : {X : Type 0} (x y : X) (xs ys : List X) → x ∷ xs ≡ y ∷ ys → x ≡ y
first-same x y xs ys same = cc

rest-same : {X : Type 0} (x y : X) (xs ys : List X) → x ∷ xs ≡ y ∷ ys → xs ≡ ys
rest-same x y xs ys same = cc

none-more : {X : Type 0} (x : X) (xs : List X) → x ∷ xs ≡ [] → ⊥
none-more x xs same = cc

-- the parts that payloads spell, around one of these
record Parted (parts : List (List Entry)) (before : List (List ℕ)) (p : List ℕ) : Type 0 where
  pub front : List (List Entry)
  pub part : List Entry
  pub rest : List (List Entry)
  pub split : parts ≡ front ++ part ∷ rest
  pub begins : before ≡ map spelling front
  pub is : p ≡ spelling part

parted : (parts : List (List Entry)) (before : List (List ℕ)) (p : List ℕ) (later : List (List ℕ))
    → before ++ p ∷ later ≡ map spelling parts → Parted parts before p
parted [] [] p later same = absurd (none-more p later same)
parted [] (b ∷ before) p later same = absurd (none-more b (before ++ p ∷ later) same)
parted (q ∷ parts) [] p later same = record {
  front = [];
  part = q;
  rest = parts;
  split = refl;
  begins = refl;
  is = first-same p (spelling q) later (map spelling parts) same;
}
parted (q ∷ parts) (b ∷ before) p later same =
    let one = first-same b (spelling q) (before ++ p ∷ later) (map spelling parts) same in
    let more = parted parts before p later (rest-same b (spelling q) (before ++ p ∷ later) (map spelling parts) same) in
    record {
      front = q ∷ more.front;
      part = more.part;
      rest = more.rest;
      split = ap (λ (l : List (List Entry)). q ∷ l) more.split;
      begins = ap (λ (l : List ℕ). l ∷ before) one ∙ ap (λ (l : List (List ℕ)). spelling q ∷ l) more.begins;
      is = more.is;
    }

all-front : {X : Type 0} (P : X → Type 0) (xs ys : List X) → All P (xs ++ ys) → All P xs
all-front P xs ys all =
    subst (λ l. All P l) (take_at xs ys (length xs) refl) (All-take P (length xs) (xs ++ ys) all)

all-back : {X : Type 0} (P : X → Type 0) (xs ys : List X) → All P (xs ++ ys) → All P ys
all-back P xs ys all =
    subst (λ l. All P l) (drop_at xs ys (length xs) refl) (All-drop P (length xs) (xs ++ ys) all)

none-of_length : (xs : List Entry) → length xs ≡ 0 → xs ≡ []
none-of_length [] none = refl
none-of_length (x ∷ xs) none = absurd (omega (arith, none))

no-more : (a : List (List ℕ)) (p : List ℕ) (mid : List (List ℕ)) → a ++ p ∷ mid ≡ [] → ⊥
no-more [] p mid none = none-more p mid none
no-more (b ∷ a) p mid none = none-more b (a ++ p ∷ mid) none

-- among payloads that spell a legal history each goes on with those before it
fits : (payloads : List (List ℕ)) (H K : List Entry) (before : List (List ℕ)) (p : List ℕ) (later : List (List ℕ))
    → All IsPayload payloads → Spells payloads H → IsLegal H → payloads ≡ before ++ p ∷ later → Spells before K
    → (part : List Entry) × AreSpelled part × (p ≡ spelling part) × IsLegal (K ++ part)
fits payloads H K before p later all spells legal split spells-before =
    let P : Entry → Type 0 = λ e. HasSpelling e.what in
    let around = parted spells.parts before p later (sym split ∙ spells.each) in
    let whole : joined around.front ++ (around.part ++ joined around.rest) ≡ H =
    sym (flat_map-append (λ (l : List Entry). l) around.front (around.part ∷ around.rest))
    ∙ ap joined (sym around.split)
    ∙ spells.whole in
    let spelled : AreSpelled (joined around.front ++ (around.part ++ joined around.rest)) =
    subst AreSpelled (sym whole) spells.spelled in
    let front : Spells before (joined around.front) = record {
      parts = around.front;
      each = around.begins;
      whole = refl;
      spelled = all-front P (joined around.front) (around.part ++ joined around.rest) spelled;
    } in
    let same : joined around.front ≡ K = spells-unique before (joined around.front) K front spells-before in
    let own : AreSpelled around.part = all-front P around.part (joined around.rest)
    (all-back P (joined around.front) (around.part ++ joined around.rest) spelled) in
    let long : IsPayload p = All-head IsPayload p later
    (all-back IsPayload before (p ∷ later) (subst (λ (l : List (List ℕ)). All IsPayload l) split all)) in
    let some : around.part ≢ [] = spelling-nonempty p around.part around.is long.some in
    let filled : K ++ around.part ≢ [] = λ empty.
    let both : length (K ++ around.part) ≡ length K + length around.part = length-append K around.part in
    let zero : length (K ++ around.part) ≡ 0 = ap length empty in
    some (none-of_length around.part (omega (arith, both, zero))) in
    let longer : IsLegal ((K ++ around.part) ++ joined around.rest) =
    subst IsLegal
    (sym whole
    ∙ ap (λ (l : List Entry). l ++ (around.part ++ joined around.rest)) same
    ∙ sym (append_assoc K around.part (joined around.rest))) legal in
    (around.part, own, around.is, IsLegal-first (K ++ around.part) (joined around.rest) filled longer)

empty-history : (H : List Entry) → Spells [] H → IsLegal H → ⊥
empty-history H spells legal = subst IsLegal (spells-unique [] H [] spells spells-none) legal

pub stands-not_damaged : (H : List Entry) (bytes : List ℕ) (o : ℕ) → StandsFor H bytes → IsDamagedAt bytes o → ⊥
stands-not_damaged H bytes o stands bad = ⊎_elim
    (λ (file : opens bytes ≡ damaged o). holds-damaged stands.payloads o (sym stands.opened ∙ file))
    (λ (unfit : HoldsUnfit bytes o).
    let same : stands.payloads ≡ unfit.payloads =
    holds-one stands.payloads unfit.payloads (sym stands.opened ∙ unfit.opened) in
    let spells : Spells unfit.payloads H = subst (λ (l : List (List ℕ)). Spells l H) same stands.spells in
    ⊎_elim
    (λ (empty : IsEmptyAt unfit.payloads o).
    empty-history H (subst (λ (l : List (List ℕ)). Spells l H) empty.none spells) stands.legal)
    (λ (at : IsUnfitAt unfit.payloads o).
    let on = fits unfit.payloads H at.H at.before at.payload at.later (opens-fit unfit.payloads bytes unfit.opened)
    spells stands.legal at.split at.spells in
    at.unfit on.0 on.1 on.2 on.3)
    unfit.unfit)
    bad

pub stands-born : (H : List Entry) (bytes : List ℕ) → StandsFor H bytes → opens bytes ≡ unborn → ⊥
stands-born H bytes stands none = holds-unborn stands.payloads (sym stands.opened ∙ none)

pub damaged-born : (bytes : List ℕ) (o : ℕ) → IsDamagedAt bytes o → opens bytes ≡ unborn → ⊥
damaged-born bytes o bad none = ⊎_elim
    (λ (file : opens bytes ≡ damaged o). damaged-unborn o (sym file ∙ none))
    (λ (unfit : HoldsUnfit bytes o). holds-unborn unfit.payloads (sym unfit.opened ∙ none))
    bad

-- two places in one list: the same, or one before the other
data Places {X : Type 0} (a : List X) (x : X) (b : List X) (y : X) : Type 0 where
  at_one : a ≡ b → Places a x b y
  at_first : (mid : List X) → b ≡ a ++ x ∷ mid → Places a x b y
  at_last : (mid : List X) → a ≡ b ++ y ∷ mid → Places a x b y

places-on : {X : Type 0} (a b : List X) (x y c d : X) → c ≡ d → Places a x b y → Places (c ∷ a) x (d ∷ b) y
places-on a b x y c d head (at_one is) = at_one (ap (λ z. z ∷ a) head ∙ ap (λ l. d ∷ l) is)
places-on a b x y c d head (at_first mid is) =
    at_first mid (ap (λ l. d ∷ l) is ∙ ap (λ z. z ∷ a ++ x ∷ mid) (sym head))
places-on a b x y c d head (at_last mid is) =
    at_last mid (ap (λ l. c ∷ l) is ∙ ap (λ z. z ∷ b ++ y ∷ mid) head)

places : {X : Type 0} (a : List X) (x : X) (xs b : List X) (y : X) (ys : List X) → a ++ x ∷ xs ≡ b ++ y ∷ ys
    → Places a x b y
places [] x xs [] y ys is = at_one refl
places [] x xs (c ∷ b) y ys is = at_first b (ap (λ z. z ∷ b) (sym (first-same x c xs (b ++ y ∷ ys) is)))
places (c ∷ a) x xs [] y ys is = at_last a (ap (λ z. z ∷ a) (first-same c y (a ++ x ∷ xs) ys is))
places (c ∷ a) x xs (d ∷ b) y ys is =
    places-on a b x y c d (first-same c d (a ++ x ∷ xs) (b ++ y ∷ ys) is)
    (places a x xs b y ys (rest-same c d (a ++ x ∷ xs) (b ++ y ∷ ys) is))

begun-legal : (before : List (List ℕ)) (H : List Entry) (a : List (List ℕ)) (p : List ℕ) (mid : List (List ℕ))
    → (before ≡ []) ⊎ IsLegal H → before ≡ a ++ p ∷ mid → IsLegal H
begun-legal before H a p mid begun is = ⊎_elim
    (λ (none : before ≡ []). absurd (no-more a p mid (sym is ∙ none)))
    (λ legal. legal)
    begun

-- the first record that doesn't fit is one
unfit-by : (payloads : List (List ℕ)) (a b : ℕ) → All IsPayload payloads → (one : IsUnfitAt payloads a)
    → (two : IsUnfitAt payloads b) → Places one.before one.payload two.before two.payload → a ≡ b
unfit-by payloads a b all one two (at_one is) = one.at ∙ ap gate_of is ∙ sym two.at
unfit-by payloads a b all one two (at_first mid is) =
    let legal = begun-legal two.before two.H one.before one.payload mid two.begun is in
    let fit : All IsPayload two.before = all-front IsPayload two.before (two.payload ∷ two.later)
    (subst (λ (l : List (List ℕ)). All IsPayload l) two.split all) in
    let on = fits two.before two.H one.H one.before one.payload mid fit two.spells legal is one.spells in
    absurd (one.unfit on.0 on.1 on.2 on.3)
unfit-by payloads a b all one two (at_last mid is) =
    let legal = begun-legal one.before one.H two.before two.payload mid one.begun is in
    let fit : All IsPayload one.before = all-front IsPayload one.before (one.payload ∷ one.later)
    (subst (λ (l : List (List ℕ)). All IsPayload l) one.split all) in
    let on = fits one.before one.H two.H two.before two.payload mid fit one.spells legal is two.spells in
    absurd (two.unfit on.0 on.1 on.2 on.3)

unfit-once : (payloads : List (List ℕ)) (a b : ℕ) → All IsPayload payloads → IsUnfitAt payloads a
    → IsUnfitAt payloads b → a ≡ b
unfit-once payloads a b all one two = unfit-by payloads a b all one two
    (places one.before one.payload one.later two.before two.payload two.later (sym one.split ∙ two.split))

empty-unfit : (payloads : List (List ℕ)) (a b : ℕ) → IsEmptyAt payloads a → IsUnfitAt payloads b → ⊥
empty-unfit payloads a b empty unfit = no-more unfit.before unfit.payload unfit.later (sym unfit.split ∙ empty.none)

holds-once : (bytes : List ℕ) (a b : ℕ) → HoldsUnfit bytes a → HoldsUnfit bytes b → a ≡ b
holds-once bytes a b one other =
    let is : other.payloads ≡ one.payloads = holds-one other.payloads one.payloads (sym other.opened ∙ one.opened) in
    let two : IsEmptyAt one.payloads b ⊎ IsUnfitAt one.payloads b =
    subst (λ (l : List (List ℕ)). IsEmptyAt l b ⊎ IsUnfitAt l b) is other.unfit in
    ⊎_elim
    (λ (e : IsEmptyAt one.payloads a). ⊎_elim
    (λ (f : IsEmptyAt one.payloads b). e.at ∙ sym f.at)
    (λ (u : IsUnfitAt one.payloads b). absurd (empty-unfit one.payloads a b e u))
    two)
    (λ (u : IsUnfitAt one.payloads a). ⊎_elim
    (λ (e : IsEmptyAt one.payloads b). absurd (empty-unfit one.payloads b a e u))
    (λ (v : IsUnfitAt one.payloads b).
    unfit-once one.payloads a b (opens-fit one.payloads bytes one.opened) u v)
    two)
    one.unfit

pub damaged-once : (bytes : List ℕ) (a b : ℕ) → IsDamagedAt bytes a → IsDamagedAt bytes b → a ≡ b
damaged-once bytes a b one two = ⊎_elim
    (λ (file : opens bytes ≡ damaged a). ⊎_elim
    (λ (other : opens bytes ≡ damaged b). damaged-one a b (sym file ∙ other))
    (λ (unfit : HoldsUnfit bytes b). absurd (holds-damaged unfit.payloads a (sym unfit.opened ∙ file)))
    two)
    (λ (unfit : HoldsUnfit bytes a). ⊎_elim
    (λ (file : opens bytes ≡ damaged b). absurd (holds-damaged unfit.payloads b (sym unfit.opened ∙ file)))
    (λ (other : HoldsUnfit bytes b). holds-once bytes a b unfit other)
    two)
    one
