-- Where a file is damaged, and its parts.
use Rattle.std.proofs.Common.{◌≡◌, ◌≢◌, ◌⊎◌, inl, inr, ⊎_elim, ℕ, zero, suc, ◌+◌, ◌≤◌, ◌<◌, Bool, true, false, nat_le, nat_lt, ◌||◌, List, [], ◌∷◌, ◌++◌, length, get_or, take, drop, Option, Some, None, refl, sym, ◌∙◌, ap, arith, append_assoc, length-append, length-drop, drop-drop}
use Rattle.std.specs.Prelude.{if◌then◌else◌, ◌==◌}
use Rattle.std.specs.Option.{option_or}
use Rattle.std.proofs.lemmas.Bool.{cases_lt, cases_eq, cases_Bool}
use Rattle.std.proofs.lemmas.Bool.Decides.{nat_tests}
use Rattle.std.proofs.lemmas.List.{drop_at, drop_more, get_or_append_left, length-take}
use Rattle.std.proofs.lemmas.Option.{same_Some, none-some}
use Rattle.farm_journal.specs.Layout.{Opening, unborn, damaged, holds, told_length, is_whole, with_payload, records, first_difference, header_fault, is_unborn, opens_born, opens}
use Rattle.farm_journal.specs.Gates.{header, IsRecord, Chain}
use Rattle.farm_journal.specs.Damage.{IsHeaderFault, IsRecordFault, DamagedIsFault, FaultIsDamaged}
use Rattle.farm_journal.specs.declared.layout.TheConstants.{FIRST_GATE, MAGIC}
use Rattle.farm_journal.proofs.Once.{length-record}
use Rattle.farm_journal.proofs.Openings.{record-parts, record-read, whole-record, whole-split, header-sound, is-born, header-parts, first_difference-none}

-- the bytes are as wanted for so many, and then comes another one or none
record Differs (o found : ℕ) (wants bytes : List ℕ) : Type 0 where
  pub right : ℕ
  pub rest : List ℕ
  pub within : right < length wants
  pub whole : bytes ≡ take right wants ++ rest
  pub at : found ≡ o + right
  pub other : (more : List ℕ) → rest ≡ get_or wants right 0 ∷ more → ⊥

head_is : (x y : ℕ) (xs ys : List ℕ) → x ∷ xs ≡ y ∷ ys → x ≡ y
head_is x y xs ys is = cc

tail_is : (x y : ℕ) (xs ys : List ℕ) → x ∷ xs ≡ y ∷ ys → xs ≡ ys
tail_is x y xs ys is = cc

not_empty : (y : ℕ) (ys : List ℕ) → [] ≡ y ∷ ys → ⊥
not_empty y ys is = cc

-- the first difference is where the bytes leave what is wanted
difference-differs : (o found : ℕ) (wants bytes : List ℕ) → first_difference o wants bytes ≡ Some found
    → Differs o found wants bytes
difference-differs o found [] bytes is = absurd (none-some found is)
difference-differs o found (want ∷ wants) [] is = record {
  right = 0;
  rest = [];
  within = omega arith;
  whole = refl;
  at = sym (same_Some o found is) ∙ omega arith;
  other = λ more same. not_empty want more same;
}
difference-differs o found (want ∷ wants) (byte ∷ bytes) is = ⊎_elim
    (λ (same : byte ≡ want).
    let test : (byte == want) ≡ true = grind (arith, nat_tests, same) in
    let later : first_difference (o + 1) wants bytes ≡ Some found =
    sym (ap (λ (b : Bool). if b then first_difference (o + 1) wants bytes else Some o) test) ∙ is in
    let d = difference-differs (o + 1) found wants bytes later in
    record {
      right = suc d.right;
      rest = d.rest;
      within = omega (arith, d.within);
      whole = ap (λ (b : ℕ). b ∷ bytes) same ∙ ap (λ (l : List ℕ). want ∷ l) d.whole;
      at = omega (arith, d.at);
      other = d.other;
    })
    (λ (unlike : byte ≢ want).
    let test : (byte == want) ≡ false = grind (arith, nat_tests, unlike) in
    let here : Some o ≡ Some found =
    sym (ap (λ (b : Bool). if b then first_difference (o + 1) wants bytes else Some o) test) ∙ is in
    record {
      right = 0;
      rest = byte ∷ bytes;
      within = omega arith;
      whole = refl;
      at = sym (same_Some o found here) ∙ omega arith;
      other = λ more same. unlike (head_is byte want bytes more same);
    })
    (cases_eq byte want)

-- and where they leave it is the first difference
differs-difference : (o right : ℕ) (wants rest : List ℕ) → right < length wants
    → ((more : List ℕ) → rest ≡ get_or wants right 0 ∷ more → ⊥)
    → first_difference o wants (take right wants ++ rest) ≡ Some (o + right)
differs-difference o right [] rest within other = absurd (omega (arith, within))
differs-difference o zero (want ∷ wants) [] within other = ap (λ (k : ℕ). Some k) (omega arith)
differs-difference o zero (want ∷ wants) (byte ∷ bytes) within other =
    let unlike : byte ≢ want = λ same. other bytes (ap (λ (b : ℕ). b ∷ bytes) same) in
    let test : (byte == want) ≡ false = grind (arith, nat_tests, unlike) in
    ap (λ (b : Bool). if b then first_difference (o + 1) wants bytes else Some o) test
    ∙ ap (λ (k : ℕ). Some k) (omega arith)
differs-difference o (suc right) (want ∷ wants) rest within other =
    let bytes = take right wants ++ rest in
    let test : (want == want) ≡ true = grind (arith, nat_tests) in
    ap (λ (b : Bool). if b then first_difference (o + 1) wants bytes else Some o) test
    ∙ differs-difference (o + 1) right wants rest (omega (arith, within)) other
    ∙ ap (λ (k : ℕ). Some k) (omega arith)

-- what a payload was put before
with_payload-damaged : (p : List ℕ) (found : Opening) (o : ℕ) → with_payload p found ≡ damaged o → found ≡ damaged o
with_payload-damaged p unborn o is = absurd (cc)
with_payload-damaged p (damaged q) o is = is
with_payload-damaged p (holds qs) o is = absurd (cc)

damaged_is : (o p : ℕ) → damaged o ≡ damaged p → p ≡ o
damaged_is o p is = cc

-- open records of these payloads up to an offset, and what fails there
record Stops (o k : ℕ) (bytes : List ℕ) : Type 0 where
  pub payloads : List (List ℕ)
  pub chained : List ℕ
  pub rest : List ℕ
  pub chain : Chain payloads chained
  pub whole : bytes ≡ chained ++ rest
  pub at : k ≡ o + length chained
  pub not_closed : (more : List ℕ) → rest ≡ 0 ∷ more → ⊥
  pub not_whole : (gate : ℕ) (payload written more : List ℕ) → IsRecord payload written → rest ≡ gate ∷ written ++ more
      → ⊥

stops-empty : (o k : ℕ) → k ≡ o → Stops o k []
stops-empty o k is = record {
  payloads = [];
  chained = [];
  rest = [];
  chain = refl;
  whole = refl;
  at = omega (arith, is);
  not_closed = λ more same. not_empty 0 more same;
  not_whole = λ gate payload written more is_record same. not_empty gate (written ++ more) same;
}

-- where the records fail they stand as open records up to there
records-stop : (n o k : ℕ) (bytes : List ℕ) → length bytes ≤ n → records n o bytes ≡ damaged k → Stops o k bytes
records-stop zero o k [] enough is = stops-empty o k (damaged_is o k is)
records-stop zero o k (gate ∷ rest) enough is = absurd (omega (arith, enough))
records-stop (suc n) o k [] enough is = stops-empty o k (damaged_is o k is)
records-stop (suc n) o k (gate ∷ rest) enough is =
    let size = told_length rest in
    let p = take size (drop 4 rest) in
    let behind = drop (4 + size) rest in
    ⊎_elim
    (λ (shut : gate ≡ 0).
    let none : holds [] ≡ damaged k = sym (ap (λ (g : ℕ). records (suc n) o (g ∷ rest)) shut) ∙ is in
    absurd (cc))
    (λ (is_open : gate ≢ 0).
    let test : (gate == 0) ≡ false = grind (arith, nat_tests, is_open) in
    let now : (if is_whole rest then with_payload p (records n (o + 5 + size) behind) else damaged o) ≡ damaged k =
    sym (ap (λ (b : Bool). if b then holds [] else if is_whole rest
    then with_payload p (records n (o + 5 + size) behind) else damaged o) test) ∙ is in
    ⊎_elim
    (λ (whole : is_whole rest ≡ true).
    let found : records n (o + 5 + size) behind ≡ damaged k =
    with_payload-damaged p (records n (o + 5 + size) behind) k
    (sym (ap (λ (b : Bool). if b then with_payload p (records n (o + 5 + size) behind) else damaged o) whole) ∙ now) in
    let written = take 4 rest ++ p in
    let made : IsRecord p written = whole-record rest whole in
    let split : rest ≡ written ++ behind = whole-split rest whole in
    let fewer : length behind ≤ n = omega (arith, enough, ap length split, length-append written behind) in
    let more = records-stop n (o + 5 + size) k behind fewer found in
    record {
      payloads = p ∷ more.payloads;
      chained = gate ∷ written ++ more.chained;
      rest = more.rest;
      chain = (gate, written, more.chained, is_open, made, refl, more.chain);
      whole = ap (λ (l : List ℕ). gate ∷ l)
          (split ∙ ap (λ (l : List ℕ). written ++ l) more.whole ∙ sym (append_assoc written more.chained more.rest));
      at = omega (arith, more.at, length-append written more.chained, length-record p written made, size_is rest whole);
      not_closed = more.not_closed;
      not_whole = more.not_whole;
    })
    (λ (torn : is_whole rest ≡ false).
    let here : damaged o ≡ damaged k =
    sym (ap (λ (b : Bool). if b then with_payload p (records n (o + 5 + size) behind) else damaged o) torn) ∙ now in
    record {
      payloads = [];
      chained = [];
      rest = gate ∷ rest;
      chain = refl;
      whole = refl;
      at = omega (arith, damaged_is o k here);
      not_closed = λ more same. is_open (head_is gate 0 rest more same);
      not_whole = λ other payload written more is_record same.
          let same_rest = tail_is gate other rest (written ++ more) same in
          let whole : is_whole rest ≡ true =
          ap (λ (l : List ℕ). is_whole l) same_rest ∙ (record-read payload written more is_record).whole in
          both (is_whole rest) whole torn;
    })
    (cases_Bool (is_whole rest)))
    (cases_eq gate 0)
  where
    size_is : (rest : List ℕ) → is_whole rest ≡ true → length (take (told_length rest) (drop 4 rest)) ≡ told_length rest
    size_is rest whole =
        omega (arith, length-take (told_length rest) (drop 4 rest), length-drop 4 rest, (record-parts rest whole).3)

    both : (b : Bool) → b ≡ true → b ≡ false → ⊥
    both b yes_is no_is = cc

-- where they fail the records stop
stops-records : (ps : List (List ℕ)) (chained rest : List ℕ) (n o : ℕ) → Chain ps chained → length (chained ++ rest) ≤ n
    → ((more : List ℕ) → rest ≡ 0 ∷ more → ⊥)
    → ((gate : ℕ) (payload written more : List ℕ) → IsRecord payload written → rest ≡ gate ∷ written ++ more → ⊥)
    → records n o (chained ++ rest) ≡ damaged (o + length chained)
stops-records [] chained rest n o chain enough not_closed not_whole =
    let none : length chained ≡ 0 = ap length chain in
    ap (λ (l : List ℕ). records n o (l ++ rest)) chain ∙ here n rest not_closed not_whole
    ∙ ap (λ (k : ℕ). damaged k) (omega (arith, none))
  where
    here : (n : ℕ) (rest : List ℕ) → ((more : List ℕ) → rest ≡ 0 ∷ more → ⊥)
        → ((gate : ℕ) (payload written more : List ℕ) → IsRecord payload written → rest ≡ gate ∷ written ++ more → ⊥)
        → records n o rest ≡ damaged o
    here zero rest not_closed not_whole = refl
    here (suc n) [] not_closed not_whole = refl
    here (suc n) (gate ∷ more) not_closed not_whole =
        let size = told_length more in
        let p = take size (drop 4 more) in
        let later = with_payload p (records n (o + 5 + size) (drop (4 + size) more)) in
        let is_open : gate ≢ 0 = λ shut. not_closed more (ap (λ (g : ℕ). g ∷ more) shut) in
        let torn : is_whole more ≡ false = ⊎_elim
        (λ (whole : is_whole more ≡ true).
        absurd (not_whole gate p (take 4 more ++ p) (drop (4 + size) more) (whole-record more whole)
        (ap (λ (l : List ℕ). gate ∷ l) (whole-split more whole))))
        (λ (other : is_whole more ≡ false). other)
        (cases_Bool (is_whole more)) in
        let test : (gate == 0) ≡ false = grind (arith, nat_tests, is_open) in
        ap (λ (b : Bool). if b then holds [] else if is_whole more then later else damaged o) test
        ∙ ap (λ (b : Bool). if b then later else damaged o) torn
stops-records (p ∷ ps) chained rest zero o chain enough not_closed not_whole =
    absurd (omega (arith, enough, length-append chained rest, ap length chain.5))
stops-records (p ∷ ps) chained rest (suc n) o chain enough not_closed not_whole =
    let more = chain.2 ++ rest in
    let split : chained ++ rest ≡ chain.0 ∷ (chain.1 ++ more) =
    ap (λ (l : List ℕ). l ++ rest) chain.5 ∙ append_assoc (chain.0 ∷ chain.1) chain.2 rest in
    let read = record-read p chain.1 more chain.4 in
    let fewer : length more ≤ n = omega (arith, enough, ap length split, length-append chain.1 more) in
    let is_open : (chain.0 == 0) ≡ false = grind (arith, nat_tests, chain.3) in
    let later : records n (o + 5 + length p) more ≡ damaged (o + 5 + length p + length chain.2) =
    stops-records ps chain.2 rest n (o + 5 + length p) chain.6 fewer not_closed not_whole in
    let all : o + 5 + length p + length chain.2 ≡ o + length chained =
    omega (arith, ap length chain.5, length-append chain.1 chain.2, length-record p chain.1 chain.4) in
    ap (λ (l : List ℕ). records (suc n) o l) split
    ∙ ap (λ (b : Bool). if b then holds [] else if is_whole (chain.1 ++ more)
    then with_payload (take (told_length (chain.1 ++ more)) (drop 4 (chain.1 ++ more)))
    (records n (o + 5 + told_length (chain.1 ++ more)) (drop (4 + told_length (chain.1 ++ more)) (chain.1 ++ more)))
    else damaged o) is_open
    ∙ ap (λ (b : Bool). if b
    then with_payload (take (told_length (chain.1 ++ more)) (drop 4 (chain.1 ++ more)))
    (records n (o + 5 + told_length (chain.1 ++ more)) (drop (4 + told_length (chain.1 ++ more)) (chain.1 ++ more)))
    else damaged o) read.whole
    ∙ ap (λ (k : ℕ). with_payload (take k (drop 4 (chain.1 ++ more)))
    (records n (o + 5 + k) (drop (4 + k) (chain.1 ++ more)))) read.size
    ∙ ap (λ (l : List ℕ). with_payload l (records n (o + 5 + length p) (drop (4 + length p) (chain.1 ++ more))))
    read.payload
    ∙ ap (λ (l : List ℕ). with_payload p (records n (o + 5 + length p) l)) read.rest
    ∙ ap (λ (found : Opening). with_payload p found) later
    ∙ ap (λ (k : ℕ). damaged k) all

-- a file that isn't unborn
born-parts : (bytes : List ℕ) → is_unborn bytes ≡ false → (2 ≤ length bytes) × (get_or bytes 0 0 ≢ 0)
born-parts bytes born = tests (length bytes) (get_or bytes 0 0) born
  where
    tests : (n b : ℕ) → (nat_le n 1 || b == 0) ≡ false → (2 ≤ n) × (b ≢ 0)
    tests n b is = (grind (arith, nat_tests, is), λ zero_is. absurd (grind (arith, nat_tests, is, zero_is)))

parts-born : (bytes : List ℕ) → 2 ≤ length bytes → get_or bytes 0 0 ≢ 0 → is_unborn bytes ≡ false
parts-born bytes long born = tests (length bytes) (get_or bytes 0 0) long born
  where
    tests : (n b : ℕ) → 2 ≤ n → b ≢ 0 → (nat_le n 1 || b == 0) ≡ false
    tests n b long born = grind (arith, nat_tests, long, born)

-- the fault of a header
header-fault-parts : (bytes : List ℕ) (o : ℕ) → is_unborn bytes ≡ false → header_fault bytes ≡ Some o
    → IsHeaderFault bytes o
header-fault-parts bytes o born is = by (first_difference 1 MAGIC (drop 1 bytes)) refl is
  where
    last_byte : Option ℕ
    last_byte = if nat_lt 15 (length bytes) then None else Some 15

    parts : (2 ≤ length bytes) × (get_or bytes 0 0 ≢ 0)
    parts = born-parts bytes born

    first : bytes ≡ get_or bytes 0 0 ∷ drop 1 bytes
    first = drop_more bytes 0 0 (omega (arith, parts.0))

    short : (n : ℕ) → if◌then◌else◌ {A = Option ℕ} (nat_lt 15 n) None (Some 15) ≡ Some o → (n ≤ 15) × (o ≡ 15)
    short n last = ⊎_elim
        (λ (more : 15 < n).
        let test : nat_lt 15 n ≡ true = grind (arith, nat_tests, more) in
        absurd (none-some o (sym (ap (λ (b : Bool). if◌then◌else◌ {A = Option ℕ} b None (Some 15)) test) ∙ last)))
        (λ (few : n ≤ 15).
        let test : nat_lt 15 n ≡ false = grind (arith, nat_tests, few) in
        (few, sym (same_Some 15 o (sym (ap (λ (b : Bool). if◌then◌else◌ {A = Option ℕ} b None (Some 15)) test) ∙ last))))
        (cases_lt 15 n)

    by : (found : Option ℕ) → first_difference 1 MAGIC (drop 1 bytes) ≡ found → option_or found last_byte ≡ Some o
        → IsHeaderFault bytes o
    by (Some f) differs whole_is =
        let d = difference-differs 1 o MAGIC (drop 1 bytes) (differs ∙ whole_is) in
        record {
          birth = get_or bytes 0 0;
          right = d.right;
          rest = d.rest;
          born = parts.1;
          long = parts.0;
          within = omega (arith, d.within);
          whole = first ∙ ap (λ (l : List ℕ). get_or bytes 0 0 ∷ l) d.whole;
          at = d.at;
          other = λ version more same. d.other more
              (same ∙ ap (λ (b : ℕ). b ∷ more) (get_or_append_left MAGIC (version ∷ []) 0 d.right d.within));
        }
    by None differs whole_is =
        let ends = short (length bytes) whole_is in
        let none : length (drop 15 bytes) ≡ 0 = omega (arith, length-drop 15 bytes, ends.0) in
        let middle : drop 1 bytes ≡ MAGIC ++ drop 15 bytes =
        first_difference-none 1 MAGIC (drop 1 bytes) differs ∙ ap (λ (l : List ℕ). MAGIC ++ l) (drop-drop 14 1 bytes) in
        record {
          birth = get_or bytes 0 0;
          right = 14;
          rest = drop 15 bytes;
          born = parts.1;
          long = parts.0;
          within = omega arith;
          whole = first ∙ ap (λ (l : List ℕ). get_or bytes 0 0 ∷ l) middle;
          at = ends.1;
          other = λ version more same. absurd (omega (arith, none, ap length same));
        }

-- the parts of a header with a fault
parts-header-fault : (birth right : ℕ) (rest : List ℕ) → right ≤ length MAGIC
    → ((version : ℕ) (more : List ℕ) → rest ≡ get_or (MAGIC ++ version ∷ []) right 0 ∷ more → ⊥)
    → header_fault (birth ∷ take right MAGIC ++ rest) ≡ Some (1 + right)
parts-header-fault birth right rest within other = ⊎_elim early late (cases_lt right (length MAGIC))
  where
    early : right < length MAGIC → header_fault (birth ∷ take right MAGIC ++ rest) ≡ Some (1 + right)
    early before =
        let last_byte : Option ℕ = if nat_lt 15 (length (birth ∷ take right MAGIC ++ rest)) then None else Some 15 in
        ap (λ (found : Option ℕ). option_or found last_byte)
        (differs-difference 1 right MAGIC rest before
        (λ more same. other 0 more (same ∙ ap (λ (b : ℕ). b ∷ more) (sym (get_or_append_left MAGIC (0 ∷ []) 0 right before)))))

    nothing : (l : List ℕ) → ((version : ℕ) (more : List ℕ) → l ≡ version ∷ more → ⊥) → l ≡ []
    nothing [] none = refl
    nothing (x ∷ xs) none = absurd (none x xs refl)

    late : length MAGIC ≤ right → header_fault (birth ∷ take right MAGIC ++ rest) ≡ Some (1 + right)
    late behind =
        let at : right ≡ 14 = omega (arith, within, behind) in
        let none : (version : ℕ) (more : List ℕ) → rest ≡ version ∷ more → ⊥ = λ version more same.
        other version more (same ∙ ap (λ (i : ℕ). get_or (MAGIC ++ version ∷ []) i 0 ∷ more) (sym at)) in
        ap (λ (i : ℕ). header_fault (birth ∷ take i MAGIC ++ rest)) at
        ∙ ap (λ (l : List ℕ). header_fault (birth ∷ MAGIC ++ l)) (nothing rest none)
        ∙ ap (λ (i : ℕ). Some (1 + i)) (sym at)

pub damaged-fault : DamagedIsFault
damaged-fault bytes o is = ⊎_elim
    (λ (unborn_is : is_unborn bytes ≡ true).
    let nothing : unborn ≡ damaged o =
    sym (ap (λ (b : Bool). if b then unborn else opens_born (header_fault bytes) bytes) unborn_is) ∙ is in
    absurd (cc))
    (λ (born : is_unborn bytes ≡ false).
    by born (header_fault bytes) refl
    (sym (ap (λ (b : Bool). if b then unborn else opens_born (header_fault bytes) bytes) born) ∙ is))
    (cases_Bool (is_unborn bytes))
  where
    by : is_unborn bytes ≡ false → (fault : Option ℕ) → header_fault bytes ≡ fault → opens_born fault bytes ≡ damaged o
        → IsHeaderFault bytes o ⊎ IsRecordFault bytes o
    by born (Some f) found now =
        inl (header-fault-parts bytes o born (found ∙ ap (λ (k : ℕ). Some k) (sym (damaged_is f o now))))
    by born None sound now =
        let head = header-parts bytes born sound in
        let front = header (get_or bytes 0 0) (get_or bytes 15 0) in
        let stop = records-stop (length bytes) FIRST_GATE o (drop FIRST_GATE bytes)
        (omega (arith, length-drop FIRST_GATE bytes)) now in
        inr (record {
          version = get_or bytes 15 0;
          payloads = stop.payloads;
          front = front ++ stop.chained;
          rest = stop.rest;
          chain = record {
            birth = get_or bytes 0 0;
            chained = stop.chained;
            born = head.0;
            chain = stop.chain;
            whole = refl;
          };
          whole = head.1 ∙ ap (λ (l : List ℕ). (get_or bytes 0 0 ∷ MAGIC) ++ get_or bytes 15 0 ∷ l) stop.whole;
          at = omega (arith, stop.at, length-append front stop.chained);
          not_closed = stop.not_closed;
          not_whole = stop.not_whole;
        })

pub fault-damaged : FaultIsDamaged
fault-damaged bytes o fault = ⊎_elim by_header by_record fault
  where
    by_header : IsHeaderFault bytes o → opens bytes ≡ damaged o
    by_header f =
        let first : get_or bytes 0 0 ≡ f.birth = ap (λ (l : List ℕ). get_or l 0 0) f.whole in
        let born : is_unborn bytes ≡ false = parts-born bytes f.long (λ zero_is. f.born (sym first ∙ zero_is)) in
        let found : header_fault bytes ≡ Some (1 + f.right) =
        ap header_fault f.whole ∙ parts-header-fault f.birth f.right f.rest f.within f.other in
        ap (λ (b : Bool). if b then unborn else opens_born (header_fault bytes) bytes) born
        ∙ ap (λ (x : Option ℕ). opens_born x bytes) found
        ∙ ap (λ (k : ℕ). damaged k) (sym f.at)

    by_record : IsRecordFault bytes o → opens bytes ≡ damaged o
    by_record f =
        let birth = f.chain.birth in
        let tail = f.chain.chained ++ f.rest in
        let all = (birth ∷ MAGIC) ++ f.version ∷ tail in
        let whole : bytes ≡ all = f.whole ∙ ap (λ (l : List ℕ). l ++ f.rest) f.chain.whole in
        let behind : drop FIRST_GATE all ≡ tail = drop_at (header birth f.version) tail FIRST_GATE refl in
        let enough : length tail ≤ length all = omega (arith, length-append (birth ∷ MAGIC) (f.version ∷ tail)) in
        let at : FIRST_GATE + length f.chain.chained ≡ o =
        omega (arith, f.at, ap length f.chain.whole, length-append (header birth f.version) f.chain.chained) in
        ap opens whole
        ∙ ap (λ (b : Bool). if b then unborn else opens_born (header_fault all) all)
        (is-born birth f.version tail f.chain.born)
        ∙ ap (λ (x : Option ℕ). opens_born x all) (header-sound birth f.version tail)
        ∙ ap (λ (l : List ℕ). records (length all) FIRST_GATE l) behind
        ∙ stops-records f.payloads f.chain.chained f.rest (length all) FIRST_GATE f.chain.chain enough f.not_closed
        f.not_whole
        ∙ ap (λ (k : ℕ). damaged k) at
