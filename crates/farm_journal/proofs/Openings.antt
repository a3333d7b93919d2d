-- What a file opens to, and its parts.
use Rattle.std.proofs.Common.{◌≡◌, ◌≢◌, ⊎_elim, ℕ, zero, suc, ◌+◌, ◌≤◌, ◌<◌, Bool, true, false, nat_le, nat_lt, ◌&&◌, ◌||◌, List, [], ◌∷◌, ◌++◌, length, get_or, take, drop, Option, Some, None, refl, sym, ◌∙◌, ap, subst, arith, append_assoc, length-append, length-drop, take-append-drop, drop-drop}
use Rattle.std.specs.Prelude.{if◌then◌else◌, ◌==◌}
use Rattle.std.specs.Int.{from_be_bytes, w32}
use Rattle.std.proofs.lemmas.Bool.{cases_lt, cases_eq, cases_Bool}
use Rattle.std.proofs.lemmas.Bool.Decides.{nat_tests}
use Rattle.std.proofs.lemmas.List.{take_at, drop_at, drop_more, length-take}
use Rattle.std.specs.Option.{option_or}
use Rattle.farm_journal.specs.Layout.{Opening, unborn, damaged, holds, told_length, is_whole, with_payload, records, first_difference, header_fault, is_unborn, opens_born, opens, records_length, gate_of}
use Rattle.farm_journal.specs.Gates.{header, IsRecord, Chain, Holds}
use Rattle.farm_journal.specs.declared.layout.TheConstants.{MAX_PAYLOAD, FIRST_GATE, MAGIC}
use Rattle.farm_journal.proofs.Once.{length-record}

-- what is read of a record and what follows it
pub record ReadsAs (p x bytes : List ℕ) : Type 0 where
  pub whole : is_whole bytes ≡ true
  pub size : told_length bytes ≡ length p
  pub payload : take (length p) (drop 4 bytes) ≡ p
  pub rest : drop (4 + length p) bytes ≡ x

pub record-read : (p written x : List ℕ) → IsRecord p written → ReadsAs p x (written ++ x)
record-read p written x is =
    let split : written ++ x ≡ is.size ++ (p ++ x) = ap (λ (l : List ℕ). l ++ x) is.whole ∙ append_assoc is.size p x in
    let four : take 4 (written ++ x) ≡ is.size =
    ap (λ (l : List ℕ). take 4 l) split ∙ take_at is.size (p ++ x) 4 is.four in
    let size : told_length (written ++ x) ≡ length p = ap (λ (l : List ℕ). from_be_bytes w32 l) four ∙ is.tells in
    let long : length (written ++ x) ≡ 4 + length p + length x =
    omega (arith, length-append written x, length-record p written is) in
    record {
      whole = tests (length (written ++ x)) (told_length (written ++ x)) (omega (arith, long))
          (omega (arith, size, is.fits.some)) (omega (arith, size, is.fits.most)) (omega (arith, long, size));
      size = size;
      payload = ap (λ (l : List ℕ). take (length p) l)
          (ap (λ (l : List ℕ). drop 4 l) split ∙ drop_at is.size (p ++ x) 4 is.four) ∙ take_at p x (length p) refl;
      rest = drop_at written x (4 + length p) (length-record p written is);
    }
  where
    tests : (long size : ℕ) → 4 ≤ long → 1 ≤ size → size ≤ MAX_PAYLOAD → 4 + size ≤ long
        → (nat_le 4 long && nat_le 1 size && nat_le size MAX_PAYLOAD && nat_le (4 + size) long) ≡ true
    tests long size a b c d = grind (arith, nat_tests, a, b, c, d)

-- open records and a closed gate are read as their payloads
pub records-chain : (ps : List (List ℕ)) (chained rest : List ℕ) (n o : ℕ) → Chain ps chained
    → length (chained ++ 0 ∷ rest) ≤ n → records n o (chained ++ 0 ∷ rest) ≡ holds ps
records-chain [] chained rest zero o chain enough = absurd (omega (arith, enough, length-append chained (0 ∷ rest)))
records-chain [] chained rest (suc n) o chain enough = ap (λ (l : List ℕ). records (suc n) o (l ++ 0 ∷ rest)) chain
records-chain (p ∷ ps) chained rest zero o chain enough =
    absurd (omega (arith, enough, length-append chained (0 ∷ rest)))
records-chain (p ∷ ps) chained rest (suc n) o chain enough =
    let more = chain.2 ++ 0 ∷ rest in
    let split : chained ++ 0 ∷ rest ≡ chain.0 ∷ (chain.1 ++ more) =
    ap (λ (l : List ℕ). l ++ 0 ∷ rest) chain.5 ∙ append_assoc (chain.0 ∷ chain.1) chain.2 (0 ∷ rest) in
    let read = record-read p chain.1 more chain.4 in
    let fewer : length more ≤ n = omega (arith, enough, ap length split, length-append chain.1 more) in
    let is_open : (chain.0 == 0) ≡ false = grind (arith, nat_tests, chain.3) in
    let later : records n (o + 5 + length p) more ≡ holds ps =
    records-chain ps chain.2 rest n (o + 5 + length p) chain.6 fewer in
    ap (λ (l : List ℕ). records (suc n) o l) split
    ∙ ap (λ (b : Bool). if b then holds [] else if is_whole (chain.1 ++ more)
    then with_payload (take (told_length (chain.1 ++ more)) (drop 4 (chain.1 ++ more)))
    (records n (o + 5 + told_length (chain.1 ++ more)) (drop (4 + told_length (chain.1 ++ more)) (chain.1 ++ more)))
    else damaged o) is_open
    ∙ ap (λ (b : Bool). if b
    then with_payload (take (told_length (chain.1 ++ more)) (drop 4 (chain.1 ++ more)))
    (records n (o + 5 + told_length (chain.1 ++ more)) (drop (4 + told_length (chain.1 ++ more)) (chain.1 ++ more)))
    else damaged o) read.whole
    ∙ ap (λ (k : ℕ). with_payload (take k (drop 4 (chain.1 ++ more)))
    (records n (o + 5 + k) (drop (4 + k) (chain.1 ++ more)))) read.size
    ∙ ap (λ (l : List ℕ). with_payload l (records n (o + 5 + length p) (drop (4 + length p) (chain.1 ++ more))))
    read.payload
    ∙ ap (λ (l : List ℕ). with_payload p (records n (o + 5 + length p) l)) read.rest
    ∙ ap (λ (found : Opening). with_payload p found) later

-- how long the records are
pub length-chain : (ps : List (List ℕ)) (chained : List ℕ) → Chain ps chained → length chained ≡ records_length ps
length-chain [] chained chain = ap length chain
length-chain (p ∷ ps) chained chain =
    omega (
      arith,
      ap length chain.5,
      length-append chain.1 chain.2,
      length-record p chain.1 chain.4,
      length-chain ps chain.2 chain.6,
    )

-- the header of a born file is sound
pub header-sound : (birth v : ℕ) (tail : List ℕ) → header_fault ((birth ∷ MAGIC) ++ v ∷ tail) ≡ None
header-sound birth v tail =
    let long : nat_lt 15 (length ((birth ∷ MAGIC) ++ v ∷ tail)) ≡ true = grind (arith, nat_tests) in
    ap (λ (b : Bool). if b then None else Some 15) long

-- and it is born
pub is-born : (birth v : ℕ) (tail : List ℕ) → birth ≢ 0 → is_unborn ((birth ∷ MAGIC) ++ v ∷ tail) ≡ false
is-born birth v tail born =
    let long : nat_le (length ((birth ∷ MAGIC) ++ v ∷ tail)) 1 ≡ false = grind (arith, nat_tests) in
    let not_0 : (birth == 0) ≡ false = grind (arith, nat_tests, born) in
    ap (λ (b : Bool). b || birth == 0) long ∙ not_0

-- a file that holds payloads opens to them
pub opens-holds : (v : ℕ) (ps : List (List ℕ)) (g : ℕ) (bytes : List ℕ) → Holds v ps g bytes → opens bytes ≡ holds ps
opens-holds v ps g bytes held =
    let tail = held.chain.chained ++ 0 ∷ held.rest in
    let all = (held.chain.birth ∷ MAGIC) ++ v ∷ tail in
    let whole : bytes ≡ all = held.whole ∙ ap (λ (l : List ℕ). l ++ 0 ∷ held.rest) held.chain.whole in
    let behind : drop FIRST_GATE all ≡ tail = drop_at (header held.chain.birth v) tail FIRST_GATE refl in
    let enough : length tail ≤ length all = omega (arith, length-append (held.chain.birth ∷ MAGIC) (v ∷ tail)) in
    ap opens whole
    ∙ ap (λ (b : Bool). if b then unborn else opens_born (header_fault all) all)
    (is-born held.chain.birth v tail held.chain.born)
    ∙ ap (λ (o : Option ℕ). opens_born o all) (header-sound held.chain.birth v tail)
    ∙ ap (λ (l : List ℕ). records (length all) FIRST_GATE l) behind
    ∙ records-chain ps held.chain.chained held.rest (length all) FIRST_GATE held.chain.chain enough

-- where its closed gate stands
pub gate-holds : (v : ℕ) (ps : List (List ℕ)) (g : ℕ) (bytes : List ℕ) → Holds v ps g bytes → g ≡ gate_of ps
gate-holds v ps g bytes held =
    omega (
      arith,
      held.at,
      ap length held.chain.whole,
      length-append (header held.chain.birth v) held.chain.chained,
      length-chain ps held.chain.chained held.chain.chain,
    )

-- no difference: the bytes begin with what is wanted
pub first_difference-none : (o : ℕ) (wants bytes : List ℕ) → first_difference o wants bytes ≡ None
    → bytes ≡ wants ++ drop (length wants) bytes
first_difference-none o [] bytes none = refl
first_difference-none o (want ∷ wants) [] none = cc
first_difference-none o (want ∷ wants) (byte ∷ bytes) none = ⊎_elim
    (λ (same : byte ≡ want).
    let test : (byte == want) ≡ true = grind (arith, nat_tests, same) in
    let later : first_difference (o + 1) wants bytes ≡ None =
    sym (ap (λ (b : Bool). if b then first_difference (o + 1) wants bytes else Some o) test) ∙ none in
    ap (λ (b : ℕ). b ∷ bytes) same ∙ ap (λ (l : List ℕ). want ∷ l) (first_difference-none (o + 1) wants bytes later))
    (λ (other : byte ≢ want).
    let test : (byte == want) ≡ false = grind (arith, nat_tests, other) in
    let found : Some o ≡ None =
    sym (ap (λ (b : Bool). if b then first_difference (o + 1) wants bytes else Some o) test) ∙ none in
    absurd (cc))
    (cases_eq byte want)

-- what a payload was put before
with_payload-holds : (p : List ℕ) (found : Opening) (ps : List (List ℕ)) → with_payload p found ≡ holds ps
    → (qs : List (List ℕ)) × (found ≡ holds qs) × (p ∷ qs ≡ ps)
with_payload-holds p unborn ps is = absurd (cc)
with_payload-holds p (damaged o) ps is = absurd (cc)
with_payload-holds p (holds qs) ps is = let same : p ∷ qs ≡ ps = cc in (qs, refl, same)

-- the parts of a whole record
pub record-parts : (bytes : List ℕ) → is_whole bytes ≡ true
    → (4 ≤ length bytes) × (1 ≤ told_length bytes) × (told_length bytes ≤ MAX_PAYLOAD)
    × (4 + told_length bytes ≤ length bytes)
record-parts bytes whole = tests (length bytes) (told_length bytes) whole
  where
    tests : (long size : ℕ)
        → (nat_le 4 long && nat_le 1 size && nat_le size MAX_PAYLOAD && nat_le (4 + size) long) ≡ true
        → (4 ≤ long) × (1 ≤ size) × (size ≤ MAX_PAYLOAD) × (4 + size ≤ long)
    tests long size both = (
      grind (arith, nat_tests, both),
      grind (arith, nat_tests, both),
      grind (arith, nat_tests, both),
      grind (arith, nat_tests, both),
    )

pub whole-record : (bytes : List ℕ) → is_whole bytes ≡ true
    → IsRecord (take (told_length bytes) (drop 4 bytes)) (take 4 bytes ++ take (told_length bytes) (drop 4 bytes))
whole-record bytes whole =
    let fits = record-parts bytes whole in
    let size : length (take (told_length bytes) (drop 4 bytes)) ≡ told_length bytes =
    omega (arith, length-take (told_length bytes) (drop 4 bytes), length-drop 4 bytes, fits.3) in
    record {
      size = take 4 bytes;
      four = omega (arith, length-take 4 bytes, fits.0);
      tells = sym size;
      fits = record { some = omega (arith, size, fits.1); most = omega (arith, size, fits.2) };
      whole = refl;
    }

pub whole-split : (bytes : List ℕ) → is_whole bytes ≡ true
    → bytes ≡ (take 4 bytes ++ take (told_length bytes) (drop 4 bytes)) ++ drop (4 + told_length bytes) bytes
whole-split bytes whole =
    sym (take-append-drop 4 bytes)
    ∙ ap (λ (l : List ℕ). take 4 bytes ++ l)
    (sym (take-append-drop (told_length bytes) (drop 4 bytes))
    ∙ ap (λ (l : List ℕ). take (told_length bytes) (drop 4 bytes) ++ l) (drop-drop (told_length bytes) 4 bytes))
    ∙ sym (append_assoc (take 4 bytes) (take (told_length bytes) (drop 4 bytes)) (drop (4 + told_length bytes) bytes))

-- where records are read, they stand as open records and a closed gate
records-holds : (n o : ℕ) (bytes : List ℕ) (ps : List (List ℕ)) → records n o bytes ≡ holds ps
    → (chained : List ℕ) × (rest : List ℕ) × Chain ps chained × (bytes ≡ chained ++ 0 ∷ rest)
records-holds zero o bytes ps is = absurd (cc)
records-holds (suc n) o [] ps is = absurd (cc)
records-holds (suc n) o (gate ∷ rest) ps is =
    let size = told_length rest in
    let p = take size (drop 4 rest) in
    let behind = drop (4 + size) rest in
    ⊎_elim
    (λ (shut : gate ≡ 0).
    let none : holds [] ≡ holds ps = sym (ap (λ (k : ℕ). records (suc n) o (k ∷ rest)) shut) ∙ is in
    let empty : [] ≡ ps = cc in
    ([], rest, subst (λ (qs : List (List ℕ)). Chain qs []) empty refl, ap (λ (k : ℕ). k ∷ rest) shut))
    (λ (is_open : gate ≢ 0).
    let test : (gate == 0) ≡ false = grind (arith, nat_tests, is_open) in
    let now : (if is_whole rest then with_payload p (records n (o + 5 + size) behind) else damaged o) ≡ holds ps =
    sym (ap (λ (b : Bool). if b then holds [] else if is_whole rest
    then with_payload p (records n (o + 5 + size) behind) else damaged o) test) ∙ is in
    ⊎_elim
    (λ (whole : is_whole rest ≡ true).
    let found = with_payload-holds p (records n (o + 5 + size) behind) ps
    (sym (ap (λ (b : Bool). if b then with_payload p (records n (o + 5 + size) behind) else damaged o) whole) ∙ now) in
    let more = records-holds n (o + 5 + size) behind found.0 found.1 in (
      gate ∷ (take 4 rest ++ p) ++ more.0,
      more.1,
      subst (λ (qs : List (List ℕ)). Chain qs (gate ∷ (take 4 rest ++ p) ++ more.0)) found.2
          (gate, take 4 rest ++ p, more.0, is_open, whole-record rest whole, refl, more.2),
      ap (λ (l : List ℕ). gate ∷ l)
          (whole-split rest whole ∙ ap (λ (l : List ℕ). (take 4 rest ++ p) ++ l) more.3
          ∙ sym (append_assoc (take 4 rest ++ p) more.0 (0 ∷ more.1))),
    ))
    (λ (torn : is_whole rest ≡ false).
    let nothing : damaged o ≡ holds ps =
    sym (ap (λ (b : Bool). if b then with_payload p (records n (o + 5 + size) behind) else damaged o) torn) ∙ now in
    absurd (cc))
    (cases_Bool (is_whole rest)))
    (cases_eq gate 0)

-- a sound header of a born file
pub header-parts : (bytes : List ℕ) → is_unborn bytes ≡ false → header_fault bytes ≡ None
    → (get_or bytes 0 0 ≢ 0) × (bytes ≡ (get_or bytes 0 0 ∷ MAGIC) ++ get_or bytes 15 0 ∷ drop 16 bytes)
header-parts bytes born sound =
    let last_byte : Option ℕ = if nat_lt 15 (length bytes) then None else Some 15 in
    let both = both-none (first_difference 1 MAGIC (drop 1 bytes)) last_byte sound in
    let long : 15 < length bytes = longer (length bytes) both.1 in
    let not_0 : get_or bytes 0 0 ≢ 0 = birth (length bytes) (get_or bytes 0 0) born in
    let first : bytes ≡ get_or bytes 0 0 ∷ drop 1 bytes = drop_more bytes 0 0 (omega (arith, long)) in
    let middle : drop 1 bytes ≡ MAGIC ++ drop 15 bytes =
    first_difference-none 1 MAGIC (drop 1 bytes) both.0 ∙ ap (λ (l : List ℕ). MAGIC ++ l) (drop-drop 14 1 bytes) in
    let last : drop 15 bytes ≡ get_or bytes 15 0 ∷ drop 16 bytes = drop_more bytes 15 0 long in
    (not_0, first ∙ ap (λ (l : List ℕ). get_or bytes 0 0 ∷ l) (middle ∙ ap (λ (l : List ℕ). MAGIC ++ l) last))
  where
    both-none : (a b : Option ℕ) → option_or a b ≡ None → (a ≡ None) × (b ≡ None)
    both-none None b is = (refl, is)
    both-none (Some x) b is = absurd (cc)

    longer : (n : ℕ) → if◌then◌else◌ {A = Option ℕ} (nat_lt 15 n) None (Some 15) ≡ None → 15 < n
    longer n is = ⊎_elim (λ (more : 15 < n). more) (λ (few : n ≤ 15).
        let test : nat_lt 15 n ≡ false = grind (arith, nat_tests, few) in
        let nothing : Some 15 ≡ None =
        sym (ap (λ (b : Bool). if◌then◌else◌ {A = Option ℕ} b None (Some 15)) test) ∙ is in
        absurd (cc)) (cases_lt 15 n)

    birth : (n b : ℕ) → (nat_le n 1 || b == 0) ≡ false → b ≢ 0
    birth n b not_unborn = λ zero_is. absurd (grind (arith, nat_tests, not_unborn, zero_is))

-- a file that opens to payloads has their parts
pub holds-opens : (ps : List (List ℕ)) (bytes : List ℕ) → opens bytes ≡ holds ps
    → Holds (get_or bytes 15 0) ps (gate_of ps) bytes
holds-opens ps bytes is = ⊎_elim
    (λ (unborn_is : is_unborn bytes ≡ true).
    let nothing : unborn ≡ holds ps =
    sym (ap (λ (b : Bool). if b then unborn else opens_born (header_fault bytes) bytes) unborn_is) ∙ is in
    absurd (cc))
    (λ (born : is_unborn bytes ≡ false).
    let now : opens_born (header_fault bytes) bytes ≡ holds ps =
    sym (ap (λ (b : Bool). if b then unborn else opens_born (header_fault bytes) bytes) born) ∙ is in
    let sound : header_fault bytes ≡ None = no_fault (header_fault bytes) now in
    let head = header-parts bytes born sound in
    let found = records-holds (length bytes) FIRST_GATE (drop FIRST_GATE bytes) ps
    (sym (ap (λ (o : Option ℕ). opens_born o bytes) sound) ∙ now) in
    let size : length (header (get_or bytes 0 0) (get_or bytes 15 0) ++ found.0) ≡ gate_of ps =
    length-append (header (get_or bytes 0 0) (get_or bytes 15 0)) found.0
    ∙ ap (λ (k : ℕ). FIRST_GATE + k) (length-chain ps found.0 found.2) in
    record {
      front = header (get_or bytes 0 0) (get_or bytes 15 0) ++ found.0;
      rest = found.1;
      chain = record { birth = get_or bytes 0 0; chained = found.0; born = head.0; chain = found.2; whole = refl };
      at = size;
      whole = head.1 ∙ ap (λ (l : List ℕ). (get_or bytes 0 0 ∷ MAGIC) ++ get_or bytes 15 0 ∷ l) found.3;
    })
    (cases_Bool (is_unborn bytes))
  where
    no_fault : (o : Option ℕ) → opens_born o bytes ≡ holds ps → o ≡ None
    no_fault None is = refl
    no_fault (Some o) is = absurd (cc)
