-- Entries are read as they are spelled.
use Rattle.std.proofs.Common.{◌≡◌, ℕ, ◌^◌, ◌<◌, ◌⊎◌, inl, inr, Bool, true, false, not, nat_eq, cond, List, ◌++◌, Some, refl, sym, ap, subst, ◌∙◌, append_assoc, arith}
use Rattle.std.proofs.lemmas.Bool.{cases_Bool, eqb-true}
use Rattle.hex.specs.Hex.{IsBytes}
use Rattle.flake_rate.specs.Miss.{miss_numerator}
use Rattle.farm_types.specs.CommitId.{id_bytes}
use Rattle.farm_types.specs.Moment.{moment_ms}
use Rattle.farm_types.specs.declared.commit_id.CommitId.{CommitId}
use Rattle.farm_types.specs.declared.key.Key.{Key}
use Rattle.farm_types.specs.declared.stage.Stage.{Stage}
use Rattle.weight_exact.specs.declared.run.Verdict.{Verdict}
use Rattle.farm_entry.specs.declared.entry.Entry.{Entry}
use Rattle.farm_entry.specs.declared.entry.Fate.{Fate}
use Rattle.farm_entry.specs.declared.entry.SkipFate.{SkipFate}
use Rattle.farm_entry.specs.declared.entry.What.{What}
use Rattle.farm_entry.specs.declared.entry.What.TheVariants.{Founded, Opened, Leased, Reported, Skipped, Cancelled, Ordered, Carried, Closed}
use Rattle.farm_entry.specs.declared.opening.Opening.{Opening}
use Rattle.farm_entry.specs.declared.settings.Settings.{Settings}
use Rattle.entry_codec.specs.Grammar.{HasSpelling, IsOpening}
use Rattle.entry_codec.specs.Spelling.{entry_bytes, fate_mark, fields_of, name_bytes, number_bytes, opening_bytes, opening_tag, settings_bytes, skip_fate_mark, stage_mark, tag_of, verdict_mark}
use Rattle.entry_codec.specs.Reading.{cancelled_at, carried_at, closed_at, entry_at, founded_at, leased_at, opened_at, ordered_at, reported_at, skipped_at, what_at}
use Rattle.entry_codec.specs.declared.marks.TheConstants.{CANCELLED_TAG, CARRIED_TAG, CLOSED_TAG, FOUNDED_TAG, LEASED_TAG, OPENED_TAG, OPENED_WITH_MISS_TAG, ORDERED_TAG, REPORTED_TAG, SKIPPED_TAG}
use Rattle.entry_codec.proofs.FieldLaws.{IsRead, Took, after, joined, number-again, number_is_read, some_is, step}
use Rattle.entry_codec.proofs.PartLaws.{fate_is_read, id_is_read, key_is_read, moment_is_read, name_is_read, settings_is_read, skip_fate_is_read, stage_is_read, verdict_is_read}
use Rattle.entry_codec.proofs.OpeningLaws.{IsOpeningAt, opening_is_read}

-- parts in front of the rest
regroup_3 : (a b c rest : List ℕ) → ((a ++ b) ++ c) ++ rest ≡ a ++ (b ++ (c ++ rest))
regroup_3 a b c rest = simp append_assoc

regroup_6 : (a b c d e f rest : List ℕ) → (((((a ++ b) ++ c) ++ d) ++ e) ++ f) ++ rest
    ≡ a ++ (b ++ (c ++ (d ++ (e ++ (f ++ rest)))))
regroup_6 a b c d e f rest = simp append_assoc

regroup_7 : (a b c d e f g rest : List ℕ) → ((((((a ++ b) ++ c) ++ d) ++ e) ++ f) ++ g) ++ rest
    ≡ a ++ (b ++ (c ++ (d ++ (e ++ (f ++ (g ++ rest))))))
regroup_7 a b c d e f g rest = simp append_assoc

-- what an entry says, where it has a spelling with this tag
pub record IsTagged (tag : ℕ) (what : What) : Type 0 where
  pub spelled : HasSpelling what
  pub tag_is : tag_of what ≡ tag

-- what was read after a tag
abbrev Read : (tag : ℕ) → List ℕ → What → List ℕ → Type 0
Read tag bytes what rest = Took (IsTagged tag) fields_of bytes what rest

founded-take : (bytes : List ℕ) (what : What) (rest : List ℕ) → IsBytes bytes → founded_at bytes ≡ Some (what, rest) →
    Read FOUNDED_TAG bytes what rest
unfolding founded_at
founded-take bytes what rest fits e =
    after (step settings_is_read fits e) (λ settings r1 t1 e1.
    subst (λ (p : What × List ℕ). Read FOUNDED_TAG bytes p.0 p.1) (some_is _ _ e1)
    (record { fits = record { spelled = tt; tag_is = refl }; parts = t1.parts; rest_bytes = t1.rest_bytes }))

founded-again : (settings : Settings) (rest : List ℕ) →
    founded_at (settings_bytes settings ++ rest) ≡ Some (Founded settings, rest)
unfolding founded_at
founded-again settings rest = rw (settings_is_read.again settings rest tt) refl

-- the tag of an opening, as its miss rate says
abbrev tag_for : (above_zero : Bool) → ℕ
tag_for above_zero = cond above_zero OPENED_WITH_MISS_TAG OPENED_TAG

opening_tag-is : (above_zero : Bool) (o : Opening) → nat_eq (miss_numerator o.miss) 0 ≡ not above_zero →
    opening_tag o ≡ tag_for above_zero
opening_tag-is true o sign = rw sign refl
opening_tag-is false o sign = rw sign refl

opened-take : (above_zero : Bool) (bytes : List ℕ) (what : What) (rest : List ℕ) → IsBytes bytes →
    opened_at above_zero bytes ≡ Some (what, rest) →
    Read (tag_for above_zero) bytes what rest
unfolding opened_at
opened-take above_zero bytes what rest fits e =
    after (step (opening_is_read above_zero) fits e) (λ o r1 t1 e1.
    subst (λ (p : What × List ℕ). Read (tag_for above_zero) bytes p.0 p.1) (some_is _ _ e1)
    (record {
      fits = record { spelled = t1.fits.opening; tag_is = opening_tag-is above_zero o t1.fits.sign };
      parts = t1.parts;
      rest_bytes = t1.rest_bytes;
    }))

opened-again : (above_zero : Bool) (o : Opening) (rest : List ℕ) → IsOpeningAt above_zero o →
    opened_at above_zero (opening_bytes o ++ rest) ≡ Some (Opened o, rest)
unfolding opened_at
opened-again above_zero o rest is = rw ((opening_is_read above_zero).again o rest is) refl

leased-take : (bytes : List ℕ) (what : What) (rest : List ℕ) → IsBytes bytes → leased_at bytes ≡ Some (what, rest) →
    Read LEASED_TAG bytes what rest
unfolding leased_at
leased-take bytes what rest fits e =
    after (step key_is_read fits e) (λ key r1 t1 e1.
    after (step name_is_read t1.rest_bytes e1) (λ worker r2 t2 e2.
    after (step (number_is_read 4) t2.rest_bytes e2) (λ run r3 t3 e3.
    after (step (number_is_read 4) t3.rest_bytes e3) (λ search r4 t4 e4.
    after (step stage_is_read t4.rest_bytes e4) (λ stage r5 t5 e5.
    after (step (number_is_read 2) t5.rest_bytes e5) (λ position r6 t6 e6.
    after (step (number_is_read 8) t6.rest_bytes e6) (λ deadline r7 t7 e7.
    let p2 = joined bytes _ r1 _ r2 t1.parts t2.parts in
    let p3 = joined bytes _ r2 _ r3 p2 t3.parts in
    let p4 = joined bytes _ r3 _ r4 p3 t4.parts in
    let p5 = joined bytes _ r4 _ r5 p4 t5.parts in
    let p6 = joined bytes _ r5 _ r6 p5 t6.parts in
    let p7 = joined bytes _ r6 _ r7 p6 t7.parts in
    subst (λ (p : What × List ℕ). Read LEASED_TAG bytes p.0 p.1) (some_is _ _ e7)
    (record {
      fits = record { spelled = (t1.fits, t2.fits, t3.fits, t4.fits, t6.fits, t7.fits); tag_is = refl };
      parts = p7;
      rest_bytes = t7.rest_bytes;
    }))))))))

leased-again : (key : Key) (worker : List ℕ) (run search : ℕ) (stage : Stage) (position deadline : ℕ) (rest : List ℕ) →
    HasSpelling (Leased key worker run search stage position deadline) →
    leased_at (fields_of (Leased key worker run search stage position deadline) ++ rest)
    ≡ Some (Leased key worker run search stage position deadline, rest)
unfolding leased_at
leased-again key worker run search stage position deadline rest fits =
    let deadline_on : List ℕ = number_bytes 8 deadline ++ rest in
    let position_on : List ℕ = number_bytes 2 position ++ deadline_on in
    let stage_on : List ℕ = number_bytes 1 (stage_mark stage) ++ position_on in
    let search_on : List ℕ = number_bytes 4 search ++ stage_on in
    let run_on : List ℕ = number_bytes 4 run ++ search_on in
    let worker_on : List ℕ = name_bytes worker ++ run_on in
    ap leased_at
    (regroup_7 (number_bytes 16 key.0) (name_bytes worker) (number_bytes 4 run) (number_bytes 4 search)
    (number_bytes 1 (stage_mark stage))
    (number_bytes 2 position) (number_bytes 8 deadline) rest)
    ∙ rw (
      key_is_read.again key worker_on fits.0,
      name_is_read.again worker run_on fits.1,
      number-again 4 run search_on fits.2,
      number-again 4 search stage_on fits.3,
      stage_is_read.again stage position_on tt,
      number-again 2 position deadline_on fits.4,
      number-again 8 deadline rest fits.5,
    ) refl

reported-take : (bytes : List ℕ) (what : What) (rest : List ℕ) → IsBytes bytes →
    reported_at bytes ≡ Some (what, rest) → Read REPORTED_TAG bytes what rest
unfolding reported_at
reported-take bytes what rest fits e =
    after (step (number_is_read 4) fits e) (λ run r1 t1 e1.
    after (step verdict_is_read t1.rest_bytes e1) (λ verdict r2 t2 e2.
    after (step fate_is_read t2.rest_bytes e2) (λ outcome r3 t3 e3.
    let p2 = joined bytes _ r1 _ r2 t1.parts t2.parts in
    let p3 = joined bytes _ r2 _ r3 p2 t3.parts in
    subst (λ (p : What × List ℕ). Read REPORTED_TAG bytes p.0 p.1) (some_is _ _ e3)
    (record { fits = record { spelled = t1.fits; tag_is = refl }; parts = p3; rest_bytes = t3.rest_bytes }))))

reported-again : (run : ℕ) (verdict : Verdict) (outcome : Fate) (rest : List ℕ) → run < 2 ^ 32 →
    reported_at (fields_of (Reported run verdict outcome) ++ rest) ≡ Some (Reported run verdict outcome, rest)
unfolding reported_at
reported-again run verdict outcome rest fits =
    let outcome_on : List ℕ = number_bytes 1 (fate_mark outcome) ++ rest in
    let verdict_on : List ℕ = number_bytes 1 (verdict_mark verdict) ++ outcome_on in
    ap reported_at (regroup_3 (number_bytes 4 run) (number_bytes 1 (verdict_mark verdict))
    (number_bytes 1 (fate_mark outcome)) rest)
    ∙ rw (
      number-again 4 run verdict_on fits,
      verdict_is_read.again verdict outcome_on tt,
      fate_is_read.again outcome rest tt,
    ) refl

skipped-take : (bytes : List ℕ) (what : What) (rest : List ℕ) → IsBytes bytes → skipped_at bytes ≡ Some (what, rest) →
    Read SKIPPED_TAG bytes what rest
unfolding skipped_at
skipped-take bytes what rest fits e =
    after (step (number_is_read 4) fits e) (λ run r1 t1 e1.
    after (step skip_fate_is_read t1.rest_bytes e1) (λ outcome r2 t2 e2.
    let p2 = joined bytes _ r1 _ r2 t1.parts t2.parts in
    subst (λ (p : What × List ℕ). Read SKIPPED_TAG bytes p.0 p.1) (some_is _ _ e2)
    (record { fits = record { spelled = t1.fits; tag_is = refl }; parts = p2; rest_bytes = t2.rest_bytes })))

skipped-again : (run : ℕ) (outcome : SkipFate) (rest : List ℕ) → run < 2 ^ 32 →
    skipped_at (fields_of (Skipped run outcome) ++ rest) ≡ Some (Skipped run outcome, rest)
unfolding skipped_at
skipped-again run outcome rest fits =
    let outcome_on : List ℕ = number_bytes 1 (skip_fate_mark outcome) ++ rest in
    ap skipped_at (append_assoc (number_bytes 4 run) (number_bytes 1 (skip_fate_mark outcome)) rest)
    ∙ rw (number-again 4 run outcome_on fits, skip_fate_is_read.again outcome rest tt) refl

cancelled-take : (bytes : List ℕ) (what : What) (rest : List ℕ) → IsBytes bytes →
    cancelled_at bytes ≡ Some (what, rest) → Read CANCELLED_TAG bytes what rest
unfolding cancelled_at
cancelled-take bytes what rest fits e =
    after (step key_is_read fits e) (λ key r1 t1 e1.
    after (step (number_is_read 4) t1.rest_bytes e1) (λ search r2 t2 e2.
    let p2 = joined bytes _ r1 _ r2 t1.parts t2.parts in
    subst (λ (p : What × List ℕ). Read CANCELLED_TAG bytes p.0 p.1) (some_is _ _ e2)
    (record { fits = record { spelled = (t1.fits, t2.fits); tag_is = refl }; parts = p2; rest_bytes = t2.rest_bytes })))

cancelled-again : (key : Key) (search : ℕ) (rest : List ℕ) → HasSpelling (Cancelled key search) →
    cancelled_at (fields_of (Cancelled key search) ++ rest) ≡ Some (Cancelled key search, rest)
unfolding cancelled_at
cancelled-again key search rest fits =
    let search_on : List ℕ = number_bytes 4 search ++ rest in
    ap cancelled_at (append_assoc (number_bytes 16 key.0) (number_bytes 4 search) rest)
    ∙ rw (key_is_read.again key search_on fits.0, number-again 4 search rest fits.1) refl

ordered-take : (bytes : List ℕ) (what : What) (rest : List ℕ) → IsBytes bytes → ordered_at bytes ≡ Some (what, rest) →
    Read ORDERED_TAG bytes what rest
unfolding ordered_at
ordered-take bytes what rest fits e =
    after (step key_is_read fits e) (λ key r1 t1 e1.
    after (step name_is_read t1.rest_bytes e1) (λ agent r2 t2 e2.
    after (step (number_is_read 4) t2.rest_bytes e2) (λ order r3 t3 e3.
    after (step id_is_read t3.rest_bytes e3) (λ commit r4 t4 e4.
    after (step (number_is_read 4) t4.rest_bytes e4) (λ search r5 t5 e5.
    after (step (number_is_read 4) t5.rest_bytes e5) (λ day r6 t6 e6.
    let p2 = joined bytes _ r1 _ r2 t1.parts t2.parts in
    let p3 = joined bytes _ r2 _ r3 p2 t3.parts in
    let p4 = joined bytes _ r3 _ r4 p3 t4.parts in
    let p5 = joined bytes _ r4 _ r5 p4 t5.parts in
    let p6 = joined bytes _ r5 _ r6 p5 t6.parts in
    subst (λ (p : What × List ℕ). Read ORDERED_TAG bytes p.0 p.1) (some_is _ _ e6)
    (record {
      fits = record { spelled = (t1.fits, t2.fits, t3.fits, t5.fits, t6.fits); tag_is = refl };
      parts = p6;
      rest_bytes = t6.rest_bytes;
    })))))))

ordered-again : (key : Key) (agent : List ℕ) (order : ℕ) (commit : CommitId) (search day : ℕ) (rest : List ℕ) →
    HasSpelling (Ordered key agent order commit search day) →
    ordered_at (fields_of (Ordered key agent order commit search day) ++ rest) ≡ Some
    (Ordered key agent order commit search day, rest)
unfolding ordered_at
ordered-again key agent order commit search day rest fits =
    let day_on : List ℕ = number_bytes 4 day ++ rest in
    let search_on : List ℕ = number_bytes 4 search ++ day_on in
    let commit_on : List ℕ = id_bytes commit ++ search_on in
    let order_on : List ℕ = number_bytes 4 order ++ commit_on in
    let agent_on : List ℕ = name_bytes agent ++ order_on in
    ap ordered_at (regroup_6 (number_bytes 16 key.0) (name_bytes agent) (number_bytes 4 order) (id_bytes commit)
    (number_bytes 4 search) (number_bytes 4 day) rest)
    ∙ rw (
      key_is_read.again key agent_on fits.0,
      name_is_read.again agent order_on fits.1,
      number-again 4 order commit_on fits.2,
      id_is_read.again commit search_on tt,
      number-again 4 search day_on fits.3,
      number-again 4 day rest fits.4,
    ) refl

carried-take : (bytes : List ℕ) (what : What) (rest : List ℕ) → IsBytes bytes → carried_at bytes ≡ Some (what, rest) →
    Read CARRIED_TAG bytes what rest
unfolding carried_at
carried-take bytes what rest fits e =
    after (step id_is_read fits e) (λ commit r1 t1 e1.
    after (step (number_is_read 4) t1.rest_bytes e1) (λ day r2 t2 e2.
    let p2 = joined bytes _ r1 _ r2 t1.parts t2.parts in
    subst (λ (p : What × List ℕ). Read CARRIED_TAG bytes p.0 p.1) (some_is _ _ e2)
    (record { fits = record { spelled = t2.fits; tag_is = refl }; parts = p2; rest_bytes = t2.rest_bytes })))

carried-again : (commit : CommitId) (day : ℕ) (rest : List ℕ) → day < 2 ^ 32 →
    carried_at (fields_of (Carried commit day) ++ rest) ≡ Some (Carried commit day, rest)
unfolding carried_at
carried-again commit day rest fits =
    let day_on : List ℕ = number_bytes 4 day ++ rest in
    ap carried_at (append_assoc (id_bytes commit) (number_bytes 4 day) rest)
    ∙ rw (id_is_read.again commit day_on tt, number-again 4 day rest fits) refl

closed-take : (bytes : List ℕ) (what : What) (rest : List ℕ) → IsBytes bytes → closed_at bytes ≡ Some (what, rest) →
    Read CLOSED_TAG bytes what rest
unfolding closed_at
closed-take bytes what rest fits e =
    subst (λ (p : What × List ℕ). Read CLOSED_TAG bytes p.0 p.1) (some_is _ _ e)
    (record { fits = record { spelled = tt; tag_is = refl }; parts = refl; rest_bytes = fits })

closed-again : (rest : List ℕ) → closed_at rest ≡ Some (Closed, rest)
unfolding closed_at
closed-again rest = refl

-- what stands after a tag

-- a choice, by its test
chosen : {X : Type 0} (test : Bool) (x y z : X) → cond test x y ≡ z → ((test ≡ true) × (x ≡ z)) ⊎
    ((test ≡ false) × (y ≡ z))
chosen true x y z e = inl (refl, e)
chosen false x y z e = inr (refl, e)

-- a kind whose tag this is
of_kind : (tag kind : ℕ) (bytes : List ℕ) (what : What) (rest : List ℕ) → nat_eq tag kind ≡ true →
    Read kind bytes what rest → Read tag bytes what rest
of_kind tag kind bytes what rest same read =
    subst (λ (t : ℕ). Read t bytes what rest) (sym (eqb-true tag kind same)) read

what-take : (tag : ℕ) (bytes : List ℕ) (what : What) (rest : List ℕ) → IsBytes bytes →
    what_at tag bytes ≡ Some (what, rest) → Read tag bytes what rest
unfolding what_at
what-take tag bytes what rest fits e = elim (chosen (nat_eq tag FOUNDED_TAG) _ _ _ e) [
  | inl a ↦ of_kind tag FOUNDED_TAG bytes what rest a.0 (founded-take bytes what rest fits a.1)
  | inr a ↦ elim (chosen (nat_eq tag OPENED_TAG) _ _ _ a.1) [
    | inl b ↦ of_kind tag OPENED_TAG bytes what rest b.0 (opened-take false bytes what rest fits b.1)
    | inr b ↦ elim (chosen (nat_eq tag LEASED_TAG) _ _ _ b.1) [
      | inl c ↦ of_kind tag LEASED_TAG bytes what rest c.0 (leased-take bytes what rest fits c.1)
      | inr c ↦ elim (chosen (nat_eq tag REPORTED_TAG) _ _ _ c.1) [
        | inl d ↦ of_kind tag REPORTED_TAG bytes what rest d.0 (reported-take bytes what rest fits d.1)
        | inr d ↦ elim (chosen (nat_eq tag CANCELLED_TAG) _ _ _ d.1) [
          | inl f ↦ of_kind tag CANCELLED_TAG bytes what rest f.0 (cancelled-take bytes what rest fits f.1)
          | inr f ↦ elim (chosen (nat_eq tag ORDERED_TAG) _ _ _ f.1) [
            | inl g ↦ of_kind tag ORDERED_TAG bytes what rest g.0 (ordered-take bytes what rest fits g.1)
            | inr g ↦ elim (chosen (nat_eq tag OPENED_WITH_MISS_TAG) _ _ _ g.1) [
              | inl h ↦ of_kind tag OPENED_WITH_MISS_TAG bytes what rest h.0 (opened-take true bytes what rest fits h.1)
              | inr h ↦ elim (chosen (nat_eq tag SKIPPED_TAG) _ _ _ h.1) [
                | inl k ↦ of_kind tag SKIPPED_TAG bytes what rest k.0 (skipped-take bytes what rest fits k.1)
                | inr k ↦ elim (chosen (nat_eq tag CLOSED_TAG) _ _ _ k.1) [
                  | inl l ↦ of_kind tag CLOSED_TAG bytes what rest l.0 (closed-take bytes what rest fits l.1)
                  | inr l ↦ elim (chosen (nat_eq tag CARRIED_TAG) _ _ _ l.1) [
                    | inl m ↦ of_kind tag CARRIED_TAG bytes what rest m.0 (carried-take bytes what rest fits m.1)
                    | inr m ↦ absurd (cc)
                  ]
                ]
              ]
            ]
          ]
        ]
      ]
    ]
  ]
]

what_opened-again : (above_zero : Bool) (o : Opening) (rest : List ℕ) → IsOpening o →
    nat_eq (miss_numerator o.miss) 0 ≡ not above_zero →
    what_at (tag_for above_zero) (opening_bytes o ++ rest) ≡ Some (Opened o, rest)
unfolding what_at
what_opened-again true o rest fits sign = opened-again true o rest (record { opening = fits; sign = sign })
what_opened-again false o rest fits sign = opened-again false o rest (record { opening = fits; sign = sign })

opened_what-again : (o : Opening) (rest : List ℕ) → IsOpening o →
    what_at (opening_tag o) (opening_bytes o ++ rest) ≡ Some (Opened o, rest)
opened_what-again o rest fits = elim (cases_Bool (nat_eq (miss_numerator o.miss) 0)) [
  | inl zero ↦ ap (λ (t : ℕ). what_at t (opening_bytes o ++ rest)) (opening_tag-is false o zero)
      ∙ what_opened-again false o rest fits zero
  | inr above ↦ ap (λ (t : ℕ). what_at t (opening_bytes o ++ rest)) (opening_tag-is true o above)
      ∙ what_opened-again true o rest fits above
]

what_of-again : (what : What) (rest : List ℕ) → HasSpelling what →
    what_at (tag_of what) (fields_of what ++ rest) ≡ Some (what, rest)
unfolding what_at
what_of-again (Founded settings) rest fits = founded-again settings rest
what_of-again (Opened o) rest fits = opened_what-again o rest fits
what_of-again (Leased key worker run search stage position deadline) rest fits =
    leased-again key worker run search stage position deadline rest fits
what_of-again (Reported run verdict outcome) rest fits = reported-again run verdict outcome rest fits
what_of-again (Skipped run outcome) rest fits = skipped-again run outcome rest fits
what_of-again (Cancelled key search) rest fits = cancelled-again key search rest fits
what_of-again (Ordered key agent order commit search day) rest fits =
    ordered-again key agent order commit search day rest fits
what_of-again (Carried commit day) rest fits = carried-again commit day rest fits
what_of-again Closed rest fits = closed-again rest

what-again : (tag : ℕ) (what : What) (rest : List ℕ) → IsTagged tag what →
    what_at tag (fields_of what ++ rest) ≡ Some (what, rest)
what-again tag what rest is =
    ap (λ (t : ℕ). what_at t (fields_of what ++ rest)) (sym is.tag_is) ∙ what_of-again what rest is.spelled

what_is_read : (tag : ℕ) → IsRead (IsTagged tag) fields_of (what_at tag)
what_is_read tag = record { takes = what-take tag; again = what-again tag }

-- entries

-- an entry that has a spelling
abbrev pub IsSpelled : Entry → Type 0
IsSpelled entry = HasSpelling entry.what

entry-take : (bytes : List ℕ) (entry : Entry) (rest : List ℕ) → IsBytes bytes → entry_at bytes ≡ Some (entry, rest) →
    Took IsSpelled entry_bytes bytes entry rest
unfolding entry_at
entry-take bytes entry rest fits e =
    after (step moment_is_read fits e) (λ at r1 t1 e1.
    after (step (number_is_read 1) t1.rest_bytes e1) (λ tag r2 t2 e2.
    after (step (what_is_read tag) t2.rest_bytes e2) (λ what r3 t3 e3.
    let p2 = joined bytes _ r1 _ r2 t1.parts t2.parts in
    let p3 = joined bytes _ r2 _ r3 p2 t3.parts in
    let tagged =
    ap (λ (t : ℕ). ((number_bytes 8 (moment_ms at) ++ number_bytes 1 t) ++ fields_of what) ++ r3) (sym t3.fits.tag_is) in
    subst (λ (p : Entry × List ℕ). Took IsSpelled entry_bytes bytes p.0 p.1) (some_is _ _ e3)
    (record { fits = t3.fits.spelled; parts = p3 ∙ tagged; rest_bytes = t3.rest_bytes }))))

small-opening_tag : (o : Opening) → opening_tag o < 256 ^ 1
small-opening_tag o = elim (cases_Bool (nat_eq (miss_numerator o.miss) 0)) [
  | inl zero ↦ rw zero (omega arith)
  | inr above ↦ rw above (omega arith)
]

small-tag : (what : What) → tag_of what < 256 ^ 1
small-tag (Founded settings) = omega arith
small-tag (Opened o) = small-opening_tag o
small-tag (Leased key worker run search stage position deadline) = omega arith
small-tag (Reported run verdict _) = omega arith
small-tag (Skipped run _) = omega arith
small-tag (Cancelled key search) = omega arith
small-tag (Ordered key agent order commit search day) = omega arith
small-tag (Carried commit day) = omega arith
small-tag Closed = omega arith

entry-again : (entry : Entry) (rest : List ℕ) → IsSpelled entry →
    entry_at (entry_bytes entry ++ rest) ≡ Some (entry, rest)
unfolding entry_at
entry-again entry rest fits =
    let fields_on : List ℕ = fields_of entry.what ++ rest in
    let tag_on : List ℕ = number_bytes 1 (tag_of entry.what) ++ fields_on in
    ap entry_at (regroup_3 (number_bytes 8 (moment_ms entry.at)) (number_bytes 1 (tag_of entry.what))
    (fields_of entry.what) rest)
    ∙ rw (
      moment_is_read.again entry.at tag_on tt,
      number-again 1 (tag_of entry.what) fields_on
          (small-tag entry.what),
      what_of-again entry.what rest fits,
    ) refl

pub entry_is_read : IsRead IsSpelled entry_bytes entry_at
entry_is_read = record { takes = entry-take; again = entry-again }
