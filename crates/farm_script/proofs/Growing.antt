-- Histories that grow, step by step.
use Rattle.std.proofs.Common.{◌≡◌, ℕ, Bool, List, [], ◌++◌, refl, sym, ap, ◌∙◌, ⊎_elim, subst, append_assoc}
use Rattle.std.proofs.lemmas.List.{append-nil}
use Rattle.farm_disk.specs.Images.{DiskState}
use Rattle.farm_disk.proofs.Moments.{leaves_only-start, leaves_only-trans, leaves_only-weaker}
use Rattle.farm_script.specs.Images.{Standing, StandsBetween, StandsForEither, Grows}

-- a history between two is one between the first and a later one
pub between-later : {E : Type 0} (stands : Standing E) (first mid more : List E) (bytes : List ℕ)
    → StandsBetween stands first mid bytes → StandsBetween stands first (mid ++ more) bytes
between-later {E} stands first mid more bytes (h, stood, between) = (
  h,
  stood,
  record {
    added = between.added;
    missing = between.missing ++ more;
    begins = between.begins;
    goes_on = ap (λ (l : List E). l ++ more) between.goes_on ∙ append_assoc h between.missing more;
  },
)

-- and one between an earlier one and the last
pub between-earlier : {E : Type 0} (stands : Standing E) (first more last : List E) (bytes : List ℕ)
    → StandsBetween stands (first ++ more) last bytes → StandsBetween stands first last bytes
between-earlier {E} stands first more last bytes (h, stood, between) = (
  h,
  stood,
  record {
    added = more ++ between.added;
    missing = between.missing;
    begins = between.begins ∙ append_assoc first more between.added;
    goes_on = between.goes_on;
  },
)

-- the first one is between it and each one that begins with it
pub between-first : {E : Type 0} (stands : Standing E) (first more : List E) (bytes : List ℕ) → stands first bytes
    → StandsBetween stands first (first ++ more) bytes
between-first stands first more bytes stood = (
  first,
  stood,
  record {
    added = [];
    missing = more;
    begins = sym (append-nil first);
    goes_on = refl;
  },
)

-- and so is the last one
pub between-last : {E : Type 0} (stands : Standing E) (first more : List E) (bytes : List ℕ)
    → stands (first ++ more) bytes
    → StandsBetween stands first (first ++ more) bytes
between-last stands first more bytes stood = (
  first ++ more,
  stood,
  record {
    added = more;
    missing = [];
    begins = refl;
    goes_on = sym (append-nil (first ++ more));
  },
)

-- the history, or it with what is pending
pub between-either : {E : Type 0} (stands : Standing E) (history pending : List E) (bytes : List ℕ)
    → StandsForEither stands history pending bytes → StandsBetween stands history (history ++ pending) bytes
between-either stands history pending bytes either = ⊎_elim
    (λ without. between-first stands history pending bytes without)
    (λ with_all. between-last stands history pending bytes with_all)
    either

-- nothing happened
pub grows-refl : {C E : Type 0} (tells : C → Bool) (told : C → DiskState) (stands : Standing E)
    (history pending : C → List E) (core : C) → Grows tells told stands history pending core core
grows-refl tells told stands history pending core = record {
  same = refl;
  more = [];
  longer = sym (append-nil (history core));
  rests = λ tell rested. rested;
  each = λ tell rested. leaves_only-start (told core)
      (StandsBetween stands (history core) (history core ++ pending core))
      (λ c image. between-either stands (history core) (pending core) c (rested.images c image));
}

-- two steps, with nothing pending between them
pub grows-trans : {C E : Type 0} {tells : C → Bool} {told : C → DiskState} {stands : Standing E}
    {history pending : C → List E} {old mid new : C} → pending mid ≡ []
    → Grows tells told stands history pending old mid → Grows tells told stands history pending mid new
    → Grows tells told stands history pending old new
grows-trans {C} {E} {tells} {told} {stands} {history} {pending} {old} {mid} {new} none a b =
    let decided : history mid ++ pending mid ≡ history mid =
    ap (λ (l : List E). history mid ++ l) none ∙ append-nil (history mid) in
    let on : history new ++ pending new ≡ history mid ++ (b.more ++ pending new) =
    ap (λ (l : List E). l ++ pending new) b.longer ∙ append_assoc (history mid) b.more (pending new) in
    let later : (c : List ℕ) → StandsBetween stands (history old) (history mid ++ pending mid) c
    → StandsBetween stands (history old) (history new ++ pending new) c =
    λ c between. subst (λ (l : List E). StandsBetween stands (history old) l c) (sym on)
    (between-later stands (history old) (history mid) (b.more ++ pending new) c
    (subst (λ (l : List E). StandsBetween stands (history old) l c) decided between)) in
    let earlier : (c : List ℕ) → StandsBetween stands (history mid) (history new ++ pending new) c
    → StandsBetween stands (history old) (history new ++ pending new) c =
    λ c between. between-earlier stands (history old) a.more (history new ++ pending new) c
    (subst (λ (l : List E). StandsBetween stands l (history new ++ pending new) c) a.longer between) in
    let end = StandsBetween stands (history old) (history new ++ pending new) in
    record {
      same = b.same ∙ a.same;
      more = a.more ++ b.more;
      longer = b.longer ∙ ap (λ (h : List E). h ++ b.more) a.longer ∙ append_assoc (history old) a.more b.more;
      rests = λ tell rested. b.rests (a.same ∙ tell) (a.rests tell rested);
      each = λ tell rested. leaves_only-trans (told old) (told mid) (told new) end
          (leaves_only-weaker (told old) (told mid)
          (StandsBetween stands (history old) (history mid ++ pending mid)) end
          later (a.each tell rested))
          (leaves_only-weaker (told mid) (told new)
          (StandsBetween stands (history mid) (history new ++ pending new)) end
          earlier (b.each (a.same ∙ tell) (a.rests tell rested)));
    }

pub ruleset growing = (grows-refl, grows-trans)
