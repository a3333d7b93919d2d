-- The marks of the commits below a position.
use Rattle.std.proofs.Common.{◌≡◌, ℕ, ◌+◌, ◌<◌, add-one, true, false, List, length, take, get_or, sym, ap, subst, ◌∙◌, arith}
use Rattle.std.proofs.lemmas.Bool.{false≢true}
use Rattle.std.proofs.lemmas.List.{get_or-map, length-map, take_more}
use Rattle.std.proofs.lemmas.List.Elements.{All-push}
use Rattle.std.proofs.lemmas.List.Folds.{list_any_none}
use Rattle.farm_types.specs.CommitId.{same_id}
use Rattle.farm_types.specs.declared.commit_id.CommitId.{CommitId}
use Rattle.suspect_range.specs.Faults.{is_repeat}
use Rattle.suspect_range.specs.Marks.{AreMarked, is_marked}
use Rattle.suspect_range.specs.Range.{commit_at, commits_of}
use Rattle.suspect_range.specs.declared.suspect.Suspect.{Suspect}
use Rattle.suspect_range.proofs.Repeats.{differs}

-- marks that are kept are there
pub marked-kept : (old new : List ℕ) (commits : List CommitId) →
    ((c : CommitId) → is_marked old c ≡ true → is_marked new c ≡ true) → AreMarked old commits → AreMarked new commits
marked-kept old new commits kept all k d before = kept (get_or commits k d) (all k d before)

module _ (base : CommitId) (suspects : List Suspect) where
  -- the commit of a suspect stands at its position
  pub commit-at : (i : ℕ) (d : Suspect) → i < length suspects →
      get_or (commits_of base suspects) (i + 1) base ≡ (get_or suspects i d).commit
  commit-at i d within =
      ap (λ (n : ℕ). get_or (commits_of base suspects) n base) (add-one i)
      ∙ get_or-map (λ (s : Suspect). s.commit) suspects i d base within

  -- one commit more
  pub marked-more : (words : List ℕ) (i : ℕ) (d : Suspect) → i < length suspects →
      AreMarked words (take (i + 1) (commits_of base suspects)) → is_marked words (get_or suspects i d).commit ≡ true →
      AreMarked words (take (i + 1 + 1) (commits_of base suspects))
  marked-more words i d within below here =
      let more = take_more (commits_of base suspects) (i + 1) base
      (omega (arith, within, length-map suspects (λ (s : Suspect). s.commit))) in
      let last : is_marked words (get_or (commits_of base suspects) (i + 1) base) ≡ true =
      ap (is_marked words) (commit-at i d within) ∙ here in
      subst (AreMarked words) (sym more)
      (All-push (λ (c : CommitId). is_marked words c ≡ true) (take (i + 1) (commits_of base suspects)) _ below last)

  -- a commit without its mark repeats none
  pub unmarked-not_repeat : (words : List ℕ) (i : ℕ) (d : Suspect) → i < length suspects →
      AreMarked words (take (i + 1) (commits_of base suspects)) → is_marked words (get_or suspects i d).commit ≡ false →
      is_repeat base suspects (i + 1) ≡ false
  unmarked-not_repeat words i d within below none =
      let c : CommitId = commit_at base suspects (i + 1) in
      let out : is_marked words c ≡ false = ap (is_marked words) (commit-at i d within) ∙ none in
      list_any_none (λ (earlier : CommitId). same_id earlier c) (take (i + 1) (commits_of base suspects)) (λ k e before.
      differs (get_or (take (i + 1) (commits_of base suspects)) k e) c (λ same.
      false≢true (sym out ∙ ap (is_marked words) (sym same) ∙ below k e before)))
