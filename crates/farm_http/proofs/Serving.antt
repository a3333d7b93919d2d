-- The serving of a connection, step by step.
use Rattle.std.proofs.Common.{ℕ, ◌≡◌, ◌+◌, ◌||◌, ◌&&◌, not, Bool, true, false, List, [], ◌++◌, length, drop, Option, refl, sym, ap, ◌∙◌, subst, append_assoc, append-nil, length-append, length-drop, arith, le_refl}
use Rattle.std.specs.Io.KnownBytes.{append_known}
use Rattle.connection_laws.specs.Answers.{interim_of, transcript}
use Rattle.connection_laws.specs.Outcomes.{Step}
use Rattle.connection_laws.specs.Owners.{holding_of}
use Rattle.connection_laws.specs.Progress.{Progress, IsWithin, progress_after, progress_from}
use Rattle.connection_laws.proofs.Further.{after-legal}
use Rattle.connection_laws.proofs.Loop.{so_far-append, so_far-more, so_far-start}
use Rattle.connection_laws.proofs.Owners.{HoldsMore-append, HoldsMore-nothing}
use Rattle.connection_laws.proofs.Progress.{progress_after-append}
use Rattle.farm_entry.specs.Legal.{IsLegal}
use Rattle.farm_entry.specs.declared.entry.Entry.{Entry}
use Rattle.connection_laws.specs.Moments.{Given}
use Rattle.http_requests.specs.Fronts.{Opens, behind}
use Rattle.http_requests.proofs.FrontLaws.{behind-append, opens-more}
use Rattle.link_io.specs.Links.{LinkState}
use Rattle.link_io.proofs.Told.{append_known-nil, append_known-append}
use Rattle.common_types.proofs.Prefixes.{IsPrefix-refl}
use Rattle.turn_lock.specs.Known.{Known}
use Rattle.farm_http.specs.Callers.{CallerState, IsAfter, mark_of}
use Rattle.farm_http.specs.Connection.{IsServing}
use Rattle.farm_http.specs.Fronts.{AreAnswered, ArePartly, Halves}
use Rattle.connection_laws.specs.Told.{noted_in}
use Rattle.connection_laws.proofs.Noting.{TakesNotes-refl}
use Rattle.link_io.specs.Intake.{Intake}
use Rattle.link_io.specs.Notes.{TakesNotes}
use Rattle.common_types.proofs.Rows.{AreAmong-refl}
use Rattle.common_types.specs.Rows.{AreAmong}
use Rattle.farm_http.specs.Received.{AsksInterim, IsTaken, ReceivedState, nothing_received}
use Rattle.farm_http.specs.declared.front.Answered.{Answered}
use Rattle.farm_http.proofs.Asked.{asks-append}
use Rattle.farm_http.proofs.Noted.{TakesNotes-trans, front-told, so_far-on}

-- a link between two of its states, with what it keeps of its other half
abbrev pub at_link : (now later : LinkState) → (aside after : Intake) → Halves
at_link now later aside after = record { before = now.put; now = later.put; aside = aside; later = after }

-- ---- what is known after more items

pub after-append : (start : Progress) (steps rest : List Step) (old mid new : CallerState) → IsAfter start steps old mid
    → IsAfter (progress_after start steps) rest mid new → IsAfter start (steps ++ rest) old new
after-append start steps rest old mid new a b =
    let same = sym (progress_after-append start steps rest) in
    record {
      within = subst (λ (c : Progress). IsWithin c (mark_of new.pass new.reader)) same b.within;
      holds = HoldsMore-append steps rest (holding_of old.pass) (holding_of mid.pass) (holding_of new.pass) a.holds
          b.holds;
      counted = b.counted ∙ ap (λ (c : Progress). c.totals) same;
    }

-- ---- bytes that are put in two parts

-- what is put behind what was put
pub put-joined : (before was now : Option (List ℕ)) (b : Bool) (first part : List ℕ)
    → was ≡ append_known before (first ++ interim_of b) → now ≡ append_known was part
    → now ≡ append_known before (first ++ (interim_of b ++ part))
put-joined before was now b first part is puts =
    puts ∙ ap (λ (t : Option (List ℕ)). append_known t part) is
    ∙ append_known-append before (first ++ interim_of b) part
    ∙ ap (λ (l : List ℕ). append_known before l) (append_assoc first (interim_of b) part)

pub interim_both : (out asked : Bool) → interim_of out ++ interim_of (asked && not out) ≡ interim_of (out || asked)
interim_both false false = refl
interim_both false true = refl
interim_both true false = append-nil (interim_of true)
interim_both true true = append-nil (interim_of true)

pub asked_by : (out asked : Bool) (held : List ℕ) → (out ≡ true → AsksInterim held) → (asked ≡ true → AsksInterim held)
    → (out || asked) ≡ true → AsksInterim held
asked_by true asked held one other is = one refl
asked_by false asked held one other is = other is

-- ---- the loop

module _ (start : Progress) (gives : Given → Type 0) (old : CallerState) (before : LinkState) where
  -- nothing was taken yet
  pub serving-start : (r : ReceivedState) (requests : ℕ) → IsWithin start (mark_of old.pass old.reader) → old.reader ≡
      start.totals
      → r ≡ nothing_received → requests ≡ 0 → IsServing start gives old old before before r requests
  serving-start r requests within read none zero = subst
      (λ (x : ReceivedState). IsServing start gives old old before before x requests) (sym none) (record {
        taken = [];
        put = [];
        items = [];
        steps = [];
        so_far = so_far-start start gives (noted_in old.pass.rows before before) [];
        passed = record {
          takes = sym (append_known-nil before.taken);
          puts = sym (append_known-nil before.put);
          notes = TakesNotes-refl before.notes;
        };
        held = refl;
        size = refl;
        most = omega arith;
        ends = λ is. let bad : ⊥ = cc in absurd bad;
        interim = λ is. let bad : ⊥ = cc in absurd bad;
        after = record {
          within = within;
          holds = HoldsMore-nothing [] (holding_of old.pass) (holding_of old.pass) refl refl;
          counted = read;
        };
        requests_are = zero;
        few = omega (arith, zero);
      })

  -- a piece more was taken, and is held
  pub serving-takes : (new : CallerState) (now later : LinkState) (r s : ReceivedState) (requests : ℕ)
      → IsServing start gives old new before now r requests → IsTaken r s now.taken later.taken later.ended
      → later.put ≡ now.put → TakesNotes now.notes later.notes
      → IsServing start gives old new before later s requests
  serving-takes new now later r s requests is t puts notes =
      let piece = t.piece in
      let more = opens-more is.taken piece is.items is.so_far.opens in
      let long = length-append r.held piece in
      let count : length s.held ≡ length r.held + length piece = ap (λ (l : List ℕ). length l) t.held ∙ long in
      let few = is.few in let size = t.size in
      record {
        taken = is.taken ++ piece;
        put = is.put;
        items = is.items;
        steps = is.steps;
        so_far = so_far-more start gives (noted_in new.pass.rows before later) is.taken piece is.put is.items is.steps
            (so_far-on start gives new.pass.rows new.pass.rows before now later is.taken is.put is.items is.steps
            (AreAmong-refl new.pass.rows) notes is.so_far);
        passed = record {
          takes =
              t.takes ∙ ap (λ (o : Option (List ℕ)). append_known o piece) is.passed.takes
              ∙ append_known-append before.taken is.taken piece;
          puts = puts ∙ is.passed.puts ∙ ap (λ (b : Bool). append_known before.put (is.put ++ interim_of b))
              (sym t.interim);
          notes = TakesNotes-trans before.notes now.notes later.notes is.passed.notes notes;
        };
        held = t.held ∙ ap (λ (l : List ℕ). l ++ piece) is.held ∙ sym more.1;
        size = t.size ∙ ap (λ (n : ℕ). n + length piece) is.size ∙ sym (length-append is.taken piece);
        most = t.most;
        ends = λ e. sym t.ends ∙ e;
        interim = λ e. subst (λ (l : List ℕ). AsksInterim l) (sym t.held)
            (asks-append r.held piece (is.interim (sym t.interim ∙ e)));
        after = is.after;
        requests_are = is.requests_are;
        few = omega arith;
      }

  -- the interim answer of the request at the front is out, where it is asked for
  pub serving-interim : (new : CallerState) (now later : LinkState) (r s : ReceivedState) (requests : ℕ) (asked : Bool)
      → IsServing start gives old new before now r requests → (asked ≡ true → AsksInterim r.held)
      → later.taken ≡ now.taken → later.ended ≡ now.ended
      → later.put ≡ append_known now.put (interim_of (asked && not r.interim)) → TakesNotes now.notes later.notes
      → s ≡ record r { interim = r.interim || asked } → IsServing start gives old new before later s requests
  serving-interim new now later r s requests asked is asks takes ends puts notes same =
      subst (λ (x : ReceivedState). IsServing start gives old new before later x requests) (sym same) (record {
        taken = is.taken;
        put = is.put;
        items = is.items;
        steps = is.steps;
        so_far = so_far-on start gives new.pass.rows new.pass.rows before now later is.taken is.put is.items is.steps
            (AreAmong-refl new.pass.rows) notes is.so_far;
        passed = record {
          takes = takes ∙ is.passed.takes;
          puts =
              put-joined before.put now.put later.put r.interim is.put (interim_of (asked && not r.interim))
              is.passed.puts puts
              ∙ ap (λ (l : List ℕ). append_known before.put (is.put ++ l)) (interim_both r.interim asked);
          notes = TakesNotes-trans before.notes now.notes later.notes is.passed.notes notes;
        };
        held = is.held;
        size = is.size;
        most = is.most;
        ends = λ e. ends ∙ is.ends e;
        interim = λ e. asked_by r.interim asked r.held is.interim asks e;
        after = is.after;
        requests_are = is.requests_are;
        few = is.few;
      })

  -- items at the front were answered, none of which closes, and are passed over
  pub serving-answers : (mid new : CallerState) (now later : LinkState) (r s : ReceivedState) (requests total : ℕ)
      (put : List ℕ) (complete : Bool) (done : Answered) (aside after : Intake)
      (is : IsServing start gives old mid before now r requests)
      → AreAnswered gives (progress_after start is.steps) complete r.held r.interim put (at_link now later aside after)
      mid new done
      → aside.notes ≡ now.notes → after.notes ≡ later.notes → TakesNotes now.notes later.notes
      → AreAmong mid.pass.rows new.pass.rows → done.closes ≡ false
      → later.taken ≡ now.taken → later.ended ≡ now.ended → later.put ≡ append_known now.put put
      → s ≡ record r { held = drop done.size r.held; interim = false } → total ≡ requests + done.requests
      → IsServing start gives old new before later s total
  serving-answers mid new now later r s requests total put complete done aside after is a aside_is after_is notes rows
      open_ takes ends puts same sum =
      let front = a.front.1 open_ in
      let len = length-drop done.size r.held in
      let within = front.within in let some = front.few in let few = is.few in let each = a.requests in
      subst (λ (x : ReceivedState). IsServing start gives old new before later x total) (sym same) (record {
        taken = is.taken;
        put = is.put ++ transcript a.items a.steps;
        items = is.items ++ a.items;
        steps = is.steps ++ a.steps;
        so_far =
            so_far-append start gives (noted_in new.pass.rows before later) is.taken is.put is.items a.items is.steps
            a.steps
            (so_far-on start gives mid.pass.rows new.pass.rows before now later is.taken is.put is.items is.steps rows
            notes is.so_far)
            (subst (λ (l : List ℕ). Opens l a.items) is.held front.open_) a.are_steps
            (front-told gives (progress_after start is.steps) before now later is.put r.interim new.pass a.items a.steps
            aside after a.noted aside_is after_is is.passed.puts a.are_steps a.after.within.seen);
        passed = record {
          takes = takes ∙ is.passed.takes;
          puts =
              put-joined before.put now.put later.put r.interim is.put put is.passed.puts puts
              ∙ ap (λ (l : List ℕ). append_known before.put (is.put ++ l)) a.put_is
              ∙ ap (λ (l : List ℕ). append_known before.put l)
              (sym (append-nil (is.put ++ transcript a.items a.steps)));
          notes = TakesNotes-trans before.notes now.notes later.notes is.passed.notes notes;
        };
        held =
            sym front.rest ∙ ap (λ (l : List ℕ). behind l a.items) is.held
            ∙ sym (behind-append is.taken is.items a.items);
        size = is.size;
        most = is.most;
        ends = λ e. ends ∙ is.ends e;
        interim = λ e. let bad : ⊥ = cc in absurd bad;
        after = after-append start is.steps a.steps old mid new is.after a.after;
        requests_are =
            sum ∙ ap (λ (n : ℕ). n + done.requests) is.requests_are ∙ ap (λ (n : ℕ). length is.items + n) a.requests
            ∙ sym (length-append is.items a.items);
        few = omega arith;
      })

-- ---- what answering the front keeps

-- what a pass and a reader know is where the serving may go on from
pub front-start : (pass : Known) (read : List Entry) → IsWithin (progress_from pass.seen read pass.faults)
    (mark_of pass read)
front-start pass read = record {
  seen = IsPrefix-refl pass.seen;
  totals = IsPrefix-refl read;
  faults = le_refl pass.faults;
}

pub answered-legal : (gives : Given → Type 0) (c : Progress) (complete : Bool) (held : List ℕ) (out : Bool)
    (put : List ℕ) (link : Halves)
    (old new : CallerState) (done : Answered) → AreAnswered gives c complete held out put link old new done
    → IsLegal c.totals → IsLegal new.reader
answered-legal gives c complete held out put link old new done a legal =
    subst (λ (H : List Entry). IsLegal H) (sym a.after.counted) (after-legal gives c a.items a.steps a.are_steps legal)

pub partly-legal : (gives : Given → Type 0) (c : Progress) (held : List ℕ) (out : Bool) (put : List ℕ)
    (link : Halves) (old new : CallerState)
    → ArePartly gives c held out put link old new → IsLegal c.totals → IsLegal new.reader
partly-legal gives c held out put link old new a legal =
    subst (λ (H : List Entry). IsLegal H) (sym a.after.counted) (after-legal gives c a.items a.steps a.are_steps legal)
