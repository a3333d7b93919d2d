-- A run over a journal, from its opening on.
use Rattle.std.proofs.Common.{◌≡◌, ◌++◌, ℕ, true, List, [], sym, ap, ◌∙◌, subst, append_assoc}
use Rattle.farm_disk.specs.declared.disk.Disk as disk
use Rattle.farm_entry.specs.Legal.{IsLegal}
use Rattle.farm_entry.specs.declared.entry.Entry.{Entry}
use Rattle.farm_journal.specs.ReadsOnly.{ReadsOnly}
use Rattle.farm_script.proofs.Growing.{between-first}
use Rattle.farm_script.proofs.LegalRuns.{run-legal}
use Rattle.farm_script.specs.Images.{Rests, StandsBetween}
use Rattle.farm_script.specs.declared.run_end.RunEnd.{RunEnd}
use Rattle.farm_script.specs.declared.run_end.RunEnd.TheVariants as script
use Rattle.farm_store.specs.Bytes.{StandsFor}
use Rattle.farm_store.specs.State.{StoreState}
use Rattle.link_io.specs.Streams.{Streams}
use Rattle.outside_seen.proofs.Openings.{WasOpened, any_moment-opened, since_sync-opened}
use Rattle.outside_seen.specs.Outside.{OutputSeen, disk_seen}
use Rattle.search_evidence.specs.Evidence.{evidence_text}
use Rattle.finder_commands.specs.EvidenceCommand.{EvidencePut, EvidenceShown}
use Rattle.finder_commands.specs.RunJournal.{JournalRan, StoreRan, over_journal}
use Rattle.finder_commands.specs.Show.{JournalShown}
use Rattle.finder_commands.specs.TextPut.{TextPut}
use Rattle.finder_commands.specs.declared.status.Status.{Status}

-- a run over a store that was opened is one over its journal
pub ran-opened : {D : Type 0} (meant : disk.Ghosts D) (end : RunEnd) (before after : Streams) (store : StoreState D)
    (old new : D) → WasOpened meant store old → StoreRan meant end before after store new
    → JournalRan end before after (disk_seen meant old) (disk_seen meant new)
ran-opened {D} meant end before after store old new opened ran =
    let P : List ℕ → Type 0 = StandsBetween StandsFor store.history (ran.last ++ ran.pending) in
    let on : ran.last ++ ran.pending ≡ store.history ++ (ran.more ++ ran.pending) =
    ap (λ (l : List Entry). l ++ ran.pending) ran.longer ∙ append_assoc store.history ran.more ran.pending in
    let first : meant.tells old ≡ true → P (meant.told old).bytes =
    λ tell. subst (λ (l : List Entry). StandsBetween StandsFor store.history l (meant.told old).bytes) (sym on)
    (between-first StandsFor store.history (ran.more ++ ran.pending) (meant.told old).bytes (opened.held tell)) in
    let rested : meant.tells old ≡ true → Rests StandsFor store.history store.pending (meant.told store.disk) =
    λ tell. subst (λ (p : List Entry). Rests StandsFor store.history p (meant.told store.disk)) (sym opened.none)
    (record { reads = (opened.stored tell).reads; images = (opened.stored tell).images }) in
    record {
      first = store.history;
      last = ran.last;
      pending = ran.pending;
      held = opened.held;
      legal = opened.legal;
      ends = ran.ends;
      decided = ran.decided;
      legal_after = run-legal end (over_journal before store.history []) (over_journal after ran.last ran.pending) ran.ends
          ran.decided opened.legal;
      at_exit = λ tell. ran.rests (opened.same ∙ tell) (rested tell);
      since_sync = λ tell. since_sync-opened (meant.told old) (meant.told store.disk) (meant.told new) P (first tell)
          (opened.only tell) (ran.each (opened.same ∙ tell) (rested tell));
      any_moment = λ tell settled. any_moment-opened (meant.told old) (meant.told store.disk) (meant.told new) P
          (first tell) (opened.only tell) (ran.each (opened.same ∙ tell) (rested tell)) settled;
    }

-- what was put of a store that was opened is the text of its journal's history
pub shown-opened : {D : Type 0} (meant : disk.Ghosts D) (text_of : List Entry → List ℕ) (status : Status)
    (before after : OutputSeen) (store : StoreState D) (old left : D) → left ≡ store.disk
    → (meant.tells old ≡ true → StandsFor store.history (meant.told old).bytes) → IsLegal store.history
    → (meant.tells old ≡ true → ReadsOnly (meant.told old) (meant.told store.disk))
    → TextPut (text_of store.history) status before after
    → JournalShown text_of status before after (disk_seen meant old) (disk_seen meant left)
shown-opened {D} meant text_of status before after store old left is held legal only put =
    subst (λ (d : D). JournalShown text_of status before after (disk_seen meant old) (disk_seen meant d)) (sym is) (record {
      history = store.history;
      held = held;
      legal = legal;
      only = only;
      text = put;
    })

-- and what was put of a search of it is the evidence by that history
pub evidence-opened : {D : Type 0} (meant : disk.Ghosts D) (search : ℕ) (status : Status)
    (before after : OutputSeen) (store : StoreState D) (old left : D) → left ≡ store.disk
    → (meant.tells old ≡ true → StandsFor store.history (meant.told old).bytes) → IsLegal store.history
    → (meant.tells old ≡ true → ReadsOnly (meant.told old) (meant.told store.disk))
    → EvidencePut search (evidence_text store.history search) status before after
    → EvidenceShown search status before after (disk_seen meant old) (disk_seen meant left)
evidence-opened {D} meant search status before after store old left is held legal only put =
    subst (λ (d : D). EvidenceShown search status before after (disk_seen meant old) (disk_seen meant d)) (sym is)
    (record {
      history = store.history;
      held = held;
      legal = legal;
      only = only;
      put = put;
    })
