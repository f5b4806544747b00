-- What a scan may answer, and what it leaves.
use Rattle.std.proofs.Common.{◌≡◌, ℕ, suc, false, List, [], ◌∷◌, ◌++◌, length, map, Option, Some, None, Result, Ok, Err, IfOk, IfErr, IsErrOf, inl, inr, refl, ap, sym, subst, ◌∙◌, arith}
use Rattle.std.specs.List.{list_any}
use Rattle.std.specs.Map.{lookup}
use Rattle.pcj_term.specs.Order.{same_bytes}
use Rattle.pcj_io.specs.Faults.{Rose}
use Rattle.pcj_table.specs.Table.{Table, row_at}
use Rattle.pcj_oracle.specs.Clock.{next_number}
use Rattle.pcj_oracle.specs.declared.block.Block.{Block}
use Rattle.pcj_moves.specs.Actors.{Actor, new_actor}
use Rattle.pcj_moves.specs.Transactions.{Transaction}
use Rattle.pcj_actor.specs.StepLaws.{state_of}
use Rattle.pcj_fit.specs.Sound.{Sound}
use Rattle.pcj_fit.proofs.SoundLemmas.{begin_is_sound}
use Rattle.pcj_algebra.specs.declared.query.Query.{Query}
use Rattle.pcj_answers.specs.Answers.{HaveOneList}
use Rattle.pcj_clients.specs.Clients.{actors_of}
use Rattle.pcj_clients.specs.declared.busy.Busy.{Busy}
use Rattle.pcj_scan.specs.declared.error.ScanError.{ScanError}
use Rattle.pcj_scan.specs.declared.error.ScanError.TheVariants as scan_error
use Rattle.pcj_scan.specs.Scans.{FindsLines, KeepsSound, Reads}
use Rattle.pcj_jobs.specs.Agrees.{Agrees}
use Rattle.pcj_jobs.proofs.StateLemmas.{beside_agrees}
use Rattle.pcj_model.specs.declared.line.Line.{Line as Written}
use Rattle.pcj_model.specs.State.{State, all_beside, with_jobs}
use Rattle.pcj_sparql.specs.Query.{QueryText}
use Rattle.pcj_script.specs.Commands.{Command as commands}
use Rattle.pcj_model.specs.Laws.{is_fault}
use Rattle.pcj_model.specs.Line.Line.{AnswersFault, NoQuery, Row, Rows, ScanFault}
use Rattle.pcj_model.specs.Reply.{Language, answer_lines}
use Rattle.pcj_session.specs.declared.reply.Reply.{Reply}
use Rattle.pcj_session.specs.declared.reply.Reply.TheVariants as replies
use Rattle.pcj_session.specs.declared.stop.Stop.{Stop}
use Rattle.pcj_session.specs.declared.stop.Stop.TheVariants as stops
use Rattle.pcj_session.specs.Language.{IsSparql}
use Rattle.pcj_rebuild.specs.Laws.{HaveSameLines}
use Rattle.pcj_session.specs.Lines.{rows_told}
use Rattle.pcj_session.specs.Names.{HaveOneTree}
use Rattle.pcj_session.specs.Session.{Held, Holds, IsLeft, StopsAt, TellsFault}
use Rattle.pcj_session.proofs.DrawLemmas.{Says, keeps_agree, with_oracle}
use Rattle.pcj_session.proofs.NameLemmas.{all_open_beside, none_kept, some_kept}

-- the state beside a reader
abbrev pub met : State → State
met state = with_jobs state (all_beside [] [] state.jobs)

-- an oracle whose next number is this one
abbrev at : ℕ → Option Block
at number = Some (record { next = number; limit = number })

read_agrees : (oracle : Option Block) (table : Table) (oracle' : Option Block) (table' : Table) (clients : List Busy) (others : List Actor) (state : State) → Reads oracle table oracle' table' → Sound (state_of oracle table (actors_of clients ++ others)) →
    Agrees oracle table clients state → Agrees oracle' table' clients (met state)
read_agrees oracle table oracle' table' clients others state reads sound agrees = by reads
  where
    number : ℕ
    number = next_number oracle table

    begun : Sound (state_of (at (suc number)) table (new_actor number ∷ (actors_of clients ++ others)))
    begun = begin_is_sound number number (row_at table) (actors_of clients ++ others) (omega arith) sound

    later : Agrees (at (suc number)) table clients state
    later = record {
      known = agrees.known;
      triples = agrees.triples;
      queries = agrees.queries;
      last = (let last = agrees.last in omega (arith, last));
      locks = agrees.locks;
      notifications = agrees.notifications;
      idle = agrees.idle;
      quiet = agrees.quiet;
    }

    stayed : Agrees (at (suc number)) table clients (met state)
    stayed = beside_agrees [] clients (at (suc number)) table (new_actor number) (at (suc number)) table (new_actor number) others state (refl, refl, refl) refl (omega arith) begun later

    as_before : Agrees oracle table clients (met state)
    as_before = record {
      known = stayed.known;
      triples = stayed.triples;
      queries = stayed.queries;
      last = agrees.last;
      locks = stayed.locks;
      notifications = stayed.notifications;
      idle = stayed.idle;
      quiet = stayed.quiet;
    }

    by : Reads oracle table oracle' table' → Agrees oracle' table' clients (met state)
    by (inl keeps) = keeps_agree oracle table oracle' table' clients (met state) keeps as_before
    by (inr read) =
        let (moves, are, reader, nothing, makes) = read.made (actors_of clients ++ others) sound in
        beside_agrees moves clients (at (suc number)) table (new_actor number) oracle' table' reader others state makes (ap (λ (t : Transaction). t.committed) nothing)
        (let none : reader.transaction.prewritten ≡ 0 = ap (λ (t : Transaction). t.prewritten) nothing in omega (arith, none)) begun later

pub read_holds : (others : List Actor) (held : Held) (oracle' : Option Block) (table table' : Table) (state : State) → Reads held.oracle table oracle' table' → KeepsSound held.oracle table oracle' table' → Holds others held table state →
    Holds others (with_oracle held oracle') table' (met state)
read_holds others held oracle' table table' state reads keeps holds = record {
  sound = keeps (actors_of held.clients ++ others) holds.sound;
  kept = holds.kept;
  opened = all_open_beside [] [] held.opened state.jobs holds.opened;
  agrees = read_agrees held.oracle table oracle' table' held.clients others state reads holds.sound holds.agrees;
}

-- the triples stay, however it ends
pub read_left : (others : List Actor) (held : Held) (oracle' : Option Block) (table table' : Table) (state : State) → Reads held.oracle table oracle' table' → KeepsSound held.oracle table oracle' table' → Holds others held table state →
    IsLeft others (with_oracle held oracle') table' state
read_left others held oracle' table table' state reads keeps holds =
    let after = read_holds others held oracle' table table' state reads keeps holds in
    record { sound = after.sound; triples = after.agrees.triples; queries = after.agrees.queries; last = after.agrees.last }

-- the rows that are found are those of the language
pub rows_are : (language : Language) (others : List Actor) (held : Held) (table : Table) (state : State) (query : Query) (rows : List (List ℕ)) → HaveOneList → IsSparql language → Holds others held table state →
    FindsLines held.oracle table query rows → rows ≡ language.rows query state.triples
rows_are language others held table state query rows one sparql holds finds =
    one query state.triples rows (language.rows query state.triples) (finds (actors_of held.clients ++ others) state.triples holds.sound holds.agrees.triples) (sparql.answers query state.triples)

-- and those of another query that is stored alike
rows_alike : (language : Language) (others : List Actor) (held : Held) (table : Table) (state : State) (query other : Query) (rows : List (List ℕ)) → HaveOneList → HaveSameLines → IsSparql language → HaveOneTree query other → Holds others held table state →
    FindsLines held.oracle table query rows → rows ≡ language.rows other state.triples
rows_alike language others held table state query other rows one same sparql (tree, is, its) holds finds =
    one other state.triples rows (language.rows other state.triples) (same query other tree state.triples rows is its (finds (actors_of held.clients ++ others) state.triples holds.sound holds.agrees.triples)) (sparql.answers other state.triples)

-- ---- what is said

pub scan_rows : (language : Language) (others : List Actor) (text : List ℕ) (query : Query) (held : Held) (oracle' : Option Block) (table table' : Table) (state : State) (rows : List (List ℕ)) → HaveOneList → IsSparql language → QueryText text query →
    Reads held.oracle table oracle' table' → KeepsSound held.oracle table oracle' table' → FindsLines held.oracle table query rows → Holds others held table state → Says language others state (commands.Scan text) (with_oracle held oracle') table' (answer_lines rows)
scan_rows language others text query held oracle' table table' state rows one sparql of_text reads keeps finds holds = (
  met state,
  inr (inl (record {
    good = sparql.scans text query of_text;
    told = ap answer_lines (rows_are language others held table state query rows one sparql holds finds ∙ ap (λ q. language.rows q state.triples) (sym (sparql.reads text query of_text)));
    met = refl;
  })),
  read_holds others held oracle' table table' state reads keeps holds,
)

pub scan_faulted : (language : Language) (others : List Actor) (text : List ℕ) (query : Query) (held : Held) (oracle' : Option Block) (table table' : Table) (state : State) → IsSparql language → QueryText text query →
    Reads held.oracle table oracle' table' → KeepsSound held.oracle table oracle' table' → Holds others held table state → Says language others state (commands.Scan text) (with_oracle held oracle') table' (ScanFault ∷ [])
scan_faulted language others text query held oracle' table table' state sparql of_text reads keeps holds =
    (met state, inr (inr (record { good = sparql.scans text query of_text; told = refl; met = refl })), read_holds others held oracle' table table' state reads keeps holds)

pub answers_rows : (language : Language) (others : List Actor) (name : List ℕ) (query : Query) (held : Held) (oracle' : Option Block) (table table' : Table) (state : State) (rows : List (List ℕ)) → HaveOneList → HaveSameLines → IsSparql language → lookup (same_bytes name) held.queries ≡ Some query →
    Reads held.oracle table oracle' table' → KeepsSound held.oracle table oracle' table' → FindsLines held.oracle table query rows → Holds others held table state → Says language others state (commands.Answers name) (with_oracle held oracle') table' (answer_lines rows)
answers_rows language others name query held oracle' table table' state rows one same sparql is reads keeps finds holds =
    let (registration, found, alike) = some_kept held.queries state.queries name query holds.kept is in (
      met state,
      inr (inl (record {
        registration = registration;
        named = found;
        told = ap answer_lines (rows_alike language others held table state query registration.query rows one same sparql alike holds finds);
        met = refl;
      })),
      read_holds others held oracle' table table' state reads keeps holds,
    )

pub answers_faulted : (language : Language) (others : List Actor) (name : List ℕ) (query : Query) (held : Held) (oracle' : Option Block) (table table' : Table) (state : State) → lookup (same_bytes name) held.queries ≡ Some query →
    Reads held.oracle table oracle' table' → KeepsSound held.oracle table oracle' table' → Holds others held table state → Says language others state (commands.Answers name) (with_oracle held oracle') table' (AnswersFault ∷ [])
answers_faulted language others name query held oracle' table table' state named reads keeps holds =
    let (registration, found, alike) = some_kept held.queries state.queries name query holds.kept named in
    (met state, inr (inr (record { registration = registration; named = found; told = refl; met = refl })), read_holds others held oracle' table table' state reads keeps holds)

pub answers_unknown : (language : Language) (others : List Actor) (name : List ℕ) (held : Held) (table : Table) (state : State) → lookup (same_bytes name) held.queries ≡ None → Holds others held table state → Says language others state (commands.Answers name) held table (NoQuery name ∷ [])
answers_unknown language others name held table state none holds = (state, inl (record { unnamed = none_kept held.queries state.queries name holds.kept none; told = refl; same = refl }), holds)

pub answers_spent : (language : Language) (others : List Actor) (name : List ℕ) (query : Query) (held : Held) (oracle' : Option Block) (table table' : Table) (state : State) → lookup (same_bytes name) held.queries ≡ Some query →
    Reads held.oracle table oracle' table' → KeepsSound held.oracle table oracle' table' → Holds others held table state → StopsAt language others state (commands.Answers name) (with_oracle held oracle') table' stops.Spent
answers_spent language others name query held oracle' table table' state named reads keeps holds =
    let (registration, found, alike) = some_kept held.queries state.queries name query holds.kept named in ((registration, found), read_left others held oracle' table table' state reads keeps holds)

-- ---- faults

rows_without_fault : (rows : List (List ℕ)) (count : ℕ) → list_any is_fault (map Row rows ++ Rows count ∷ []) ≡ false
rows_without_fault [] count = refl
rows_without_fault (row ∷ rows) count = rows_without_fault rows count

pub fault_told : (before after : ℕ) (fault : Written) (rows : Result (List (List ℕ)) ScanError) (result : Result Reply Stop) → result ≡ rows_told fault rows → (IsErrOf rows scan_error.Failed → Rose before after) → IfOk result (TellsFault before after)
fault_told before after fault (Ok rows) result is rose = subst (λ r. IfOk r (TellsFault before after)) (sym is) (λ told. absurd (let clash = sym (rows_without_fault rows (length rows)) ∙ told in cc))
fault_told before after fault (Err scan_error.Failed) result is rose = subst (λ r. IfOk r (TellsFault before after)) (sym is) (λ told. rose refl)
fault_told before after fault (Err scan_error.Memory) result is rose = subst (λ r. IfOk r (TellsFault before after)) (sym is) tt
fault_told before after fault (Err scan_error.Spent) result is rose = subst (λ r. IfOk r (TellsFault before after)) (sym is) tt

-- ---- what its rows come to

pub rows_answered : (P : Reply → Type 0) (fault : Written) (rows : Result (List (List ℕ)) ScanError) (result : Result Reply Stop) → result ≡ rows_told fault rows → IfOk rows (λ lines. P (replies.Rows lines)) → P (replies.One fault) → IfOk result P
rows_answered P fault (Ok lines) result is told failed = subst (λ r. IfOk r P) (sym is) told
rows_answered P fault (Err scan_error.Failed) result is told failed = subst (λ r. IfOk r P) (sym is) failed
rows_answered P fault (Err scan_error.Memory) result is told failed = subst (λ r. IfOk r P) (sym is) tt
rows_answered P fault (Err scan_error.Spent) result is told failed = subst (λ r. IfOk r P) (sym is) tt

pub rows_stopped : (P : Stop → Type 0) (fault : Written) (rows : Result (List (List ℕ)) ScanError) (result : Result Reply Stop) → result ≡ rows_told fault rows → P stops.Memory → P stops.Spent → IfErr result P
rows_stopped P fault (Ok lines) result is memory spent = subst (λ r. IfErr r P) (sym is) tt
rows_stopped P fault (Err scan_error.Failed) result is memory spent = subst (λ r. IfErr r P) (sym is) tt
rows_stopped P fault (Err scan_error.Memory) result is memory spent = subst (λ r. IfErr r P) (sym is) memory
rows_stopped P fault (Err scan_error.Spent) result is memory spent = subst (λ r. IfErr r P) (sym is) spent
