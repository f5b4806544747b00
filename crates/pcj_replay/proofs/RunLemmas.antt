-- A run that goes on by a command, or ends.
use Rattle.std.proofs.Common.{◌≡◌, ◌⊎◌, ◌≤◌, ◌+◌, ℕ, Bool, true, false, List, [], ◌∷◌, ◌++◌, length, drop, Option, Some, None, inl, inr, refl, ap, sym, subst, ◌∙◌, append-nil, append_assoc}
use Rattle.std.proofs.lemmas.List.Concat.{flat_map-append}
use Rattle.pcj_io.specs.Sink.{Appends}
use Rattle.pcj_io.proofs.Appended.{Appends-nil, Appends-append}
use Rattle.pcj_io.specs.Faults.{Rose}
use Rattle.pcj_io.proofs.Causes.{Rose-since}
use Rattle.pcj_term.specs.declared.triple.Triple.{Triple}
use Rattle.pcj_table.specs.Table.{Table, row_at}
use Rattle.pcj_rows.specs.Triples.{HasTriples}
use Rattle.pcj_oracle.specs.Clock.{IsClock, stored_number}
use Rattle.pcj_lines.specs.Lines.{ended}
use Rattle.pcj_script.specs.declared.error.ScriptError.{ScriptError}
use Rattle.pcj_script.specs.declared.error.ScriptKind.{ScriptKind}
use Rattle.pcj_script.specs.Commands.{Command}
use Rattle.pcj_script.specs.Front.{HasFront}
use Rattle.pcj_script.specs.Front.Front.{NoLine, Skipped, Whole, Open, Refused as IsRefused}
use Rattle.pcj_script.specs.Lines.{IsUsed, Line, lines_given}
use Rattle.pcj_script.specs.Script.{Ending as ScriptEnding, Spells, stop_at}
use Rattle.pcj_script.proofs.ScriptLaws.{some_reading}
use Rattle.pcj_script.specs.Script.Ending.{End, RefusedAt, CutOff}
use Rattle.pcj_script.specs.Told.{RefusesLine}
use Rattle.pcj_script.proofs.PieceLaws.{goes_on_behind}
use Rattle.pcj_model.specs.declared.ending.Ending.{Ending}
use Rattle.pcj_model.specs.declared.ending.Ending.TheVariants as endings
use Rattle.pcj_model.specs.Ending.{Ends, MayDraw, RunEnds, Tells, status_of}
use Rattle.pcj_model.proofs.EndingLaws.{ends_stand}
use Rattle.pcj_model.specs.Line.{Line as ALine, line_text, printed}
use Rattle.pcj_model.specs.Line.Line.{Script, Spent as SaysSpent}
use Rattle.pcj_model.specs.Reply.{Language, Reply}
use Rattle.pcj_model.specs.Run.{all_lines}
use Rattle.pcj_model.specs.Queries.{Registration}
use Rattle.pcj_model.specs.State.{State}
use Rattle.pcj_jobs.specs.Agrees.{HasRegistered}
use Rattle.pcj_model.proofs.RunLaws.{runs_go_on}
use Rattle.pcj_session.specs.Language.{IsSparql, IsThere}
use Rattle.pcj_session.specs.Session.{Held, Holds}
use Rattle.pcj_replay.specs.declared.input.InputEnd.{InputEnd}
use Rattle.pcj_replay.specs.declared.input.InputEnd.TheVariants.{AtEnd, AtLimit, AtFault}
use Rattle.pcj_replay.specs.declared.stop.Stop.{Stop as Stopped}
use Rattle.pcj_replay.specs.declared.stop.Stop.TheVariants as stops
use Rattle.pcj_replay.specs.Answer.{StopsAnswer, WritesAnswer}
use Rattle.pcj_replay.specs.Entry.{IsLeftWith, IsOpen, start_over}
use Rattle.pcj_replay.specs.declared.input.Input.{Input}
use Rattle.pcj_replay.specs.Input.{IsFrontOf, IsReadFrom, is_ended, lines_up_to, stop_of}
use Rattle.pcj_replay.specs.Runs.{Begins, Closes, EndsBehind, Finishes, HoldsFirst, IsEndingOf, IsReadEnd, Ran, Replays, RunsTo, StopsIn, TellsSinkFault}
use Rattle.pcj_replay.proofs.AnswerLemmas.{below_first, holds_left}
use Rattle.pcj_replay.proofs.EntryLemmas.{some_queries}
use Rattle.pcj_replay.proofs.InputLemmas.{reads_as, whole_is, whole_of}
use Rattle.pcj_replay.proofs.ScriptLemmas.{goes_on_with}
use Rattle.pcj_rows.proofs.TableTriples.{table_triples}

-- ---- what is told

tells_nothing : (language : Language) (start : State) → Tells language start [] [] [] start
tells_nothing language start = record { transcript = []; run = refl; written = refl }

tells_more : (language : Language) (start : State) (commands : List Command) (text : List ℕ) (mid : State) (command : Command) (lines : List ALine) (after : State) → Tells language start commands [] text mid → Reply language mid command lines after →
    Tells language start (commands ++ command ∷ []) [] (text ++ printed lines) after
tells_more language start commands text mid command lines after told reply = record {
  transcript = told.transcript ++ lines ∷ [];
  run = runs_go_on language start mid after commands (command ∷ []) told.transcript (lines ∷ []) told.run (after, reply, refl);
  written = ap (λ front. front ++ printed lines) (told.written ∙ ap printed (append-nil (all_lines told.transcript)))
      ∙ sym (flat_map-append (λ line. ended (line_text line)) (all_lines told.transcript) lines)
      ∙ ap printed (sym all ∙ sym (append-nil (all_lines (told.transcript ++ lines ∷ []))));
}
  where
    all : all_lines (told.transcript ++ lines ∷ []) ≡ all_lines told.transcript ++ lines
    all = flat_map-append (λ ls. ls) told.transcript (lines ∷ []) ∙ ap (λ end. all_lines told.transcript ++ end) (append-nil lines)

-- with the last line of a run
tells_closing : (language : Language) (start : State) (commands : List Command) (text : List ℕ) (end : State) (closing : List ALine) → Tells language start commands [] text end → Tells language start commands closing (text ++ printed closing) end
tells_closing language start commands text end closing told = record {
  transcript = told.transcript;
  run = told.run;
  written = ap (λ front. front ++ printed closing) (told.written ∙ ap printed (append-nil (all_lines told.transcript)))
      ∙ sym (flat_map-append (λ line. ended (line_text line)) (all_lines told.transcript) closing);
}

-- ---- so far

-- Some of the commands were carried out, and their lines are written; the others stand in the lines that are left.
pub record SoFar (language : Language) (start : State) (end : InputEnd) (commands : List Command) (script : ScriptEnding) (old new : Option (List ℕ)) (held : Held) (table : Table) (line : ℕ) (rest : List ℕ) : Type 0 where
  pub done : List Command
  pub later : List Command
  pub is : commands ≡ done ++ later
  pub spells : Spells (stop_of end) line (lines_up_to end rest) later script
  pub text : List ℕ
  pub mid : State
  pub told : Tells language start done [] text mid
  pub written : Appends old new text
  pub holds : Holds [] held table mid

-- Each reading of the script that a run of it may have. A clause that the loop keeps.
abbrev pub Goes : InputEnd → List ℕ → Table → Option (List ℕ) → Option (List ℕ) → Held → Table → ℕ → List ℕ → Type 0
Goes end bytes before old new held table line rest =
    (language : Language) (start : State) (commands : List Command) (script : ScriptEnding) → IsSparql language → Begins start before →
    Spells (stop_of end) 1 (lines_up_to end bytes) commands script → SoFar language start end commands script old new held table line rest

pub first_goes : (end : InputEnd) (bytes : List ℕ) (held : Held) (table : Table) (taken : Option (List ℕ)) → HoldsFirst held table → Goes end bytes table taken taken held table 1 bytes
first_goes end bytes held table taken first language start commands script sparql begins spells = record {
  done = [];
  later = commands;
  is = refl;
  spells = spells;
  text = [];
  mid = start;
  told = tells_nothing language start;
  written = Appends-nil taken;
  holds = first start begins;
}

behind : (end : InputEnd) (count used : ℕ) (rest : List ℕ) → IsUsed (lines_up_to end rest) count used → lines_up_to end (drop used rest) ≡ drop count (lines_up_to end rest)
behind end count used rest is = goes_on_behind (is_ended end) rest count used is

-- a line is skipped
pub skipped_goes : (end : InputEnd) (bytes : List ℕ) (before : Table) (old new : Option (List ℕ)) (held : Held) (table : Table) (line used : ℕ) (rest rest' : List ℕ) → HasFront (lines_up_to end rest) Skipped → IsUsed (lines_up_to end rest) 1 used → rest' ≡ drop used rest →
    Goes end bytes before old new held table line rest → Goes end bytes before old new held table (line + 1) rest'
skipped_goes end bytes before old new held table line used rest rest' front is left goes language start commands script sparql begins spells =
    let so = goes language start commands script sparql begins spells in record {
      done = so.done;
      later = so.later;
      is = so.is;
      spells = subst (λ ls. Spells (stop_of end) (line + 1) ls so.later script) (sym (ap (lines_up_to end) left ∙ behind end 1 used rest is))
          (goes_on_with (stop_of end) line (lines_up_to end rest) so.later script Skipped so.spells front);
      text = so.text;
      mid = so.mid;
      told = so.told;
      written = so.written;
      holds = so.holds;
    }

-- what a command comes to, of whatever language and state
abbrev pub Answered : Held → Table → Command → Held → Table → Option (List ℕ) → Option (List ℕ) → Type 0
Answered held table command held' table' old new =
    (language : Language) (state : State) → IsSparql language → Holds [] held table state → WritesAnswer language state command held' table' old new

-- a command was carried out
pub taken_goes : (end : InputEnd) (bytes : List ℕ) (before : Table) (old mid new : Option (List ℕ)) (held held' : Held) (table table' : Table) (line used count : ℕ) (rest rest' : List ℕ) (command : Command) → HasFront (lines_up_to end rest) (Whole command count) →
    IsUsed (lines_up_to end rest) count used → rest' ≡ drop used rest → Answered held table command held' table' mid new → Goes end bytes before old mid held table line rest → Goes end bytes before old new held' table' (line + count) rest'
taken_goes end bytes before old mid new held held' table table' line used count rest rest' command front is left answered goes language start commands script sparql begins spells =
    let so = goes language start commands script sparql begins spells in
    let (later, first, after) = goes_on_with (stop_of end) line (lines_up_to end rest) so.later script (Whole command count) so.spells front in
    let (lines, state, reply, holds, written) = answered language so.mid sparql so.holds in record {
      done = so.done ++ command ∷ [];
      later = later;
      is = so.is ∙ ap (λ cs. so.done ++ cs) first ∙ sym (append_assoc so.done (command ∷ []) later);
      spells = subst (λ ls. Spells (stop_of end) (line + count) ls later script) (sym (ap (lines_up_to end) left ∙ behind end count used rest is)) after;
      text = so.text ++ printed lines;
      mid = state;
      told = tells_more language start so.done so.text so.mid command lines state so.told reply;
      written = Appends-append old mid new so.text (printed lines) so.written written;
      holds = holds;
    }

-- ---- it stops in a command

abbrev pub Stops : Held → Table → Command → Table → Option (List ℕ) → Option (List ℕ) → Stopped → Type 0
Stops held table command table' old new stop =
    (language : Language) (state : State) → IsSparql language → Holds [] held table state → StopsAnswer language state command table' old new stop

pub stops_in : (end : InputEnd) (bytes : List ℕ) (before : Table) (old mid new : Option (List ℕ)) (held : Held) (table table' : Table) (line count : ℕ) (rest : List ℕ) (command : Command) (stop : Stopped) → HasFront (lines_up_to end rest) (Whole command count) →
    Stops held table command table' mid new stop → Goes end bytes before old mid held table line rest → (language : Language) (start : State) (commands : List Command) (script : ScriptEnding) → IsSparql language → Begins start before →
    Spells (stop_of end) 1 (lines_up_to end bytes) commands script → StopsIn language start commands old new table' stop
stops_in end bytes before old mid new held table table' line count rest command stop front stops goes language start commands script sparql begins spells =
    let so = goes language start commands script sparql begins spells in
    let (later, first, after) = goes_on_with (stop_of end) line (lines_up_to end rest) so.later script (Whole command count) so.spells front in record {
      before = so.done;
      command = command;
      after = later;
      split = so.is ∙ ap (λ cs. so.done ++ cs) first;
      front = so.text;
      mid = so.mid;
      told = so.told;
      between = mid;
      written = so.written;
      stops = stops language so.mid sparql so.holds;
    }

-- ---- it comes to the end of what was read

ended_is : (end : InputEnd) → is_ended end ≡ true → end ≡ AtEnd
ended_is AtEnd e = refl
ended_is AtLimit e = absurd cc
ended_is AtFault e = absurd cc

all_done : (language : Language) (start : State) (end : InputEnd) (commands : List Command) (script : ScriptEnding) (old new : Option (List ℕ)) (held : Held) (table : Table) (line : ℕ) (rest : List ℕ) (ending : Ending) → IsClock held.oracle table →
    (so : SoFar language start end commands script old new held table line rest) → so.later ≡ [] → IsEndingOf script ending → RunsTo language start commands script old new table ending
all_done language start end commands script old new held table line rest ending clock so none is = record {
  text = so.text;
  end = so.mid;
  told = subst (λ cs. Tells language start cs [] so.text so.mid) (sym (so.is ∙ ap (λ cs. so.done ++ cs) none ∙ append-nil so.done)) so.told;
  written = so.written;
  left = holds_left held table so.mid clock so.holds;
  is = is;
}

-- a line is refused
refused_is : (end : InputEnd) (line : ℕ) (lines : List Line) (number : ℕ) (kind : ScriptKind) (later : List Command) (script : ScriptEnding) → RefusesLine (is_ended end) line lines number kind → Spells (stop_of end) line lines later script →
    (later ≡ []) × (script ≡ RefusedAt number kind)
refused_is end line lines number kind later script (inl (before, front, is)) spells =
    let (none, ending) = goes_on_with (stop_of end) line lines later script (IsRefused before kind) spells front in (none, ending ∙ ap (λ n. RefusedAt n kind) (sym is))
refused_is AtEnd line lines number kind later script (inr (ended, front, which, is)) spells =
    let (none, ending) = goes_on_with (stop_of AtEnd) line lines later script Open spells front in (none, ending ∙ ap (λ k. RefusedAt line k) (sym which) ∙ ap (λ n. RefusedAt n kind) (sym is))
refused_is AtLimit line lines number kind later script (inr (ended, front, which, is)) spells = absurd (let clash = ended in cc)
refused_is AtFault line lines number kind later script (inr (ended, front, which, is)) spells = absurd (let clash = ended in cc)

pub refused_done : (end : InputEnd) (bytes : List ℕ) (before : Table) (old new : Option (List ℕ)) (held : Held) (table : Table) (line : ℕ) (rest : List ℕ) (error : ScriptError) → IsClock held.oracle table →
    RefusesLine (is_ended end) line (lines_up_to end rest) error.line error.kind → Goes end bytes before old new held table line rest → (language : Language) (start : State) (commands : List Command) (script : ScriptEnding) → IsSparql language →
    Begins start before → Spells (stop_of end) 1 (lines_up_to end bytes) commands script → RunsTo language start commands script old new table (endings.Refused error)
refused_done end bytes before old new held table line rest error clock refuses goes language start commands script sparql begins spells =
    let so = goes language start commands script sparql begins spells in
    let (none, ending) = refused_is end line (lines_up_to end rest) error.line error.kind so.later script refuses so.spells in
    all_done language start end commands script old new held table line rest (endings.Refused error) clock so none (subst (λ s. IsEndingOf s (endings.Refused error)) (sym ending) refl)

-- the script's end
end_is : (end : InputEnd) (line : ℕ) (lines : List Line) (later : List Command) (script : ScriptEnding) → is_ended end ≡ true → HasFront lines NoLine → Spells (stop_of end) line lines later script → (later ≡ []) × (script ≡ End)
end_is AtEnd line lines later script ended front spells = goes_on_with (stop_of AtEnd) line lines later script NoLine spells front
end_is AtLimit line lines later script ended front spells = absurd (let clash = ended in cc)
end_is AtFault line lines later script ended front spells = absurd (let clash = ended in cc)

pub end_done : (end : InputEnd) (bytes : List ℕ) (before : Table) (old new : Option (List ℕ)) (held : Held) (table : Table) (line : ℕ) (rest : List ℕ) → IsClock held.oracle table → is_ended end ≡ true → HasFront (lines_up_to end rest) NoLine →
    Goes end bytes before old new held table line rest → (language : Language) (start : State) (commands : List Command) (script : ScriptEnding) → IsSparql language → Begins start before →
    Spells (stop_of end) 1 (lines_up_to end bytes) commands script → RunsTo language start commands script old new table endings.Ended
end_done end bytes before old new held table line rest clock ended front goes language start commands script sparql begins spells =
    let so = goes language start commands script sparql begins spells in
    let (none, ending) = end_is end line (lines_up_to end rest) so.later script ended front so.spells in
    all_done language start end commands script old new held table line rest endings.Ended clock so none (subst (λ s. IsEndingOf s endings.Ended) (sym ending) refl)

-- no more of it was read
open_is : (end : InputEnd) (line : ℕ) (lines : List Line) (later : List Command) (script : ScriptEnding) (ending : Ending) → HasFront lines NoLine ⊎ HasFront lines Open → EndsBehind end line (length lines) ending → Spells (stop_of end) line lines later script →
    (later ≡ []) × IsEndingOf script ending
open_is AtEnd line lines later script ending front behind spells = absurd behind
open_is AtLimit line lines later script ending (inl front) behind spells = let (none, is) = goes_on_with (stop_of AtLimit) line lines later script NoLine spells front in (none, subst (λ s. IsEndingOf s ending) (sym is) behind)
open_is AtLimit line lines later script ending (inr front) behind spells = let (none, is) = goes_on_with (stop_of AtLimit) line lines later script Open spells front in (none, subst (λ s. IsEndingOf s ending) (sym is) behind)
open_is AtFault line lines later script ending (inl front) behind spells = let (none, is) = goes_on_with (stop_of AtFault) line lines later script NoLine spells front in (none, subst (λ s. IsEndingOf s ending) (sym is) behind)
open_is AtFault line lines later script ending (inr front) behind spells = let (none, is) = goes_on_with (stop_of AtFault) line lines later script Open spells front in (none, subst (λ s. IsEndingOf s ending) (sym is) behind)

pub open_done : (end : InputEnd) (bytes : List ℕ) (before : Table) (old new : Option (List ℕ)) (held : Held) (table : Table) (line : ℕ) (rest : List ℕ) (ending : Ending) → IsClock held.oracle table → HasFront (lines_up_to end rest) NoLine ⊎ HasFront (lines_up_to end rest) Open →
    is_ended end ≡ false → EndsBehind end line (length (lines_given false rest)) ending → Goes end bytes before old new held table line rest → (language : Language) (start : State) (commands : List Command) (script : ScriptEnding) → IsSparql language →
    Begins start before → Spells (stop_of end) 1 (lines_up_to end bytes) commands script → RunsTo language start commands script old new table ending
open_done end bytes before old new held table line rest ending clock front going ends goes language start commands script sparql begins spells =
    let so = goes language start commands script sparql begins spells in
    let (none, is) = open_is end line (lines_up_to end rest) so.later script ending front (subst (λ b. EndsBehind end line (length (lines_given b rest)) ending) (sym going) ends) so.spells in
    all_done language start end commands script old new held table line rest ending clock so none is

-- ---- how it ends

-- a run that came to the end of what was read, with the line that refuses one
pub run_done : (language : Language) (start : State) (commands : List Command) (script : ScriptEnding) (old mid new : Option (List ℕ)) (table : Table) (ending result : Ending) → RunsTo language start commands script old mid table ending → Finishes ending mid new result →
    Ran language start commands script old new table result
run_done language start commands script old mid new table ending result ran closes = by script ending ran.is closes
  where
    by : (script' : ScriptEnding) (ending' : Ending) → IsEndingOf script' ending' → Finishes ending' mid new result → Ran language start commands script' old new table result
    by End ending' is finishes = subst (λ e. Finishes e mid new result → Ran language start commands End old new table result) (sym is)
        (λ (same, kept). subst (λ r. Ran language start commands End old new table r) (sym same) (record {
          text = ran.text;
          end = ran.end;
          ends = (refl, ran.told);
          written = subst (λ n. Appends old n ran.text) (sym kept) ran.written;
          left = ran.left;
        })) finishes
    by CutOff ending' is finishes = subst (λ e. Finishes e mid new result → Ran language start commands CutOff old new table result) (sym is)
        (λ (same, kept). subst (λ r. Ran language start commands CutOff old new table r) (sym same) (record {
          text = ran.text;
          end = ran.end;
          ends = (refl, ran.told);
          written = subst (λ n. Appends old n ran.text) (sym kept) ran.written;
          left = ran.left;
        })) finishes
    by (RefusedAt line kind) ending' is finishes = subst (λ e. Finishes e mid new result → Ran language start commands (RefusedAt line kind) old new table result) (sym is) (refusal line kind) finishes
      where
        refusal : (line : ℕ) (kind : ScriptKind) → Closes (printed (Script line kind ∷ [])) (endings.Refused (record { line = line; kind = kind })) mid new result → Ran language start commands (RefusedAt line kind) old new table result
        refusal line kind (inl (same, added)) = subst (λ r. Ran language start commands (RefusedAt line kind) old new table r) (sym same) (record {
          text = ran.text ++ printed (Script line kind ∷ []);
          end = ran.end;
          ends = (refl, tells_closing language start commands ran.text ran.end (Script line kind ∷ []) ran.told);
          written = Appends-append old mid new ran.text (printed (Script line kind ∷ [])) ran.written added;
          left = ran.left;
        })
        refusal line kind (inr (which, (front, rest, is, added))) = record {
          text = ran.text ++ front;
          end = ran.end;
          ends = elim which [
            | inl fault ↦ subst (λ r. Ends language start commands (RefusedAt line kind) r (ran.text ++ front) ran.end) (sym fault) (inr (inl (record { line = line; kind = kind; refused = refl; front = ran.text; told = ran.told; part = record { part = front; rest = rest; is = is; written = refl } })))
            | inr memory ↦ subst (λ r. Ends language start commands (RefusedAt line kind) r (ran.text ++ front) ran.end) (sym memory) (inr (inr (inr (inl (record { line = line; kind = kind; refused = refl; front = ran.text; told = ran.told; part = record { part = front; rest = rest; is = is; written = refl } })))))
          ];
          written = Appends-append old mid new ran.text front ran.written added;
          left = ran.left;
        }

-- one that stopped in a command
pub run_stopped : (language : Language) (start : State) (commands : List Command) (script : ScriptEnding) (old new : Option (List ℕ)) (table : Table) → StopsIn language start commands old new table stops.SinkFault → Ran language start commands script old new table endings.SinkFault
run_stopped language start commands script old new table stop =
    let (lines, after, reply, left, (front, rest, is, added)) = stop.stops in record {
      text = stop.front ++ front;
      end = after;
      ends = inl (record { before = stop.before; command = stop.command; after = stop.after; split = stop.split; front = stop.front; mid = stop.mid; told = stop.told; lines = lines; reply = reply; part = record { part = front; rest = rest; is = is; written = refl } });
      written = Appends-append old stop.between new stop.front front stop.written added;
      left = left;
    }

pub run_short : (language : Language) (start : State) (commands : List Command) (script : ScriptEnding) (old new : Option (List ℕ)) (table : Table) → StopsIn language start commands old new table stops.Memory → Ran language start commands script old new table endings.OutOfMemory
run_short language start commands script old new table stop = by stop.stops
  where
    by : StopsAnswer language stop.mid stop.command table stop.between new stops.Memory → Ran language start commands script old new table endings.OutOfMemory
    by (inl (lines, after, reply, left, (front, rest, is, added))) = record {
      text = stop.front ++ front;
      end = after;
      ends = inr (inr (inl (record { before = stop.before; command = stop.command; after = stop.after; split = stop.split; front = stop.front; mid = stop.mid; told = stop.told; lines = lines; reply = reply; part = record { part = front; rest = rest; is = is; written = refl } })));
      written = Appends-append old stop.between new stop.front front stop.written added;
      left = left;
    }
    by (inr (lines, after, cut, left, added)) = record {
      text = stop.front ++ [];
      end = after;
      ends = inr (inl (record { before = stop.before; command = stop.command; after = stop.after; split = stop.split; front = stop.front; mid = stop.mid; told = stop.told; lines = lines; cut = cut; part = record { part = []; rest = printed lines; is = refl; written = refl } }));
      written = Appends-append old stop.between new stop.front [] stop.written added;
      left = left;
    }

-- one for which 2^48 would be drawn, with the line that says so
pub run_spent : (language : Language) (start : State) (commands : List Command) (script : ScriptEnding) (old mid new : Option (List ℕ)) (table : Table) (result : Ending) → StopsIn language start commands old mid table stops.Spent →
    Closes (printed (SaysSpent ∷ [])) endings.Spent mid new result → Ran language start commands script old new table result
run_spent language start commands script old mid new table result stop closes =
    let (draws, left, nothing) = stop.stops in by draws left (subst (Appends old mid) (append-nil stop.front) (Appends-append old stop.between mid stop.front [] stop.written nothing)) closes
  where
    by : MayDraw language stop.mid stop.command → IsLeftWith table stop.mid → Appends old mid stop.front → Closes (printed (SaysSpent ∷ [])) endings.Spent mid new result → Ran language start commands script old new table result
    by draws left before (inl (same, added)) = subst (λ r. Ran language start commands script old new table r) (sym same) (record {
      text = stop.front ++ printed (SaysSpent ∷ []);
      end = stop.mid;
      ends = record { before = stop.before; command = stop.command; after = stop.after; split = stop.split; draws = draws; told = tells_closing language start stop.before stop.front stop.mid (SaysSpent ∷ []) stop.told };
      written = Appends-append old mid new stop.front (printed (SaysSpent ∷ [])) before added;
      left = left;
    })
    by draws left before (inr (which, (front, rest, is, added))) = record {
      text = stop.front ++ front;
      end = stop.mid;
      ends = elim which [
        | inl fault ↦ subst (λ r. Ends language start commands script r (stop.front ++ front) stop.mid) (sym fault) (inr (inr (record { before = stop.before; command = stop.command; after = stop.after; split = stop.split; draws = draws; front = stop.front; told = stop.told; part = record { part = front; rest = rest; is = is; written = refl } })))
        | inr memory ↦ subst (λ r. Ends language start commands script r (stop.front ++ front) stop.mid) (sym memory) (inr (inr (inr (inr (record { before = stop.before; command = stop.command; after = stop.after; split = stop.split; draws = draws; front = stop.front; told = stop.told; part = record { part = front; rest = rest; is = is; written = refl } })))))
      ];
      written = Appends-append old mid new stop.front front before added;
      left = left;
    }

-- ---- which ending it is

closes_apart : (P : Ending → Type 0) (text : List ℕ) (ending : Ending) (old new : Option (List ℕ)) (result : Ending) → Closes text ending old new result → P ending → P endings.SinkFault → P endings.OutOfMemory → P result
closes_apart P text ending old new result (inl (same, added)) whole fault memory = subst P (sym same) whole
closes_apart P text ending old new result (inr (inl is, added)) whole fault memory = subst P (sym is) fault
closes_apart P text ending old new result (inr (inr is, added)) whole fault memory = subst P (sym is) memory

-- a fault of the source is told only of what was read up to one
pub source_only : (end : InputEnd) (ending result : Ending) (old new : Option (List ℕ)) → IsReadEnd end ending → Finishes ending old new result → result ≡ endings.SourceFault → end ≡ AtFault
source_only end endings.Ended result old new kind finishes is = absurd (let clash = sym finishes.0 ∙ is in cc)
source_only end (endings.Refused error) result old new kind finishes is =
    closes_apart (λ r. r ≡ endings.SourceFault → end ≡ AtFault) (printed (Script error.line error.kind ∷ [])) (endings.Refused error) old new result finishes (λ e. absurd (let clash = e in cc)) (λ e. absurd (let clash = e in cc)) (λ e. absurd (let clash = e in cc)) is
source_only end endings.SourceFault result old new kind finishes is = kind
source_only end endings.SinkFault result old new kind finishes is = absurd kind
source_only end endings.OutOfMemory result old new kind finishes is = absurd kind
source_only end endings.Spent result old new kind finishes is = absurd kind
source_only end endings.TableFault result old new kind finishes is = absurd kind

-- and none of the table
pub table_never : (end : InputEnd) (ending result : Ending) (old new : Option (List ℕ)) → IsReadEnd end ending → Finishes ending old new result → result ≡ endings.TableFault → ⊥
table_never end endings.Ended result old new kind finishes is = let clash = sym finishes.0 ∙ is in cc
table_never end (endings.Refused error) result old new kind finishes is =
    closes_apart (λ r. r ≡ endings.TableFault → ⊥) (printed (Script error.line error.kind ∷ [])) (endings.Refused error) old new result finishes (λ e. let clash = e in cc) (λ e. let clash = e in cc) (λ e. let clash = e in cc) is
table_never end endings.SourceFault result old new kind finishes is = let clash = sym finishes.0 ∙ is in cc
table_never end endings.SinkFault result old new kind finishes is = absurd kind
table_never end endings.OutOfMemory result old new kind finishes is = absurd kind
table_never end endings.Spent result old new kind finishes is = absurd kind
table_never end endings.TableFault result old new kind finishes is = absurd kind

pub spent_source : (end : InputEnd) (result : Ending) (old new : Option (List ℕ)) → Closes (printed (SaysSpent ∷ [])) endings.Spent old new result → result ≡ endings.SourceFault → end ≡ AtFault
spent_source end result old new closes is =
    closes_apart (λ r. r ≡ endings.SourceFault → end ≡ AtFault) (printed (SaysSpent ∷ [])) endings.Spent old new result closes (λ e. absurd (let clash = e in cc)) (λ e. absurd (let clash = e in cc)) (λ e. absurd (let clash = e in cc)) is

pub spent_table : (result : Ending) (old new : Option (List ℕ)) → Closes (printed (SaysSpent ∷ [])) endings.Spent old new result → result ≡ endings.TableFault → ⊥
spent_table result old new closes is =
    closes_apart (λ r. r ≡ endings.TableFault → ⊥) (printed (SaysSpent ∷ [])) endings.Spent old new result closes (λ e. let clash = e in cc) (λ e. let clash = e in cc) (λ e. let clash = e in cc) is

-- a fault of the sink is told of a write alone
pub sink_only : (end : InputEnd) (ending result : Ending) (before now later : ℕ) → IsReadEnd end ending → before ≤ now → (result ≡ ending) ⊎ TellsSinkFault now later result → result ≡ endings.SinkFault → Rose before later
sink_only end ending result before now later kind le (inl same) is = absurd (subst (IsReadEnd end) (sym same ∙ is) kind)
sink_only end ending result before now later kind le (inr told) is = Rose-since before now later le (told is)

-- what is known of an ending of what was read behind the last command
pub behind_kind : (end : InputEnd) (line count : ℕ) (ending : Ending) → EndsBehind end line count ending → IsReadEnd end ending
behind_kind AtEnd line count ending ends = absurd ends
behind_kind AtLimit line count ending ends = subst (IsReadEnd AtLimit) (sym ends) tt
behind_kind AtFault line count ending ends = subst (IsReadEnd AtFault) (sym ends) refl

-- ---- whole runs

-- nothing was read or written: the table couldn't be looked at, or there was no memory
pub stops_at_entry : (source taken : Option (List ℕ)) (table table' : Table) (language : Language) (triples : List Triple) (queries : List Registration) → IsOpen table → table' ≡ table → HasTriples (row_at table) triples → HasRegistered (row_at table) queries →
    Replays source taken taken table table' language triples queries 7 × Replays source taken taken table table' language triples queries 5
stops_at_entry source taken table table' language triples queries ready same has registered =
    let (commands, script, read) = some_reading true (whole_of source) in (
      record {
        ending = endings.TableFault;
        is = refl;
        all = true;
        bytes = whole_of source;
        front = whole_is source;
        whole = λ no. absurd (let clash = no in cc);
        text = [];
        end = start_over triples queries table;
        ends = record { commands = commands; script = script; read = read; ends = (refl, refl) };
        written = Appends-nil taken;
        left = left;
      },
      record {
        ending = endings.OutOfMemory;
        is = refl;
        all = true;
        bytes = whole_of source;
        front = whole_is source;
        whole = λ no. absurd (let clash = no in cc);
        text = [];
        end = start_over triples queries table;
        ends = record { commands = commands; script = script; read = read; ends = inl (record { before = []; after = commands; split = refl; told = tells_nothing language (start_over triples queries table) }) };
        written = Appends-nil taken;
        left = left;
      },
    )
  where
    left : IsLeftWith table' (start_over triples queries table)
    left = subst (λ t. IsLeftWith t (start_over triples queries table)) (sym same) (record { ready = ready; triples = has; queries = registered; last = below_first (stored_number table) ready.clock.first })

is_source : (ending : Ending) → (ending ≡ endings.SourceFault) ⊎ (ending ≡ endings.SourceFault → ⊥)
is_source endings.Ended = inr (λ e. let clash = e in cc)
is_source (endings.Refused error) = inr (λ e. let clash = e in cc)
is_source endings.SourceFault = inl refl
is_source endings.SinkFault = inr (λ e. let clash = e in cc)
is_source endings.OutOfMemory = inr (λ e. let clash = e in cc)
is_source endings.Spent = inr (λ e. let clash = e in cc)
is_source endings.TableFault = inr (λ e. let clash = e in cc)

-- what wasn't read makes no difference, unless the source failed
pub replays_read : (source old new : Option (List ℕ)) (table table' : Table) (language : Language) (triples : List Triple) (queries : List Registration) (all : Bool) (bytes : List ℕ) (ending : Ending) (text : List ℕ) (end : State) → IsFrontOf source all bytes →
    RunEnds language (start_over triples queries table) all bytes ending text end → Appends old new text → IsLeftWith table' end → Replays source old new table table' language triples queries (status_of ending)
replays_read source old new table table' language triples queries true bytes ending text end front ends written left =
    record { ending = ending; is = refl; all = true; bytes = bytes; front = front; whole = λ no. absurd (let clash = no in cc); text = text; end = end; ends = ends; written = written; left = left }
replays_read source old new table table' language triples queries false bytes ending text end front ends written left = by source front (is_source ending)
  where
    by : (source' : Option (List ℕ)) → IsFrontOf source' false bytes → (ending ≡ endings.SourceFault) ⊎ (ending ≡ endings.SourceFault → ⊥) → Replays source' old new table table' language triples queries (status_of ending)
    by source' front' (inl is) = record { ending = ending; is = refl; all = false; bytes = bytes; front = front'; whole = λ no. is; text = text; end = end; ends = ends; written = written; left = left }
    by None front' (inr isnt) = record {
      ending = ending;
      is = refl;
      all = true;
      bytes = bytes ++ [];
      front = tt;
      whole = λ no. absurd (let clash = no in cc);
      text = text;
      end = end;
      ends = ends_stand language (start_over triples queries table) true bytes [] ending text end ends isnt;
      written = written;
      left = left;
    }
    by (Some whole) front' (inr isnt) = record {
      ending = ending;
      is = refl;
      all = true;
      bytes = bytes ++ front'.0;
      front = front'.1;
      whole = λ no. absurd (let clash = no in cc);
      text = text;
      end = end;
      ends = ends_stand language (start_over triples queries table) true bytes front'.0 ending text end ends isnt;
      written = written;
      left = left;
    }

-- a run of what was read of a source
pub replays_input : (source old new : Option (List ℕ)) (table between table' : Table) (language : Language) (triples : List Triple) (queries : List Registration) (input : Input) (result : Ending) → IsReadFrom source input → between ≡ table → HasTriples (row_at table) triples → HasRegistered (row_at table) queries →
    ((start : State) (commands : List Command) (script : ScriptEnding) → Begins start between → Spells (stop_of input.end) 1 (lines_up_to input.end input.bytes.items) commands script → Ran language start commands script old new table' result) →
    Replays source old new table table' language triples queries (status_of result)
replays_input source old new table between table' language triples queries input result read same has registered runs =
    let what = reads_as source input.end input.bytes.items read in
    let (commands, script, spells) = some_reading what.all what.script in
    let ran = runs (start_over triples queries table) commands script (subst (Begins (start_over triples queries table)) (sym same) (triples, queries, has, registered, refl))
    (subst (λ stop. Spells stop 1 (lines_up_to input.end input.bytes.items) commands script) what.stop (subst (λ lines. Spells (stop_at what.all what.script) 1 lines commands script) what.lines spells)) in
    replays_read source old new table table' language triples queries what.all what.script result ran.text ran.end what.front (record { commands = commands; script = script; read = spells; ends = ran.ends }) ran.written ran.left

-- another run may follow it: the table had some triples and some queries, and there is a language
pub ready_behind : (source old new : Option (List ℕ)) (table between table' : Table) (input : Input) (result : Ending) → IsReadFrom source input → between ≡ table → IsOpen table → IsThere →
    ((language : Language) (start : State) (commands : List Command) (script : ScriptEnding) → IsSparql language → Begins start between → Spells (stop_of input.end) 1 (lines_up_to input.end input.bytes.items) commands script → Ran language start commands script old new table' result) →
    IsOpen table'
ready_behind source old new table between table' input result read same ready (language, sparql) runs =
    let (triples, has) = table_triples (stored_number table) table ready.fit.decodes in
    let (queries, registered) = some_queries (stored_number table) table ready.fit in
    (replays_input source old new table between table' language triples queries input result read same has registered (λ start commands script begins spells. runs language start commands script sparql begins spells)).left.ready
