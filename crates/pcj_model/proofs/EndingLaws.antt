-- A run that has ended needs no more of its script.
use Rattle.std.proofs.Common.{◌≡◌, ℕ, List, ◌∷◌, ◌++◌, refl, ap, sym, subst, ◌∙◌, inl, inr, append_assoc}
use Rattle.pcj_script.specs.declared.error.ScriptKind.{ScriptKind}
use Rattle.pcj_script.specs.Commands.{Command}
use Rattle.pcj_script.specs.Script.{Ending as ScriptEnding}
use Rattle.pcj_script.specs.Script.Ending.{End, RefusedAt, CutOff}
use Rattle.pcj_script.specs.Laws.{GoesOnFrom}
use Rattle.pcj_script.proofs.ScriptLaws.{some_reading}
use Rattle.pcj_script.proofs.ReadingLaws.{commands_stand}
use Rattle.pcj_model.specs.declared.ending.Ending.{Ending}
use Rattle.pcj_model.specs.declared.ending.Ending.TheVariants.{Ended, Refused, SourceFault, SinkFault, OutOfMemory, Spent, TableFault}
use Rattle.pcj_model.specs.State.{State}
use Rattle.pcj_model.specs.Reply.{Language}
use Rattle.pcj_model.specs.Ending.{Ends, RunsOut, StopsBetween, StopsWriting, StopsWorking, StopsAtSpent, StopsAtWrite}
use Rattle.pcj_model.specs.Laws.{EndsStand}

-- ---- more commands behind those that were carried out

split_more : (commands before after later : List Command) → commands ≡ before ++ after → commands ++ later ≡ before ++ (after ++ later)
split_more commands before after later e = ap (λ cs. cs ++ later) e ∙ append_assoc before after later

runs_out_still : (language : Language) (start : State) (commands later : List Command) (text : List ℕ) (end : State) →
    RunsOut language start commands text end → RunsOut language start (commands ++ later) text end
runs_out_still language start commands later text end a = record {
  before = a.before;
  command = a.command;
  after = a.after ++ later;
  split = split_more commands a.before (a.command ∷ a.after) later a.split;
  draws = a.draws;
  told = a.told;
}

between_still : (language : Language) (start : State) (commands later : List Command) (text : List ℕ) (end : State) →
    StopsBetween language start commands text end → StopsBetween language start (commands ++ later) text end
between_still language start commands later text end a =
    record { before = a.before; after = a.after ++ later; split = split_more commands a.before a.after later a.split; told = a.told }

writing_still : (language : Language) (start : State) (commands later : List Command) (text : List ℕ) (end : State) →
    StopsWriting language start commands text end → StopsWriting language start (commands ++ later) text end
writing_still language start commands later text end a = record {
  before = a.before;
  command = a.command;
  after = a.after ++ later;
  split = split_more commands a.before (a.command ∷ a.after) later a.split;
  front = a.front;
  mid = a.mid;
  told = a.told;
  lines = a.lines;
  reply = a.reply;
  part = a.part;
}

working_still : (language : Language) (start : State) (commands later : List Command) (text : List ℕ) (end : State) →
    StopsWorking language start commands text end → StopsWorking language start (commands ++ later) text end
working_still language start commands later text end a = record {
  before = a.before;
  command = a.command;
  after = a.after ++ later;
  split = split_more commands a.before (a.command ∷ a.after) later a.split;
  front = a.front;
  mid = a.mid;
  told = a.told;
  lines = a.lines;
  cut = a.cut;
  part = a.part;
}

spent_still : (language : Language) (start : State) (commands later : List Command) (text : List ℕ) (end : State) →
    StopsAtSpent language start commands text end → StopsAtSpent language start (commands ++ later) text end
spent_still language start commands later text end a = record {
  before = a.before;
  command = a.command;
  after = a.after ++ later;
  split = split_more commands a.before (a.command ∷ a.after) later a.split;
  draws = a.draws;
  front = a.front;
  told = a.told;
  part = a.part;
}

not_refused : (script : ScriptEnding) (line : ℕ) (kind : ScriptKind) → script ≡ CutOff → script ≡ RefusedAt line kind → ⊥
not_refused script line kind e f = let bad : CutOff ≡ RefusedAt line kind = sym e ∙ f in cc

not_ended : (script : ScriptEnding) → script ≡ CutOff → script ≡ End → ⊥
not_ended script e f = let bad : CutOff ≡ End = sym e ∙ f in cc

write_still : (language : Language) (start : State) (commands later : List Command) (script other : ScriptEnding) (text : List ℕ) (end : State) → script ≡ CutOff →
    StopsAtWrite language start commands script text end → StopsAtWrite language start (commands ++ later) other text end
write_still language start commands later script other text end e (inl a) = inl (writing_still language start commands later text end a)
write_still language start commands later script other text end e (inr (inl a)) = absurd (not_refused script a.line a.kind e a.refused)
write_still language start commands later script other text end e (inr (inr a)) = inr (inr (spent_still language start commands later text end a))

ends_still : (language : Language) (start : State) (commands later : List Command) (script other : ScriptEnding) (ending : Ending) (text : List ℕ) (end : State) → script ≡ CutOff →
    (ending ≡ SourceFault → ⊥) → Ends language start commands script ending text end → Ends language start (commands ++ later) other ending text end
ends_still language start commands later script other Ended text end e read a = absurd (not_ended script e a.0)
ends_still language start commands later script other (Refused error) text end e read a = absurd (not_refused script error.line error.kind e a.0)
ends_still language start commands later script other SourceFault text end e read a = absurd (read refl)
ends_still language start commands later script other SinkFault text end e read a = write_still language start commands later script other text end e a
ends_still language start commands later script other OutOfMemory text end e read (inl a) = inl (between_still language start commands later text end a)
ends_still language start commands later script other OutOfMemory text end e read (inr (inl a)) = inr (inl (working_still language start commands later text end a))
ends_still language start commands later script other OutOfMemory text end e read (inr (inr a)) = inr (inr (write_still language start commands later script other text end e a))
ends_still language start commands later script other Spent text end e read a = runs_out_still language start commands later text end a
ends_still language start commands later script other TableFault text end e read a = a

ends_from : (language : Language) (start : State) (commands others : List Command) (script other : ScriptEnding) (ending : Ending) (text : List ℕ) (end : State) →
    GoesOnFrom commands script others other → (ending ≡ SourceFault → ⊥) → Ends language start commands script ending text end → Ends language start others other ending text end
ends_from language start commands others script other ending text end (inl same) read a =
    subst (λ s. Ends language start others s ending text end) same.1 (subst (λ cs. Ends language start cs script ending text end) same.0 a)
ends_from language start commands others script other ending text end (inr more) read a =
    subst (λ cs. Ends language start cs other ending text end) (sym more.2) (ends_still language start commands more.0 script other ending text end more.1 read a)

pub ends_stand : EndsStand
ends_stand language start all bytes more ending text end a read =
    let whole = some_reading all (bytes ++ more) in
    let goes = commands_stand all bytes more a.commands whole.0 a.script whole.1 a.read whole.2 in
    record {
      commands = whole.0;
      script = whole.1;
      read = whole.2;
      ends = ends_from language start a.commands whole.0 a.script whole.1 ending text end goes read a.ends;
    }
