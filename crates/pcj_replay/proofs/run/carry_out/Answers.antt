use Rattle.std.proofs.Common.{◌≡◌, ◌⊎◌, Bool, true, false, subst, sym, arith}
use Rattle.pcj_script.specs.Commands.{command_of}
use Rattle.pcj_script.specs.Front.{HasFront}
use Rattle.pcj_script.specs.Front.Front.{NoLine, Open, Skipped, Whole}
use Rattle.pcj_script.specs.Lines.{IsUsed, lines_given}
use Rattle.pcj_script.specs.Told.{RefusesLine}
use Rattle.pcj_replay.specs.Runs.{StopsIn}
use Rattle.pcj_replay.proofs.AnswerLemmas.{by_stop}
use Rattle.pcj_replay.proofs.RunLemmas.{Goes, end_done, first_goes, open_done, refused_done, skipped_goes, stops_in, taken_goes}
use Rattle.pcj_replay.proofs.run.carry_out.Goals as goal

pub loop-command-init : goal.loop-command-init
loop-command-init g c = (
  subst (λ rest. Goes c.args.input.now.end c.args.input.now.bytes.items (g.T.RowTable.rows c.args.table.now) (g.K.Sink.taken c.args.sink.now) (g.K.Sink.taken c.args.sink.now) c.args.session (g.T.RowTable.rows c.args.table.now) 1 rest) (sym c.as_slice-rest.ensures.value)
      (first_goes c.args.input.now.end c.args.input.now.bytes.items c.args.session (g.T.RowTable.rows c.args.table.now) (g.K.Sink.taken c.args.sink.now) c.requires.first),
  c.requires.clock,
  omega arith,
  omega (arith, c.requires.small, c.as_slice-rest.ensures),
  omega (arith, c.as_slice-rest.ensures),
)

pub next_command-requires : goal.next_command-requires
next_command-requires g c = c.loop-command.invariant.3

pub answer-requires-clause-clock : goal.answer-requires-clause-clock
answer-requires-clause-clock g c = c.loop-command.invariant.1

pub returns-in_err-answer-in-Got-clause-cut : goal.returns-in_err-answer-in-Got-clause-cut
returns-in_err-answer-in-Got-clause-cut g c = λ language start commands script sparql begins spells.
    by_stop (StopsIn language start commands (g.K.Sink.taken c.args.sink.now) (g.K.Sink.taken c.answer.new.sink) (g.T.RowTable.rows c.answer.new.table)) c.from_residual.result c.in_err-answer-in-Got.field-0.0 c.from_residual.ensures.1
    (stops_in c.args.input.now.end c.args.input.now.bytes.items (g.T.RowTable.rows c.args.table.now) (g.K.Sink.taken c.args.sink.now) (g.K.Sink.taken c.loop-command.sink) (g.K.Sink.taken c.answer.new.sink) c.loop-command.session (g.T.RowTable.rows c.loop-command.table) (g.T.RowTable.rows c.answer.new.table) c.loop-command.line c.in-Got.lines c.loop-command.rest.now (command_of c.in-Got.command) c.in_err-answer-in-Got.field-0.0 (subst (λ (b : Bool). HasFront (lines_given b c.loop-command.rest.now) (Whole (command_of c.in-Got.command) c.in-Got.lines)) c.has_ended.ensures (c.in-Got.ensures {u = tt}).told.0)
    (λ other state its holds. (c.in_err-answer-in-Got.ensures {u = tt}).stopped other state its holds) c.loop-command.invariant.0 language start commands script sparql begins spells)

pub overflow_add-line : goal.overflow_add-line
overflow_add-line g c = let within = (c.in-Got.ensures {u = tt}).within in omega (arith, c.loop-command.invariant.3, within)

pub loop-command-smaller-in-Got : goal.loop-command-smaller-in-Got
loop-command-smaller-in-Got g c = let within = (c.in-Got.ensures {u = tt}).within in omega (arith, c.split_at.ensures.back_len, within)

pub loop-command-preserved-in-Got : goal.loop-command-preserved-in-Got
loop-command-preserved-in-Got g c =
    let within = (c.in-Got.ensures {u = tt}).within in (
      taken_goes c.args.input.now.end c.args.input.now.bytes.items (g.T.RowTable.rows c.args.table.now) (g.K.Sink.taken c.args.sink.now) (g.K.Sink.taken c.loop-command.sink) (g.K.Sink.taken c.answer.new.sink) c.loop-command.session c.answer.new.session (g.T.RowTable.rows c.loop-command.table) (g.T.RowTable.rows c.answer.new.table) c.loop-command.line c.in-Got.used c.in-Got.lines c.loop-command.rest.now c.split_at.result.1.now (command_of c.in-Got.command) (subst (λ (b : Bool). HasFront (lines_given b c.loop-command.rest.now) (Whole (command_of c.in-Got.command) c.in-Got.lines)) c.has_ended.ensures (c.in-Got.ensures {u = tt}).told.0)
          (subst (λ (b : Bool). IsUsed (lines_given b c.loop-command.rest.now) c.in-Got.lines c.in-Got.used) c.has_ended.ensures (c.in-Got.ensures {u = tt}).told.1) c.split_at.ensures.back (λ other state its holds. (c.in_ok-answer-in-Got.ensures {u = tt}).answered other state its holds) c.loop-command.invariant.0,
      c.answer.ensures.clock,
      omega (arith, c.loop-command.invariant.2, c.answer.ensures.cause.later),
      omega (arith, c.loop-command.invariant.3, c.split_at.ensures.back_len, within),
      omega (arith, c.loop-command.invariant.4, c.split_at.ensures.back_len),
    )

pub overflow_add-line-in-Skipped : goal.overflow_add-line-in-Skipped
overflow_add-line-in-Skipped g c = let within = (c.in-Skipped.ensures {u = tt}).within in omega (arith, c.loop-command.invariant.3, within)

pub loop-command-smaller : goal.loop-command-smaller
loop-command-smaller g c = let within = (c.in-Skipped.ensures {u = tt}).within in omega (arith, c.split_at-in-Skipped.ensures.back_len, within)

pub loop-command-preserved : goal.loop-command-preserved
loop-command-preserved g c =
    let within = (c.in-Skipped.ensures {u = tt}).within in
    let told = subst (λ (b : Bool). HasFront (lines_given b c.loop-command.rest.now) Skipped × IsUsed (lines_given b c.loop-command.rest.now) 1 c.in-Skipped.used) c.has_ended.ensures (c.in-Skipped.ensures {u = tt}).told in (
      skipped_goes c.args.input.now.end c.args.input.now.bytes.items (g.T.RowTable.rows c.args.table.now) (g.K.Sink.taken c.args.sink.now) (g.K.Sink.taken c.loop-command.sink) c.loop-command.session (g.T.RowTable.rows c.loop-command.table) c.loop-command.line c.in-Skipped.used c.loop-command.rest.now c.split_at-in-Skipped.result.1.now told.0 told.1 c.split_at-in-Skipped.ensures.back c.loop-command.invariant.0,
      c.loop-command.invariant.1,
      c.loop-command.invariant.2,
      omega (arith, c.loop-command.invariant.3, c.split_at-in-Skipped.ensures.back_len, within),
      omega (arith, c.loop-command.invariant.4, c.split_at-in-Skipped.ensures.back_len),
    )

pub returns-in-Refused-clause-done : goal.returns-in-Refused-clause-done
returns-in-Refused-clause-done g c =
    let refuses = subst (λ (b : Bool). RefusesLine b c.loop-command.line (lines_given b c.loop-command.rest.now) c.in-Refused.error.line c.in-Refused.error.kind) c.has_ended.ensures (c.in-Refused.ensures {u = tt}).told in
    refused_done c.args.input.now.end c.args.input.now.bytes.items (g.T.RowTable.rows c.args.table.now) (g.K.Sink.taken c.args.sink.now) (g.K.Sink.taken c.loop-command.sink) c.loop-command.session (g.T.RowTable.rows c.loop-command.table) c.loop-command.line c.loop-command.rest.now c.in-Refused.error c.loop-command.invariant.1 refuses c.loop-command.invariant.0

pub returns-in-Refused-clause-cause : goal.returns-in-Refused-clause-cause
returns-in-Refused-clause-cause g c = record { later = c.loop-command.invariant.2; sink = λ e. absurd (let clash = e in cc) }

pub returns-in-End-clause-done : goal.returns-in-End-clause-done
returns-in-End-clause-done g c =
    let told = subst (λ (b : Bool). (b ≡ true) × HasFront (lines_given b c.loop-command.rest.now) NoLine) c.has_ended.ensures (c.in-End.ensures {u = tt}).told in
    end_done c.args.input.now.end c.args.input.now.bytes.items (g.T.RowTable.rows c.args.table.now) (g.K.Sink.taken c.args.sink.now) (g.K.Sink.taken c.loop-command.sink) c.loop-command.session (g.T.RowTable.rows c.loop-command.table) c.loop-command.line c.loop-command.rest.now c.loop-command.invariant.1 told.0 told.1 c.loop-command.invariant.0

pub returns-in-End-clause-cause : goal.returns-in-End-clause-cause
returns-in-End-clause-cause g c = record { later = c.loop-command.invariant.2; sink = λ e. absurd (let clash = e in cc) }

pub ending_behind-requires-clause-room : goal.ending_behind-requires-clause-room
ending_behind-requires-clause-room g c = c.loop-command.invariant.3

pub returns-in-More-clause-done : goal.returns-in-More-clause-done
returns-in-More-clause-done g c =
    let told = subst (λ (b : Bool). (b ≡ false) × (HasFront (lines_given b c.loop-command.rest.now) NoLine ⊎ HasFront (lines_given b c.loop-command.rest.now) Open)) c.has_ended.ensures (c.in-More.ensures {u = tt}).told in
    open_done c.args.input.now.end c.args.input.now.bytes.items (g.T.RowTable.rows c.args.table.now) (g.K.Sink.taken c.args.sink.now) (g.K.Sink.taken c.loop-command.sink) c.loop-command.session (g.T.RowTable.rows c.loop-command.table) c.loop-command.line c.loop-command.rest.now c.ending_behind.result c.loop-command.invariant.1 told.1 told.0 c.ending_behind.ensures.ends c.loop-command.invariant.0

pub returns-in-More-clause-cause : goal.returns-in-More-clause-cause
returns-in-More-clause-cause g c = record { later = c.loop-command.invariant.2; sink = λ e. absurd (let clash = e in cc) }
