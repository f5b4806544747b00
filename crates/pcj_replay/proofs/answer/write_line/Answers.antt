use Rattle.std.proofs.Common.{rules, ◌≡◌, ◌∷◌, [], subst}
use Rattle.pcj_io.specs.Sink.{AppendsPrefix}
use Rattle.pcj_io.proofs.Errors.{OnErr-of}
use Rattle.pcj_model.specs.Line.{line_of, printed}
use Rattle.pcj_replay.proofs.answer.write_line.Goals as goal

pub returns-in_err-write_all-clause-err : goal.returns-in_err-write_all-clause-err
returns-in_err-write_all-clause-err g c =
    let is : c.as_slice.result.now ≡ printed (line_of c.args.line ∷ []) = search rules in
    OnErr-of c.from_residual-in_err-write_all.result (subst (AppendsPrefix (g.K.Sink.taken c.args.sink.now) (g.K.Sink.taken c.write_all.new.sink)) is (c.in_err-write_all.ensures {u = tt}).err)
