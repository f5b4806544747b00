use Rattle.std.proofs.Common.{arith}
use Rattle.pcj_io.proofs.Appended.{Appends-next}
use Rattle.pcj_io.proofs.sink.write_all.Goals as goal

pub loop-at-preserved : goal.loop-at-preserved
loop-at-preserved g c =
    let piece = rw c.split_at.ensures.back at c.in_ok-at.ensures.bytes in
    record {
      within = omega (arith, c.in_ok-at.ensures.bound);
      taken = Appends-next (g.K.Sink.taken c.args.sink.now) (g.K.Sink.taken c.loop-at.sink) (g.K.Sink.taken c.write.new.self) c.args.bytes.now c.loop-at.at c.in_ok-at.field-0 c.loop-at.invariant.taken piece;
      later = omega (arith, c.write.ensures.cause.later);
    }
