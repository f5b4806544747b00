use Rattle.std.proofs.Common.{◌≡◌, sym, ap, ◌∙◌, subst, List, ℕ, Bool, cond, Some}
use Rattle.pcj_lex.specs.Reading.{or_else, after_longest}
use Rattle.pcj_lex.proofs.Longest.{goes_on}
use Rattle.pcj_lex.proofs.reader.Reader.after_longest.Goals as goal

pub loop-next-preserved-then-is_end : goal.loop-next-preserved-then-is_end
loop-next-preserved-then-is_end c =
    let step = c.in-Some.ensures.some in
    let now = subst (λ (t : List ℕ). or_else (after_longest c.loop-next.state t) c.loop-next.longest ≡ after_longest c.args.start c.args.self.now) step.1 c.loop-next.invariant in
    ap (λ (t : List ℕ). or_else (after_longest c.in-Some.next c.step.new.self) (Some t)) c.fork.ensures
    ∙ ap (λ (v : Bool). or_else (after_longest c.in-Some.next c.step.new.self) (cond v (Some c.step.new.self) c.loop-next.longest)) (sym c.if-is_end.true ∙ c.is_end.ensures)
    ∙ goes_on c.loop-next.state c.in-Some.next step.0 c.step.new.self c.loop-next.longest step.2 ∙ now

pub loop-next-preserved : goal.loop-next-preserved
loop-next-preserved c =
    let step = c.in-Some.ensures.some in
    let now = subst (λ (t : List ℕ). or_else (after_longest c.loop-next.state t) c.loop-next.longest ≡ after_longest c.args.start c.args.self.now) step.1 c.loop-next.invariant in
    ap (λ (v : Bool). or_else (after_longest c.in-Some.next c.step.new.self) (cond v (Some c.step.new.self) c.loop-next.longest)) (sym c.if-is_end.false ∙ c.is_end.ensures)
    ∙ goes_on c.loop-next.state c.in-Some.next step.0 c.step.new.self c.loop-next.longest step.2 ∙ now
