use Rattle.std.proofs.Common.{sym, ap, ◌∙◌, subst, List, ℕ, take}
use Rattle.std.proofs.lemmas.Bool.{ne_eqb}
use Rattle.pcj_ntriples.proofs.NameSteps.{LabelSoFar, label_dot, label_other, label_done}
use Rattle.pcj_ntriples.proofs.reader.LineReader.label.Goals as goal

pub loop-character-preserved-then-character-ne46 : goal.loop-character-preserved-then-character-ne46
loop-character-preserved-then-character-ne46 c =
    let step = c.in-Some.ensures.some in
    let now = subst (λ (t : List ℕ). LabelSoFar c.loop-character.label.bytes.items c.loop-character.kept c.loop-character.after t c.args.self.now) step.0 c.loop-character.invariant in
    subst (λ (t : List ℕ). LabelSoFar c.push.new.self.bytes.items c.len-kept.result t c.label_character.new.self c.args.self.now) (sym c.fork-after-then-character-ne46.ensures)
    (label_other c.loop-character.label.bytes.items c.push.new.self.bytes.items c.loop-character.kept c.len-kept.result c.loop-character.after c.in-Some.character c.label_character.new.self c.args.self.now now step.1 (ne_eqb c.in-Some.character 46 c.if-character-ne46.true) c.in_ok-push.ensures.bytes (c.len-kept.ensures ∙ c.push.new.self.bytes.ok.0))

pub loop-character-preserved : goal.loop-character-preserved
loop-character-preserved c =
    let step = c.in-Some.ensures.some in
    let now = subst (λ (t : List ℕ). LabelSoFar c.loop-character.label.bytes.items c.loop-character.kept c.loop-character.after t c.args.self.now) step.0 c.loop-character.invariant in
    label_dot c.loop-character.label.bytes.items c.push.new.self.bytes.items c.loop-character.kept c.loop-character.after c.in-Some.character c.label_character.new.self c.args.self.now now step.1 c.if-character-ne46.false c.in_ok-push.ensures.bytes

pub returns-clause-label : goal.returns-clause-label
returns-clause-label c =
    let stop = c.in_default.ensures.none in
    label_done c.loop-character.label.bytes.items c.loop-character.kept c.loop-character.after c.loop-character.self c.args.self.now c.loop-character.invariant stop.1
    ∙ ap (λ (b : List ℕ). (b, c.loop-character.after)) (sym (c.from_vec.ensures ∙ c.truncate.ensures.items ∙ ap (λ v. take c.loop-character.kept v.items) c.into_bytes-label.ensures.value))
