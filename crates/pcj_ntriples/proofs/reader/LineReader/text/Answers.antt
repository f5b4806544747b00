use Rattle.std.proofs.Common.{sym, ap, ◌∙◌, List, ℕ, Option, Ok}
use Rattle.std.proofs.lemmas.Result.{err_from_is_err_and}
use Rattle.pcj_ntriples.proofs.ReaderSteps.{text_more, text_whole, text_fault, character_shorter}
use Rattle.pcj_ntriples.proofs.reader.LineReader.text.Goals as goal

pub loop-text-smaller : goal.loop-text-smaller
loop-text-smaller c = character_shorter c.args.enclosure c.loop-text.self c.character.new.self c.in_ok-character.field-0 c.in_ok-character.ensures.character

pub loop-text-preserved : goal.loop-text-preserved
loop-text-preserved c =
    text_more c.args.enclosure c.loop-text.text.bytes.items c.loop-text.self c.args.self.now c.character.new.self c.push.new.self.bytes.items c.in-Some.character c.loop-text.invariant
    (c.in_ok-character.ensures.character ∙ ap (λ (o : Option ℕ). Ok (o, c.character.new.self)) c.in-Some.is) c.in_ok-push.ensures.bytes

pub returns-in_err-character-clause-fault : goal.returns-in_err-character-clause-fault
returns-in_err-character-clause-fault c =
    let p = err_from_is_err_and c.from_residual.result c.from_residual.ensures.1 in
    rw (p.1, p.2) (text_fault c.args.enclosure c.loop-text.text.bytes.items c.loop-text.self c.args.self.now c.in_err-character.field-0.0 c.loop-text.invariant c.in_err-character.ensures.fault)

pub returns-clause-text : goal.returns-clause-text
returns-clause-text c =
    text_whole c.args.enclosure c.loop-text.text.bytes.items c.loop-text.self c.args.self.now c.character.new.self c.loop-text.invariant
    (c.in_ok-character.ensures.character ∙ ap (λ (o : Option ℕ). Ok (o, c.character.new.self)) c.in_default.is)
    ∙ ap (λ (b : List ℕ). Ok (b, c.character.new.self)) (ap (λ v. v.items) (sym c.into_bytes.ensures.value) ∙ sym c.from_vec.ensures)
