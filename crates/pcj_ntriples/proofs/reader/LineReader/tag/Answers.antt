use Rattle.std.specs.Char.{encode_utf8}
use Rattle.std.proofs.Common.{◌≡◌, ◌++◌, false, sym, ap, ◌∙◌, subst, List, ℕ, Bool, not, ◌||◌, nat_eq, Ok}
use Rattle.pcj_ntriples.specs.LineReading.{begins_tag_character}
use Rattle.pcj_ntriples.proofs.NameSteps.{TagSoFar, tag_more, tag_whole, tag_bad}
use Rattle.pcj_ntriples.proofs.reader.LineReader.tag.Goals.{then-digits, else-digits}
use Rattle.pcj_ntriples.proofs.reader.LineReader.tag.Goals as goal

pub loop-character-preserved : goal.loop-character-preserved
loop-character-preserved c =
    let step = c.in-Some.ensures.some in
    let now = subst (λ (t : List ℕ). TagSoFar c.loop-character.tag.bytes.items c.loop-character.digits c.loop-character.some t c.args.self.now) step.0 c.loop-character.invariant in
    let same : c.loop-character.digits || nat_eq c.in-Some.character 45 ≡ c.if-digits.digits = elim c.if-digits.branch [ then-digits w ↦ ap (λ v. v || nat_eq c.in-Some.character 45) w.if-digits.true ∙ sym w.if-digits.true ∙ sym w.digits-is | else-digits w ↦ ap (λ v. v || nat_eq c.in-Some.character 45) w.if-digits.false ∙ sym w.digits-is ] in
    subst (λ (d : Bool). TagSoFar c.push.new.self.bytes.items d (not (nat_eq c.in-Some.character 45)) c.tag_character.new.self c.args.self.now) same
    (tag_more c.loop-character.tag.bytes.items c.push.new.self.bytes.items c.loop-character.digits c.loop-character.some c.in-Some.character c.tag_character.new.self c.args.self.now now step.1 (c.in_ok-push.ensures.bytes ∙ ap (λ (ch : ℕ). c.loop-character.tag.bytes.items ++ encode_utf8 ch) c.to_ascii_lowercase.ensures.value))

pub returns-then-some-clause-tag : goal.returns-then-some-clause-tag
returns-then-some-clause-tag c =
    let stop = c.in_default.ensures.none in
    let now = subst (λ (v : Bool). TagSoFar c.loop-character.tag.bytes.items c.loop-character.digits v c.loop-character.self c.args.self.now) c.if-some.true c.loop-character.invariant in
    let over = subst (λ (v : Bool). begins_tag_character c.loop-character.digits v c.loop-character.self ≡ false) c.if-some.true stop.1 in
    tag_whole c.loop-character.tag.bytes.items c.loop-character.digits c.loop-character.self c.args.self.now now over
    ∙ ap (λ (b : List ℕ). Ok (b, c.loop-character.self)) (ap (λ v. v.items) (sym c.into_bytes.ensures.value) ∙ sym c.from_vec.ensures)
    ∙ ap (λ (r : List ℕ). Ok (c.from_vec.result, r)) (sym stop.0)

pub returns-else-some-clause-fault : goal.returns-else-some-clause-fault
returns-else-some-clause-fault c =
    let stop = c.in_default.ensures.none in
    let now = subst (λ (v : Bool). TagSoFar c.loop-character.tag.bytes.items c.loop-character.digits v c.loop-character.self c.args.self.now) c.if-some.false c.loop-character.invariant in
    let over = subst (λ (v : Bool). begins_tag_character c.loop-character.digits v c.loop-character.self ≡ false) c.if-some.false stop.1 in
    tag_bad c.loop-character.tag.bytes.items c.loop-character.digits c.loop-character.self c.args.self.now now over
