use Rattle.std.proofs.Common.{◌-◌, ◌∙◌, sym, ap, length, chars}
use Rattle.std.proofs.lemmas.Bool.{eqb-true, eqb-false}
use Rattle.pcj_lex.specs.Reading.{after_gap}
use Rattle.pcj_lex.proofs.Places.{is_there, is_last, is_no_token, none_begins, one_begins, fewer_bytes, next_is, reads_on}
use Rattle.pcj_lex.proofs.next.next_token.Goals as goal

pub overflow_sub-at : goal.overflow_sub-at
overflow_sub-at c =
    let t = is_there c.args.text.now c.args.from c.split_at.result.1.now c.after_gap-reader.result c.bytes-bytes.result.now c.requires.place c.requires.text c.split_at.ensures.back
    (c.after_gap-reader.ensures ∙ ap after_gap (c.new.ensures ∙ ap chars c.from_utf8_unchecked.ensures)) c.bytes-bytes.ensures in
    t.within

pub returns-then-is_empty-clause-end : goal.returns-then-is_empty-clause-end
returns-then-is_empty-clause-end c =
    let t = is_there c.args.text.now c.args.from c.split_at.result.1.now c.after_gap-reader.result c.bytes-bytes.result.now c.requires.place c.requires.text c.split_at.ensures.back
    (c.after_gap-reader.ensures ∙ ap after_gap (c.new.ensures ∙ ap chars c.from_utf8_unchecked.ensures)) c.bytes-bytes.ensures in
    is_last c.args.text.now c.args.from c.after_gap-reader.result c.bytes-bytes.result.now t (eqb-true (length c.bytes-bytes.result.now) 0 (sym c.is_empty.ensures ∙ c.if-is_empty.true))

pub returns-in_default-clause-refused : goal.returns-in_default-clause-refused
returns-in_default-clause-refused c =
    let t = is_there c.args.text.now c.args.from c.split_at.result.1.now c.after_gap-reader.result c.bytes-bytes.result.now c.requires.place c.requires.text c.split_at.ensures.back
    (c.after_gap-reader.ensures ∙ ap after_gap (c.new.ensures ∙ ap chars c.from_utf8_unchecked.ensures)) c.bytes-bytes.ensures in
    is_no_token c.args.text.now c.args.from c.after_gap-reader.result c.bytes-bytes.result.now t (eqb-false (length c.bytes-bytes.result.now) 0 (sym c.is_empty.ensures ∙ c.if-is_empty.false))
    (none_begins c.after_gap-reader.result c.first_rule.result c.first_rule.ensures c.in_default.is)

pub overflow_sub-bytes : goal.overflow_sub-bytes
overflow_sub-bytes c =
    let t = is_there c.args.text.now c.args.from c.split_at.result.1.now c.after_gap-reader.result c.bytes-bytes.result.now c.requires.place c.requires.text c.split_at.ensures.back
    (c.after_gap-reader.ensures ∙ ap after_gap (c.new.ensures ∙ ap chars c.from_utf8_unchecked.ensures)) c.bytes-bytes.ensures in
    let b = one_begins c.after_gap-reader.result c.first_rule.result c.in-Some.rule c.in-Some.rest c.first_rule.ensures c.in-Some.is in
    fewer_bytes c.args.text.now c.args.from c.after_gap-reader.result c.bytes-bytes.result.now b.0 c.in-Some.rest c.bytes.result.now t b.1 c.bytes.ensures

pub returns-in-Some-kind-clause-token : goal.returns-in-Some-kind-clause-token
returns-in-Some-kind-clause-token c =
    let t = is_there c.args.text.now c.args.from c.split_at.result.1.now c.after_gap-reader.result c.bytes-bytes.result.now c.requires.place c.requires.text c.split_at.ensures.back
    (c.after_gap-reader.ensures ∙ ap after_gap (c.new.ensures ∙ ap chars c.from_utf8_unchecked.ensures)) c.bytes-bytes.ensures in
    let b = one_begins c.after_gap-reader.result c.first_rule.result c.in-Some.rule c.in-Some.rest c.first_rule.ensures c.in-Some.is in
    next_is c.args.text.now c.args.from c.after_gap-reader.result c.bytes-bytes.result.now c.bytes.result.now c.split_at-2.result.0.now c.in-Some.rest c.in-Some.rule c.kind.result c.in-Some-kind.kind t b
    c.bytes.ensures c.split_at-2.ensures.front c.kind.ensures c.in-Some-kind.is

pub returns-in-Some-kind-clause-behind : goal.returns-in-Some-kind-clause-behind
returns-in-Some-kind-clause-behind c =
    let t = is_there c.args.text.now c.args.from c.split_at.result.1.now c.after_gap-reader.result c.bytes-bytes.result.now c.requires.place c.requires.text c.split_at.ensures.back
    (c.after_gap-reader.ensures ∙ ap after_gap (c.new.ensures ∙ ap chars c.from_utf8_unchecked.ensures)) c.bytes-bytes.ensures in
    let b = one_begins c.after_gap-reader.result c.first_rule.result c.in-Some.rule c.in-Some.rest c.first_rule.ensures c.in-Some.is in
    let next =
    next_is c.args.text.now c.args.from c.after_gap-reader.result c.bytes-bytes.result.now c.bytes.result.now c.split_at-2.result.0.now c.in-Some.rest c.in-Some.rule c.kind.result c.in-Some-kind.kind t b
    c.bytes.ensures c.split_at-2.ensures.front c.kind.ensures c.in-Some-kind.is in
    reads_on c.args.text.now c.args.from c.in-Some-kind.kind (length c.args.text.now - length c.bytes-bytes.result.now) c.split_at-2.result.0.now c.requires.place c.requires.text next

pub returns-in-None-clause-refused : goal.returns-in-None-clause-refused
returns-in-None-clause-refused c =
    let t = is_there c.args.text.now c.args.from c.split_at.result.1.now c.after_gap-reader.result c.bytes-bytes.result.now c.requires.place c.requires.text c.split_at.ensures.back
    (c.after_gap-reader.ensures ∙ ap after_gap (c.new.ensures ∙ ap chars c.from_utf8_unchecked.ensures)) c.bytes-bytes.ensures in
    let b = one_begins c.after_gap-reader.result c.first_rule.result c.in-Some.rule c.in-Some.rest c.first_rule.ensures c.in-Some.is in
    is_no_token c.args.text.now c.args.from c.after_gap-reader.result c.bytes-bytes.result.now t (eqb-false (length c.bytes-bytes.result.now) 0 (sym c.is_empty.ensures ∙ c.if-is_empty.false))
    (b.3 (sym c.kind.ensures ∙ c.in-None.is))
