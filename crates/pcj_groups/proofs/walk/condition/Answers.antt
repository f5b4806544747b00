use Rattle.std.proofs.Common.{subst, ap, ◌∙◌, ◌-◌, List, length, take, filter}
use Rattle.std.proofs.lemmas.Result.{on_ok_weaker}
use Rattle.pcj_grammar.specs.declared.lexeme.Lexeme.{Lexeme}
use Rattle.pcj_translate.specs.Reading.{scope_of_reader}
use Rattle.pcj_groups.specs.Finding.{with_uses, is_use}
use Rattle.pcj_groups.specs.Walking.{SkipsInner}
use Rattle.pcj_groups.proofs.Walked.{other_condition}
use Rattle.pcj_groups.proofs.walk.condition.Goals as goal

pub returns-clause-ok : goal.returns-clause-ok
returns-clause-ok c =
    let skips = subst (λ (x : List Lexeme). SkipsInner c.args.levels x c.skip_condition.new.reader.rest.now) c.skip.ensures.rest (c.in_ok-skip_condition.ensures {u = tt}).ok in
    on_ok_weaker c.add_uses.result
    (λ added none. other_condition (scope_of_reader c.args.reader.now) c.args.levels c.args.found.now c.add_uses.new.self c.args.reader.now.rest.now c.skip_condition.new.reader.rest.now none skips
    (added ∙ ap (λ (ts : List Lexeme). with_uses c.args.found.now (filter is_use ts)) c.taken.ensures
    ∙ ap (λ (x : List Lexeme). with_uses c.args.found.now (filter is_use (take (length x - length c.skip_condition.new.reader.rest.now) x))) c.skip.ensures.rest))
    c.add_uses.ensures
