use Rattle.std.proofs.Common.{List, map, refl, ap, sym, ◌∙◌, take_all}
use Rattle.pcj_translate.specs.Term.{namespace_of}
use Rattle.pcj_sparql.specs.declared.declared.Declared.{Declared}
use Rattle.pcj_sparql.specs.Query.{declaration_of}
use Rattle.pcj_sparql.proofs.Declarations.{same_scope, one_more, choice_same}
use Rattle.pcj_sparql.proofs.prefixes.prefixes_of.Goals as goal

pub loop-declaration-preserved : goal.loop-declaration-preserved
loop-declaration-preserved c other =
    (c.in_ok-declare.ensures {u = tt}) other
    ∙ choice_same _ _ _ _ (c.loop-declaration.invariant other)
    ∙ sym (one_more c.args.text.now c.args.declared.now c.loop-declaration.declaration-index _ other c.loop-declaration-test.true)

pub returns : goal.returns
returns c =
    same_scope _ _ refl (λ other. c.loop-declaration.invariant other
    ∙ ap (λ (l : List Declared). namespace_of (map (declaration_of c.args.text.now) l) other) (take_all c.loop-declaration.declaration-index c.args.declared.now c.loop-declaration-test.false))
