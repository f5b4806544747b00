use Rattle.std.proofs.Common.{[], ◌∷◌, ap, ◌∙◌, Bor, List, ℕ}
use Rattle.std.proofs.lemmas.Bool.Decides.{Decides-eqb}
use Rattle.std.proofs.lemmas.Slice.Eq.{strip_suffix_is}
use Rattle.pcj_script.proofs.LineLemmas.{said_is}
use Rattle.pcj_script.proofs.line.Line.said.Goals as goal

pub returns-then-self : goal.returns-then-self
returns-then-self c =
    rw c.if-self.true (ap (λ (bytes : Bor (List ℕ)). bytes.now) c.unwrap_or.ensures
    ∙ said_is c.args.self.bytes c.strip_suffix.result (strip_suffix_is Decides-eqb c.args.self.bytes.now (13 ∷ []) c.strip_suffix.result c.strip_suffix.ensures.cases))
