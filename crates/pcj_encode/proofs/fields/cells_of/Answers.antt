use Rattle.std.proofs.Common.{◌≡◌, true, Some, List, ℕ, ◌++◌, ap, sym, ◌∙◌, append-nil}
use Rattle.std.specs.List.{list_all}
use Rattle.std.proofs.lemmas.List.{drop_all}
use Rattle.pcj_encode.specs.Reading.{is_cell}
use Rattle.pcj_encode.proofs.fields.cells_of.Goals as goal

pub returns : goal.returns
returns c =
    let parts = c.args.parts.now in
    let done = drop_all c.loop-part.part-index parts c.loop-part-test.false in
    let cells : c.loop-part.cells.items ≡ parts = sym (append-nil c.loop-part.cells.items) ∙ ap (λ (rest : List (List ℕ)). c.loop-part.cells.items ++ rest) (sym done) ∙ c.loop-part.invariant.0 in
    let all : list_all is_cell parts ≡ true = sym (ap (list_all is_cell) (sym done) ∙ c.loop-part.invariant.1) in
    rw all (ap Some (c.from_vec.ensures ∙ cells))
