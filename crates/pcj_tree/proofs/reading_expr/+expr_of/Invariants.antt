use Rattle.pcj_tree.proofs.reading_expr.+expr_of.Given as goal

abbrev pub decreases-expr_of : goal.decreases-expr_of
decreases-expr_of l = l.levels
