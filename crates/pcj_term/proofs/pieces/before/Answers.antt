use Rattle.std.proofs.Common.{◌≡◌, Bool, true, false, cond, List, ℕ, Bor, Some, None, refl, sym, ap, ◌∙◌, option_copied}
use Rattle.std.specs.Bool.{then_some}
use Rattle.pcj_term.proofs.Parts.{before_end}
use Rattle.pcj_term.proofs.pieces.before.Goals as goal

kept : (test : Bool) (front : Bor (List ℕ)) → option_copied (then_some test front) ≡ cond test (Some front.now) None
kept true front = refl
kept false front = refl

pub returns-in-len1-up : goal.returns-in-len1-up
returns-in-len1-up c =
    ap option_copied c.then_some.ensures ∙ kept _ _ ∙ sym (before_end c.args.byte c.args.bytes.now c.in-len1-up.len_at_least)
