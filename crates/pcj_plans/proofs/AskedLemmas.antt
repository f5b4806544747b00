-- The readings of asks, one after another.
use Rattle.std.proofs.Common.{◌≡◌, ℕ, true, List, [], ◌∷◌, ◌++◌, Option, ap, subst, ◌∙◌, IfSome}
use Rattle.pcj_table.specs.Table.{Key, is_between}
use Rattle.pcj_table.specs.declared.pair.Pair.{Pair}
use Rattle.pcj_encode.specs.declared.key_range.KeyRange.{KeyRange}
use Rattle.pcj_notify.specs.declared.answer.Answer as notify
use Rattle.pcj_notify.specs.declared.answer.Answer.TheVariants.{Got, Stepped}
use Rattle.pcj_notify.specs.declared.ask.Ask.{Ask}
use Rattle.pcj_notify.specs.declared.ask.Ask.TheVariants.{Get, Next}
use Rattle.pcj_moves.specs.declared.answer.Answer.{Answer}
use Rattle.pcj_moves.specs.declared.answer.Answer.TheVariants.{OfRange, OfRow}
use Rattle.pcj_plans.specs.Told.{HasAsked, IsReadBy}

-- where a row was asked for, its reading is the first of those that are left
pub row_asked : (asks : List notify.Answer → Ask → Type 0) (done : List notify.Answer) (key : Key) (found : Option (List ℕ)) (more : List notify.Answer) (reads : List Answer) →
    ((ask : Ask) → asks done ask → ask ≡ Get key) → HasAsked asks done (Got found ∷ more) reads →
    (rest : List Answer) × (reads ≡ OfRow key found ∷ rest) × HasAsked asks (done ++ Got found ∷ []) more rest
row_asked asks done key found more reads one (ask, next, front, rest, split, by, asked) =
    let first : front ≡ OfRow key found ∷ [] = subst (λ (a : Ask). IsReadBy a (Got found) front) (one ask next) by in
    (rest, split ∙ ap (λ (f : List Answer). f ++ rest) first, asked)

-- where the first row of a range was, that reading
pub range_asked : (asks : List notify.Answer → Ask → Type 0) (done : List notify.Answer) (range : KeyRange) (found : Option Pair) (more : List notify.Answer) (reads : List Answer) →
    ((ask : Ask) → asks done ask → ask ≡ Next range) → HasAsked asks done (Stepped found ∷ more) reads →
    (rest : List Answer) × (reads ≡ OfRange range.after range.end found ∷ rest) × IfSome found (λ pair. is_between range.after range.end pair.key ≡ true) × HasAsked asks (done ++ Stepped found ∷ []) more rest
range_asked asks done range found more reads one (ask, next, front, rest, split, by, asked) =
    let first : IsReadBy (Next range) (Stepped found) front = subst (λ (a : Ask). IsReadBy a (Stepped found) front) (one ask next) by in
    (rest, split ∙ ap (λ (f : List Answer). f ++ rest) first.0, first.1, asked)
