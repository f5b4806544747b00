-- What steps came to, read from their lines.
use Rattle.std.proofs.Common.{◌≡◌, ℕ, List, [], ◌∷◌, Option, Some, None, refl, ap, sym, ◌∙◌}
use Rattle.pcj_model.specs.Line.{Line}
use Rattle.pcj_model.specs.Line.Event.{Committed, Done, Aborted, Taken, Fault, Steps}
use Rattle.pcj_model.specs.Line.Line.{Client}
use Rattle.pcj_model.specs.Job.{StepsEnd, steps_lines}
use Rattle.pcj_model.specs.Job.StepsEnd.{AllMade, IsDone, IsAborted, IsTaken, Fails}
use Rattle.pcj_model.specs.Laws.{AreTold}

abbrev pub commit_in : List Line → Option ℕ
commit_in (Client client (Committed commit) ∷ lines) = Some commit
commit_in lines = None

abbrev pub end_in : List Line → StepsEnd
end_in (Client client (Committed commit) ∷ lines) = end_in lines
end_in (Client client Done ∷ lines) = IsDone
end_in (Client client Aborted ∷ lines) = IsAborted
end_in (Client client Taken ∷ lines) = IsTaken
end_in (Client client Fault ∷ lines) = Fails
end_in lines = AllMade

abbrev pub count_in : List Line → ℕ
count_in (Client client (Steps count) ∷ []) = count
count_in (line ∷ lines) = count_in lines
count_in [] = 0

pub commit_told : (client : ℕ) (commit : Option ℕ) (end : StepsEnd) (count : ℕ) → commit_in (steps_lines client commit end count) ≡ commit
commit_told client None AllMade count = refl
commit_told client None IsDone count = refl
commit_told client None IsAborted count = refl
commit_told client None IsTaken count = refl
commit_told client None Fails count = refl
commit_told client (Some commit) end count = refl

pub end_told : (client : ℕ) (commit : Option ℕ) (end : StepsEnd) (count : ℕ) → end_in (steps_lines client commit end count) ≡ end
end_told client None AllMade count = refl
end_told client None IsDone count = refl
end_told client None IsAborted count = refl
end_told client None IsTaken count = refl
end_told client None Fails count = refl
end_told client (Some commit) AllMade count = refl
end_told client (Some commit) IsDone count = refl
end_told client (Some commit) IsAborted count = refl
end_told client (Some commit) IsTaken count = refl
end_told client (Some commit) Fails count = refl

pub count_told : (client : ℕ) (commit : Option ℕ) (end : StepsEnd) (count : ℕ) → count_in (steps_lines client commit end count) ≡ count
count_told client None AllMade count = refl
count_told client None IsDone count = refl
count_told client None IsAborted count = refl
count_told client None IsTaken count = refl
count_told client None Fails count = refl
count_told client (Some commit) AllMade count = refl
count_told client (Some commit) IsDone count = refl
count_told client (Some commit) IsAborted count = refl
count_told client (Some commit) IsTaken count = refl
count_told client (Some commit) Fails count = refl

pub are_told : AreTold
are_told queries job client most lines commit other after left a b =
    let same_commit : commit ≡ other = sym (commit_told client commit a.end a.count) ∙ ap commit_in (sym a.told ∙ b.told) ∙ commit_told client other b.end b.count in
    let same_end : a.end ≡ b.end = sym (end_told client commit a.end a.count) ∙ ap end_in (sym a.told ∙ b.told) ∙ end_told client other b.end b.count in
    let same_count : a.count ≡ b.count = sym (count_told client commit a.end a.count) ∙ ap count_in (sym a.told ∙ b.told) ∙ count_told client other b.end b.count in
    (same_commit, a.left ∙ rw (same_commit, same_end, same_count) refl ∙ sym b.left)
