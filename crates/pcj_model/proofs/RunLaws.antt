-- Runs, taken apart and told from their lines.
use Rattle.std.proofs.Common.{◌≡◌, [], ◌∷◌, ◌++◌, refl, ap, sym, subst, ◌∙◌}
use Rattle.std.proofs.lemmas.List.{append_cancel_right}
use Rattle.pcj_model.specs.Reply.{Reply}
use Rattle.pcj_model.specs.Run.{Run, all_lines}
use Rattle.pcj_model.specs.Laws.{TranscriptsTell, PrintsTell, RunsGoOn, RunsHaveFronts, EndsAreTold}
use Rattle.pcj_model.proofs.ReplyLaws.{replies_tell, replies_end, closes, one_front}
use Rattle.pcj_model.proofs.TextLaws.{lines_told}

pub transcripts_tell : TranscriptsTell
transcripts_tell language old [] [] [] new other a b e = (refl, a ∙ sym b)
transcripts_tell language old [] [] (more ∷ others) new other a b e = absurd b
transcripts_tell language old [] (lines ∷ transcript) others new other a b e = absurd a
transcripts_tell language old (command ∷ commands) [] others new other a b e = absurd a
transcripts_tell language old (command ∷ commands) (lines ∷ transcript) [] new other a b e = absurd b
transcripts_tell language old (command ∷ commands) (lines ∷ transcript) (more ∷ others) new other a b e =
    let cut = one_front (closes command) lines more (all_lines transcript) (all_lines others)
    (replies_end language old command lines a.0 a.1) (replies_end language old command more b.0 b.1) e in
    let here : Reply language old command lines b.0 = subst (λ ls. Reply language old command ls b.0) (sym cut.0) b.1 in
    let mid : b.0 ≡ a.0 = replies_tell language old command lines b.0 a.0 here a.1 in
    let rest : Run language a.0 commands others other = subst (λ s. Run language s commands others other) mid b.2 in
    let same = transcripts_tell language a.0 commands transcript others new other a.2 rest cut.1 in
    (ap (λ ls. lines ∷ ls) same.0 ∙ ap (λ l. l ∷ others) cut.0, same.1)

pub prints_tell : PrintsTell
prints_tell language old commands transcript others new other a b clear clear' e =
    transcripts_tell language old commands transcript others new other a b (lines_told (all_lines transcript) (all_lines others) clear clear' e)

pub runs_go_on : RunsGoOn
runs_go_on language old mid new [] back [] more a b = subst (λ s. Run language s back more new) a b
runs_go_on language old mid new [] back (lines ∷ told) more a b = absurd a
runs_go_on language old mid new (command ∷ front) back [] more a b = absurd a
runs_go_on language old mid new (command ∷ front) back (lines ∷ told) more a b =
    (a.0, a.1, runs_go_on language a.0 mid new front back told more a.2 b)

pub runs_have_fronts : RunsHaveFronts
runs_have_fronts language old new [] back transcript a = record { told = []; more = transcript; mid = old; is = refl; run = refl; rest = a }
runs_have_fronts language old new (command ∷ front) back [] a = absurd a
runs_have_fronts language old new (command ∷ front) back (lines ∷ transcript) a =
    let rest = runs_have_fronts language a.0 new front back transcript a.2 in
    record {
      told = lines ∷ rest.told;
      more = rest.more;
      mid = rest.mid;
      is = ap (λ ls. lines ∷ ls) rest.is;
      run = (a.0, a.1, rest.run);
      rest = rest.rest;
    }

pub ends_are_told : EndsAreTold
ends_are_told language start commands closing text end other a b clear clear' =
    let lines : all_lines a.transcript ++ closing ≡ all_lines b.transcript ++ closing =
    lines_told (all_lines a.transcript ++ closing) (all_lines b.transcript ++ closing) clear clear' (sym a.written ∙ b.written) in
    (transcripts_tell language start commands a.transcript b.transcript end other a.run b.run (append_cancel_right (all_lines a.transcript) (all_lines b.transcript) closing lines)).1
