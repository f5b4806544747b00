-- The lines that a reply says.
use Rattle.std.specs.Prelude.{ℕ, List, [], ◌∷◌, ◌++◌, map, Result, Ok, Err}
use Rattle.pcj_clients.specs.declared.stepped.Stepped.{Stepped}
use Rattle.pcj_clients.specs.declared.stepped.StepsEnd.{StepsEnd}
use Rattle.pcj_clients.specs.declared.stepped.StepsEnd.TheVariants as all
use Rattle.pcj_model.specs.Job.{commit_events}
use Rattle.pcj_model.specs.Line.{Event, Line, line_of}
use Rattle.pcj_model.specs.Line.Event.{Done, Aborted, Taken, Nothing, Fault, Steps as HasSteps}
use Rattle.pcj_model.specs.Line.Line.{Client}
use Rattle.pcj_model.specs.Reply.{answer_lines}
use Rattle.pcj_model.specs.declared.line.Line.{Line as Written}
use Rattle.pcj_scan.specs.declared.error.ScanError.{ScanError}
use Rattle.pcj_scan.specs.declared.error.ScanError.TheVariants as scan_error
use Rattle.pcj_session.specs.declared.reply.Reply.{Reply}
use Rattle.pcj_session.specs.declared.reply.Reply.TheVariants.{One, Two, Steps, Rows}
use Rattle.pcj_session.specs.declared.stop.Stop.{Stop}
use Rattle.pcj_session.specs.declared.stop.Stop.TheVariants.{Memory, Spent}

-- how the steps of a command end
abbrev pub end_events : StepsEnd → List Event
end_events all.AllMade = []
end_events all.Nothing = Nothing ∷ []
end_events all.Done = Done ∷ []
end_events all.Aborted = Aborted ∷ []
end_events all.Taken = Taken ∷ []
end_events all.Fault = Fault ∷ []
end_events all.Spent = []

-- their commit comes first, if they made it, then how they end, and then how many were tried
abbrev pub told_lines : ℕ → Stepped → List Line
told_lines client stepped = map (Client client) (commit_events stepped.commit ++ end_events stepped.end ++ HasSteps stepped.count ∷ [])

abbrev pub lines_of : Reply → List Line
lines_of (One line) = line_of line ∷ []
lines_of (Two first second) = line_of first ∷ line_of second ∷ []
lines_of (Steps client stepped) = told_lines client stepped
lines_of (Rows rows) = answer_lines rows

-- what a scan's rows come to, with the line that tells of its fault
abbrev pub rows_told : Written → Result (List (List ℕ)) ScanError → Result Reply Stop
rows_told fault (Ok rows) = Ok (Rows rows)
rows_told fault (Err scan_error.Failed) = Ok (One fault)
rows_told fault (Err scan_error.Memory) = Err Memory
rows_told fault (Err scan_error.Spent) = Err Spent
