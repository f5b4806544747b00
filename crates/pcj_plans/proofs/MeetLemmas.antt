-- A pattern that meets a triple, and the row of a task itself.
use Rattle.std.proofs.Common.{◌≡◌, inl, inr, ℕ, List, [], ◌∷◌, Option, Some, refl, ap, ◌∙◌}
use Rattle.std.proofs.lemmas.List.Elements.{All-nil}
use Rattle.std.specs.List.{All, Contains}
use Rattle.pcj_term.proofs.ListLemmas.{first_there}
use Rattle.pcj_term.specs.declared.triple.Triple.{Triple}
use Rattle.pcj_table.specs.Table.{Key}
use Rattle.pcj_table.specs.declared.write.Write.{Write}
use Rattle.pcj_encode.specs.declared.key_name.KeyName.TheVariants as row
use Rattle.pcj_encode.specs.declared.task_name.TaskName.{TaskName}
use Rattle.pcj_encode.specs.Name.{IsTask, IsTriple, key_of}
use Rattle.pcj_algebra.specs.declared.triple_pattern.TriplePattern.{TriplePattern}
use Rattle.pcj_notify.specs.declared.answer.Answer.TheVariants.{Got}
use Rattle.pcj_notify.specs.declared.ask.Ask.TheVariants.{Commit}
use Rattle.pcj_notify.specs.declared.task.Task.{Task}
use Rattle.pcj_notify.specs.Plans.{advance, row_writes, task_key, unless_found}
use Rattle.pcj_obs_pattern.specs.Plan as plan
use Rattle.pcj_obs_pattern.specs.Rows.{IsPatternRow, cells_of}
use Rattle.pcj_moves.specs.declared.answer.Answer.{Answer}
use Rattle.pcj_moves.specs.declared.answer.Answer.TheVariants.{OfRow}
use Rattle.pcj_rows.specs.Reads.{HasRead}
use Rattle.pcj_duties.specs.Added.{IsNew, NodeRow, rows_writes}
use Rattle.pcj_duties.specs.Observers.{Meets, match_row}
use Rattle.pcj_duties.proofs.CellLemmas.{pattern_cells}
use Rattle.pcj_plans.proofs.AddLemmas.{match_writes, row_adds, row_is_new, rows_unless}
use Rattle.pcj_plans.proofs.ReadLemmas.{row_is_read}

-- ---- a pattern that meets a triple

-- the writes of a task that moves on to this place, by the rows that are added
pub record HasMet (answers : List Answer) (task : Task) (place : Key) (registration node : ℕ) (of : TriplePattern) (order : List (List ℕ)) (triple : Triple) (writes : List Write) : Type 0 where
  pub rows : List NodeRow
  pub new : All (IsNew answers) rows
  pub meets : Meets answers registration node of order triple rows
  pub writes_are : writes ≡ advance task place ∷ rows_writes rows

pub same_writes : (writes other : List Write) → Commit writes ≡ Commit other → writes ≡ other
same_writes writes other e = cc

-- there is no match
pub without_match : (answers : List Answer) (task : Task) (place : Key) (registration node : ℕ) (of : TriplePattern) (order : List (List ℕ)) (triple : Triple) (writes : List Write) →
    plan.Meets task place registration node of order triple [] (Commit writes) → HasMet answers task place registration node of order triple writes
without_match answers task place registration node of order triple writes (inl (mapping, match, e)) = absurd cc
without_match answers task place registration node of order triple writes (inr (none, e)) = record {
  rows = [];
  new = All-nil (IsNew answers);
  meets = inl (none, refl);
  writes_are = same_writes writes (advance task place ∷ []) e;
}

-- the row of the match was looked for
pub with_match : (answers : List Answer) (task : Task) (place : Key) (registration node : ℕ) (of : TriplePattern) (order : List (List ℕ)) (triple : Triple) (found : Option (List ℕ)) (writes : List Write) (key value : List ℕ) →
    IsPatternRow registration node of order key value → IsTriple triple →
    (meets : plan.Meets task place registration node of order triple (Got found ∷ []) (Commit writes)) → Contains answers (OfRow (key_of (row.Node registration node (cells_of order meets.0))) found) →
    HasMet answers task place registration node of order triple writes
with_match answers task place registration node of order triple found writes key value is valid (mapping, match, e) there = record {
  rows = rows_unless found (match_row registration node order mapping);
  new = row_is_new answers (match_row registration node order mapping) found (is.number, is.small, (pattern_cells of order triple mapping valid is.valid match is.names).0) there;
  meets = inr (mapping, match, row_adds answers (match_row registration node order mapping) found there);
  writes_are = same_writes writes (advance task place ∷ unless_found found (row_writes registration node (cells_of order mapping))) e ∙ ap (λ (ws : List Write). advance task place ∷ ws) (match_writes registration node order mapping found);
}

-- ---- a task's own row

-- a task, by its parts
abbrev pub task_of : TaskName → List ℕ → ℕ → Task
task_of name cursor at = record { name = name; cursor = cursor; start = at }

-- its own row, and more
abbrev pub with_own : TaskName → List ℕ → List Answer → List Answer
with_own name cursor reads = OfRow (task_key name) (Some cursor) ∷ reads

pub own_is_read : (name : TaskName) (cursor : List ℕ) (reads : List Answer) → IsTask name → HasRead (with_own name cursor reads) (row.Task name) cursor
own_is_read name cursor reads valid = row_is_read (with_own name cursor reads) (row.Task name) cursor valid (first_there (OfRow (task_key name) (Some cursor)) reads)
