-- What is asked next for a triple's task, and for that of a backfill, by the answers so far.
use Rattle.std.specs.Prelude.{◌≡◌, ◌⊎◌, ℕ, List, [], ◌∷◌, Some, None}
use Rattle.pcj_term.specs.declared.triple.Triple.{Triple}
use Rattle.pcj_table.specs.Table.{Key}
use Rattle.pcj_table.specs.declared.pair.Pair.{Pair}
use Rattle.pcj_encode.specs.declared.key_name.KeyName.TheVariants as row
use Rattle.pcj_encode.specs.declared.task_name.TaskName.{TaskName}
use Rattle.pcj_encode.specs.declared.task_name.TaskName.TheVariants as task
use Rattle.pcj_encode.specs.Name.{key_of, IsRegistration, IsNode, IsTriple}
use Rattle.pcj_encode.specs.Range.{patterns, range_of}
use Rattle.pcj_expr.specs.declared.mapping.Mapping.{Mapping}
use Rattle.pcj_algebra.specs.declared.triple_pattern.TriplePattern.{TriplePattern}
use Rattle.pcj_algebra.specs.Match.{Matches, IsMatch}
use Rattle.pcj_patterns.specs.Serving.{rows_of}
use Rattle.pcj_notify.specs.declared.answer.Answer.{Answer}
use Rattle.pcj_notify.specs.declared.answer.Answer.TheVariants.{Got, Stepped, PlainDone}
use Rattle.pcj_notify.specs.declared.ask.Ask.{Ask}
use Rattle.pcj_notify.specs.declared.ask.Ask.TheVariants.{Get, Next, Commit}
use Rattle.pcj_notify.specs.declared.task.Task.{Task}
use Rattle.pcj_notify.specs.Plans.{advance, beyond, finish, row_writes, unless_found}
use Rattle.pcj_obs_pattern.specs.Rows.{cells_of, IsPatternRow}

-- A pattern meets a triple, where the task is to move on to this key. The row of the match is looked for, and added where
-- it isn't there.
abbrev pub Meets : Task → Key → ℕ → ℕ → TriplePattern → List (List ℕ) → Triple → List Answer → Ask → Type 0
Meets task next registration node of order triple [] ask =
    ((mapping : Mapping) × Matches of triple mapping × (ask ≡ Get (key_of (row.Node registration node (cells_of order mapping)))))
    ⊎ (IsMatch of triple None × (ask ≡ Commit (advance task next ∷ [])))
Meets task next registration node of order triple (Got found ∷ []) ask =
    (mapping : Mapping) × Matches of triple mapping
    × (ask ≡ Commit (advance task next ∷ unless_found found (row_writes registration node (cells_of order mapping))))
Meets task next registration node of order triple (Got found ∷ answer ∷ answers) ask = ⊥
Meets task next registration node of order triple (Stepped pair ∷ answers) ask = ⊥
Meets task next registration node of order triple (PlainDone ∷ answers) ask = ⊥

-- a triple's task meets the pattern of this row
pub record MeetsRow (task : Task) (triple : Triple) (pair : Pair) (answers : List Answer) (ask : Ask) : Type 0 where
  pub registration : ℕ
  pub node : ℕ
  pub of : TriplePattern
  pub order : List (List ℕ)
  pub is_row : IsPatternRow registration node of order pair.key pair.value
  pub meets : Meets task pair.key registration node of order triple answers ask

-- of a triple's task: the patterns after the cursor, one after another
abbrev pub IsTripleAsk : Task → Triple → List Answer → Ask → Type 0
IsTripleAsk task triple [] ask = ask ≡ Next (beyond task.cursor (range_of patterns))
IsTripleAsk task triple (Stepped None ∷ []) ask = ask ≡ Commit (finish task ∷ [])
IsTripleAsk task triple (Stepped None ∷ answer ∷ answers) ask = ⊥
IsTripleAsk task triple (Stepped (Some pair) ∷ answers) ask = MeetsRow task triple pair answers ask
IsTripleAsk task triple (Got found ∷ answers) ask = ⊥
IsTripleAsk task triple (PlainDone ∷ answers) ask = ⊥

-- a backfill's task meets the triple of this row, in the order that serves the pattern
pub record MeetsTriple (task : Task) (registration node : ℕ) (of : TriplePattern) (order : List (List ℕ)) (pair : Pair) (answers : List Answer) (ask : Ask) : Type 0 where
  pub triple : Triple
  pub valid : IsTriple triple
  pub is_row : pair.key ≡ key_of (row.Triple (rows_of of).0 triple)
  pub meets : Meets task pair.key registration node of order triple answers ask

-- the triples of the pattern's range after the cursor, one after another
abbrev pub IsOverTriples : Task → ℕ → ℕ → TriplePattern → List (List ℕ) → List Answer → Ask → Type 0
IsOverTriples task registration node of order [] ask = ask ≡ Next (beyond task.cursor (rows_of of).1)
IsOverTriples task registration node of order (Stepped None ∷ []) ask = ask ≡ Commit (finish task ∷ [])
IsOverTriples task registration node of order (Stepped None ∷ answer ∷ answers) ask = ⊥
IsOverTriples task registration node of order (Stepped (Some pair) ∷ answers) ask = MeetsTriple task registration node of order pair answers ask
IsOverTriples task registration node of order (Got found ∷ answers) ask = ⊥
IsOverTriples task registration node of order (PlainDone ∷ answers) ask = ⊥

-- a backfill's task goes over the triples for the pattern of this row
pub record GoesOver (task : Task) (registration node : ℕ) (value : List ℕ) (answers : List Answer) (ask : Ask) : Type 0 where
  pub of : TriplePattern
  pub order : List (List ℕ)
  pub is_row : IsPatternRow registration node of order (key_of (row.Pattern registration node)) value
  pub over : IsOverTriples task registration node of order answers ask

-- of a backfill's task: its pattern, and then the triples
abbrev pub IsBackfillAsk : Task → ℕ → ℕ → List Answer → Ask → Type 0
IsBackfillAsk task registration node [] ask = ask ≡ Get (key_of (row.Pattern registration node))
IsBackfillAsk task registration node (Got None ∷ answers) ask = ⊥
IsBackfillAsk task registration node (Got (Some value) ∷ answers) ask = GoesOver task registration node value answers ask
IsBackfillAsk task registration node (Stepped pair ∷ answers) ask = ⊥
IsBackfillAsk task registration node (PlainDone ∷ answers) ask = ⊥

-- what is asked for the task of this name
abbrev pub IsAskFor : TaskName → Task → List Answer → Ask → Type 0
IsAskFor (task.Triple triple) of answers ask = IsTriple triple × IsTripleAsk of triple answers ask
IsAskFor (task.Backfill registration node) of answers ask = IsRegistration registration × IsNode node × IsBackfillAsk of registration node answers ask
IsAskFor (task.Row registration node cells) of answers ask = ⊥
IsAskFor (task.Export registration cells) of answers ask = ⊥

-- what is asked next
abbrev pub IsPatternAsk : Task → List Answer → Ask → Type 0
IsPatternAsk task answers ask = IsAskFor task.name task answers ask
