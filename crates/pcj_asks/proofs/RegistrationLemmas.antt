-- The row of its registration is there where the task of a row, or of a line, was read.
use Rattle.std.proofs.Common.{◌≡◌, ◌≤◌, ℕ, length, List, Some, IsSome, ap, sym, subst, ◌∙◌, arith}
use Rattle.std.specs.Option.{option_map}
use Rattle.pcj_encode.specs.declared.key_name.KeyName.TheVariants as row
use Rattle.pcj_encode.specs.declared.task_name.TaskName.{TaskName}
use Rattle.pcj_encode.specs.declared.task_name.TaskName.TheVariants as named
use Rattle.pcj_encode.specs.Name.{IsName, IsTask, key_of}
use Rattle.pcj_tree.specs.declared.tree.Tree.{Tree}
use Rattle.pcj_notify.specs.Plans.{task_key}
use Rattle.pcj_mvcc.proofs.Laws.{standing_is_seen}
use Rattle.pcj_mvcc.specs.Reading.{Put, Rows, seen}
use Rattle.pcj_moves.specs.declared.answer.Answer.{Answer}
use Rattle.pcj_moves.specs.Reads.{value_seen}
use Rattle.pcj_rows.specs.Registrations.{IsRegistered, registration_value}
use Rattle.pcj_nodes.specs.Nodes.{IsNodeRow}
use Rattle.pcj_nodes.proofs.FactLemmas.{StandsSince, seen_since}
use Rattle.pcj_nodes.proofs.TaskLemmas.{last_named}
use Rattle.pcj_asks.specs.Asks.{AtWork, IsOfAnswer}
use Rattle.pcj_asks.specs.Laws.{RegistrationsAreRead}
use Rattle.pcj_asks.proofs.ReadLemmas.{first_seen, second_seen, some_seen}

-- a registration that stands since the start at the latest
pub record IsSince (rows : Rows) (start registration : ℕ) : Type 0 where
  pub name : List ℕ
  pub tree : Tree
  pub at : ℕ
  pub registered : IsRegistered rows registration name tree at
  pub since : at ≤ start

-- is seen at the start
pub registration_seen : (number start : ℕ) (rows : Rows) (answers : List Answer) (registration : ℕ) (name : List ℕ) (tree : Tree) (at : ℕ) → AtWork number start rows answers → IsRegistered rows registration name tree at → at ≤ start →
    value_seen rows (key_of (row.Registration registration)) start ≡ Some (registration_value name tree)
registration_seen number start rows answers registration name tree at work is since =
    ap (option_map (λ (put : Put). put.0)) (standing_is_seen rows (key_of (row.Registration registration)) start (registration_value name tree, at) work.base.times is.stands since)

-- a row of a node that was seen at the start is a true one
pub record SeesRow (rows : Rows) (start registration node : ℕ) (cells : List (List ℕ)) : Type 0 where
  pub there : StandsSince rows start (key_of (row.Node registration node cells))
  pub is : IsNodeRow rows registration node cells there.put.1

pub sees_row : (number start : ℕ) (rows : Rows) (answers : List Answer) (registration node : ℕ) (cells : List (List ℕ)) → AtWork number start rows answers → IsName (row.Node registration node cells) →
    IsSome (seen rows (key_of (row.Node registration node cells)) start) → SeesRow rows start registration node cells
sees_row number start rows answers registration node cells work valid some =
    let there = seen_since rows start (key_of (row.Node registration node cells)) (work.puts.nodes registration node cells valid) some in
    record { there = there; is = work.nodes registration node cells there.put valid there.stands }

-- its registration is earlier
pub row_since : (rows : Rows) (start registration node : ℕ) (cells : List (List ℕ)) → (sees : SeesRow rows start registration node cells) → sees.is.at ≤ start
row_since rows start registration node cells sees = let later = sees.is.later in let since = sees.there.since in omega (arith, later, since)

-- so it stands since the start at the latest
row_is_since : (rows : Rows) (start registration node : ℕ) (cells : List (List ℕ)) → SeesRow rows start registration node cells → IsSince rows start registration
row_is_since rows start registration node cells sees = record {
  name = sees.is.name;
  tree = sees.is.tree;
  at = sees.is.at;
  registered = sees.is.registered;
  since = row_since rows start registration node cells sees;
}

-- the row for which the task of a row was made that was seen
pub task_sees : (number start : ℕ) (rows : Rows) (answers : List Answer) (registration node : ℕ) (cells : List (List ℕ)) → AtWork number start rows answers → IsTask (named.Row registration node cells) →
    IsSome (seen rows (task_key (named.Row registration node cells)) start) → SeesRow rows start registration node cells
task_sees number start rows answers registration node cells work valid some =
    sees_row number start rows answers registration node cells work valid ((work.tasks.of_rows registration node cells start valid some).origin.was_seen start some)

-- that of a line is of the last node
line_sees : (number start : ℕ) (rows : Rows) (answers : List Answer) (registration : ℕ) (cells : List (List ℕ)) → AtWork number start rows answers → IsTask (named.Export registration cells) →
    IsSome (seen rows (task_key (named.Export registration cells)) start) → (node : ℕ) × SeesRow rows start registration node cells
line_sees number start rows answers registration cells work valid some =
    let is = work.tasks.of_exports registration cells start valid some in (
      length is.tree.nodes,
      sees_row number start rows answers registration (length is.tree.nodes) cells work (last_named rows registration is.name is.tree is.at cells is.registered valid) (is.origin.was_seen start some),
    )

-- the registration of either
task_is_since : (number start : ℕ) (rows : Rows) (answers : List Answer) (name : TaskName) (registration : ℕ) → AtWork number start rows answers → IsTask name → IsOfAnswer name registration → IsSome (seen rows (task_key name) start) → IsSince rows start registration
task_is_since number start rows answers (named.Triple triple) registration work valid of some = absurd of
task_is_since number start rows answers (named.Backfill other node) registration work valid of some = absurd of
task_is_since number start rows answers (named.Row other node cells) registration work valid of some =
    subst (IsSince rows start) of (row_is_since rows start other node cells (task_sees number start rows answers other node cells work valid some))
task_is_since number start rows answers (named.Export other cells) registration work valid of some =
    let sees = line_sees number start rows answers other cells work valid some in
    subst (IsSince rows start) of (row_is_since rows start other sees.0 cells sees.1)

pub registrations_are_read : RegistrationsAreRead
registrations_are_read number start rows answers task registration found more work valid of are =
    let seen_own = first_seen rows start answers _ (task_key task.name) (Some task.cursor) work.reads are in
    let is = task_is_since number start rows answers task.name registration work valid of (some_seen rows (task_key task.name) start task.cursor seen_own) in (
      is.name,
      is.tree,
      is.registered.of_query,
      sym (second_seen rows start answers more _ (key_of (row.Registration registration)) found work.reads are) ∙ registration_seen number start rows answers registration is.name is.tree is.at work is.registered is.since,
    )
