-- Rows in which nothing stands keep all.
use Rattle.std.proofs.Common.{◌≡◌, ℕ, is_some, List, Some, None, IsSome, ap, sym, ◌∙◌}
use Rattle.pcj_table.specs.Row.{newest, no_row, versions_up_to}
use Rattle.pcj_table.specs.Table.{Key}
use Rattle.pcj_table.specs.declared.row.Row.{Row}
use Rattle.pcj_encode.specs.declared.key_name.KeyName.TheVariants as row
use Rattle.pcj_encode.specs.declared.task_name.TaskName.TheVariants as task
use Rattle.pcj_encode.specs.Name.{key_of}
use Rattle.pcj_mvcc.specs.Reading.{Put, Rows, committed, put_of, reading, seen, standing}
use Rattle.pcj_rows.specs.Registrations.{IsRegistered}
use Rattle.pcj_kept.specs.Laws.{EmptyIsKept}

none_seen : (rows : Rows) (key : Key) (at : ℕ) → rows key ≡ no_row → seen rows key at ≡ None
none_seen rows key at empty = ap (λ (r : Row). put_of (newest (versions_up_to at (reading (committed rows) r.lock r.versions)))) empty

none_stands : (rows : Rows) (key : Key) → rows key ≡ no_row → standing rows key ≡ None
none_stands rows key empty = ap (λ (r : Row). put_of (newest (reading (committed rows) r.lock r.versions))) empty

not_seen : {A : Type 0} (rows : Rows) (key : Key) (at : ℕ) (put : Put) → rows key ≡ no_row → seen rows key at ≡ Some put → A
not_seen rows key at put empty is = absurd (let clash : None ≡ Some put = sym (none_seen rows key at empty) ∙ is in cc)

not_standing : {A : Type 0} (rows : Rows) (key : Key) (put : Put) → rows key ≡ no_row → standing rows key ≡ Some put → A
not_standing rows key put empty is = absurd (let clash : None ≡ Some put = sym (none_stands rows key empty) ∙ is in cc)

some_seen : {A : Type 0} (rows : Rows) (key : Key) (at : ℕ) → rows key ≡ no_row → IsSome (seen rows key at) → A
some_seen rows key at empty is = absurd (let clash = sym is ∙ ap is_some (none_seen rows key at empty) in cc)

pub empty_is_kept : EmptyIsKept
empty_is_kept rows empty = record {
  puts = record {
    triples = λ order triple valid at put is. not_seen rows _ at put (empty (row.Triple order triple) valid (λ e. cc)) is;
    registrations = λ registration valid at put is. not_seen rows _ at put (empty (row.Registration registration) valid (λ e. cc)) is;
    patterns = λ registration node valid small at put is. not_seen rows _ at put (empty (row.Pattern registration node) (valid, small) (λ e. cc)) is;
    nodes = λ registration node cells named at put is. not_seen rows _ at put (empty (row.Node registration node cells) named (λ e. cc)) is;
  };
  nodes = λ registration node cells put named is. not_standing rows (key_of (row.Node registration node cells)) put (empty (row.Node registration node cells) named (λ e. cc)) is;
  tasks = record {
    of_rows = λ registration node cells at named is. some_seen rows (key_of (row.Task (task.Row registration node cells))) at (empty (row.Task (task.Row registration node cells)) named (λ e. cc)) is;
    of_exports = λ registration cells at named is. some_seen rows (key_of (row.Task (task.Export registration cells))) at (empty (row.Task (task.Export registration cells)) named (λ e. cc)) is;
  };
  matches = λ match. unregistered match.registration match.name match.tree match.at match.registered;
  passes = λ below. unregistered below.registration below.name below.tree below.at below.registered;
  exports = record {
    lines = λ registration cells plain named is. absurd (let clash : None ≡ Some plain = sym (ap (λ (r : Row). r.plain) (empty (row.Export registration cells) named (λ e. cc))) ∙ is in cc);
    results = λ result. unregistered result.registration result.name result.tree result.at result.registered;
  };
}
  where
    unregistered : {A : Type 0} (registration : ℕ) (name : List ℕ) (tree : _) (at : ℕ) → IsRegistered rows registration name tree at → A
    unregistered registration name tree at is = not_standing rows (key_of (row.Registration registration)) _ (empty (row.Registration registration) is.number (λ e. cc)) is.stands
