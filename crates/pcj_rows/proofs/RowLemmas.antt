-- What rows hold, and what each act leaves of it.
use Rattle.std.proofs.Common.{◌≡◌, ◌⊎◌, inl, inr, ◌≤◌, ℕ, Bool, true, false, cond, nat_le, List, [], ◌∷◌, Option, Some, None, IfSome, refl, ap, sym, subst, ◌∙◌, arith}
use Rattle.std.specs.List.{All}
use Rattle.std.proofs.lemmas.List.Elements.{All-cons, All-head, All-nil, All-tail}
use Rattle.pcj_term.specs.declared.term.Term.{Term}
use Rattle.pcj_term.specs.declared.term.Term.TheVariants.{Iri, Blank, Literal}
use Rattle.pcj_term.specs.declared.triple.Triple.{Triple}
use Rattle.pcj_table.proofs.RowLemmas.{no_row_is}
use Rattle.pcj_table.specs.Row.{add_version, has_nothing, no_row}
use Rattle.pcj_table.specs.Table.{Key}
use Rattle.pcj_table.specs.declared.lock.Lock.{Lock}
use Rattle.pcj_table.specs.declared.plain.Plain.{Plain}
use Rattle.pcj_table.specs.declared.row.Row.{Row}
use Rattle.pcj_table.specs.declared.version.Version.{Version}
use Rattle.pcj_encode.proofs.Names.{names_one_row}
use Rattle.pcj_encode.specs.declared.task_name.TaskName.{TaskName}
use Rattle.pcj_encode.specs.declared.task_name.TaskName.TheVariants as task
use Rattle.pcj_encode.specs.declared.key_name.KeyName.{KeyName}
use Rattle.pcj_encode.specs.declared.key_name.KeyName.TheVariants as row
use Rattle.pcj_encode.specs.Name.{IsName, key_of}
use Rattle.pcj_mvcc.proofs.Rows.{put_each}
use Rattle.pcj_mvcc.specs.Reading.{Rows, put}
use Rattle.pcj_rows.specs.Names.{IsCellGranted, IsGranted, IsNameGranted, IsTaskGranted, IsTermGranted, IsTripleGranted}
use Rattle.pcj_rows.specs.Values.{IsCursor, IsKeyOf, IsValue, MayHold}
use Rattle.pcj_rows.specs.Rows.{Decodes, HoldsVersions, IsDecoded, IsLockOf, IsRowOf, IsVersionOf}

-- ---- a higher number

all_map : {X : Type 0} (P Q : X → Type 0) → ((x : X) → P x → Q x) → (xs : List X) → All P xs → All Q xs
all_map P Q f [] all = All-nil Q
all_map P Q f (x ∷ xs) all = All-cons Q x xs (f x (All-head P x xs all)) (all_map P Q f xs (All-tail P x xs all))

some_map : {X : Type 0} (P Q : X → Type 0) → ((x : X) → P x → Q x) → (found : Option X) → IfSome found P → IfSome found Q
some_map P Q f None some = tt
some_map P Q f (Some x) some = f x some

pub granted_later : (next more number : ℕ) → next ≤ more → IsGranted next number → IsGranted more number
granted_later next more number le granted = (granted.0, (let lt = granted.1 in omega arith))

term_later : (next more : ℕ) (term : Term) → next ≤ more → IsTermGranted next term → IsTermGranted more term
term_later next more (Iri iri) le granted = tt
term_later next more (Blank load label) le granted = granted_later next more load le granted
term_later next more (Literal text kind) le granted = tt

triple_later : (next more : ℕ) (triple : Triple) → next ≤ more → IsTripleGranted next triple → IsTripleGranted more triple
triple_later next more triple le granted = record {
  subject = term_later next more triple.subject le granted.subject;
  predicate = term_later next more triple.predicate le granted.predicate;
  object = term_later next more triple.object le granted.object;
}

cell_later : (next more : ℕ) → next ≤ more → (cell : List ℕ) → IsCellGranted next cell → IsCellGranted more cell
cell_later next more le cell granted = (granted.0, granted.1, granted.2, term_later next more granted.0 le granted.3)

cells_later : (next more : ℕ) → next ≤ more → (cells : List (List ℕ)) → All (IsCellGranted next) cells → All (IsCellGranted more) cells
cells_later next more le cells = all_map (IsCellGranted next) (IsCellGranted more) (cell_later next more le) cells

task_later : (next more : ℕ) (name : TaskName) → next ≤ more → IsTaskGranted next name → IsTaskGranted more name
task_later next more (task.Triple triple) le granted = triple_later next more triple le granted
task_later next more (task.Backfill registration node) le granted = granted_later next more registration le granted
task_later next more (task.Row registration node cells) le granted = (granted_later next more registration le granted.0, cells_later next more le cells granted.1)
task_later next more (task.Export registration cells) le granted = (granted_later next more registration le granted.0, cells_later next more le cells granted.1)

pub name_later : (next more : ℕ) (name : KeyName) → next ≤ more → IsNameGranted next name → IsNameGranted more name
name_later next more row.Clock le granted = tt
name_later next more (row.Triple order triple) le granted = triple_later next more triple le granted
name_later next more (row.Node registration node cells) le granted = (granted_later next more registration le granted.0, cells_later next more le cells granted.1)
name_later next more (row.Group registration cells) le granted = (granted_later next more registration le granted.0, cells_later next more le cells granted.1)
name_later next more (row.Member registration cells term) le granted =
    (granted_later next more registration le granted.0, cells_later next more le cells granted.1, cell_later next more le term granted.2)
name_later next more (row.Registration registration) le granted = granted_later next more registration le granted
name_later next more (row.Name name) le granted = tt
name_later next more (row.Pattern registration node) le granted = granted_later next more registration le granted
name_later next more (row.Task name) le granted = task_later next more name le granted
name_later next more (row.Export registration cells) le granted = (granted_later next more registration le granted.0, cells_later next more le cells granted.1)

value_later : (next more : ℕ) (name : KeyName) (value : List ℕ) → next ≤ more → IsValue next name value → IsValue more name value
value_later next more row.Clock value le is = is
value_later next more (row.Triple order triple) value le is = is
value_later next more (row.Node registration node cells) value le is = is
value_later next more (row.Group registration cells) value le is = is
value_later next more (row.Member registration cells term) value le is = is
value_later next more (row.Registration registration) value le is = is
value_later next more (row.Name name) value le is = (is.0, granted_later next more is.0 le is.1, is.2)
value_later next more (row.Pattern registration node) value le is = is
value_later next more (row.Task name) value le is = by is
  where
    by : (value ≡ []) ⊎ IsKeyOf next (IsCursor name) value → (value ≡ []) ⊎ IsKeyOf more (IsCursor name) value
    by (inl none) = inl none
    by (inr some) = inr (some.0, some.1, some.2, name_later next more some.0 le some.3, some.4)
value_later next more (row.Export registration cells) value le is = is

pub hold_later : (next more : ℕ) (name : KeyName) (value : Option (List ℕ)) → next ≤ more → MayHold next name value → MayHold more name value
hold_later next more name None le may = may
hold_later next more name (Some value) le may = value_later next more name value le may

versions_later : (next more : ℕ) (name : KeyName) (found : Row) → next ≤ more → HoldsVersions next name found → HoldsVersions more name found
versions_later next more name found le holds = record {
  lock = some_map (IsLockOf next name) (IsLockOf more name) (λ lock is. record { start = granted_later next more lock.start le is.start; value = hold_later next more name lock.value le is.value }) found.lock holds.lock;
  versions = all_map (IsVersionOf next name) (IsVersionOf more name) (λ version is. record {
    start = granted_later next more version.start le is.start;
    commit = (let lt = is.commit in omega arith);
    value = hold_later next more name version.value le is.value;
  }) found.versions holds.versions;
  plain = holds.plain;
}

row_later : (next more : ℕ) (name : KeyName) (found : Row) → next ≤ more → IsRowOf next name found → IsRowOf more name found
row_later next more row.Clock found le is = is
row_later next more (row.Triple order triple) found le is = versions_later next more (row.Triple order triple) found le is
row_later next more (row.Node registration node cells) found le is = versions_later next more (row.Node registration node cells) found le is
row_later next more (row.Group registration cells) found le is = versions_later next more (row.Group registration cells) found le is
row_later next more (row.Member registration cells term) found le is = versions_later next more (row.Member registration cells term) found le is
row_later next more (row.Registration registration) found le is = versions_later next more (row.Registration registration) found le is
row_later next more (row.Name name) found le is = versions_later next more (row.Name name) found le is
row_later next more (row.Pattern registration node) found le is = versions_later next more (row.Pattern registration node) found le is
row_later next more (row.Task name) found le is = versions_later next more (row.Task name) found le is
row_later next more (row.Export registration cells) found le is = record {
  lock = is.lock;
  versions = is.versions;
  line = some_map (λ (plain : Plain). IsGranted next plain.seq × (line : List ℕ) × (plain.value ≡ Some line)) (λ (plain : Plain). IsGranted more plain.seq × (line : List ℕ) × (plain.value ≡ Some line))
      (λ plain has. (granted_later next more plain.seq le has.0, has.1, has.2)) found.plain is.line;
}

pub decodes_later : (next more : ℕ) (rows : Rows) → next ≤ more → Decodes next rows → Decodes more rows
decodes_later next more rows le decodes key some =
    let is = decodes key some in
    record { name = is.name; valid = is.valid; granted = name_later next more is.name le is.granted; is = is.is; holds = row_later next more is.name (rows key) le is.holds }

-- ---- rows that transactions write

-- all but the clock's and the exports'
abbrev pub is_written : KeyName → Bool
is_written row.Clock = false
is_written (row.Export registration cells) = false
is_written _ = true

pub to_versions : (next : ℕ) (name : KeyName) (found : Row) → is_written name ≡ true → IsRowOf next name found → HoldsVersions next name found
to_versions next row.Clock found written is = absurd cc
to_versions next (row.Triple order triple) found written is = is
to_versions next (row.Node registration node cells) found written is = is
to_versions next (row.Group registration cells) found written is = is
to_versions next (row.Member registration cells term) found written is = is
to_versions next (row.Registration registration) found written is = is
to_versions next (row.Name name) found written is = is
to_versions next (row.Pattern registration node) found written is = is
to_versions next (row.Task name) found written is = is
to_versions next (row.Export registration cells) found written is = absurd cc

pub from_versions : (next : ℕ) (name : KeyName) (found : Row) → is_written name ≡ true → HoldsVersions next name found → IsRowOf next name found
from_versions next row.Clock found written is = absurd cc
from_versions next (row.Triple order triple) found written is = is
from_versions next (row.Node registration node cells) found written is = is
from_versions next (row.Group registration cells) found written is = is
from_versions next (row.Member registration cells term) found written is = is
from_versions next (row.Registration registration) found written is = is
from_versions next (row.Name name) found written is = is
from_versions next (row.Pattern registration node) found written is = is
from_versions next (row.Task name) found written is = is
from_versions next (row.Export registration cells) found written is = absurd cc

-- a row with a lock is one of them
locked_is_written : (next : ℕ) (name : KeyName) (found : Row) (lock : Lock) → found.lock ≡ Some lock → IsRowOf next name found → is_written name ≡ true
locked_is_written next row.Clock found lock locked is = absurd (let clash : None ≡ Some lock = sym is.lock ∙ locked in cc)
locked_is_written next (row.Triple order triple) found lock locked is = refl
locked_is_written next (row.Node registration node cells) found lock locked is = refl
locked_is_written next (row.Group registration cells) found lock locked is = refl
locked_is_written next (row.Member registration cells term) found lock locked is = refl
locked_is_written next (row.Registration registration) found lock locked is = refl
locked_is_written next (row.Name name) found lock locked is = refl
locked_is_written next (row.Pattern registration node) found lock locked is = refl
locked_is_written next (row.Task name) found lock locked is = refl
locked_is_written next (row.Export registration cells) found lock locked is = absurd (let clash : None ≡ Some lock = sym is.lock ∙ locked in cc)

-- and one that isn't has no version
pub unwritten_versions : (next : ℕ) (name : KeyName) (found : Row) → is_written name ≡ false → IsRowOf next name found → found.versions ≡ []
unwritten_versions next row.Clock found written is = is.versions
unwritten_versions next (row.Triple order triple) found written is = absurd cc
unwritten_versions next (row.Node registration node cells) found written is = absurd cc
unwritten_versions next (row.Group registration cells) found written is = absurd cc
unwritten_versions next (row.Member registration cells term) found written is = absurd cc
unwritten_versions next (row.Registration registration) found written is = absurd cc
unwritten_versions next (row.Name name) found written is = absurd cc
unwritten_versions next (row.Pattern registration node) found written is = absurd cc
unwritten_versions next (row.Task name) found written is = absurd cc
unwritten_versions next (row.Export registration cells) found written is = is.versions

-- the name of a locked row, what may stand there, and what does
pub record IsLocked (next : ℕ) (key : Key) (found : Row) (lock : Lock) : Type 0 where
  pub name : KeyName
  pub valid : IsName name
  pub granted : IsNameGranted next name
  pub is : key ≡ key_of name
  pub written : is_written name ≡ true
  pub holds : HoldsVersions next name found
  pub its : IsLockOf next name lock

pub locked_row : (next : ℕ) (rows : Rows) (key : Key) (lock : Lock) → Decodes next rows → (rows key).lock ≡ Some lock → IsLocked next key (rows key) lock
locked_row next rows key lock decodes locked =
    let is = decodes key (ap (λ l. has_nothing (record { lock = l; versions = (rows key).versions; plain = (rows key).plain })) locked) in
    let written = locked_is_written next is.name (rows key) lock locked is.holds in
    let holds = to_versions next is.name (rows key) written is.holds in
    record {
      name = is.name;
      valid = is.valid;
      granted = is.granted;
      is = is.is;
      written = written;
      holds = holds;
      its = subst (λ (l : Option Lock). IfSome l (IsLockOf next is.name)) locked holds.lock;
    }

-- ---- the row of a name

nothing_holds : (next : ℕ) (name : KeyName) → HoldsVersions next name no_row
nothing_holds next name = record { lock = tt; versions = All-nil (IsVersionOf next name); plain = refl }

nothing_is_of : (next : ℕ) (name : KeyName) → IsRowOf next name no_row
nothing_is_of next row.Clock = record { lock = refl; versions = refl; value = tt }
nothing_is_of next (row.Triple order triple) = nothing_holds next (row.Triple order triple)
nothing_is_of next (row.Node registration node cells) = nothing_holds next (row.Node registration node cells)
nothing_is_of next (row.Group registration cells) = nothing_holds next (row.Group registration cells)
nothing_is_of next (row.Member registration cells term) = nothing_holds next (row.Member registration cells term)
nothing_is_of next (row.Registration registration) = nothing_holds next (row.Registration registration)
nothing_is_of next (row.Name name) = nothing_holds next (row.Name name)
nothing_is_of next (row.Pattern registration node) = nothing_holds next (row.Pattern registration node)
nothing_is_of next (row.Task name) = nothing_holds next (row.Task name)
nothing_is_of next (row.Export registration cells) = record { lock = refl; versions = refl; line = tt }

pub row_of_name : (next : ℕ) (rows : Rows) (name : KeyName) → Decodes next rows → IsName name → IsRowOf next name (rows (key_of name))
row_of_name next rows name decodes valid = by (has_nothing (rows (key_of name))) refl
  where
    by : (b : Bool) → has_nothing (rows (key_of name)) ≡ b → IsRowOf next name (rows (key_of name))
    by true none = subst (IsRowOf next name) (sym (no_row_is (rows (key_of name)) none)) (nothing_is_of next name)
    by false some =
        let is = decodes (key_of name) some in
        subst (λ n. IsRowOf next n (rows (key_of name))) (sym (names_one_row name is.name valid is.valid is.is)) is.holds

-- ---- acts

-- a row that is changed
pub decodes_put : (next : ℕ) (rows : Rows) (key : Key) (found : Row) → Decodes next rows → (has_nothing found ≡ false → IsDecoded next key found) → Decodes next (put rows key found)
decodes_put next rows key found decodes new = put_each (λ q r. has_nothing r ≡ false → IsDecoded next q r) rows key found new (λ q apart. decodes q)

pub all_with_version : (P : Version → Type 0) (version : Version) (versions : List Version) → P version → All P versions → All P (add_version version versions)
all_with_version P version [] is all = All-cons P version [] is (All-nil P)
all_with_version P version (other ∷ versions) is all = by (nat_le other.commit version.commit) refl (all_with_version P version versions is (All-tail P other versions all))
  where
    by : (b : Bool) → nat_le other.commit version.commit ≡ b → All P (add_version version versions) → All P (add_version version (other ∷ versions))
    by true e later = subst (All P) (ap (λ b. cond b (other ∷ add_version version versions) (version ∷ other ∷ versions)) (sym e)) (All-cons P other (add_version version versions) (All-head P other versions all) later)
    by false e later = subst (All P) (ap (λ b. cond b (other ∷ add_version version versions) (version ∷ other ∷ versions)) (sym e)) (All-cons P version (other ∷ versions) is all)
