-- The names of a kind are those whose parts begin as the kind's do, and so their keys are a range.
use Rattle.std.proofs.Common.{◌≡◌, ◌≢◌, ℕ, ◌<◌, Option, Some, List, [], ◌∷◌, ◌++◌, length, refl, ap, sym, subst, ◌∙◌, arith}
use Rattle.std.specs.List.{flat_map}
use Rattle.std.specs.Option.{option_map}
use Rattle.std.proofs.lemmas.List.{length-append}
use Rattle.std.proofs.lemmas.Option.{same_Some, cond_some}
use Rattle.pcj_term.specs.Reading.{◌>>=◌}
use Rattle.pcj_term.proofs.OptionLemmas.{bind_some, map_some}
use Rattle.pcj_key.specs.Key as parts
use Rattle.pcj_key.specs.Key.{byte_key}
use Rattle.pcj_key.specs.Order.{BeginsWith}
use Rattle.pcj_key.proofs.Ranges.{holds_bytes, holds_keys}
use Rattle.pcj_encode.specs.declared.order.Order.TheVariants.{Spo}
use Rattle.pcj_encode.specs.declared.key_name.KeyName.{KeyName}
use Rattle.pcj_encode.specs.declared.key_name.KeyName.TheVariants as row
use Rattle.pcj_encode.specs.Name.{registration_part, node_part, parts_of}
use Rattle.pcj_encode.specs.Range.{RangeKind, nodes, exports, patterns, tasks, registrations, triples, groups, IsOfKind, front_of, IsNumbered, RangesHoldNames, RangesHoldBytes}
use Rattle.pcj_encode.specs.Reading.{cells_of, registration_first, numbers_first, triple_of, group_with, task_of, name_of}
use Rattle.pcj_encode.proofs.Numbers.{registration_again, node_again}
use Rattle.pcj_encode.proofs.Names.{name_again, alone_takes}

-- the parts of a name of the kind begin as the kind's do
begins : (kind : RangeKind) (name : KeyName) → IsOfKind kind name → BeginsWith (front_of kind) (parts_of name)
begins (nodes registration node cells) name (more, is) = (more, ap parts_of is)
begins (exports registration) name (cells, is) = (cells, ap parts_of is)
begins patterns name (registration, node, is) = (registration_part registration ∷ node_part node ∷ [], ap parts_of is)
begins tasks name (task, is) = subst (λ (n : KeyName). BeginsWith (front_of tasks) (parts_of n)) (sym is) (_, refl)
begins registrations name (registration, is) = (registration_part registration ∷ [], ap parts_of is)
begins triples name (triple, is) = subst (λ (n : KeyName). BeginsWith (front_of triples) (parts_of n)) (sym is) (_, refl)
begins (groups registration) name (cells, is) = (cells, ap parts_of is)

-- ---- the names that are read from a registration's number, or that and a node's, and cells

abbrev NodeNumbered : Type 0
NodeNumbered = ℕ × ℕ × List (List ℕ)

abbrev Numbered : Type 0
Numbered = ℕ × List (List ℕ)

abbrev at_node : ℕ → ℕ → List (List ℕ) → NodeNumbered
at_node registration node cells = (registration, node, cells)

abbrev at_registration : ℕ → List (List ℕ) → Numbered
at_registration registration cells = (registration, cells)

abbrev group_name : Numbered → Option KeyName
group_name found = group_with found.0 found.1

abbrev node_name : NodeNumbered → KeyName
node_name found = row.Node found.0 found.1 found.2

abbrev export_name : Numbered → KeyName
export_name found = row.Export found.0 found.1

node_is : (registration node : ℕ) (cells : List (List ℕ)) (name : KeyName) → option_map node_name (option_map (at_node registration node) (cells_of cells)) ≡ Some name → name ≡ row.Node registration node cells
node_is registration node cells name e =
    let read = map_some node_name _ name e in
    let inner = map_some (at_node registration node) (cells_of cells) read.0 read.1 in
    let tested = cond_some _ cells inner.0 inner.1 in
    let same : at_node registration node cells ≡ read.0 = ap (at_node registration node) tested.1 ∙ inner.2 in
    sym (ap node_name same ∙ read.2)

export_is : (registration : ℕ) (cells : List (List ℕ)) (name : KeyName) → option_map export_name (option_map (at_registration registration) (cells_of cells)) ≡ Some name → name ≡ row.Export registration cells
export_is registration cells name e =
    let read = map_some export_name _ name e in
    let inner = map_some (at_registration registration) (cells_of cells) read.0 read.1 in
    let tested = cond_some _ cells inner.0 inner.1 in
    let same : at_registration registration cells ≡ read.0 = ap (at_registration registration) tested.1 ∙ inner.2 in
    sym (ap export_name same ∙ read.2)

group_is : (registration : ℕ) (cells : List (List ℕ)) (name : KeyName) → (option_map (at_registration registration) (cells_of cells) >>= group_name) ≡ Some name → name ≡ row.Group registration cells
group_is registration cells name e =
    let read = bind_some (option_map (at_registration registration) (cells_of cells)) group_name name e in
    let inner = map_some (at_registration registration) (cells_of cells) read.0 read.1 in
    let tested = cond_some _ cells inner.0 inner.1 in
    let same : at_registration registration cells ≡ read.0 = ap (at_registration registration) tested.1 ∙ inner.2 in
    some cells (subst (λ (found : Numbered). group_name found ≡ Some name) (sym same) read.2)
  where
    some : (cells : List (List ℕ)) → group_with registration cells ≡ Some name → name ≡ row.Group registration cells
    some [] none = absurd cc
    some (cell ∷ cells) known = sym (same_Some (row.Group registration (cell ∷ cells)) name known)

-- what is read from parts that begin as the kind's do is a name of the kind
is_of : (kind : RangeKind) (name : KeyName) (rest : List (List ℕ)) → IsNumbered kind → name_of (front_of kind ++ rest) ≡ Some name → IsOfKind kind name
is_of (nodes registration node cells) name rest numbered e =
    (rest, node_is registration node (cells ++ rest) name (rw (registration_again registration numbered.0, node_again node numbered.1) at e))
is_of (exports registration) name rest numbered e =
    (rest, export_is registration rest name (rw (registration_again registration numbered) at e))
is_of patterns name rest numbered e =
    let read = bind_some (numbers_first rest) _ name e in
    ((read.0).0, (read.0).1, sym (alone_takes (row.Pattern ((read.0).0) ((read.0).1)) name ((read.0).2) read.2).0)
is_of tasks name rest numbered e =
    let read = map_some row.Task (task_of rest) name e in
    (read.0, sym read.2)
is_of registrations name rest numbered e =
    let read = bind_some (registration_first rest) _ name e in
    ((read.0).0, sym (alone_takes (row.Registration ((read.0).0)) name ((read.0).1) read.2).0)
is_of triples name rest numbered e =
    let read = map_some (row.Triple Spo) (triple_of Spo rest) name e in
    (read.0, sym read.2)
is_of (groups registration) name rest numbered e =
    (rest, group_is registration rest name (rw (registration_again registration numbered) at e))

some_front : (kind : RangeKind) → front_of kind ≢ []
some_front (nodes registration node cells) = λ e. absurd cc
some_front (exports registration) = λ e. absurd cc
some_front patterns = λ e. absurd cc
some_front tasks = λ e. absurd cc
some_front registrations = λ e. absurd cc
some_front triples = λ e. absurd cc
some_front (groups registration) = λ e. absurd cc

pub hold_names : RangesHoldNames
hold_names kind name numbered valid =
    let range = holds_keys (front_of kind) (parts_of name) (some_front kind) in (
      λ known. range.0 (begins kind name known),
      λ between. let begun = range.1 between in is_of kind name begun.0 numbered (ap name_of (sym begun.1) ∙ name_again name valid),
    )

pub hold_bytes : RangesHoldBytes
hold_bytes kind bytes = holds_bytes (front_of kind) bytes (some_front kind)

-- the key of one part or more isn't empty
pub some_key : (front : List (List ℕ)) → front ≢ [] → 0 < length (parts.key_of front)
some_key [] some = absurd (some refl)
some_key (part ∷ front) some =
    let long = length-append (flat_map byte_key part) (0 ∷ parts.key_of front) in omega arith
