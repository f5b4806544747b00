-- What a registration writes.
use Rattle.std.proofs.Common.{◌≡◌, ◌≢◌, inl, ◌<◌, ◌≤◌, ◌+◌, ◌^◌, ℕ, zero, suc, true, List, [], ◌∷◌, ◌++◌, length, Option, Some, None, refl, ap, sym, subst, ◌∙◌, arith}
use Rattle.std.proofs.lemmas.List.{length-append}
use Rattle.std.specs.Option.{option_map}
use Rattle.pcj_term.proofs.ByteLemmas.{same_bytes_itself}
use Rattle.pcj_table.specs.declared.write.Write.{Write}
use Rattle.pcj_encode.specs.declared.task_name.TaskName.TheVariants as task
use Rattle.pcj_encode.specs.declared.key_name.KeyName.{KeyName}
use Rattle.pcj_encode.specs.declared.key_name.KeyName.TheVariants as row
use Rattle.pcj_encode.specs.Name.{IsName, IsNode, IsRegistration, key_of, registration_part}
use Rattle.pcj_algebra.specs.declared.pattern.Pattern.{Pattern}
use Rattle.pcj_tree.specs.declared.node.Node.{Node}
use Rattle.pcj_tree.specs.declared.node.NodeKind.{NodeKind}
use Rattle.pcj_tree.specs.declared.node.NodeKind.TheVariants as kind
use Rattle.pcj_tree.specs.declared.tree.Tree.{Tree}
use Rattle.pcj_tree.specs.Meaning.{numbered}
use Rattle.pcj_tree.specs.Tree.{AreNodes, filtered, joined, size_of, triple, united}
use Rattle.pcj_tree.proofs.StoredLaws.{size_filter, size_join, size_triple, size_union}
use Rattle.pcj_moves.specs.Transactions.{are_distinct, write_at}
use Rattle.pcj_rows.specs.Names.{IsGranted}
use Rattle.pcj_rows.specs.Plans.{nodes_writes, pattern_writes, put_mark, put_value, registration_writes}
use Rattle.pcj_rows.specs.Registrations.{IsQueryTree, pattern_at, pattern_value, registration_value, value_of}
use Rattle.pcj_rows.specs.Values.{IsValue}
use Rattle.pcj_rows.proofs.WriteLemmas.{CanWrite, EachWrite, IsNamed, keys_differ, none_written}

-- ---- how many nodes there are

long_one : (nodes : List Node) (node : Node) → length (nodes ++ node ∷ []) ≡ length nodes + 1
long_one nodes node = length-append nodes (node ∷ [])

long_pair : (lefts rights : List Node) (node : Node) → length (lefts ++ (rights ++ node ∷ [])) ≡ length lefts + length rights + 1
long_pair lefts rights node = let both = length-append lefts (rights ++ node ∷ []) in let more = long_one rights node in omega (arith, both, more)

nodes_long : {p : Pattern} {before parent : ℕ} {sibling : Option Pattern} {nodes : List Node} → AreNodes p before parent sibling nodes → length nodes ≡ size_of p
nodes_long (triple of order) = sym (size_triple of)
nodes_long (joined {lefts = lefts} {rights = rights} left right first second l r order) =
    long_pair lefts rights _ ∙ (let size = size_join left right in let ls = nodes_long l in let rs = nodes_long r in omega (arith, size, ls, rs))
nodes_long (filtered {inners = inners} condition inner first i order) = long_one inners _ ∙ (let size = size_filter condition inner in let ones = nodes_long i in omega (arith, size, ones))
nodes_long (united {lefts = lefts} {rights = rights} left right first second l r order) =
    long_pair lefts rights _ ∙ (let size = size_union left right in let ls = nodes_long l in let rs = nodes_long r in omega (arith, size, ls, rs))

pub tree_fits : (tree : Tree) → IsQueryTree tree → 1 + length tree.nodes ≤ 2 ^ 16
tree_fits tree is =
    let long : length tree.nodes ≡ length is.is.parts + 1 = ap length is.is.nodes ∙ long_one is.is.parts _ in
    let parts = nodes_long is.is.are_parts in
    let small = is.storable.numbers in
    omega (arith, long, parts, small)

-- ---- the names of the rows

nodes_names : (P : KeyName → Type 0) (registration number : ℕ) (nodes : List Node) → IsRegistration registration → number + length nodes ≤ 2 ^ 16 →
    ((node : ℕ) → number ≤ node → P (row.Pattern registration node)) → ((node : ℕ) → number ≤ node → P (row.Task (task.Backfill registration node))) → EachWrite (IsNamed P) (nodes_writes registration number nodes)
nodes_names P registration number [] is fits pattern backfill = tt
nodes_names P registration number (node ∷ nodes) is fits pattern backfill =
    by (value_of (Some node))
    (nodes_names P registration (suc number) nodes is (omega (arith, fits)) (λ later le. pattern later (omega (arith, le))) (λ later le. backfill later (omega (arith, le))))
  where
    small : number < 2 ^ 16
    small = omega (arith, fits)

    by : (found : Option (List ℕ)) → EachWrite (IsNamed P) (nodes_writes registration (suc number) nodes) → EachWrite (IsNamed P) (pattern_writes registration number found ++ nodes_writes registration (suc number) nodes)
    by None rest = rest
    by (Some value) rest = (
      (row.Pattern registration number, (is, small), refl, pattern number (omega arith)),
      ((row.Task (task.Backfill registration number), (is, small), refl, backfill number (omega arith)), rest),
    )

pub register_names : (P : KeyName → Type 0) (registration : ℕ) (name : List ℕ) (tree : Tree) → IsRegistration registration → IsQueryTree tree → P (row.Name name) → P (row.Registration registration) →
    ((node : ℕ) → P (row.Pattern registration node)) → ((node : ℕ) → P (row.Task (task.Backfill registration node))) → EachWrite (IsNamed P) (registration_writes registration name tree)
register_names P registration name tree number is named own pattern backfill = (
  (row.Name name, tt, refl, named),
  ((row.Registration registration, number, refl, own), nodes_names P registration 1 tree.nodes number (tree_fits tree is) (λ node le. pattern node) (λ node le. backfill node)),
)

-- ---- the rows of patterns, and their tasks

pub data Part : Type 0 where
  as_pattern : Part
  as_backfill : Part

abbrev pub part_name : Part → ℕ → ℕ → KeyName
part_name as_pattern registration node = row.Pattern registration node
part_name as_backfill registration node = row.Task (task.Backfill registration node)

abbrev pub part_write : Part → ℕ → ℕ → List ℕ → Write
part_write as_pattern registration node value = put_value (key_of (row.Pattern registration node)) value
part_write as_backfill registration node value = put_mark (key_of (row.Task (task.Backfill registration node)))

pub part_valid : (part : Part) (registration node : ℕ) → IsRegistration registration → IsNode node → IsName (part_name part registration node)
part_valid as_pattern registration node is small = (is, small)
part_valid as_backfill registration node is small = (is, small)

pattern_apart : (part : Part) (registration node other : ℕ) → node ≢ other → row.Pattern registration other ≢ part_name part registration node
pattern_apart as_pattern registration node other differs e = differs (let same : other ≡ node = cc in sym same)
pattern_apart as_backfill registration node other differs e = cc

backfill_apart : (part : Part) (registration node other : ℕ) → node ≢ other → row.Task (task.Backfill registration other) ≢ part_name part registration node
backfill_apart as_pattern registration node other differs e = cc
backfill_apart as_backfill registration node other differs e = differs (let same : other ≡ node = cc in sym same)

-- those of nodes that come later aren't written at this one
later_nodes : (registration number : ℕ) (nodes : List Node) (part : Part) (node : ℕ) → IsRegistration registration → number + length nodes ≤ 2 ^ 16 → IsNode node → node < number →
    write_at (nodes_writes registration number nodes) (key_of (part_name part registration node)) ≡ None
later_nodes registration number nodes part node is fits small lt =
    none_written (nodes_writes registration number nodes) (part_name part registration node) (part_valid part registration node is small)
    (nodes_names (λ other. other ≢ part_name part registration node) registration number nodes is fits
    (λ other le. pattern_apart part registration node other (λ same. omega (arith, lt, le, same)))
    (λ other le. backfill_apart part registration node other (λ same. omega (arith, lt, le, same))))

-- what is written of a node
node_written : (registration number : ℕ) (nodes : List Node) (part : Part) (node place : ℕ) → IsRegistration registration → number + length nodes ≤ 2 ^ 16 → IsNode node → node ≡ number + place →
    write_at (nodes_writes registration number nodes) (key_of (part_name part registration node)) ≡ option_map (part_write part registration node) (value_of (numbered nodes (suc place)))
node_written registration number [] part node place is fits small e = refl
node_written registration number (first ∷ nodes) part node zero is fits small e = by part (value_of (Some first)) (later_nodes registration (suc number) nodes part node is (omega (arith, fits)) small (omega (arith, e)))
  where
    same : node ≡ number
    same = omega (arith, e)

    by : (p : Part) (found : Option (List ℕ)) → write_at (nodes_writes registration (suc number) nodes) (key_of (part_name p registration node)) ≡ None →
        write_at (pattern_writes registration number found ++ nodes_writes registration (suc number) nodes) (key_of (part_name p registration node)) ≡ option_map (part_write p registration node) found
    by p None rest = rest
    by as_pattern (Some value) rest =
        subst (λ n. write_at (pattern_writes registration n (Some value) ++ nodes_writes registration (suc number) nodes) (key_of (row.Pattern registration node)) ≡ Some (part_write as_pattern registration node value)) same
        (rw (same_bytes_itself (key_of (row.Pattern registration node))) refl)
    by as_backfill (Some value) rest =
        subst (λ n. write_at (pattern_writes registration n (Some value) ++ nodes_writes registration (suc number) nodes) (key_of (row.Task (task.Backfill registration node))) ≡ Some (part_write as_backfill registration node value)) same
        (rw (same_bytes_itself (key_of (row.Task (task.Backfill registration node)))) refl)
node_written registration number (first ∷ nodes) part node (suc place) is fits small e =
    by (value_of (Some first)) (node_written registration (suc number) nodes part node place is (omega (arith, fits)) small (omega (arith, e)))
  where
    apart : node ≢ number
    apart same = omega (arith, e, same)

    under : IsNode number
    under = omega (arith, fits)

    found_later : Option Write
    found_later = option_map (part_write part registration node) (value_of (numbered nodes (suc place)))

    by : (found : Option (List ℕ)) → write_at (nodes_writes registration (suc number) nodes) (key_of (part_name part registration node)) ≡ found_later →
        write_at (pattern_writes registration number found ++ nodes_writes registration (suc number) nodes) (key_of (part_name part registration node)) ≡ found_later
    by None later = later
    by (Some value) later = rw (
      keys_differ (part_name part registration node) (row.Pattern registration number) (part_valid part registration node is small) (is, under) (λ same. pattern_apart part registration node number apart (sym same)),
      keys_differ (part_name part registration node) (row.Task (task.Backfill registration number)) (part_valid part registration node is small) (is, under) (λ same. backfill_apart part registration node number apart (sym same)),
    ) later

-- ---- what is written of each row

pub name_written : (registration : ℕ) (name : List ℕ) (tree : Tree) →
    write_at (registration_writes registration name tree) (key_of (row.Name name)) ≡ Some (put_value (key_of (row.Name name)) (registration_part registration))
name_written registration name tree = rw (same_bytes_itself (key_of (row.Name name))) refl

pub own_written : (registration : ℕ) (name : List ℕ) (tree : Tree) →
    write_at (registration_writes registration name tree) (key_of (row.Registration registration)) ≡ Some (put_value (key_of (row.Registration registration)) (registration_value name tree))
own_written registration name tree = rw (same_bytes_itself (key_of (row.Registration registration))) refl

pub part_written : (registration : ℕ) (name : List ℕ) (tree : Tree) (part : Part) (node : ℕ) → IsRegistration registration → IsQueryTree tree → IsNode node →
    write_at (registration_writes registration name tree) (key_of (part_name part registration node)) ≡ option_map (part_write part registration node) (pattern_at tree node)
part_written registration name tree part node number is small = rw (
  keys_differ (part_name part registration node) (row.Name name) (part_valid part registration node number small) tt (no_name part),
  keys_differ (part_name part registration node) (row.Registration registration) (part_valid part registration node number small) number (no_registration part),
) (at node refl)
  where
    no_name : (p : Part) → part_name p registration node ≢ row.Name name
    no_name as_pattern e = cc
    no_name as_backfill e = cc

    no_registration : (p : Part) → part_name p registration node ≢ row.Registration registration
    no_registration as_pattern e = cc
    no_registration as_backfill e = cc

    none : (nodes : List Node) → numbered nodes zero ≡ None
    none [] = refl
    none (first ∷ nodes) = refl

    at : (n : ℕ) → node ≡ n → write_at (nodes_writes registration 1 tree.nodes) (key_of (part_name part registration node)) ≡ option_map (part_write part registration node) (value_of (numbered tree.nodes n))
    at zero e = later_nodes registration 1 tree.nodes part node number (tree_fits tree is) small (omega (arith, e)) ∙ ap (λ found. option_map (part_write part registration node) (value_of found)) (sym (none tree.nodes))
    at (suc place) e = node_written registration 1 tree.nodes part node place number (tree_fits tree is) small (omega (arith, e))

-- ---- what may be written

pattern_holds : (next registration node : ℕ) (of : NodeKind) (order : List (List ℕ)) (value : List ℕ) → pattern_value of order ≡ Some value → IsValue next (row.Pattern registration node) value
pattern_holds next registration node (kind.Pattern of) order value e =
    (Rattle.pcj_tree.specs.Stored.slot_part of.subject, Rattle.pcj_tree.specs.Stored.slot_part of.predicate, Rattle.pcj_tree.specs.Stored.slot_part of.object, order, (cc))
pattern_holds next registration node (kind.Join left right) order value e = absurd cc
pattern_holds next registration node (kind.Filter child condition) order value e = absurd cc
pattern_holds next registration node (kind.Union left right) order value e = absurd cc
pattern_holds next registration node (kind.Project child) order value e = absurd cc
pattern_holds next registration node (kind.Group child aggregate var) order value e = absurd cc

can_nodes : (next registration number : ℕ) (nodes : List Node) → IsGranted next registration → IsRegistration registration → number + length nodes ≤ 2 ^ 16 → EachWrite (CanWrite next registration) (nodes_writes registration number nodes)
can_nodes next registration number [] begun is fits = tt
can_nodes next registration number (node ∷ nodes) begun is fits = by (value_of (Some node)) refl (can_nodes next registration (suc number) nodes begun is (omega (arith, fits)))
  where
    small : number < 2 ^ 16
    small = omega (arith, fits)

    by : (found : Option (List ℕ)) → value_of (Some node) ≡ found → EachWrite (CanWrite next registration) (nodes_writes registration (suc number) nodes) →
        EachWrite (CanWrite next registration) (pattern_writes registration number found ++ nodes_writes registration (suc number) nodes)
    by None e rest = rest
    by (Some value) e rest = (
      record {
        begun = begun;
        name = row.Pattern registration number;
        valid = (is, small);
        granted = begun;
        is = refl;
        written = refl;
        value = pattern_holds next registration number node.kind node.order value e;
      },
      (record { begun = begun; name = row.Task (task.Backfill registration number); valid = (is, small); granted = begun; is = refl; written = refl; value = inl refl }, rest),
    )

pub can_register : (next registration : ℕ) (name : List ℕ) (tree : Tree) → IsGranted next registration → IsRegistration registration → IsQueryTree tree → EachWrite (CanWrite next registration) (registration_writes registration name tree)
can_register next registration name tree begun number is = (
  record { begun = begun; name = row.Name name; valid = tt; granted = tt; is = refl; written = refl; value = (registration, begun, refl) },
  (
    record { begun = begun; name = row.Registration registration; valid = number; granted = begun; is = refl; written = refl; value = (name, tree, is, refl) },
    can_nodes next registration 1 tree.nodes begun number (tree_fits tree is),
  ),
)

-- ---- distinct rows

nodes_distinct : (registration number : ℕ) (nodes : List Node) → IsRegistration registration → number + length nodes ≤ 2 ^ 16 → are_distinct (nodes_writes registration number nodes) ≡ true
nodes_distinct registration number [] is fits = refl
nodes_distinct registration number (node ∷ nodes) is fits = by (value_of (Some node)) (nodes_distinct registration (suc number) nodes is (omega (arith, fits)))
  where
    small : IsNode number
    small = omega (arith, fits)

    by : (found : Option (List ℕ)) → are_distinct (nodes_writes registration (suc number) nodes) ≡ true → are_distinct (pattern_writes registration number found ++ nodes_writes registration (suc number) nodes) ≡ true
    by None rest = rest
    by (Some value) rest = rw (
      keys_differ (row.Pattern registration number) (row.Task (task.Backfill registration number)) (is, small) (is, small) (λ e. cc),
      later_nodes registration (suc number) nodes as_pattern number is (omega (arith, fits)) small (omega arith),
      later_nodes registration (suc number) nodes as_backfill number is (omega (arith, fits)) small (omega arith),
    ) rest

pub registration_distinct : (registration : ℕ) (name : List ℕ) (tree : Tree) → IsRegistration registration → IsQueryTree tree → are_distinct (registration_writes registration name tree) ≡ true
registration_distinct registration name tree number is = rw (
  keys_differ (row.Name name) (row.Registration registration) tt number (λ e. cc),
  none_written (nodes_writes registration 1 tree.nodes) (row.Name name) tt
      (nodes_names (λ other. other ≢ row.Name name) registration 1 tree.nodes number (tree_fits tree is) (λ node le e. cc) (λ node le e. cc)),
  none_written (nodes_writes registration 1 tree.nodes) (row.Registration registration) number
      (nodes_names (λ other. other ≢ row.Registration registration) registration 1 tree.nodes number (tree_fits tree is) (λ node le e. cc) (λ node le e. cc)),
) (nodes_distinct registration 1 tree.nodes number (tree_fits tree is))
