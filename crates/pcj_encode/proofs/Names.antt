-- What is read from the parts of a key is a valid name that has these parts, and each valid name is read from its parts.
use Rattle.std.proofs.Common.{◌≡◌, ◌≢◌, ℕ, true, Option, Some, None, List, [], ◌∷◌, ◌++◌, length, take, refl, ap, sym, subst, ◌∙◌, arith}
use Rattle.std.specs.List.{list_all, slice_index_or}
use Rattle.std.specs.Option.{option_map}
use Rattle.std.proofs.lemmas.Option.{same_Some}
use Rattle.std.proofs.lemmas.List.{length-append}
use Rattle.std.proofs.Math.Seq.{take-append_seam, get_or-append_seam}
use Rattle.pcj_term.specs.declared.triple.Triple.{Triple}
use Rattle.pcj_term.proofs.OptionLemmas.{bind_some, map_some}
use Rattle.pcj_key.specs.Key as parts
use Rattle.pcj_key.proofs.Keys.{injective}
use Rattle.pcj_key.proofs.Ordered.{ordered}
use Rattle.pcj_encode.specs.declared.order.Order.{Order}
use Rattle.pcj_encode.specs.declared.order.Order.TheVariants.{Spo, Pos, Osp}
use Rattle.pcj_encode.specs.declared.task_name.TaskName.{TaskName}
use Rattle.pcj_encode.specs.declared.task_name.TaskName.TheVariants as task
use Rattle.pcj_encode.specs.declared.key_name.KeyName.{KeyName}
use Rattle.pcj_encode.specs.declared.key_name.KeyName.TheVariants as row
use Rattle.pcj_encode.specs.declared.tag.Tag.{Tag}
use Rattle.pcj_encode.specs.declared.tag.Tag.TheVariants as tag
use Rattle.pcj_encode.specs.declared.task_tag.TaskTag.{TaskTag}
use Rattle.pcj_encode.specs.declared.task_tag.TaskTag.TheVariants as task_tag
use Rattle.pcj_encode.specs.Name.{registration_part, node_part, triple_parts, task_parts, parts_of, IsRegistration, IsTriple, IsTask, IsName}
use Rattle.pcj_encode.specs.Read.{ReadsKey}
use Rattle.pcj_encode.specs.Laws.{NamesOneRow, ReadsBack, KindsAreApart, KeepsOrder}
use Rattle.pcj_encode.specs.Tag.{letter_of, task_letter_of, order_kind, kind_of, tag_of, task_tag_of}
use Rattle.pcj_encode.specs.Reading.{is_cell, registration_first, numbers_first, registered_cells, node_cells, triple_of, clock_of, triple_row_of, node_row_of, group_with, group_of, member_with, member_of, alone, registration_row_of, name_row_of, pattern_of, export_of, task_alone, backfill_of, tagged_task_of, task_of, row_of, name_of}
use Rattle.pcj_encode.proofs.Numbers.{registration_again}
use Rattle.pcj_encode.proofs.Cells.{cells_take, cells_again, cells_split, cells_joined}
use Rattle.pcj_encode.proofs.Tags.{tag_takes, tag_again, task_tag_takes}
use Rattle.pcj_encode.proofs.Several.{registration_first_takes, numbers_first_takes, registered_cells_take, node_cells_take, numbers_again, registered_cells_again, node_cells_again, triple_takes, spo_again, pos_again, osp_again}

-- ---- what is read

-- what is said of a name that was read from the parts after a tag
abbrev IsRead : Tag → List (List ℕ) → KeyName → Type 0
IsRead tag fields name = IsName name × (parts_of name ≡ letter_of tag ∷ fields)

abbrev put_first : List ℕ → List (List ℕ) → List (List ℕ)
put_first part fields = part ∷ fields

clock_takes : (fields : List (List ℕ)) (name : KeyName) → clock_of fields ≡ Some name → IsRead tag.Clock fields name
clock_takes [] name e = subst (IsRead tag.Clock []) (same_Some row.Clock name e) (tt, refl)
clock_takes (part ∷ fields) name e = absurd cc

triple_row_takes : (order : Order) (fields : List (List ℕ)) (name : KeyName) → triple_row_of order fields ≡ Some name → IsRead (order_kind order) fields name
triple_row_takes order fields name e =
    let read = map_some (row.Triple order) (triple_of order fields) name e in
    subst (IsRead (order_kind order) fields) read.2 (triple_takes order fields read.0 read.1)

node_row_takes : (fields : List (List ℕ)) (name : KeyName) → node_row_of fields ≡ Some name → IsRead tag.Node fields name
node_row_takes fields name e =
    let read = map_some _ (node_cells fields) name e in
    let known = node_cells_take fields read.0 read.1 in
    subst (IsRead tag.Node fields) read.2 ((known.0, known.1, cells_take ((read.0).2) known.2), ap (put_first (letter_of tag.Node)) known.3)

group_takes : (fields : List (List ℕ)) (name : KeyName) → group_of fields ≡ Some name → IsRead tag.Group fields name
group_takes fields name e =
    let read = bind_some (registered_cells fields) _ name e in
    let known = registered_cells_take fields read.0 read.1 in
    with ((read.0).0) ((read.0).1) known.0 known.1 known.2 read.2
  where
    with : (registration : ℕ) (cells : List (List ℕ)) → IsRegistration registration → list_all is_cell cells ≡ true → registration_part registration ∷ cells ≡ fields → group_with registration cells ≡ Some name → IsRead tag.Group fields name
    with registration [] r all is e = absurd cc
    with registration (cell ∷ cells) r all is e =
        subst (IsRead tag.Group fields) (same_Some (row.Group registration (cell ∷ cells)) name e)
        ((r, cells_take (cell ∷ cells) all, λ none. absurd cc), ap (put_first (letter_of tag.Group)) is)

-- a list that isn't empty is its front and its last item
front_and_last : (first : List ℕ) (cells : List (List ℕ)) → take (length cells) (first ∷ cells) ++ slice_index_or (first ∷ cells) (length cells) [] ∷ [] ≡ first ∷ cells
front_and_last first [] = refl
front_and_last first (next ∷ cells) = ap (put_first first) (front_and_last next cells)

member_takes : (fields : List (List ℕ)) (name : KeyName) → member_of fields ≡ Some name → IsRead tag.Member fields name
member_takes fields name e =
    let read = bind_some (registered_cells fields) _ name e in
    let known = registered_cells_take fields read.0 read.1 in
    with ((read.0).0) ((read.0).1) known.0 known.1 known.2 read.2
  where
    with : (registration : ℕ) (cells : List (List ℕ)) → IsRegistration registration → list_all is_cell cells ≡ true → registration_part registration ∷ cells ≡ fields → member_with registration cells ≡ Some name → IsRead tag.Member fields name
    with registration [] r all is e = absurd cc
    with registration (cell ∷ cells) r all is e =
        let front = take (length cells) (cell ∷ cells) in
        let term = slice_index_or (cell ∷ cells) (length cells) [] in
        let whole : front ++ term ∷ [] ≡ cell ∷ cells = front_and_last cell cells in
        let split = cells_split front term (ap (list_all is_cell) whole ∙ all) in
        subst (IsRead tag.Member fields) (same_Some (row.Member registration front term) name e)
        ((r, split.0, split.1), ap (λ (cs : List (List ℕ)). letter_of tag.Member ∷ registration_part registration ∷ cs) whole ∙ ap (put_first (letter_of tag.Member)) is)

pub alone_takes : (name found : KeyName) (fields : List (List ℕ)) → alone name fields ≡ Some found → (name ≡ found) × ([] ≡ fields)
alone_takes name found [] e = (same_Some name found e, refl)
alone_takes name found (part ∷ fields) e = absurd cc

registration_row_takes : (fields : List (List ℕ)) (name : KeyName) → registration_row_of fields ≡ Some name → IsRead tag.Registration fields name
registration_row_takes fields name e =
    let read = bind_some (registration_first fields) _ name e in
    let known = registration_first_takes fields read.0 read.1 in
    let end = alone_takes (row.Registration ((read.0).0)) name ((read.0).1) read.2 in
    subst (IsRead tag.Registration fields) end.0
    (known.0, ap (λ (rest : List (List ℕ)). letter_of tag.Registration ∷ registration_part ((read.0).0) ∷ rest) end.1 ∙ ap (put_first (letter_of tag.Registration)) known.1)

name_row_takes : (fields : List (List ℕ)) (name : KeyName) → name_row_of fields ≡ Some name → IsRead tag.Name fields name
name_row_takes [] name e = absurd cc
name_row_takes (part ∷ []) name e = subst (IsRead tag.Name (part ∷ [])) (same_Some (row.Name part) name e) (tt, refl)
name_row_takes (part ∷ next ∷ fields) name e = absurd cc

pattern_takes : (fields : List (List ℕ)) (name : KeyName) → pattern_of fields ≡ Some name → IsRead tag.Pattern fields name
pattern_takes fields name e =
    let read = bind_some (numbers_first fields) _ name e in
    let known = numbers_first_takes fields read.0 read.1 in
    let end = alone_takes (row.Pattern ((read.0).0) ((read.0).1)) name ((read.0).2) read.2 in
    subst (IsRead tag.Pattern fields) end.0
    ((known.0, known.1), ap (λ (rest : List (List ℕ)). letter_of tag.Pattern ∷ registration_part ((read.0).0) ∷ node_part ((read.0).1) ∷ rest) end.1 ∙ ap (put_first (letter_of tag.Pattern)) known.2)

export_takes : (fields : List (List ℕ)) (name : KeyName) → export_of fields ≡ Some name → IsRead tag.Export fields name
export_takes fields name e =
    let read = map_some _ (registered_cells fields) name e in
    let known = registered_cells_take fields read.0 read.1 in
    subst (IsRead tag.Export fields) read.2 ((known.0, cells_take ((read.0).1) known.1), ap (put_first (letter_of tag.Export)) known.2)

-- ---- tasks

abbrev IsReadTask : TaskTag → List (List ℕ) → TaskName → Type 0
IsReadTask tag fields name = IsTask name × (task_parts name ≡ task_letter_of tag ∷ fields)

-- a part in place of the first one
first_as : (part : List ℕ) {first : List ℕ} {parts fields : List (List ℕ)} → first ∷ parts ≡ first ∷ fields → part ∷ parts ≡ part ∷ fields
first_as part {first} {parts} {fields} e = ap (λ (ps : List (List ℕ)). part ∷ without_first ps) e
  where
    without_first : List (List ℕ) → List (List ℕ)
    without_first [] = []
    without_first (p ∷ ps) = ps

triple_task_takes : (fields : List (List ℕ)) (name : TaskName) → option_map task.Triple (triple_of Spo fields) ≡ Some name → IsReadTask task_tag.Triple fields name
triple_task_takes fields name e =
    let read = map_some task.Triple (triple_of Spo fields) name e in
    let known = triple_takes Spo fields read.0 read.1 in
    subst (IsReadTask task_tag.Triple fields) read.2 (known.0, first_as (task_letter_of task_tag.Triple) known.1)

task_alone_takes : (name found : TaskName) (fields : List (List ℕ)) → task_alone name fields ≡ Some found → (name ≡ found) × ([] ≡ fields)
task_alone_takes name found [] e = (same_Some name found e, refl)
task_alone_takes name found (part ∷ fields) e = absurd cc

backfill_takes : (fields : List (List ℕ)) (name : TaskName) → backfill_of fields ≡ Some name → IsReadTask task_tag.Backfill fields name
backfill_takes fields name e =
    let read = bind_some (numbers_first fields) _ name e in
    let known = numbers_first_takes fields read.0 read.1 in
    let end = task_alone_takes (task.Backfill ((read.0).0) ((read.0).1)) name ((read.0).2) read.2 in
    subst (IsReadTask task_tag.Backfill fields) end.0
    ((known.0, known.1), ap (λ (rest : List (List ℕ)). task_letter_of task_tag.Backfill ∷ registration_part ((read.0).0) ∷ node_part ((read.0).1) ∷ rest) end.1 ∙ ap (put_first (task_letter_of task_tag.Backfill)) known.2)

tagged_task_takes : (tag : TaskTag) (fields : List (List ℕ)) (name : TaskName) → tagged_task_of tag fields ≡ Some name → IsReadTask tag fields name
tagged_task_takes task_tag.Triple fields name e = triple_task_takes fields name e
tagged_task_takes task_tag.Backfill fields name e = backfill_takes fields name e
tagged_task_takes task_tag.Row fields name e =
    let read = map_some _ (node_cells fields) name e in
    let known = node_cells_take fields read.0 read.1 in
    subst (IsReadTask task_tag.Row fields) read.2 ((known.0, known.1, cells_take ((read.0).2) known.2), ap (put_first (task_letter_of task_tag.Row)) known.3)
tagged_task_takes task_tag.Export fields name e =
    let read = map_some _ (registered_cells fields) name e in
    let known = registered_cells_take fields read.0 read.1 in
    subst (IsReadTask task_tag.Export fields) read.2 ((known.0, cells_take ((read.0).1) known.1), ap (put_first (task_letter_of task_tag.Export)) known.2)

task_takes : (fields : List (List ℕ)) (name : TaskName) → task_of fields ≡ Some name → IsTask name × (task_parts name ≡ fields)
task_takes [] name e = absurd cc
task_takes (part ∷ fields) name e =
    let read = bind_some (task_tag_of part) _ name e in
    let known = tagged_task_takes read.0 fields name read.2 in
    (known.0, known.1 ∙ ap (λ (p : List ℕ). p ∷ fields) (task_tag_takes part read.0 read.1))

task_row_takes : (fields : List (List ℕ)) (name : KeyName) → option_map row.Task (task_of fields) ≡ Some name → IsRead tag.Task fields name
task_row_takes fields name e =
    let read = map_some row.Task (task_of fields) name e in
    let known = task_takes fields read.0 read.1 in
    subst (IsRead tag.Task fields) read.2 (known.0, ap (put_first (letter_of tag.Task)) known.1)

row_takes : (tag : Tag) (fields : List (List ℕ)) (name : KeyName) → row_of tag fields ≡ Some name → IsRead tag fields name
row_takes tag.Clock fields name e = clock_takes fields name e
row_takes tag.Spo fields name e = triple_row_takes Spo fields name e
row_takes tag.Pos fields name e = triple_row_takes Pos fields name e
row_takes tag.Osp fields name e = triple_row_takes Osp fields name e
row_takes tag.Node fields name e = node_row_takes fields name e
row_takes tag.Group fields name e = group_takes fields name e
row_takes tag.Member fields name e = member_takes fields name e
row_takes tag.Registration fields name e = registration_row_takes fields name e
row_takes tag.Name fields name e = name_row_takes fields name e
row_takes tag.Pattern fields name e = pattern_takes fields name e
row_takes tag.Task fields name e = task_row_takes fields name e
row_takes tag.Export fields name e = export_takes fields name e

pub name_takes : (all : List (List ℕ)) (name : KeyName) → name_of all ≡ Some name → IsName name × (parts_of name ≡ all)
name_takes [] name e = absurd cc
name_takes (part ∷ fields) name e =
    let read = bind_some (tag_of part) _ name e in
    let known = row_takes read.0 fields name read.2 in
    (known.0, known.1 ∙ ap (λ (p : List ℕ). p ∷ fields) (tag_takes part read.0 read.1))

-- ---- what is read again

task_again : (name : TaskName) → IsTask name → task_of (task_parts name) ≡ Some name
task_again (task.Triple t) v = ap (option_map task.Triple) (spo_again t v)
task_again (task.Backfill registration node) v = rw (numbers_again registration node [] v.0 v.1) refl
task_again (task.Row registration node cells) v = rw (node_cells_again registration node cells v.0 v.1 (cells_again cells v.2)) refl
task_again (task.Export registration cells) v = rw (registered_cells_again registration cells v.0 (cells_again cells v.1)) refl

triple_row_again : (order : Order) (t : Triple) → IsTriple t → name_of (triple_parts order t) ≡ Some (row.Triple order t)
triple_row_again Spo t v = ap (option_map (row.Triple Spo)) (spo_again t v)
triple_row_again Pos t v = ap (option_map (row.Triple Pos)) (pos_again t v)
triple_row_again Osp t v = ap (option_map (row.Triple Osp)) (osp_again t v)

group_again : (registration : ℕ) (cells : List (List ℕ)) → cells ≢ [] → group_with registration cells ≡ Some (row.Group registration cells)
group_again registration [] some = absurd (some refl)
group_again registration (cell ∷ cells) some = refl

member_again : (registration : ℕ) (cells : List (List ℕ)) (term : List ℕ) → member_with registration (cells ++ term ∷ []) ≡ Some (row.Member registration cells term)
member_again registration [] term = refl
member_again registration (cell ∷ cells) term =
    let long : length (cells ++ term ∷ []) ≡ length (cell ∷ cells) = length-append cells (term ∷ []) ∙ omega arith in
    rw long (rw (take-append_seam (cell ∷ cells) (term ∷ []), get_or-append_seam (cell ∷ cells) term [] []) refl)

pub name_again : (name : KeyName) → IsName name → name_of (parts_of name) ≡ Some name
name_again row.Clock v = refl
name_again (row.Triple order triple) v = triple_row_again order triple v
name_again (row.Node registration node cells) v = rw (node_cells_again registration node cells v.0 v.1 (cells_again cells v.2)) refl
name_again (row.Group registration cells) v = rw (registered_cells_again registration cells v.0 (cells_again cells v.1)) (group_again registration cells v.2)
name_again (row.Member registration cells term) v = rw (registered_cells_again registration (cells ++ term ∷ []) v.0 (cells_joined cells term v.1 v.2)) (member_again registration cells term)
name_again (row.Registration registration) v = rw (registration_again registration v) refl
name_again (row.Name name) v = refl
name_again (row.Pattern registration node) v = rw (numbers_again registration node [] v.0 v.1) refl
name_again (row.Task task) v = ap (option_map row.Task) (task_again task v)
name_again (row.Export registration cells) v = rw (registered_cells_again registration cells v.0 (cells_again cells v.1)) refl

-- ---- keys

pub reads_key : (key : List ℕ) (all : List (List ℕ)) (found : Option KeyName) → parts.key_of all ≡ key → found ≡ name_of all → ReadsKey key found
reads_key key all (Some name) is read =
    let known = name_takes all name (sym read) in (known.0, ap parts.key_of known.1 ∙ is)
reads_key key all None is read = λ name valid e.
    let same : parts_of name ≡ all = injective (parts_of name) all (e ∙ sym is) in
    let found : None ≡ Some name = read ∙ ap name_of (sym same) ∙ name_again name valid in
    absurd cc

pub names_one_row : NamesOneRow
names_one_row name other valid valid' e =
    same_Some name other (sym (name_again name valid) ∙ ap name_of (injective (parts_of name) (parts_of other) e) ∙ name_again other valid')

pub reads_back : ReadsBack
reads_back name (Some other) valid known = ap Some (names_one_row other name known.0 valid known.1)
reads_back name None valid known = absurd (known name valid refl)

-- ---- kinds and order

-- the parts of a name begin with the letter of its kind
letter_first : (name : KeyName) → (fields : List (List ℕ)) × (parts_of name ≡ letter_of (kind_of name) ∷ fields)
letter_first row.Clock = (_, refl)
letter_first (row.Triple Spo triple) = (_, refl)
letter_first (row.Triple Pos triple) = (_, refl)
letter_first (row.Triple Osp triple) = (_, refl)
letter_first (row.Node registration node cells) = (_, refl)
letter_first (row.Group registration cells) = (_, refl)
letter_first (row.Member registration cells term) = (_, refl)
letter_first (row.Registration registration) = (_, refl)
letter_first (row.Name name) = (_, refl)
letter_first (row.Pattern registration node) = (_, refl)
letter_first (row.Task task) = (_, refl)
letter_first (row.Export registration cells) = (_, refl)

abbrev first_tag : List (List ℕ) → Option Tag
first_tag [] = None
first_tag (part ∷ fields) = tag_of part

pub kinds_are_apart : KindsAreApart
kinds_are_apart name other e =
    let one = letter_first name in
    let two = letter_first other in
    let same : letter_of (kind_of name) ∷ one.0 ≡ letter_of (kind_of other) ∷ two.0 = sym one.1 ∙ injective (parts_of name) (parts_of other) e ∙ two.1 in
    let tags : tag_of (letter_of (kind_of name)) ≡ tag_of (letter_of (kind_of other)) = ap first_tag same in
    same_Some (kind_of name) (kind_of other) (sym (tag_again (kind_of name)) ∙ tags ∙ tag_again (kind_of other))

pub keeps_order : KeepsOrder
keeps_order name other = ordered (parts_of name) (parts_of other)
