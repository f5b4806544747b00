-- A row is of one pattern alone, and so there is one ask after the same answers.
use Rattle.std.proofs.Common.{◌≡◌, ℕ, inl, inr, List, [], ◌∷◌, Option, Some, None, ap, ap₂, sym, subst, ◌∙◌}
use Rattle.std.proofs.lemmas.Option.{same_Some}
use Rattle.pcj_term.specs.declared.triple.Triple.{Triple}
use Rattle.pcj_table.specs.Table.{Key}
use Rattle.pcj_table.specs.declared.pair.Pair.{Pair}
use Rattle.pcj_key.proofs.Keys.{injective}
use Rattle.pcj_encode.specs.declared.order.Order.{Order}
use Rattle.pcj_encode.specs.declared.key_name.KeyName.TheVariants as named
use Rattle.pcj_encode.specs.declared.task_name.TaskName.{TaskName}
use Rattle.pcj_encode.specs.declared.task_name.TaskName.TheVariants as task
use Rattle.pcj_encode.specs.Name.{key_of, IsTriple}
use Rattle.pcj_encode.proofs.Names.{names_one_row}
use Rattle.pcj_expr.specs.declared.mapping.Mapping.{Mapping}
use Rattle.pcj_algebra.specs.declared.triple_pattern.Slot.{Slot}
use Rattle.pcj_algebra.specs.declared.triple_pattern.TriplePattern.{TriplePattern}
use Rattle.pcj_algebra.specs.Match.{Matches, IsMatch}
use Rattle.pcj_algebra.proofs.OneMatch.{matches_once}
use Rattle.pcj_tree.specs.Stored.{slot_part}
use Rattle.pcj_tree.specs.Read.{IsSlot}
use Rattle.pcj_tree.specs.Reading.{slot_of}
use Rattle.pcj_tree.proofs.SlotLemmas.{slot_again}
use Rattle.pcj_notify.specs.declared.answer.Answer.{Answer}
use Rattle.pcj_notify.specs.declared.answer.Answer.TheVariants.{Got, Stepped, PlainDone}
use Rattle.pcj_notify.specs.declared.ask.Ask.{Ask}
use Rattle.pcj_notify.specs.declared.ask.Ask.TheVariants.{Get, Commit}
use Rattle.pcj_notify.specs.declared.task.Task.{Task}
use Rattle.pcj_notify.specs.Plans.{advance, row_writes, unless_found}
use Rattle.pcj_obs_pattern.specs.declared.row.PatternRow.{PatternRow}
use Rattle.pcj_obs_pattern.specs.Rows.{cells_of, row_parts, IsPatternRow}
use Rattle.pcj_obs_pattern.specs.Plan.{Meets, MeetsRow, IsTripleAsk, MeetsTriple, IsOverTriples, GoesOver, IsBackfillAsk, IsAskFor}
use Rattle.pcj_obs_pattern.specs.Reading.{row_of, MeetsAt, OverAt}
use Rattle.pcj_obs_pattern.specs.Laws.{AsksAreOne}

-- ---- what is asked of a row that was read

pub meets_row : (task : Task) (triple : Triple) (pair : Pair) (answers : List Answer) (known : Ask) (is : MeetsRow task triple pair answers known) (row : PatternRow) →
    row ≡ row_of is.registration is.node is.of is.order → (next : Key) → next ≡ pair.key → (ask : Ask) → MeetsAt task next row triple answers ask → MeetsRow task triple pair answers ask
meets_row task triple pair answers known is row same next at ask meets = record {
  registration = is.registration;
  node = is.node;
  of = is.of;
  order = is.order;
  is_row = is.is_row;
  meets = subst (λ (r : PatternRow). MeetsAt task pair.key r triple answers ask) same (subst (λ (key : Key). MeetsAt task key row triple answers ask) at meets);
}

-- the same row, where its key and its value are said in another way
pub row_seen : (registration node : ℕ) (of : TriplePattern) (order : List (List ℕ)) (key value key' value' : List ℕ) → IsPatternRow registration node of order key value → key' ≡ key → value' ≡ value → IsPatternRow registration node of order key' value'
row_seen registration node of order key value key' value' is at with_value = record {
  number = is.number;
  small = is.small;
  valid = is.valid;
  names = is.names;
  key_is = at ∙ is.key_is;
  value_is = with_value ∙ is.value_is;
}

pub goes_over : (task : Task) (registration node : ℕ) (value : List ℕ) (answers : List Answer) (known : Ask) (is : GoesOver task registration node value answers known) (row : PatternRow) →
    row ≡ row_of registration node is.of is.order → (ask : Ask) → OverAt task row answers ask → GoesOver task registration node value answers ask
goes_over task registration node value answers known is row same ask over = record {
  of = is.of;
  order = is.order;
  is_row = is.is_row;
  over = subst (λ (r : PatternRow). OverAt task r answers ask) same over;
}

-- ---- a match that is there

pub match_found : (of : TriplePattern) (triple : Triple) (mapping : Mapping) (found : Option Mapping) → Matches of triple mapping → IsMatch of triple found → found ≡ Some mapping
match_found of triple mapping (Some other) is match = ap Some (matches_once of triple other mapping match is)
match_found of triple mapping None is none = absurd (none mapping is)

-- ---- one row

same_slot : (slot other : Slot) → IsSlot slot → IsSlot other → slot_part slot ≡ slot_part other → slot ≡ other
same_slot slot other valid valid' e = same_Some slot other (sym (slot_again slot valid) ∙ ap slot_of e ∙ slot_again other valid')

same_pattern : (registration node registration' node' : ℕ) (of of' : TriplePattern) (order order' : List (List ℕ)) →
    named.Pattern registration node ≡ named.Pattern registration' node' → of.subject ≡ of'.subject → of.predicate ≡ of'.predicate → of.object ≡ of'.object → order ≡ order' →
    row_of registration node of order ≡ row_of registration' node' of' order'
same_pattern registration node registration' node' of of' order order' name s p o e =
    let number : registration ≡ registration' = cc in
    let small : node ≡ node' = cc in
    ap₂ (λ r n. row_of r n of order) number small
    ∙ ap₂ (λ x y. row_of registration' node' (record { subject = x; predicate = y; object = of.object }) order) s p
    ∙ ap₂ (λ x names. row_of registration' node' (record { subject = of'.subject; predicate = of'.predicate; object = x }) names) o e

-- a key and a value are those of one pattern's row
one_row : (registration node registration' node' : ℕ) (of of' : TriplePattern) (order order' : List (List ℕ)) (key value : List ℕ) →
    IsPatternRow registration node of order key value → IsPatternRow registration' node' of' order' key value → row_of registration node of order ≡ row_of registration' node' of' order'
one_row registration node registration' node' of of' order order' key value is other =
    let name = names_one_row (named.Pattern registration node) (named.Pattern registration' node') (is.number, is.small) (other.number, other.small) (sym is.key_is ∙ other.key_is) in
    let parts : row_parts of order ≡ row_parts of' order' = injective (row_parts of order) (row_parts of' order') (sym is.value_is ∙ other.value_is) in
    let s : slot_part of.subject ≡ slot_part of'.subject = cc in
    let p : slot_part of.predicate ≡ slot_part of'.predicate = cc in
    let o : slot_part of.object ≡ slot_part of'.object = cc in
    let names : order ≡ order' = cc in
    same_pattern registration node registration' node' of of' order order' name
    (same_slot of.subject of'.subject is.valid.0 other.valid.0 s)
    (same_slot of.predicate of'.predicate is.valid.1 other.valid.1 p)
    (same_slot of.object of'.object is.valid.2 other.valid.2 o)
    names

-- a key is that of one triple's row in an order
one_triple : (order : Order) (triple other : Triple) (key : List ℕ) → IsTriple triple → IsTriple other → key ≡ key_of (named.Triple order triple) → key ≡ key_of (named.Triple order other) → triple ≡ other
one_triple order triple other key valid valid' is is' = by (names_one_row (named.Triple order triple) (named.Triple order other) valid valid' (sym is ∙ is'))
  where
    by : named.Triple order triple ≡ named.Triple order other → triple ≡ other
    by e = cc

-- ---- one ask

meets_once : (task : Task) (next : Key) (registration node : ℕ) (of : TriplePattern) (order : List (List ℕ)) (triple : Triple) (answers : List Answer) (ask other : Ask) →
    Meets task next registration node of order triple answers ask → Meets task next registration node of order triple answers other → ask ≡ other
meets_once task next registration node of order triple [] ask other (inl (mapping, is, e)) (inl (mapping', is', e')) =
    e ∙ ap (λ (m : Mapping). Get (key_of (named.Node registration node (cells_of order m)))) (matches_once of triple mapping mapping' is is') ∙ sym e'
meets_once task next registration node of order triple [] ask other (inl (mapping, is, e)) (inr (none, e')) = absurd (none mapping is)
meets_once task next registration node of order triple [] ask other (inr (none, e)) (inl (mapping, is, e')) = absurd (none mapping is)
meets_once task next registration node of order triple [] ask other (inr (none, e)) (inr (none', e')) = e ∙ sym e'
meets_once task next registration node of order triple (Got found ∷ []) ask other (mapping, is, e) (mapping', is', e') =
    e ∙ ap (λ (m : Mapping). Commit (advance task next ∷ unless_found found (row_writes registration node (cells_of order m)))) (matches_once of triple mapping mapping' is is') ∙ sym e'
meets_once task next registration node of order triple (Got found ∷ answer ∷ answers) ask other none none' = absurd none
meets_once task next registration node of order triple (Stepped pair ∷ answers) ask other none none' = absurd none
meets_once task next registration node of order triple (PlainDone ∷ answers) ask other none none' = absurd none

meets_row_once : (task : Task) (triple : Triple) (pair : Pair) (answers : List Answer) (ask other : Ask) → MeetsRow task triple pair answers ask → MeetsRow task triple pair answers other → ask ≡ other
meets_row_once task triple pair answers ask other is is' =
    let same = one_row is.registration is.node is'.registration is'.node is.of is'.of is.order is'.order pair.key pair.value is.is_row is'.is_row in
    meets_once task pair.key is'.registration is'.node is'.of is'.order triple answers ask other (subst (λ (r : PatternRow). MeetsAt task pair.key r triple answers ask) same is.meets) is'.meets

triple_once : (task : Task) (triple : Triple) (answers : List Answer) (ask other : Ask) → IsTripleAsk task triple answers ask → IsTripleAsk task triple answers other → ask ≡ other
triple_once task triple [] ask other e e' = e ∙ sym e'
triple_once task triple (Stepped None ∷ []) ask other e e' = e ∙ sym e'
triple_once task triple (Stepped None ∷ answer ∷ answers) ask other none none' = absurd none
triple_once task triple (Stepped (Some pair) ∷ answers) ask other is is' = meets_row_once task triple pair answers ask other is is'
triple_once task triple (Got found ∷ answers) ask other none none' = absurd none
triple_once task triple (PlainDone ∷ answers) ask other none none' = absurd none

meets_triple_once : (task : Task) (registration node : ℕ) (of : TriplePattern) (order : List (List ℕ)) (pair : Pair) (answers : List Answer) (ask other : Ask) →
    MeetsTriple task registration node of order pair answers ask → MeetsTriple task registration node of order pair answers other → ask ≡ other
meets_triple_once task registration node of order pair answers ask other is is' =
    let same = one_triple _ is.triple is'.triple pair.key is.valid is'.valid is.is_row is'.is_row in
    meets_once task pair.key registration node of order is'.triple answers ask other (subst (λ (t : Triple). Meets task pair.key registration node of order t answers ask) same is.meets) is'.meets

over_once : (task : Task) (registration node : ℕ) (of : TriplePattern) (order : List (List ℕ)) (answers : List Answer) (ask other : Ask) →
    IsOverTriples task registration node of order answers ask → IsOverTriples task registration node of order answers other → ask ≡ other
over_once task registration node of order [] ask other e e' = e ∙ sym e'
over_once task registration node of order (Stepped None ∷ []) ask other e e' = e ∙ sym e'
over_once task registration node of order (Stepped None ∷ answer ∷ answers) ask other none none' = absurd none
over_once task registration node of order (Stepped (Some pair) ∷ answers) ask other is is' = meets_triple_once task registration node of order pair answers ask other is is'
over_once task registration node of order (Got found ∷ answers) ask other none none' = absurd none
over_once task registration node of order (PlainDone ∷ answers) ask other none none' = absurd none

goes_over_once : (task : Task) (registration node : ℕ) (value : List ℕ) (answers : List Answer) (ask other : Ask) →
    GoesOver task registration node value answers ask → GoesOver task registration node value answers other → ask ≡ other
goes_over_once task registration node value answers ask other is is' =
    let same = one_row registration node registration node is.of is'.of is.order is'.order _ value is.is_row is'.is_row in
    over_once task registration node is'.of is'.order answers ask other (subst (λ (r : PatternRow). OverAt task r answers ask) same is.over) is'.over

backfill_once : (task : Task) (registration node : ℕ) (answers : List Answer) (ask other : Ask) → IsBackfillAsk task registration node answers ask → IsBackfillAsk task registration node answers other → ask ≡ other
backfill_once task registration node [] ask other e e' = e ∙ sym e'
backfill_once task registration node (Got None ∷ answers) ask other none none' = absurd none
backfill_once task registration node (Got (Some value) ∷ answers) ask other is is' = goes_over_once task registration node value answers ask other is is'
backfill_once task registration node (Stepped pair ∷ answers) ask other none none' = absurd none
backfill_once task registration node (PlainDone ∷ answers) ask other none none' = absurd none

ask_once : (name : TaskName) (of : Task) (answers : List Answer) (ask other : Ask) → IsAskFor name of answers ask → IsAskFor name of answers other → ask ≡ other
ask_once (task.Triple triple) of answers ask other is is' = triple_once of triple answers ask other is.1 is'.1
ask_once (task.Backfill registration node) of answers ask other is is' = backfill_once of registration node answers ask other is.2 is'.2
ask_once (task.Row registration node cells) of answers ask other none none' = absurd none
ask_once (task.Export registration cells) of answers ask other none none' = absurd none

pub asks_are_one : AsksAreOne
asks_are_one task answers ask other is is' = ask_once task.name task answers ask other is is'
