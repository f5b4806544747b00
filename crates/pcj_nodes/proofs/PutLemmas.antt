-- Rows that are put once stay put.
use Rattle.std.proofs.Common.{◌≡◌, ◌≢◌, ◌⊎◌, inl, inr, ◌<◌, ℕ, Bool, true, false, nat_le, ◌||◌, List, [], ◌∷◌, Option, Some, None, refl, ap, sym, subst, ◌∙◌}
use Rattle.std.proofs.lemmas.Bool.{leb-false, leb-true}
use Rattle.std.specs.List.{Contains}
use Rattle.std.specs.Option.{option_map}
use Rattle.pcj_term.proofs.ByteLemmas.{same_bytes_itself}
use Rattle.pcj_term.proofs.ListLemmas.{first_there, later_there}
use Rattle.pcj_term.proofs.Same.{same_triple_true}
use Rattle.pcj_term.specs.declared.triple.Triple.{Triple}
use Rattle.pcj_term.specs.Triple.{same_triple}
use Rattle.pcj_table.specs.Table.{Key}
use Rattle.pcj_table.specs.declared.write.Write.{Write}
use Rattle.pcj_encode.specs.declared.order.Order.{Order}
use Rattle.pcj_encode.specs.declared.order.Order.TheVariants.{Spo, Pos, Osp}
use Rattle.pcj_encode.specs.declared.key_name.KeyName.TheVariants as row
use Rattle.pcj_encode.specs.Name.{IsName, IsNode, IsRegistration, IsTriple, key_of}
use Rattle.pcj_rowtables.specs.Rows.{triple_key}
use Rattle.pcj_tree.specs.declared.tree.Tree.{Tree}
use Rattle.pcj_mvcc.specs.Laws.{IsWritten, SameStanding}
use Rattle.pcj_mvcc.specs.Reading.{Put, Rows, seen, standing}
use Rattle.pcj_moves.specs.StandingLaws.{StandsWhole}
use Rattle.pcj_moves.specs.Transactions.{write_at}
use Rattle.pcj_moves.specs.declared.answer.Answer.{Answer}
use Rattle.pcj_moves.specs.declared.answer.Answer.TheVariants.{OfRange, OfRow}
use Rattle.pcj_moves.proofs.ActorLemmas.{by_number}
use Rattle.pcj_rows.specs.Plans.{AreReadOf, IsLoadPlan, IsRegisterPlan, absent_of}
use Rattle.pcj_rows.specs.Registrations.{RegistrationsStand, pattern_at, registration_value}
use Rattle.pcj_rows.specs.Reads.{IsMissedIn}
use Rattle.pcj_rows.specs.Triples.{AtomicRows}
use Rattle.pcj_rows.proofs.PlanLemmas.{Mark, absent_all, as_task, by_order, is_among, mark_name, mark_written, written_by}
use Rattle.pcj_rows.proofs.RegisterLemmas.{as_pattern, own_written, part_write, part_written}
use Rattle.pcj_rows.proofs.RegisteredLemmas.{Registers}
use Rattle.pcj_nodes.specs.Commits.{Commits}
use Rattle.pcj_duties.specs.Observers.{HasPurpose}
use Rattle.pcj_nodes.specs.Puts.{PutsStay, StaysPut}
use Rattle.pcj_duties.proofs.PurposeLemmas.{AddsNode, load_leaves, node_written, register_leaves, work_leaves}
use Rattle.pcj_nodes.proofs.ViewLemmas.{missed_is_free}

-- ---- one row

pub stays_same : (before after : Rows) (key : Key) → SameStanding before after key → StaysPut before key → StaysPut after key
stays_same before after key same stays at put is = same.stands ∙ stays at put (sym (same.sees at) ∙ is)

-- a row in which nothing stood
pub stays_written : (before after : Rows) (key : Key) (value : List ℕ) (commit : ℕ) → ((other : Key) (at : ℕ) → at < commit → seen after other at ≡ seen before other at) → IsWritten after key (Some value) commit → standing before key ≡ None →
    StaysPut before key → StaysPut after key
stays_written before after key value commit earlier written none stays at put is = by (nat_le commit at) refl
  where
    by : (b : Bool) → nat_le commit at ≡ b → standing after key ≡ Some put
    by true e = written.stands ∙ sym (written.sees at (leb-true commit at e)) ∙ is
    by false e = absurd (let clash : None ≡ Some put = sym none ∙ stays at put (sym (earlier key at (leb-false commit at e)) ∙ is) in cc)

-- ---- what a load didn't find

pub absent_missed : (triples : List Triple) (answers : List Answer) (triple : Triple) → AreReadOf triples answers → is_among triple (absent_of triples answers) ≡ true → Contains answers (OfRow (triple_key Spo triple) None)
absent_missed [] answers triple read is = absurd cc
absent_missed (first ∷ triples) [] triple read is = absurd cc
absent_missed (first ∷ triples) (OfRow key None ∷ answers) triple read is = by (same_triple triple first) refl (absent_missed triples answers triple read.1)
  where
    by : (b : Bool) → same_triple triple first ≡ b → (is_among triple (absent_of triples answers) ≡ true → Contains answers (OfRow (triple_key Spo triple) None)) → Contains (OfRow key None ∷ answers) (OfRow (triple_key Spo triple) None)
    by true e rest =
        let same : triple ≡ first = same_triple_true triple first e in
        subst (λ k. Contains (OfRow key None ∷ answers) (OfRow k None)) (read.0 ∙ ap (triple_key Spo) (sym same)) (first_there (OfRow key None) answers)
    by false e rest = later_there (OfRow key None) answers (OfRow (triple_key Spo triple) None) (rest (sym (ap (λ b. b || is_among triple (absent_of triples answers)) e) ∙ is))
absent_missed (first ∷ triples) (OfRow key (Some value) ∷ answers) triple read is =
    later_there (OfRow key (Some value)) answers (OfRow (triple_key Spo triple) None) (absent_missed triples answers triple read.1 is)
absent_missed (first ∷ triples) (OfRange after end found ∷ answers) triple read is = absurd read

-- ---- the rows of triples

pub order_stands : (rows : Rows) (order : Order) (triple : Triple) → AtomicRows rows → IsTriple triple → standing rows (triple_key order triple) ≡ standing rows (triple_key Spo triple)
order_stands rows Spo triple atomic valid = refl
order_stands rows Pos triple atomic valid = atomic.pos triple valid
order_stands rows Osp triple atomic valid = atomic.osp triple valid

no_triple_before : (number commit start : ℕ) (answers : List Answer) (writes : List Write) (before after : Rows) (triples : List Triple) (order : Order) (triple : Triple) → Commits number commit start answers writes before after →
    IsLoadPlan start answers writes triples → IsTriple triple → is_among triple (absent_of triples answers) ≡ true → standing before (triple_key order triple) ≡ None
no_triple_before number commit start answers writes before after triples order triple its plan valid absent =
    order_stands before order triple its.base.atomic valid
    ∙ missed_is_free before start answers (triple_key Spo triple) its.reads (OfRow (triple_key Spo triple) None, absent_missed triples answers triple plan.reads absent, same_bytes_itself (triple_key Spo triple), refl)
    (its.old (triple_key Spo triple) _
    (ap (λ ws. write_at ws (triple_key Spo triple)) plan.writes_are ∙ mark_written (absent_of triples answers) (by_order Spo) triple (absent_all IsTriple triples answers plan.load.valid) valid ∙ ap (λ b. written_by b (triple_key Spo triple)) absent))

triple_stays : (number commit start : ℕ) (answers : List Answer) (writes : List Write) (before after : Rows) → Commits number commit start answers writes before after → HasPurpose start answers writes → PutsStay before →
    (order : Order) (triple : Triple) → IsTriple triple → StaysPut after (triple_key order triple)
triple_stays number commit start answers writes before after its purpose puts order triple valid = by purpose
  where
    key : Key
    key = triple_key order triple

    stays : write_at writes key ≡ None → StaysPut after key
    stays none = stays_same before after key (its.whole.others key none) (puts.triples order triple valid)

    loaded : (triples : List Triple) → IsLoadPlan start answers writes triples → (b : Bool) → is_among triple (absent_of triples answers) ≡ b → write_at writes key ≡ written_by b key → StaysPut after key
    loaded triples plan true absent is = stays_written before after key [] commit its.whole.earlier (its.whole.written key _ is) (no_triple_before number commit start answers writes before after triples order triple its plan valid absent) (puts.triples order triple valid)
    loaded triples plan false absent is = stays is

    by : HasPurpose start answers writes → StaysPut after key
    by (inl none) = stays (ap (λ ws. write_at ws key) none)
    by (inr (inl load)) = loaded load.0 load.1 (is_among triple (absent_of load.0 answers)) refl
        (ap (λ ws. write_at ws key) load.1.writes_are ∙ mark_written (absent_of load.0 answers) (by_order order) triple (absent_all IsTriple load.0 answers load.1.load.valid) valid)
    by (inr (inr (inl register))) = stays (register_leaves start answers writes register.0 register.1 (row.Triple order triple) register.2 valid (λ e. cc) (λ e. cc) (λ n e. cc) (λ n e. cc))
    by (inr (inr (inr work))) = stays (work_leaves start answers writes (row.Triple order triple) work valid (λ r n c e. cc) (λ t e. cc))

-- ---- the rows of registrations

-- a registration puts rows of its own, where nothing stood
pub registers : (number commit start : ℕ) (answers : List Answer) (writes : List Write) (before after : Rows) (name : List ℕ) (tree : Tree) → Commits number commit start answers writes before after → IsRegisterPlan start answers writes name tree →
    Registers before after start name tree commit
registers number commit start answers writes before after name tree its plan = record {
  number = plan.number;
  of_query = plan.of_query;
  whole = subst (λ ws. StandsWhole ws commit before after) plan.writes_are its.whole;
  unnamed = (its.fresh name tree plan).0;
  new = (its.fresh name tree plan).1;
}

no_mark : (mark : Mark) (triple : Triple) (registration : ℕ) → mark_name mark triple ≢ row.Registration registration
no_mark (by_order order) triple registration e = cc
no_mark as_task triple registration e = cc

no_mark_of_pattern : (mark : Mark) (triple : Triple) (registration node : ℕ) → mark_name mark triple ≢ row.Pattern registration node
no_mark_of_pattern (by_order order) triple registration node e = cc
no_mark_of_pattern as_task triple registration node e = cc

registration_stays : (number commit start : ℕ) (answers : List Answer) (writes : List Write) (before after : Rows) → Commits number commit start answers writes before after → HasPurpose start answers writes → PutsStay before →
    (registration : ℕ) → IsRegistration registration → StaysPut after (key_of (row.Registration registration))
registration_stays number commit start answers writes before after its purpose puts registration valid = by purpose
  where
    key : Key
    key = key_of (row.Registration registration)

    stays : write_at writes key ≡ None → StaysPut after key
    stays none = stays_same before after key (its.whole.others key none) (puts.registrations registration valid)

    registered : (name : List ℕ) (tree : Tree) → IsRegisterPlan start answers writes name tree → (start ≡ registration) ⊎ (start ≢ registration) → StaysPut after key
    registered name tree plan (inl same) = subst (λ r. StaysPut after (key_of (row.Registration r))) same
        (stays_written before after (key_of (row.Registration start)) (registration_value name tree) commit its.whole.earlier
        (its.whole.written (key_of (row.Registration start)) _ (ap (λ ws. write_at ws (key_of (row.Registration start))) plan.writes_are ∙ own_written start name tree))
        (its.fresh name tree plan).1 (puts.registrations start plan.number))
    registered name tree plan (inr differs) = stays (register_leaves start answers writes name tree (row.Registration registration) plan valid (λ e. cc) (λ e. differs (cc)) (λ n e. cc) (λ n e. cc))

    by : HasPurpose start answers writes → StaysPut after key
    by (inl none) = stays (ap (λ ws. write_at ws key) none)
    by (inr (inl load)) = stays (load_leaves start answers writes load.0 (row.Registration registration) load.1 valid (λ mark triple. no_mark mark triple registration))
    by (inr (inr (inl register))) = by_number start registration (λ same. registered register.0 register.1 register.2 (inl same)) (λ differs. registered register.0 register.1 register.2 (inr differs))
    by (inr (inr (inr work))) = stays (work_leaves start answers writes (row.Registration registration) work valid (λ r n c e. cc) (λ t e. cc))

-- nothing stood of its patterns
no_pattern_before : (before after : Rows) (start : ℕ) (name : List ℕ) (tree : Tree) (commit node : ℕ) → Registers before after start name tree commit → RegistrationsStand before → IsNode node → (found : Option Put) → standing before (key_of (row.Pattern start node)) ≡ found → found ≡ None
no_pattern_before before after start name tree commit node its stand small None e = refl
no_pattern_before before after start name tree commit node its stand small (Some put) e =
    absurd (let was = stand.patterns start node put its.number small e in let clash : None ≡ Some (registration_value was.0 was.1, put.1) = sym its.new ∙ was.2.stands in cc)

pattern_stays : (number commit start : ℕ) (answers : List Answer) (writes : List Write) (before after : Rows) → Commits number commit start answers writes before after → HasPurpose start answers writes → PutsStay before →
    (registration node : ℕ) → IsRegistration registration → IsNode node → StaysPut after (key_of (row.Pattern registration node))
pattern_stays number commit start answers writes before after its purpose puts registration node valid small = by purpose
  where
    key : Key
    key = key_of (row.Pattern registration node)

    stays : write_at writes key ≡ None → StaysPut after key
    stays none = stays_same before after key (its.whole.others key none) (puts.patterns registration node valid small)

    of_tree : (name : List ℕ) (tree : Tree) → IsRegisterPlan start answers writes name tree → start ≡ registration → (found : Option (List ℕ)) → pattern_at tree node ≡ found → StaysPut after key
    of_tree name tree plan same None e = stays (subst (λ r. write_at writes (key_of (row.Pattern r node)) ≡ None) same
        (ap (λ ws. write_at ws (key_of (row.Pattern start node))) plan.writes_are ∙ part_written start name tree as_pattern node plan.number plan.of_query small ∙ ap (option_map (part_write as_pattern start node)) e))
    of_tree name tree plan same (Some value) e = subst (λ r. StaysPut after (key_of (row.Pattern r node))) same
        (stays_written before after (key_of (row.Pattern start node)) value commit its.whole.earlier
        (its.whole.written (key_of (row.Pattern start node)) _
        (ap (λ ws. write_at ws (key_of (row.Pattern start node))) plan.writes_are ∙ part_written start name tree as_pattern node plan.number plan.of_query small ∙ ap (option_map (part_write as_pattern start node)) e))
        (no_pattern_before before after start name tree commit node (registers number commit start answers writes before after name tree its plan) its.base.registered small _ refl) (puts.patterns start node plan.number small))

    registered : (name : List ℕ) (tree : Tree) → IsRegisterPlan start answers writes name tree → (start ≡ registration) ⊎ (start ≢ registration) → StaysPut after key
    registered name tree plan (inl same) = of_tree name tree plan same (pattern_at tree node) refl
    registered name tree plan (inr differs) = stays (register_leaves start answers writes name tree (row.Pattern registration node) plan (valid, small) (λ e. cc) (λ e. cc) (λ n e. differs (cc)) (λ n e. cc))

    by : HasPurpose start answers writes → StaysPut after key
    by (inl none) = stays (ap (λ ws. write_at ws key) none)
    by (inr (inl load)) = stays (load_leaves start answers writes load.0 (row.Pattern registration node) load.1 (valid, small) (λ mark triple. no_mark_of_pattern mark triple registration node))
    by (inr (inr (inl register))) = by_number start registration (λ same. registered register.0 register.1 register.2 (inl same)) (λ differs. registered register.0 register.1 register.2 (inr differs))
    by (inr (inr (inr work))) = stays (work_leaves start answers writes (row.Pattern registration node) work (valid, small) (λ r n c e. cc) (λ t e. cc))

-- ---- the rows of nodes

-- nothing stood in a row that is added
pub nothing_before : (number commit start : ℕ) (answers : List Answer) (writes : List Write) (before after : Rows) (registration node : ℕ) (cells : List (List ℕ)) → Commits number commit start answers writes before after →
    AddsNode start answers writes registration node cells → standing before (key_of (row.Node registration node cells)) ≡ None
nothing_before number commit start answers writes before after registration node cells its adds =
    missed_is_free before start answers (key_of (row.Node registration node cells)) its.reads (subst (λ n. IsMissedIn answers (key_of n)) adds.adds.is adds.adds.is_new.missed) (its.old (key_of (row.Node registration node cells)) _ adds.written)

node_stays : (number commit start : ℕ) (answers : List Answer) (writes : List Write) (before after : Rows) → Commits number commit start answers writes before after → HasPurpose start answers writes → PutsStay before →
    (registration node : ℕ) (cells : List (List ℕ)) → IsName (row.Node registration node cells) → StaysPut after (key_of (row.Node registration node cells))
node_stays number commit start answers writes before after its purpose puts registration node cells named = by (node_written start answers writes registration node cells purpose named)
  where
    key : Key
    key = key_of (row.Node registration node cells)

    by : (write_at writes key ≡ None) ⊎ AddsNode start answers writes registration node cells → StaysPut after key
    by (inl none) = stays_same before after key (its.whole.others key none) (puts.nodes registration node cells named)
    by (inr adds) = stays_written before after key [] commit its.whole.earlier (its.whole.written key _ adds.written)
        (nothing_before number commit start answers writes before after registration node cells its adds) (puts.nodes registration node cells named)

-- ---- all

pub puts_stay : (number commit start : ℕ) (answers : List Answer) (writes : List Write) (before after : Rows) → Commits number commit start answers writes before after → HasPurpose start answers writes → PutsStay before → PutsStay after
puts_stay number commit start answers writes before after its purpose puts = record {
  triples = triple_stays number commit start answers writes before after its purpose puts;
  registrations = registration_stays number commit start answers writes before after its purpose puts;
  patterns = pattern_stays number commit start answers writes before after its purpose puts;
  nodes = node_stays number commit start answers writes before after its purpose puts;
}
