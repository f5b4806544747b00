-- What the plans of actors write.
use Rattle.std.proofs.Common.{◌≡◌, ◌≢◌, inl, inr, ◌<◌, ℕ, Bool, true, false, cond, ◌||◌, List, [], ◌∷◌, Option, Some, None, refl, ap, sym, subst, ◌∙◌}
use Rattle.std.proofs.lemmas.List.Elements.{All-cons, All-head, All-nil, All-tail}
use Rattle.std.specs.List.{All, IsDistinct, AllByRecursion, list_any}
use Rattle.pcj_term.proofs.ByteLemmas.{other_bytes, same_bytes_itself}
use Rattle.pcj_term.proofs.Same.{same_triple_refl, same_triple_true}
use Rattle.pcj_term.specs.declared.term.Term.{Term}
use Rattle.pcj_term.specs.declared.term.Term.TheVariants.{Iri, Blank, Literal}
use Rattle.pcj_term.specs.declared.triple.Triple.{Triple}
use Rattle.pcj_term.specs.Order.{same_bytes}
use Rattle.pcj_term.specs.Triple.{same_triple}
use Rattle.pcj_table.specs.Table.{Key}
use Rattle.pcj_table.specs.declared.write.Write.{Write}
use Rattle.pcj_encode.proofs.Names.{names_one_row}
use Rattle.pcj_encode.specs.declared.order.Order.{Order}
use Rattle.pcj_encode.specs.declared.order.Order.TheVariants.{Spo, Pos, Osp}
use Rattle.pcj_encode.specs.declared.task_name.TaskName.TheVariants as task
use Rattle.pcj_encode.specs.declared.key_name.KeyName.{KeyName}
use Rattle.pcj_encode.specs.declared.key_name.KeyName.TheVariants as row
use Rattle.pcj_encode.specs.Name.{IsName, IsRegistration, IsTriple, key_of}
use Rattle.pcj_tree.specs.declared.tree.Tree.{Tree}
use Rattle.pcj_moves.specs.declared.answer.Answer.{Answer}
use Rattle.pcj_moves.specs.declared.answer.Answer.TheVariants.{OfRange, OfRow}
use Rattle.pcj_mvcc.specs.Reading.{Rows}
use Rattle.pcj_moves.specs.Reads.{Reads}
use Rattle.pcj_moves.specs.Transactions.{are_distinct, write_at}
use Rattle.pcj_rows.specs.Names.{IsGranted, IsTermGranted, IsTripleGranted}
use Rattle.pcj_rows.specs.Plans.{HasPlan, IsOfLoad, IsTripleOfLoad, absent_of, load_writes, put_mark, registration_writes}
use Rattle.pcj_rows.specs.Registrations.{IsQueryTree}
use Rattle.pcj_rows.specs.Rows.{Decodes}
use Rattle.pcj_rows.proofs.RegisterLemmas.{can_register, register_names}
use Rattle.pcj_rows.proofs.WorkerLemmas.{can_work, work_leaves}
use Rattle.pcj_rows.proofs.WriteLemmas.{CanWrite, EachWrite, IsNamed, found_is, none_written}

-- ---- the rows that are written for a triple

pub data Mark : Type 0 where
  by_order : Order → Mark
  as_task : Mark

abbrev pub mark_name : Mark → Triple → KeyName
mark_name (by_order order) triple = row.Triple order triple
mark_name as_task triple = row.Task (task.Triple triple)

abbrev pub mark_key : Mark → Triple → Key
mark_key mark triple = key_of (mark_name mark triple)

mark_valid : (mark : Mark) (triple : Triple) → IsTriple triple → IsName (mark_name mark triple)
mark_valid (by_order order) triple valid = valid
mark_valid as_task triple valid = valid

-- no two triples share one of their names
triples_differ : (mark other : Mark) (triple more : Triple) → same_triple triple more ≡ false → mark_name mark triple ≢ mark_name other more
triples_differ (by_order order) (by_order order') triple more apart e = let same : triple ≡ more = cc in let clash : true ≡ false = sym (same_triple_refl triple) ∙ ap (same_triple triple) same ∙ apart in cc
triples_differ (by_order order) as_task triple more apart e = cc
triples_differ as_task (by_order order) triple more apart e = cc
triples_differ as_task as_task triple more apart e = let same : triple ≡ more = cc in let clash : true ≡ false = sym (same_triple_refl triple) ∙ ap (same_triple triple) same ∙ apart in cc

other_keys : (mark other : Mark) (triple more : Triple) → IsTriple triple → IsTriple more → mark_name mark triple ≢ mark_name other more → same_bytes (mark_key mark triple) (mark_key other more) ≡ false
other_keys mark other triple more valid valid' differs = other_bytes (mark_key mark triple) (mark_key other more)
    (λ e. differs (names_one_row (mark_name mark triple) (mark_name other more) (mark_valid mark triple valid) (mark_valid other more valid') e))

-- ---- what a load writes

-- a row is written where its triple is among these
abbrev pub is_among : Triple → List Triple → Bool
is_among triple triples = list_any (same_triple triple) triples

abbrev pub written_by : Bool → Key → Option Write
written_by true key = Some (put_mark key)
written_by false key = None

-- what is written of a row of a triple
pub mark_written : (triples : List Triple) (mark : Mark) (triple : Triple) → All IsTriple triples → IsTriple triple → write_at (load_writes triples) (mark_key mark triple) ≡ written_by (is_among triple triples) (mark_key mark triple)
mark_written [] mark triple valid is = refl
mark_written (first ∷ triples) mark triple valid is = by (same_triple triple first) refl (mark_written triples mark triple (All-tail IsTriple first triples valid) is)
  where
    its : IsTriple first
    its = All-head IsTriple first triples valid

    rest : Option Write
    rest = write_at (load_writes triples) (mark_key mark triple)

    at : (other : Mark) → Bool
    at other = same_bytes (mark_key mark triple) (mark_key other first)

    found : Option Write
    found = cond (at (by_order Spo)) (Some (put_mark (mark_key (by_order Spo) first))) (cond (at (by_order Pos)) (Some (put_mark (mark_key (by_order Pos) first)))
        (cond (at (by_order Osp)) (Some (put_mark (mark_key (by_order Osp) first))) (cond (at as_task) (Some (put_mark (mark_key as_task first))) rest)))

    -- the first of the four that has the key
    here : (m : Mark) → mark ≡ m → triple ≡ first → write_at (load_writes (first ∷ triples)) (mark_key mark triple) ≡ Some (put_mark (mark_key mark triple))
    here (by_order Spo) e same = subst (λ m. write_at (load_writes (first ∷ triples)) (mark_key m triple) ≡ Some (put_mark (mark_key m triple))) (sym e)
        (subst (λ t. write_at (load_writes (t ∷ triples)) (mark_key (by_order Spo) triple) ≡ Some (put_mark (mark_key (by_order Spo) triple))) same (rw (same_bytes_itself (mark_key (by_order Spo) triple)) refl))
    here (by_order Pos) e same = subst (λ m. write_at (load_writes (first ∷ triples)) (mark_key m triple) ≡ Some (put_mark (mark_key m triple))) (sym e)
        (subst (λ t. write_at (load_writes (t ∷ triples)) (mark_key (by_order Pos) triple) ≡ Some (put_mark (mark_key (by_order Pos) triple))) same
        (rw (same_bytes_itself (mark_key (by_order Pos) triple)) refl))
    here (by_order Osp) e same = subst (λ m. write_at (load_writes (first ∷ triples)) (mark_key m triple) ≡ Some (put_mark (mark_key m triple))) (sym e)
        (subst (λ t. write_at (load_writes (t ∷ triples)) (mark_key (by_order Osp) triple) ≡ Some (put_mark (mark_key (by_order Osp) triple))) same
        (rw (same_bytes_itself (mark_key (by_order Osp) triple)) refl))
    here as_task e same = subst (λ m. write_at (load_writes (first ∷ triples)) (mark_key m triple) ≡ Some (put_mark (mark_key m triple))) (sym e)
        (subst (λ t. write_at (load_writes (t ∷ triples)) (mark_key as_task triple) ≡ Some (put_mark (mark_key as_task triple))) same
        (rw (same_bytes_itself (mark_key as_task triple)) refl))

    there : same_triple triple first ≡ false → write_at (load_writes (first ∷ triples)) (mark_key mark triple) ≡ rest
    there apart = rw (
      other_keys mark (by_order Spo) triple first is its (triples_differ mark (by_order Spo) triple first apart),
      other_keys mark (by_order Pos) triple first is its (triples_differ mark (by_order Pos) triple first apart),
      other_keys mark (by_order Osp) triple first is its (triples_differ mark (by_order Osp) triple first apart),
      other_keys mark as_task triple first is its (triples_differ mark as_task triple first apart),
    ) refl

    by : (b : Bool) → same_triple triple first ≡ b → rest ≡ written_by (is_among triple triples) (mark_key mark triple) →
        write_at (load_writes (first ∷ triples)) (mark_key mark triple) ≡ written_by (is_among triple (first ∷ triples)) (mark_key mark triple)
    by true e later = here mark refl (same_triple_true triple first e) ∙ ap (λ b. written_by (b || is_among triple triples) (mark_key mark triple)) (sym e)
    by false e later = there e ∙ later ∙ ap (λ b. written_by (b || is_among triple triples) (mark_key mark triple)) (sym e)

-- ---- what may be written

term_granted : (next load : ℕ) (term : Term) → IsGranted next load → IsOfLoad load term → IsTermGranted next term
term_granted next load (Iri iri) granted own = tt
term_granted next load (Blank number label) granted own = subst (IsGranted next) (sym own) granted
term_granted next load (Literal text kind) granted own = tt

triple_granted : (next load : ℕ) (triple : Triple) → IsGranted next load → IsTripleOfLoad load triple → IsTripleGranted next triple
triple_granted next load triple granted own = record {
  subject = term_granted next load triple.subject granted own.subject;
  predicate = term_granted next load triple.predicate granted own.predicate;
  object = term_granted next load triple.object granted own.object;
}

can_mark : (next start : ℕ) (mark : Mark) (triple : Triple) → IsGranted next start → IsTriple triple → IsTripleGranted next triple → CanWrite next start (put_mark (mark_key mark triple))
can_mark next start (by_order order) triple begun valid granted = record { begun = begun; name = row.Triple order triple; valid = valid; granted = granted; is = refl; written = refl; value = refl }
can_mark next start as_task triple begun valid granted = record { begun = begun; name = row.Task (task.Triple triple); valid = valid; granted = granted; is = refl; written = refl; value = inl refl }

can_load : (next start : ℕ) (triples : List Triple) → IsGranted next start → All IsTriple triples → All (IsTripleOfLoad start) triples → EachWrite (CanWrite next start) (load_writes triples)
can_load next start [] begun valid own = tt
can_load next start (triple ∷ triples) begun valid own =
    let is = All-head IsTriple triple triples valid in
    let granted = triple_granted next start triple begun (All-head (IsTripleOfLoad start) triple triples own) in (
      can_mark next start (by_order Spo) triple begun is granted,
      (
        can_mark next start (by_order Pos) triple begun is granted,
        (
          can_mark next start (by_order Osp) triple begun is granted,
          (
            can_mark next start as_task triple begun is granted,
            can_load next start triples begun (All-tail IsTriple triple triples valid) (All-tail (IsTripleOfLoad start) triple triples own),
          ),
        ),
      ),
    )

-- ---- the triples that weren't found

pub absent_all : (P : Triple → Type 0) (triples : List Triple) (answers : List Answer) → All P triples → All P (absent_of triples answers)
absent_all P [] answers all = All-nil P
absent_all P (triple ∷ triples) [] all = All-nil P
absent_all P (triple ∷ triples) (OfRow key None ∷ answers) all =
    All-cons P triple (absent_of triples answers) (All-head P triple triples all) (absent_all P triples answers (All-tail P triple triples all))
absent_all P (triple ∷ triples) (OfRow key (Some value) ∷ answers) all = absent_all P triples answers (All-tail P triple triples all)
absent_all P (triple ∷ triples) (OfRange after end found ∷ answers) all = absent_all P triples answers (All-tail P triple triples all)

by_recursion_absent : (P : Triple → Type 0) (triples : List Triple) (answers : List Answer) → AllByRecursion P triples → AllByRecursion P (absent_of triples answers)
by_recursion_absent P [] answers all = tt
by_recursion_absent P (triple ∷ triples) [] all = tt
by_recursion_absent P (triple ∷ triples) (OfRow key None ∷ answers) all = (all.0, by_recursion_absent P triples answers all.1)
by_recursion_absent P (triple ∷ triples) (OfRow key (Some value) ∷ answers) all = by_recursion_absent P triples answers all.1
by_recursion_absent P (triple ∷ triples) (OfRange after end found ∷ answers) all = by_recursion_absent P triples answers all.1

pub absent_once : (triples : List Triple) (answers : List Answer) → IsDistinct same_triple triples → IsDistinct same_triple (absent_of triples answers)
unfolding IsDistinct
absent_once [] answers once = tt
absent_once (triple ∷ triples) [] once = tt
absent_once (triple ∷ triples) (OfRow key None ∷ answers) once = (by_recursion_absent (λ other. same_triple triple other ≡ false) triples answers once.0, absent_once triples answers once.1)
absent_once (triple ∷ triples) (OfRow key (Some value) ∷ answers) once = absent_once triples answers once.1
absent_once (triple ∷ triples) (OfRange after end found ∷ answers) once = absent_once triples answers once.1

-- ---- plans

pub can_write : (next start : ℕ) (rows : Rows) (answers : List Answer) (writes : List Write) (write : Write) → start < next → Decodes next rows → Reads rows start answers → HasPlan start answers writes → write_at writes write.key ≡ Some write → CanWrite next start write
can_write next start rows answers writes write lt decodes reads (inl none) e = absurd (let clash : None ≡ Some write = ap (λ ws. write_at ws write.key) (sym none) ∙ e in cc)
can_write next start rows answers writes write lt decodes reads (inr (inl load)) e =
    found_is (CanWrite next start) (load_writes (absent_of load.0 answers)) write.key write
    (can_load next start (absent_of load.0 answers) (load.1.load.first, lt) (absent_all IsTriple load.0 answers load.1.load.valid) (absent_all (IsTripleOfLoad start) load.0 answers load.1.load.own))
    (ap (λ ws. write_at ws write.key) (sym load.1.writes_are) ∙ e)
can_write next start rows answers writes write lt decodes reads (inr (inr (inl register))) e =
    found_is (CanWrite next start) (registration_writes start register.0 register.1) write.key write
    (can_register next start register.0 register.1 (register.2.first, lt) register.2.number register.2.of_query)
    (ap (λ ws. write_at ws write.key) (sym register.2.writes_are) ∙ e)
can_write next start rows answers writes write lt decodes reads (inr (inr (inr work))) e = can_work next start rows answers writes write lt decodes reads work e

-- of a triple all three rows are written, or none
pub record WritesWhole (writes : List Write) (triple : Triple) : Type 0 where
  pub is : Bool
  pub each : (order : Order) → write_at writes (mark_key (by_order order) triple) ≡ written_by is (mark_key (by_order order) triple)

-- a registration writes none of them
pub mark_unwritten : (registration : ℕ) (name : List ℕ) (tree : Tree) (mark : Mark) (triple : Triple) → IsRegistration registration → IsQueryTree tree → IsTriple triple →
    write_at (registration_writes registration name tree) (mark_key mark triple) ≡ None
mark_unwritten registration name tree (by_order order) triple number is valid =
    none_written (registration_writes registration name tree) (row.Triple order triple) valid
    (register_names (λ other. other ≢ row.Triple order triple) registration name tree number is (λ e. cc) (λ e. cc) (λ node e. cc) (λ node e. cc))
mark_unwritten registration name tree as_task triple number is valid =
    none_written (registration_writes registration name tree) (row.Task (task.Triple triple)) valid
    (register_names (λ other. other ≢ row.Task (task.Triple triple)) registration name tree number is (λ e. cc) (λ e. cc) (λ node e. cc) (λ node e. cc))

pub writes_whole : (start : ℕ) (answers : List Answer) (writes : List Write) (triple : Triple) → HasPlan start answers writes → IsTriple triple → WritesWhole writes triple
writes_whole start answers writes triple (inl none) valid = record { is = false; each = λ order. ap (λ ws. write_at ws (mark_key (by_order order) triple)) none }
writes_whole start answers writes triple (inr (inl load)) valid = record {
  is = is_among triple (absent_of load.0 answers);
  each = λ order. ap (λ ws. write_at ws (mark_key (by_order order) triple)) load.1.writes_are ∙ mark_written (absent_of load.0 answers) (by_order order) triple (absent_all IsTriple load.0 answers load.1.load.valid) valid;
}
writes_whole start answers writes triple (inr (inr (inl register))) valid = record {
  is = false;
  each = λ order. ap (λ ws. write_at ws (mark_key (by_order order) triple)) register.2.writes_are ∙ mark_unwritten start register.0 register.1 (by_order order) triple register.2.number register.2.of_query valid;
}
writes_whole start answers writes triple (inr (inr (inr work))) valid = record {
  is = false;
  each = λ order. work_leaves start answers writes (row.Triple order triple) work valid (λ other e. cc) (λ registration node cells e. cc);
}

-- a load writes no other rows
pub load_names : (P : KeyName → Type 0) (triples : List Triple) → All IsTriple triples → ((mark : Mark) (triple : Triple) → P (mark_name mark triple)) → EachWrite (IsNamed P) (load_writes triples)
load_names P [] valid named = tt
load_names P (triple ∷ triples) valid named =
    let is = All-head IsTriple triple triples valid in (
      (row.Triple Spo triple, is, refl, named (by_order Spo) triple),
      (
        (row.Triple Pos triple, is, refl, named (by_order Pos) triple),
        (
          (row.Triple Osp triple, is, refl, named (by_order Osp) triple),
          ((row.Task (task.Triple triple), is, refl, named as_task triple), load_names P triples (All-tail IsTriple triple triples valid) named),
        ),
      ),
    )

-- ---- distinct rows

not_among : (triple : Triple) (triples : List Triple) → AllByRecursion (λ other. same_triple triple other ≡ false) triples → is_among triple triples ≡ false
not_among triple [] none = refl
not_among triple (other ∷ triples) none = rw (none.0) (not_among triple triples none.1)

pub load_distinct : (triples : List Triple) → All IsTriple triples → IsDistinct same_triple triples → are_distinct (load_writes triples) ≡ true
unfolding IsDistinct
load_distinct [] valid once = refl
load_distinct (triple ∷ triples) valid once =
    rw (free (by_order Spo), free (by_order Pos), free (by_order Osp), free as_task, load_distinct triples (All-tail IsTriple triple triples valid) once.1) refl
  where
    free : (mark : Mark) → write_at (load_writes triples) (mark_key mark triple) ≡ None
    free mark = mark_written triples mark triple (All-tail IsTriple triple triples valid) (All-head IsTriple triple triples valid)
        ∙ ap (λ b. written_by b (mark_key mark triple)) (not_among triple triples once.0)
