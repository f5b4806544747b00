-- What stands stays, and what wasn't there before was written by the commit.
use Rattle.std.proofs.Common.{◌≡◌, ◌≢◌, ◌⊎◌, inl, inr, ◌≤◌, ℕ, is_some, List, Option, Some, None, IsSome, refl, ap, sym, subst, ◌∙◌, arith}
use Rattle.pcj_term.specs.declared.triple.Triple.{Triple}
use Rattle.pcj_table.specs.Table.{Key}
use Rattle.pcj_table.specs.declared.write.Write.{Write}
use Rattle.pcj_encode.specs.declared.order.Order.TheVariants.{Spo}
use Rattle.pcj_encode.specs.declared.key_name.KeyName.TheVariants as row
use Rattle.pcj_encode.specs.Name.{IsRegistration, key_of}
use Rattle.pcj_rowtables.specs.Rows.{triple_key}
use Rattle.pcj_tree.specs.declared.node.Node.{Node}
use Rattle.pcj_tree.specs.declared.tree.Tree.{Tree}
use Rattle.pcj_mvcc.proofs.Laws.{standing_is_seen}
use Rattle.pcj_mvcc.specs.Reading.{Put, Rows, seen, standing}
use Rattle.pcj_moves.specs.Transactions.{write_at}
use Rattle.pcj_moves.specs.declared.answer.Answer.{Answer}
use Rattle.pcj_moves.proofs.ActorLemmas.{by_number}
use Rattle.pcj_rows.specs.Plans.{IsRegisterPlan}
use Rattle.pcj_rows.specs.Registrations.{IsRegistered, registration_value}
use Rattle.pcj_rows.proofs.EachLemmas.{all_map}
use Rattle.pcj_rows.proofs.PlanLemmas.{Mark, as_task, by_order, mark_name}
use Rattle.pcj_rows.proofs.RegisterLemmas.{own_written}
use Rattle.pcj_rows.proofs.TimeLemmas.{seen_at_most, standing_below}
use Rattle.pcj_rows.proofs.ValueLemmas.{one_commit, one_put, one_value}
use Rattle.pcj_nodes.specs.Commits.{Commits}
use Rattle.pcj_nodes.specs.Nodes.{IsRowOver, StandsIn}
use Rattle.pcj_duties.specs.Observers.{HasPurpose}
use Rattle.pcj_nodes.specs.Puts.{PutsStay, StaysPut}
use Rattle.pcj_duties.proofs.PurposeLemmas.{load_leaves, register_leaves, work_leaves}
use Rattle.pcj_nodes.proofs.ViewLemmas.{what_stands}

-- ---- what stands

-- a row that is put once still stands after the commit
pub remains : (number commit start : ℕ) (answers : List Answer) (writes : List Write) (before after : Rows) (key : Key) (put : Put) → Commits number commit start answers writes before after → StaysPut after key → standing before key ≡ Some put → standing after key ≡ Some put
remains number commit start answers writes before after key put its stays stands =
    stays put.1 put (its.whole.earlier key put.1 (let lt = standing_below number before key put its.below stands in let le = its.granted in omega (arith, lt, le))
    ∙ standing_is_seen before key put.1 put its.base.times stands (omega arith))

pub still_there : (number commit start : ℕ) (answers : List Answer) (writes : List Write) (before after : Rows) (key : Key) → Commits number commit start answers writes before after → StaysPut after key → IsSome (standing before key) → IsSome (standing after key)
still_there number commit start answers writes before after key its stays some =
    let put = what_stands before key some in ap is_some (remains number commit start answers writes before after key put.0 its stays put.1)

-- what was seen at some time is still seen then, before the commit and after it
pub seen_still : (number commit start : ℕ) (answers : List Answer) (writes : List Write) (before after : Rows) (key : Key) (at : ℕ) → Commits number commit start answers writes before after → StaysPut before key → StaysPut after key → IsSome (seen before key at) → IsSome (seen after key at)
seen_still number commit start answers writes before after key at its stays stays' some = by (seen before key at) refl some
  where
    put_then : (put : Put) → seen before key at ≡ Some put → put.1 ≤ at → IsSome (seen after key at)
    put_then put e le = ap is_some (standing_is_seen after key at put its.after_times (remains number commit start answers writes before after key put its stays' (stays at put e)) le)

    by : (found : Option Put) → seen before key at ≡ found → IsSome found → IsSome (seen after key at)
    by None e is = absurd cc
    by (Some put) e is = put_then put e (seen_at_most before key at put e)

-- ---- registrations

pub registered_stays : (number commit start : ℕ) (answers : List Answer) (writes : List Write) (before after : Rows) (registration : ℕ) (name : List ℕ) (tree : Tree) (at : ℕ) → Commits number commit start answers writes before after → PutsStay after →
    IsRegistered before registration name tree at → IsRegistered after registration name tree at
registered_stays number commit start answers writes before after registration name tree at its puts is =
    subst (λ n. IsRegistered after registration n tree at) (sym same.0) (subst (λ t. IsRegistered after registration now.0 t at) (sym same.1) now.2)
  where
    stands : standing after (key_of (row.Registration registration)) ≡ Some (registration_value name tree, at)
    stands = remains number commit start answers writes before after (key_of (row.Registration registration)) (registration_value name tree, at) its (puts.registrations registration is.number) is.stands

    now : (other : List ℕ) × (t : Tree) × IsRegistered after registration other t at
    now = its.registered.registrations registration (registration_value name tree, at) is.number stands

    same : (name ≡ now.0) × (tree ≡ now.1)
    same = one_value name now.0 tree now.1 is.of_query now.2.of_query (one_put (standing after (key_of (row.Registration registration))) _ _ at at stands now.2.stands)

-- the row of a registration is written by its own
pub record IsOwn (commit start : ℕ) (answers : List Answer) (writes : List Write) (registration : ℕ) : Type 0 where
  pub name : List ℕ
  pub tree : Tree
  pub plan : IsRegisterPlan start answers writes name tree
  pub number : start ≡ registration

pub own_or_none : (commit start : ℕ) (answers : List Answer) (writes : List Write) (registration : ℕ) → HasPurpose start answers writes → IsRegistration registration → (write_at writes (key_of (row.Registration registration)) ≡ None) ⊎ IsOwn commit start answers writes registration
own_or_none commit start answers writes registration (inl none) valid = inl (ap (λ ws. write_at ws (key_of (row.Registration registration))) none)
own_or_none commit start answers writes registration (inr (inl load)) valid = inl (load_leaves start answers writes load.0 (row.Registration registration) load.1 valid differs)
  where
    differs : (mark : Mark) (triple : Triple) → mark_name mark triple ≢ row.Registration registration
    differs (by_order order) triple e = cc
    differs as_task triple e = cc
own_or_none commit start answers writes registration (inr (inr (inl register))) valid = by_number start registration
    (λ same. inr (record { name = register.0; tree = register.1; plan = register.2; number = same }))
    (λ apart. inl (register_leaves start answers writes register.0 register.1 (row.Registration registration) register.2 valid (λ e. cc) (λ e. apart (cc)) (λ n e. cc) (λ n e. cc)))
own_or_none commit start answers writes registration (inr (inr (inr work))) valid = inl (work_leaves start answers writes (row.Registration registration) work valid (λ r n c e. cc) (λ t e. cc))

-- a registration that stands stood before, or is the one that is committed
pub record IsNewOne (commit start : ℕ) (answers : List Answer) (writes : List Write) (registration : ℕ) (name : List ℕ) (tree : Tree) (at : ℕ) : Type 0 where
  pub plan : IsRegisterPlan start answers writes name tree
  pub number : start ≡ registration
  pub committed : at ≡ commit

pub was_registered : (number commit start : ℕ) (answers : List Answer) (writes : List Write) (before after : Rows) (registration : ℕ) (name : List ℕ) (tree : Tree) (at : ℕ) → Commits number commit start answers writes before after → HasPurpose start answers writes → PutsStay after →
    IsRegistered after registration name tree at → IsRegistered before registration name tree at ⊎ IsNewOne commit start answers writes registration name tree at
was_registered number commit start answers writes before after registration name tree at its purpose puts is = by (own_or_none commit start answers writes registration purpose is.number)
  where
    stood : write_at writes (key_of (row.Registration registration)) ≡ None → IsRegistered before registration name tree at
    stood none =
        let same = (its.whole.others (key_of (row.Registration registration)) none).stands in
        let was = its.base.registered.registrations registration (registration_value name tree, at) is.number (sym same ∙ is.stands) in
        let one = one_value name was.0 tree was.1 is.of_query was.2.of_query (one_put (standing after (key_of (row.Registration registration))) _ _ at at is.stands (same ∙ was.2.stands)) in
        subst (λ n. IsRegistered before registration n tree at) (sym one.0) (subst (λ t. IsRegistered before registration was.0 t at) (sym one.1) was.2)

    new : (own : IsOwn commit start answers writes registration) → IsNewOne commit start answers writes registration name tree at
    new own =
        let there : standing after (key_of (row.Registration start)) ≡ Some (registration_value name tree, at) = ap (λ r. standing after (key_of (row.Registration r))) own.number ∙ is.stands in
        let written : standing after (key_of (row.Registration start)) ≡ Some (registration_value own.name own.tree, commit) =
        (its.whole.written (key_of (row.Registration start)) _ (ap (λ ws. write_at ws (key_of (row.Registration start))) own.plan.writes_are ∙ own_written start own.name own.tree)).stands in
        let one = one_value name own.name tree own.tree is.of_query own.plan.of_query (one_put (standing after (key_of (row.Registration start))) _ _ at commit there written) in
        record {
          plan = subst (λ n. IsRegisterPlan start answers writes n tree) (sym one.0) (subst (λ t. IsRegisterPlan start answers writes own.name t) (sym one.1) own.plan);
          number = own.number;
          committed = one_commit (standing after (key_of (row.Registration start))) _ _ at commit there written;
        }

    by : (write_at writes (key_of (row.Registration registration)) ≡ None) ⊎ IsOwn commit start answers writes registration → IsRegistered before registration name tree at ⊎ IsNewOne commit start answers writes registration name tree at
    by (inl none) = inl (stood none)
    by (inr own) = inr (new own)

-- ---- rows over triples that stand

pub stands_still : (number commit start : ℕ) (answers : List Answer) (writes : List Write) (before after : Rows) (triple : Triple) → Commits number commit start answers writes before after → PutsStay after → StandsIn before triple → StandsIn after triple
stands_still number commit start answers writes before after triple its puts is =
    (is.0, still_there number commit start answers writes before after (triple_key Spo triple) its (puts.triples Spo triple is.0) is.1)

pub over_still : (number commit start : ℕ) (answers : List Answer) (writes : List Write) (before after : Rows) (tree : Tree) (at : ℕ) (node : Node) (cells : List (List ℕ)) → Commits number commit start answers writes before after → PutsStay after →
    IsRowOver before tree at node cells → IsRowOver after tree at node cells
over_still number commit start answers writes before after tree at node cells its puts over = record {
  query = over.query;
  of_query = over.of_query;
  triples = over.triples;
  stand = all_map (StandsIn before) (StandsIn after) (λ triple is. stands_still number commit start answers writes before after triple its puts is) over.triples over.stand;
  its = over.its;
  is_row = over.is_row;
  cells_are = over.cells_are;
}
