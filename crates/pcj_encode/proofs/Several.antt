-- What is read from several parts is what is written as these parts, and what is written is read again.
use Rattle.std.proofs.Common.{◌≡◌, ℕ, true, Some, List, [], ◌∷◌, refl, ap, sym, subst, ◌∙◌}
use Rattle.std.specs.List.{list_all}
use Rattle.std.specs.Option.{option_map}
use Rattle.std.proofs.lemmas.Option.{cond_some}
use Rattle.pcj_term.specs.declared.term.Term.{Term}
use Rattle.pcj_term.specs.declared.triple.Triple.{Triple}
use Rattle.pcj_term.specs.Term.{printed}
use Rattle.pcj_term.specs.Valid.{IsValid}
use Rattle.pcj_term.specs.Reading.{term_of}
use Rattle.pcj_term.proofs.Reading.{term_again}
use Rattle.pcj_term.proofs.OptionLemmas.{map_some, bind_some}
use Rattle.pcj_encode.specs.declared.order.Order.{Order}
use Rattle.pcj_encode.specs.declared.order.Order.TheVariants.{Spo, Pos, Osp}
use Rattle.pcj_encode.specs.Name.{registration_part, node_part, triple_parts, IsRegistration, IsNode, IsTriple}
use Rattle.pcj_encode.specs.Tag.{letter_of, order_kind}
use Rattle.pcj_encode.specs.Reading.{is_cell, cells_of, registration_of, node_of, registration_first, node_first, numbers_first, registered_cells, node_cells, terms_of, triple_of, in_order}
use Rattle.pcj_encode.proofs.Numbers.{registration_takes, registration_again, node_takes, node_again}
use Rattle.pcj_encode.proofs.Cells.{term_takes}

abbrev Numbered : Type 0
Numbered = ℕ × List (List ℕ)

abbrev NodeNumbered : Type 0
NodeNumbered = ℕ × ℕ × List (List ℕ)

pub registration_first_takes : (parts : List (List ℕ)) (found : Numbered) → registration_first parts ≡ Some found → IsRegistration found.0 × (registration_part found.0 ∷ found.1 ≡ parts)
registration_first_takes [] found e = absurd cc
registration_first_takes (part ∷ parts) found e =
    let read = map_some _ (registration_of part) found e in
    let number = registration_takes part read.0 read.1 in
    subst (λ (f : Numbered). IsRegistration f.0 × (registration_part f.0 ∷ f.1 ≡ part ∷ parts)) read.2 (number.0, ap (λ (p : List ℕ). p ∷ parts) number.1)

node_first_takes : (parts : List (List ℕ)) (found : Numbered) → node_first parts ≡ Some found → IsNode found.0 × (node_part found.0 ∷ found.1 ≡ parts)
node_first_takes [] found e = absurd cc
node_first_takes (part ∷ parts) found e =
    let read = map_some _ (node_of part) found e in
    let number = node_takes part read.0 read.1 in
    subst (λ (f : Numbered). IsNode f.0 × (node_part f.0 ∷ f.1 ≡ part ∷ parts)) read.2 (number.0, ap (λ (p : List ℕ). p ∷ parts) number.1)

pub numbers_first_takes : (parts : List (List ℕ)) (found : NodeNumbered) → numbers_first parts ≡ Some found → IsRegistration found.0 × IsNode found.1 × (registration_part found.0 ∷ node_part found.1 ∷ found.2 ≡ parts)
numbers_first_takes parts found e =
    let first = bind_some (registration_first parts) _ found e in
    let second = map_some _ (node_first (first.0).1) found first.2 in
    let registration = registration_first_takes parts first.0 first.1 in
    let node = node_first_takes ((first.0).1) second.0 second.1 in
    subst (λ (f : NodeNumbered). IsRegistration f.0 × IsNode f.1 × (registration_part f.0 ∷ node_part f.1 ∷ f.2 ≡ parts)) second.2
    (registration.0, node.0, ap (λ (ps : List (List ℕ)). registration_part ((first.0).0) ∷ ps) node.1 ∙ registration.1)

cells_of_takes : (parts cells : List (List ℕ)) → cells_of parts ≡ Some cells → (list_all is_cell cells ≡ true) × (cells ≡ parts)
cells_of_takes parts cells e =
    let tested = cond_some (list_all is_cell parts) parts cells e in
    (subst (λ (cs : List (List ℕ)). list_all is_cell cs ≡ true) tested.1 tested.0, sym tested.1)

pub registered_cells_take : (parts : List (List ℕ)) (found : Numbered) → registered_cells parts ≡ Some found → IsRegistration found.0 × (list_all is_cell found.1 ≡ true) × (registration_part found.0 ∷ found.1 ≡ parts)
registered_cells_take parts found e =
    let first = bind_some (registration_first parts) _ found e in
    let second = map_some _ (cells_of ((first.0).1)) found first.2 in
    let registration = registration_first_takes parts first.0 first.1 in
    let cells = cells_of_takes ((first.0).1) second.0 second.1 in
    subst (λ (f : Numbered). IsRegistration f.0 × (list_all is_cell f.1 ≡ true) × (registration_part f.0 ∷ f.1 ≡ parts)) second.2
    (registration.0, cells.0, ap (λ (ps : List (List ℕ)). registration_part ((first.0).0) ∷ ps) cells.1 ∙ registration.1)

pub node_cells_take : (parts : List (List ℕ)) (found : NodeNumbered) → node_cells parts ≡ Some found → IsRegistration found.0 × IsNode found.1 × (list_all is_cell found.2 ≡ true) × (registration_part found.0 ∷ node_part found.1 ∷ found.2 ≡ parts)
node_cells_take parts found e =
    let first = bind_some (numbers_first parts) _ found e in
    let second = map_some _ (cells_of ((first.0).2)) found first.2 in
    let numbers = numbers_first_takes parts first.0 first.1 in
    let cells = cells_of_takes ((first.0).2) second.0 second.1 in
    subst (λ (f : NodeNumbered). IsRegistration f.0 × IsNode f.1 × (list_all is_cell f.2 ≡ true) × (registration_part f.0 ∷ node_part f.1 ∷ f.2 ≡ parts)) second.2
    (numbers.0, numbers.1, cells.0, ap (λ (ps : List (List ℕ)). registration_part ((first.0).0) ∷ node_part ((first.0).1) ∷ ps) cells.1 ∙ numbers.2)

pub numbers_again : (registration node : ℕ) (parts : List (List ℕ)) → IsRegistration registration → IsNode node → numbers_first (registration_part registration ∷ node_part node ∷ parts) ≡ Some (registration, node, parts)
numbers_again registration node parts r n = rw (registration_again registration r) (rw (node_again node n) refl)

pub registered_cells_again : (registration : ℕ) (cells : List (List ℕ)) → IsRegistration registration → list_all is_cell cells ≡ true → registered_cells (registration_part registration ∷ cells) ≡ Some (registration, cells)
registered_cells_again registration cells r all = rw (registration_again registration r) (rw all refl)

pub node_cells_again : (registration node : ℕ) (cells : List (List ℕ)) → IsRegistration registration → IsNode node → list_all is_cell cells ≡ true → node_cells (registration_part registration ∷ node_part node ∷ cells) ≡ Some (registration, node, cells)
node_cells_again registration node cells r n all = rw (registration_again registration r) (rw (node_again node n) (rw all refl))

-- ---- triples

abbrev Terms : Type 0
Terms = Term × Term × Term

terms_take : (parts : List (List ℕ)) (terms : Terms) → terms_of parts ≡ Some terms → (IsValid terms.0 × IsValid terms.1 × IsValid terms.2) × (printed terms.0 ∷ printed terms.1 ∷ printed terms.2 ∷ [] ≡ parts)
terms_take [] terms e = absurd cc
terms_take (a ∷ []) terms e = absurd cc
terms_take (a ∷ b ∷ []) terms e = absurd cc
terms_take (a ∷ b ∷ c ∷ d ∷ parts) terms e = absurd cc
terms_take (a ∷ b ∷ c ∷ []) terms e =
    let first = bind_some (term_of a) _ terms e in
    let second = bind_some (term_of b) _ terms first.2 in
    let third = map_some _ (term_of c) terms second.2 in
    let p = term_takes a first.0 first.1 in
    let q = term_takes b second.0 second.1 in
    let r = term_takes c third.0 third.1 in
    subst (λ (t : Terms). (IsValid t.0 × IsValid t.1 × IsValid t.2) × (printed t.0 ∷ printed t.1 ∷ printed t.2 ∷ [] ≡ a ∷ b ∷ c ∷ [])) third.2
    ((p.0, q.0, r.0), ap (λ (x : List ℕ). x ∷ printed second.0 ∷ printed third.0 ∷ []) p.1 ∙ ap (λ (x : List ℕ). a ∷ x ∷ printed third.0 ∷ []) q.1 ∙ ap (λ (x : List ℕ). a ∷ b ∷ x ∷ []) r.1)

terms_again : (a b c : Term) → IsValid a → IsValid b → IsValid c → terms_of (printed a ∷ printed b ∷ printed c ∷ []) ≡ Some (a, b, c)
terms_again a b c p q r = rw (term_again a p) (rw (term_again b q) (rw (term_again c r) refl))

pub triple_takes : (order : Order) (parts : List (List ℕ)) (triple : Triple) → triple_of order parts ≡ Some triple → IsTriple triple × (triple_parts order triple ≡ letter_of (order_kind order) ∷ parts)
triple_takes order parts triple e =
    let read = map_some _ (terms_of parts) triple e in
    let terms = terms_take parts read.0 read.1 in
    subst (λ (t : Triple). IsTriple t × (triple_parts order t ≡ letter_of (order_kind order) ∷ parts)) read.2 (placed order ((read.0).0) ((read.0).1) ((read.0).2) terms.0 terms.1)
  where
    placed : (order : Order) (a b c : Term) → IsValid a × IsValid b × IsValid c → printed a ∷ printed b ∷ printed c ∷ [] ≡ parts → IsTriple (in_order order a b c) × (triple_parts order (in_order order a b c) ≡ letter_of (order_kind order) ∷ parts)
    placed Spo a b c v is = ((v.0, v.1, v.2), ap (λ (ps : List (List ℕ)). letter_of (order_kind Spo) ∷ ps) is)
    placed Pos a b c v is = ((v.2, v.0, v.1), ap (λ (ps : List (List ℕ)). letter_of (order_kind Pos) ∷ ps) is)
    placed Osp a b c v is = ((v.1, v.2, v.0), ap (λ (ps : List (List ℕ)). letter_of (order_kind Osp) ∷ ps) is)

pub spo_again : (t : Triple) → IsTriple t → triple_of Spo (printed t.subject ∷ printed t.predicate ∷ printed t.object ∷ []) ≡ Some t
spo_again t v = ap (option_map (λ (x : Terms). in_order Spo x.0 x.1 x.2)) (terms_again t.subject t.predicate t.object v.0 v.1 v.2)

pub pos_again : (t : Triple) → IsTriple t → triple_of Pos (printed t.predicate ∷ printed t.object ∷ printed t.subject ∷ []) ≡ Some t
pos_again t v = ap (option_map (λ (x : Terms). in_order Pos x.0 x.1 x.2)) (terms_again t.predicate t.object t.subject v.1 v.2 v.0)

pub osp_again : (t : Triple) → IsTriple t → triple_of Osp (printed t.object ∷ printed t.subject ∷ printed t.predicate ∷ []) ≡ Some t
osp_again t v = ap (option_map (λ (x : Terms). in_order Osp x.0 x.1 x.2)) (terms_again t.object t.subject t.predicate v.2 v.0 v.1)
