-- What a load has gathered, as it reads.
use Rattle.std.proofs.Common.{◌≡◌, ◌≢◌, ◌<◌, ℕ, zero, suc, Bool, true, false, is_some, List, [], ◌∷◌, ◌++◌, length, take, ◌-◌, Option, Some, None, refl, ap, sym, subst, ◌∙◌, arith}
use Rattle.std.proofs.Math.Seq.{take-append_seam}
use Rattle.std.proofs.lemmas.List.Concat.{flat_map-append}
use Rattle.std.specs.List.{slice_get}
use Rattle.pcj_term.specs.declared.triple.Triple.{Triple}
use Rattle.pcj_table.specs.Table.{Key}
use Rattle.pcj_table.specs.declared.write.Write.{Write}
use Rattle.pcj_encode.specs.declared.order.Order.TheVariants.{Spo}
use Rattle.pcj_rowtables.specs.Rows.{triple_key}
use Rattle.pcj_moves.specs.declared.answer.Answer.{Answer}
use Rattle.pcj_moves.specs.declared.answer.Answer.TheVariants.{OfRange, OfRow}
use Rattle.pcj_moves.specs.Transactions.{are_distinct, new_transaction}
use Rattle.pcj_txn.specs.Progress.{new_progress as new_txn}
use Rattle.pcj_actor.specs.Progress.{IsAnswerOf, Progress, new_progress, transaction_of, with_held, with_task}
use Rattle.pcj_actor.specs.declared.task.Task.{Task}
use Rattle.pcj_actor.specs.declared.task.Task.TheVariants.{Rest, Get, Next, Put, Write as Writes}
use Rattle.pcj_rows.specs.Plans.{AreReadOf, IsLoad, absent_by, absent_of, load_writes, triple_writes}
use Rattle.pcj_rows.proofs.PlanLemmas.{absent_all, absent_once, load_distinct}
use Rattle.pcj_encode.specs.Name.{IsTriple}
use Rattle.pcj_client.specs.Job.{IsAtWork, IsTask, is_found, kept_writes}

-- ---- the beginning

none_absent : (triples : List Triple) → [] ≡ load_writes (absent_of triples [])
none_absent [] = refl
none_absent (triple ∷ triples) = refl

pub begins_empty : (load : ℕ) (triples : List Triple) (progress : Progress) (writes : List Write) → IsLoad load triples → triples ≡ [] → progress ≡ with_task (new_progress load) (Writes (new_txn load [])) → IsAtWork progress triples writes None
begins_empty load triples progress writes is none begun = subst (λ p. IsAtWork p triples writes None) (sym begun) (record {
  load = is;
  reads = tt;
  transaction = refl;
  start = refl;
  task = (refl, ap length (sym none), none_absent triples);
})

pub begins : (load : ℕ) (triples : List Triple) (progress : Progress) (writes : List Write) → IsLoad load triples → triples ≢ [] → progress ≡ new_progress load → writes ≡ [] → IsAtWork progress triples writes None
begins load triples progress writes is some begun none = subst (λ p. IsAtWork p triples writes None) (sym begun) (record {
  load = is;
  reads = tt;
  transaction = refl;
  start = tt;
  task = (refl, longer triples some, none ∙ none_absent triples);
})
  where
    longer : (ts : List Triple) → ts ≢ [] → 0 < length ts
    longer [] e = absurd (e refl)
    longer (t ∷ ts) e = omega arith

-- ---- a triple is asked for

within : (triples : List Triple) (at : ℕ) (triple : Triple) → slice_get triples at ≡ Some triple → at < length triples
within [] zero triple e = absurd cc
within [] (suc at) triple e = absurd cc
within (first ∷ triples) zero triple e = omega arith
within (first ∷ triples) (suc at) triple e = let lt = within triples at triple e in omega arith

pub asked : (before after : Progress) (triples : List Triple) (writes more : List Write) (kept : Option ℕ) (len : ℕ) (triple : Triple) (key : Key) → IsAtWork before triples writes kept → is_some kept ≡ false →
    slice_get triples (length before.actor.answers) ≡ Some triple → key ≡ triple_key Spo triple → more ≡ writes ++ triple_writes triple → len ≡ length writes → after ≡ with_task before (Get key) →
    IsAtWork after triples more (Some len)
asked before after triples writes more kept len triple key work none found is added gathered next = subst (λ p. IsAtWork p triples more (Some len)) (sym next) (record {
  load = work.load;
  reads = work.reads;
  transaction = refl;
  start = tt;
  task = by before.task work.task;
})
  where
    by : (task : Task) → IsTask task before.actor triples writes kept → IsTask (Get key) before.actor triples more (Some len)
    by Rest at = (ap Some (gathered ∙ ap length at.2), triple, found, is, added ∙ ap (λ ws. ws ++ triple_writes triple) at.2)
    by (Get other) at = absurd (let clash : false ≡ true = sym none ∙ ap is_some at.0 in cc)
    by (Next range) at = absurd at
    by (Put other plain) at = absurd at
    by (Writes progress) at = absurd (let lt = within triples (length before.actor.answers) triple found in let same = at.1 in omega arith)

-- ---- an answer

append_nil : {X : Type 0} (xs : List X) → xs ++ [] ≡ xs
append_nil [] = refl
append_nil (x ∷ xs) = ap (λ ys. x ∷ ys) (append_nil xs)

length_more : (answers : List Answer) (answer : Answer) → length (answers ++ (answer ∷ [])) ≡ suc (length answers)
length_more [] answer = refl
length_more (other ∷ answers) answer = ap suc (length_more answers answer)

slices_more : (triples : List Triple) (answers : List Answer) (triple : Triple) (key : Key) (found : Option (List ℕ)) → AreReadOf triples answers → slice_get triples (length answers) ≡ Some triple → key ≡ triple_key Spo triple →
    AreReadOf triples (answers ++ (OfRow key found ∷ []))
slices_more [] [] triple key found reads at is = absurd cc
slices_more [] (answer ∷ answers) triple key found reads at is = absurd reads
slices_more (first ∷ triples) [] triple key found reads at is = let same : first ≡ triple = cc in (is ∙ ap (triple_key Spo) (sym same), tt)
slices_more (first ∷ triples) (OfRow other seen ∷ answers) triple key found reads at is = (reads.0, slices_more triples answers triple key found reads.1 at is)
slices_more (first ∷ triples) (OfRange after end seen ∷ answers) triple key found reads at is = absurd reads

absent_more : (triples : List Triple) (answers : List Answer) (triple : Triple) (answer : Answer) → AreReadOf triples answers → slice_get triples (length answers) ≡ Some triple →
    absent_of triples (answers ++ (answer ∷ [])) ≡ absent_of triples answers ++ absent_by triple answer
absent_more [] [] triple answer reads at = absurd cc
absent_more [] (other ∷ answers) triple answer reads at = absurd reads
absent_more (first ∷ triples) [] triple answer reads at = let same : first ≡ triple = cc in ap (λ t. absent_by t answer ++ absent_of triples []) same ∙ ap (λ ts. absent_by triple answer ++ ts) (nothing triples) ∙ append_nil (absent_by triple answer)
  where
    nothing : (ts : List Triple) → absent_of ts [] ≡ []
    nothing [] = refl
    nothing (t ∷ ts) = refl
absent_more (first ∷ triples) (OfRow key None ∷ answers) triple answer reads at = ap (λ ts. first ∷ ts) (absent_more triples answers triple answer reads.1 at)
absent_more (first ∷ triples) (OfRow key (Some value) ∷ answers) triple answer reads at = absent_more triples answers triple answer reads.1 at
absent_more (first ∷ triples) (OfRange after end found ∷ answers) triple answer reads at = absurd reads

-- the writes after the answer
pub record HasAnswered (before : Progress) (triples : List Triple) (answer : Answer) (writes : List Write) : Type 0 where
  pub reads : AreReadOf triples (before.actor.answers ++ (answer ∷ []))
  pub writes_are : writes ≡ load_writes (absent_of triples (before.actor.answers ++ (answer ∷ [])))
  pub within : length before.actor.answers < length triples
  pub nothing : before.actor.transaction ≡ new_transaction []

pub has_answered : (before : Progress) (triples : List Triple) (writes : List Write) (kept : Option ℕ) (answer : Answer) → IsAtWork before triples writes kept → IsAnswerOf before.task answer →
    HasAnswered before triples answer (kept_writes kept (is_found (Some answer)) writes)
has_answered before triples writes kept answer work of = by before.task refl answer work.task of
  where
    by : (task : Task) → before.task ≡ task → (answer : Answer) → IsTask task before.actor triples writes kept → IsAnswerOf task answer → HasAnswered before triples answer (kept_writes kept (is_found (Some answer)) writes)
    by Rest is answer at of = absurd of
    by (Get key) is (OfRow other found) at of = record {
      reads = slices_more triples before.actor.answers at.1 other found work.reads at.2 (of ∙ at.3);
      writes_are = gathered found
          ∙ ap load_writes (sym (absent_more triples before.actor.answers at.1 (OfRow other found) work.reads at.2));
      within = within triples (length before.actor.answers) at.1 at.2;
      nothing = work.transaction ∙ ap transaction_of is;
    }
      where
        gathered : (f : Option (List ℕ)) → kept_writes kept (is_found (Some (OfRow other f))) writes ≡ load_writes (absent_of triples before.actor.answers ++ absent_by at.1 (OfRow other f))
        gathered None = ap (λ k. kept_writes k false writes) at.0 ∙ at.4 ∙ ap (λ ws. load_writes (absent_of triples before.actor.answers) ++ ws) (sym (append_nil (triple_writes at.1)))
            ∙ sym (flat_map-append triple_writes (absent_of triples before.actor.answers) (at.1 ∷ []))
        gathered (Some value) = ap (λ k. kept_writes k true writes) at.0 ∙ ap (take (length (load_writes (absent_of triples before.actor.answers)))) at.4
            ∙ take-append_seam (load_writes (absent_of triples before.actor.answers)) (triple_writes at.1) ∙ ap load_writes (sym (append_nil (absent_of triples before.actor.answers)))
    by (Get key) is (OfRange after end found) at of = absurd of
    by (Next range) is answer at of = absurd at
    by (Put other plain) is answer at of = absurd at
    by (Writes progress) is answer at of = absurd of

-- it goes on reading
pub reads_on : (before after : Progress) (triples : List Triple) (answer : Answer) (writes : List Write) (kept : Option ℕ) (old : List Write) → IsAtWork before triples old kept → HasAnswered before triples answer writes → after ≡ with_held before answer →
    length after.actor.answers ≢ length triples → IsAtWork after triples writes None
reads_on before after triples answer writes kept old work has next more = subst (λ p. IsAtWork p triples writes None) (sym next) (record {
  load = work.load;
  reads = has.reads;
  transaction = has.nothing;
  start = tt;
  task = (refl, less (λ e. more (ap (λ (p : Progress). length p.actor.answers) next ∙ e)), has.writes_are);
})
  where
    less : length (before.actor.answers ++ (answer ∷ [])) ≢ length triples → length (before.actor.answers ++ (answer ∷ [])) < length triples
    less differs = let one = length_more before.actor.answers answer in let lt = has.within in omega (arith, differs, one, lt)

-- or carries its writes out
pub writes_all : (before held after : Progress) (triples : List Triple) (answer : Answer) (writes left : List Write) (kept : Option ℕ) (old : List Write) → IsAtWork before triples old kept → HasAnswered before triples answer writes → held ≡ with_held before answer →
    length held.actor.answers ≡ length triples → after ≡ with_task held (Writes (new_txn held.actor.start writes)) → IsAtWork after triples left None
writes_all before held after triples answer writes left kept old work has next all begun = subst (λ p. IsAtWork p triples left None) (sym begun) (record {
  load = subst (λ (p : Progress). IsLoad p.actor.start triples) (sym next) work.load;
  reads = subst (λ (p : Progress). AreReadOf triples p.actor.answers) (sym next) has.reads;
  transaction = refl;
  start = refl;
  task = (refl, all, has.writes_are ∙ ap (λ (p : Progress). load_writes (absent_of triples p.actor.answers)) (sym next));
})

-- whose rows are distinct
pub distinct_writes : (before : Progress) (triples : List Triple) (answer : Answer) (writes : List Write) (kept : Option ℕ) (old : List Write) → IsAtWork before triples old kept → HasAnswered before triples answer writes → are_distinct writes ≡ true
distinct_writes before triples answer writes kept old work has =
    ap are_distinct has.writes_are ∙ load_distinct (absent_of triples (before.actor.answers ++ (answer ∷ []))) (absent_all IsTriple triples (before.actor.answers ++ (answer ∷ [])) work.load.valid)
    (absent_once triples (before.actor.answers ++ (answer ∷ [])) work.load.once)

-- the answer is the last
at_last : (answers : List Answer) (answer : Answer) → slice_get (answers ++ (answer ∷ [])) (length answers) ≡ Some answer
at_last [] answer = refl
at_last (other ∷ answers) answer = at_last answers answer

pub last_held : (before after : Progress) (answer : Answer) (held : List Answer) (found : Option Answer) → held ≡ after.actor.answers → after ≡ with_held before answer → found ≡ slice_get held (length held - 1) → is_found found ≡ is_found (Some answer)
last_held before after answer held found are next is = ap is_found
    (is ∙ ap (λ xs. slice_get xs (length xs - 1)) (are ∙ ap (λ (p : Progress). p.actor.answers) next)
    ∙ ap (slice_get (before.actor.answers ++ (answer ∷ []))) (let one = length_more before.actor.answers answer in let e : length (before.actor.answers ++ (answer ∷ [])) - 1 ≡ length before.actor.answers = omega (arith, one) in e)
    ∙ at_last before.actor.answers answer)

-- what is left of the writes
pub left_of : (before after : Progress) (triples : List Triple) (writes more : List Write) (kept taken : Option ℕ) (answer : Answer) (held : List Answer) (last : Option Answer) (found : Bool) → IsAtWork before triples writes kept → IsAnswerOf before.task answer →
    after ≡ with_held before answer → held ≡ after.actor.answers → last ≡ slice_get held (length held - 1) → found ≡ is_found last → taken ≡ kept → more ≡ kept_writes taken found writes → HasAnswered before triples answer more
left_of before after triples writes more kept taken answer held last found work of next are is found_is took left =
    subst (HasAnswered before triples answer)
    (sym (left ∙ ap (λ k. kept_writes k found writes) took ∙ ap (λ b. kept_writes kept b writes) (found_is ∙ last_held before after answer held last are next is)))
    (has_answered before triples writes kept answer work of)
