-- There is a language that is SPARQL's, and no two differ in what commands ask of them.
use Rattle.std.proofs.Common.{◌≡◌, ◌⊎◌, ℕ, List, [], Option, Some, None, inl, inr, refl, ap, sym, ◌∙◌}
use Rattle.pcj_algebra.specs.declared.pattern.Pattern.TheVariants as pattern
use Rattle.pcj_algebra.specs.declared.query.Query.{Query}
use Rattle.pcj_algebra.specs.declared.query.Shape.TheVariants.{Distinct}
use Rattle.pcj_algebra.specs.declared.triple_pattern.Slot.TheVariants as slot
use Rattle.pcj_answers.specs.Answers.{Exist, HaveOneList}
use Rattle.pcj_sparql.specs.declared.error.QueryError.{QueryError}
use Rattle.pcj_sparql.specs.Query.{QueryFault, QueryText}
use Rattle.pcj_sparql.proofs.OneQuery.{says_one, one_fault, not_both, either}
use Rattle.pcj_model.specs.Reply.{Refusal}
use Rattle.pcj_session.specs.Language.{IsOneLanguage, IsThere, observed_refusal, refusal_of}

abbrev Read : List ℕ → Type 0
Read text = ((query : Query) × QueryText text query) ⊎ ((error : QueryError) × QueryFault text error)

abbrev scan_of : (text : List ℕ) → Read text → Option Refusal
scan_of text (inl read) = None
scan_of text (inr fault) = Some (refusal_of fault.0)

abbrev register_of : (text : List ℕ) → Read text → Option Refusal
register_of text (inl read) = observed_refusal read.0
register_of text (inr fault) = Some (refusal_of fault.0)

abbrev query_or : Query → (text : List ℕ) → Read text → Query
query_or other text (inl read) = read.0
query_or other text (inr fault) = other

-- of a text that is no query it reads this one
any_query : Query
any_query = record { shape = Distinct []; pattern = pattern.Triple (record { subject = slot.Var []; predicate = slot.Var []; object = slot.Var [] }) }

pub some_language : Exist → IsThere
some_language exist = (
  record {
    scan_refusal = λ text. scan_of text (either text);
    register_refusal = λ text. register_of text (either text);
    query_of = λ text. query_or any_query text (either text);
    rows = λ query triples. (exist query triples).0;
  },
  record {
    refuses_scan = λ text error fault. refuses text error fault (either text);
    refuses_register = λ text error fault. refuses_too text error fault (either text);
    scans = λ text query of_text. scans text query of_text (either text);
    registers = λ text query of_text. registers text query of_text (either text);
    reads = λ text query of_text. reads text query of_text (either text);
    answers = λ query triples. (exist query triples).1;
  },
)
  where
    refuses : (text : List ℕ) (error : QueryError) → QueryFault text error → (read : Read text) → scan_of text read ≡ Some (refusal_of error)
    refuses text error fault (inl read) = absurd (not_both text read.0 error read.1 fault)
    refuses text error fault (inr other) = ap (λ e. Some (refusal_of e)) (one_fault text other.0 error other.1 fault)

    refuses_too : (text : List ℕ) (error : QueryError) → QueryFault text error → (read : Read text) → register_of text read ≡ Some (refusal_of error)
    refuses_too text error fault (inl read) = absurd (not_both text read.0 error read.1 fault)
    refuses_too text error fault (inr other) = ap (λ e. Some (refusal_of e)) (one_fault text other.0 error other.1 fault)

    scans : (text : List ℕ) (query : Query) → QueryText text query → (read : Read text) → scan_of text read ≡ None
    scans text query of_text (inl read) = refl
    scans text query of_text (inr fault) = absurd (not_both text query fault.0 of_text fault.1)

    registers : (text : List ℕ) (query : Query) → QueryText text query → (read : Read text) → register_of text read ≡ observed_refusal query
    registers text query of_text (inl read) = ap observed_refusal (says_one text read.0 query read.1 of_text)
    registers text query of_text (inr fault) = absurd (not_both text query fault.0 of_text fault.1)

    reads : (text : List ℕ) (query : Query) → QueryText text query → (read : Read text) → query_or any_query text read ≡ query
    reads text query of_text (inl read) = says_one text read.0 query read.1 of_text
    reads text query of_text (inr fault) = absurd (not_both text query fault.0 of_text fault.1)

pub one_language : HaveOneList → IsOneLanguage
one_language one language other text query triples sparql also = elim (either text) [
  | inl read ↦ (
    sparql.scans text read.0 read.1 ∙ sym (also.scans text read.0 read.1),
    sparql.registers text read.0 read.1 ∙ sym (also.registers text read.0 read.1),
    (λ good. sparql.reads text read.0 read.1 ∙ sym (also.reads text read.0 read.1)),
    alike,
  )
  | inr fault ↦ (
    sparql.refuses_scan text fault.0 fault.1 ∙ sym (also.refuses_scan text fault.0 fault.1),
    sparql.refuses_register text fault.0 fault.1 ∙ sym (also.refuses_register text fault.0 fault.1),
    (λ good. absurd (let clash = sym (sparql.refuses_scan text fault.0 fault.1) ∙ good in cc)),
    alike,
  )
]
  where
    alike : language.rows query triples ≡ other.rows query triples
    alike = one query triples (language.rows query triples) (other.rows query triples) (sparql.answers query triples) (also.answers query triples)
