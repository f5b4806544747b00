-- Which triples a table has.
use Rattle.std.proofs.Common.{◌≡◌, ◌⊎◌, inl, inr, ℕ, Bool, true, false, ◌||◌, is_some, List, [], ◌∷◌, ◌++◌, length, Option, Some, None, IsSome, refl, ap, sym, subst, ◌∙◌, if◌then◌else◌}
use Rattle.std.proofs.lemmas.List.Elements.{All-append, All-head, All-nil, All-tail, Contains-append_cases, Contains-append_left, Contains-append_right}
use Rattle.std.specs.List.{All, Contains}
use Rattle.pcj_term.proofs.ByteLemmas.{bytes_cases, same_bytes_itself}
use Rattle.pcj_term.proofs.ListLemmas.{first_or_later, first_there, later_there, nothing_in, passed_by_one}
use Rattle.pcj_term.proofs.Same.{same_triple_refl, same_triple_true}
use Rattle.pcj_term.specs.declared.triple.Triple.{Triple}
use Rattle.pcj_term.specs.Triple.{same_triple}
use Rattle.pcj_table.specs.Row.{has_nothing, newest, versions_up_to}
use Rattle.pcj_table.specs.Table.{Key}
use Rattle.pcj_table.specs.declared.row.Row.{Row}
use Rattle.pcj_encode.proofs.Names.{names_one_row}
use Rattle.pcj_encode.specs.declared.order.Order.{Order}
use Rattle.pcj_encode.specs.declared.order.Order.TheVariants.{Spo, Pos, Osp}
use Rattle.pcj_encode.specs.declared.task_name.TaskName.TheVariants as task
use Rattle.pcj_encode.specs.declared.key_name.KeyName.TheVariants as row
use Rattle.pcj_encode.specs.Name.{IsTriple, key_of}
use Rattle.pcj_rowtables.specs.Rows.{triple_key}
use Rattle.pcj_oracle.specs.Clock.{clock_key}
use Rattle.pcj_mvcc.specs.Reading.{Put, Rows, committed, put_of, reading, seen, standing, versions_read}
use Rattle.pcj_moves.specs.declared.answer.Answer.{Answer}
use Rattle.pcj_moves.specs.declared.answer.Answer.TheVariants.{OfRange, OfRow}
use Rattle.pcj_moves.specs.Reads.{Reads, value_seen}
use Rattle.pcj_moves.specs.StandingLaws.{StandsWhole}
use Rattle.pcj_moves.proofs.MoveLemmas.{empty_is_consistent}
use Rattle.pcj_moves.proofs.StandingLemmas.{one_move_changes}
use Rattle.pcj_moves.specs.Moves.{CommitPrimary, rows_after}
use Rattle.pcj_choices.proofs.ClaimLemmas.{reads_the_same}
use Rattle.pcj_kept.proofs.EmptyLemmas.{empty_is_kept}
use Rattle.pcj_fit.specs.Laws.{ClockAloneIsFit, FoundAreThere, LoadsAddTriples, MovesLeaveTriples}
use Rattle.pcj_rows.specs.Origins.{HasOrigin, IsAfter}
use Rattle.pcj_rows.specs.Plans.{AreReadOf, IsLoadPlan, absent_of, load_writes}
use Rattle.pcj_fit.specs.QueryLaws.{RegistrationsLeaveTriples}
use Rattle.pcj_rows.specs.Rows.{Decodes, IsDecoded}
use Rattle.pcj_rows.specs.Triples.{HasTriples}
use Rattle.pcj_fit.proofs.FitLemmas.{stands_of}
use Rattle.pcj_rows.proofs.PlanLemmas.{absent_all, by_order, is_among, mark_unwritten, mark_written}
use Rattle.pcj_rows.proofs.PutLemmas.{seen_stands}
use Rattle.pcj_fit.proofs.SoundLemmas.{sound_is_fit}

-- ---- what a load has read

-- a triple that it read, and doesn't write, is there
read_is_there : (next : ℕ) (rows : Rows) (start : ℕ) (triples : List Triple) (answers : List Answer) (triple : Triple) → Decodes next rows → All IsTriple triples → AreReadOf triples answers → length answers ≡ length triples → Reads rows start answers →
    Contains triples triple → is_among triple (absent_of triples answers) ≡ false → IsSome (standing rows (triple_key Spo triple))
read_is_there next rows start [] answers triple decodes valid reads all seen there absent = absurd (nothing_in triple there)
read_is_there next rows start (first ∷ triples) [] triple decodes valid reads all seen there absent = absurd cc
read_is_there next rows start (first ∷ triples) (OfRange after end found ∷ answers) triple decodes valid reads all seen there absent = absurd reads
read_is_there next rows start (first ∷ triples) (OfRow key found ∷ answers) triple decodes valid reads all seen there absent =
    by found refl (first_or_later first triples triple there)
    (λ later apart. read_is_there next rows start triples answers triple decodes (All-tail IsTriple first triples valid) reads.1 (let same = all in cc)
    (λ answer held. seen answer (later_there (OfRow key found) answers answer held)) later apart)
  where
    by : (f : Option (List ℕ)) → found ≡ f → (first ≡ triple) ⊎ Contains triples triple →
        (Contains triples triple → is_among triple (absent_of triples answers) ≡ false → IsSome (standing rows (triple_key Spo triple))) → IsSome (standing rows (triple_key Spo triple))
    by None e either rest = or either
      where
        not_here : (is_among triple (first ∷ absent_of triples answers)) ≡ false
        not_here = ap (λ f. is_among triple (Rattle.pcj_rows.specs.Plans.absent_by first (OfRow key f) ++ absent_of triples answers)) (sym e) ∙ absent

        or : (first ≡ triple) ⊎ Contains triples triple → IsSome (standing rows (triple_key Spo triple))
        or (inl same) = absurd (let its : same_triple triple first ≡ true = ap (same_triple triple) same ∙ same_triple_refl triple in
            let clash : true ≡ false = ap (λ b. b || is_among triple (absent_of triples answers)) (sym its) ∙ not_here in cc)
        or (inr later) = rest later (or_false (same_triple triple first) not_here)
          where
            or_false : (b : Bool) {c : Bool} → (b || c) ≡ false → c ≡ false
            or_false true e = absurd cc
            or_false false e = e
    by (Some value) e either rest = or either
      where
        or : (first ≡ triple) ⊎ Contains triples triple → IsSome (standing rows (triple_key Spo triple))
        or (inl same) = seen_stands next rows (row.Triple Spo triple) start value decodes (subst IsTriple same (All-head IsTriple first triples valid)) refl (λ deleted. deleted)
            (subst (λ t. value_seen rows (triple_key Spo t) start ≡ Some value) same
            (subst (λ k. value_seen rows k start ≡ Some value) reads.0 (seen (OfRow key found) (first_there (OfRow key found) answers) key (same_bytes_itself key) ∙ e)))
        or (inr later) = rest later (ap (λ f. is_among triple (Rattle.pcj_rows.specs.Plans.absent_by first (OfRow key f) ++ absent_of triples answers)) (sym e) ∙ absent)

-- what it writes is of its triples
absent_is_its : (triples : List Triple) (answers : List Answer) (triple : Triple) → is_among triple (absent_of triples answers) ≡ true → Contains triples triple
absent_is_its triples answers triple e =
    let found = passed_by_one (same_triple triple) (absent_of triples answers) e in
    subst (Contains triples) (sym (same_triple_true triple found.0 found.2)) (within triples answers found.0 found.1)
  where
    within : (triples : List Triple) (answers : List Answer) (other : Triple) → Contains (absent_of triples answers) other → Contains triples other
    within [] answers other there = absurd (nothing_in other there)
    within (first ∷ triples) [] other there = absurd (nothing_in other there)
    within (first ∷ triples) (OfRow key None ∷ answers) other there = by (first_or_later first (absent_of triples answers) other there) (within triples answers other)
      where
        by : (first ≡ other) ⊎ Contains (absent_of triples answers) other → (Contains (absent_of triples answers) other → Contains triples other) → Contains (first ∷ triples) other
        by (inl same) later = subst (Contains (first ∷ triples)) same (first_there first triples)
        by (inr rest) later = later_there first triples other (later rest)
    within (first ∷ triples) (OfRow key (Some value) ∷ answers) other there = later_there first triples other (within triples answers other there)
    within (first ∷ triples) (OfRange after end found ∷ answers) other there = later_there first triples other (within triples answers other there)

-- ---- triples of tables

pub same_triples : (before after : Rows) (known : List Triple) → ((triple : Triple) → IsTriple triple → standing after (triple_key Spo triple) ≡ standing before (triple_key Spo triple)) → HasTriples before known → HasTriples after known
same_triples before after known same has = record {
  valid = has.valid;
  each = λ triple valid. (
    λ there. ap is_some (same triple valid) ∙ (has.each triple valid).0 there,
    λ stands. (has.each triple valid).1 (ap is_some (sym (same triple valid)) ∙ stands),
  );
}

pub moves_leave_triples : MovesLeaveTriples
moves_leave_triples number rows actor others move known other may sound has =
    let same = reads_the_same number rows actor others move other may sound.consistent in
    same_triples rows _ known (λ triple valid. ap (λ read. put_of (newest (read (triple_key Spo triple)))) same) has

-- what stands after a load's commit
joined : (number : ℕ) (before after : Rows) (start : ℕ) (answers : List Answer) (triples known : List Triple) (commit : ℕ) → Decodes number before → IsLoadPlan start answers (load_writes (absent_of triples answers)) triples → Reads before start answers →
    ((triple : Triple) → IsTriple triple → standing after (triple_key Spo triple) ≡ (if is_among triple (absent_of triples answers) then Some ([], commit) else standing before (triple_key Spo triple))) →
    HasTriples before known → HasTriples after (known ++ triples)
joined number before after start answers triples known commit decodes plan reads stands has = record {
  valid = All-append IsTriple known triples has.valid plan.load.valid;
  each = λ triple valid. (λ there. to triple valid (is_among triple (absent_of triples answers)) refl (Contains-append_cases known triples triple there), from triple valid (is_among triple (absent_of triples answers)) refl);
}
  where
    to : (triple : Triple) → IsTriple triple → (b : Bool) → is_among triple (absent_of triples answers) ≡ b → Contains known triple ⊎ Contains triples triple → IsSome (standing after (triple_key Spo triple))
    to triple valid true e either = ap is_some (stands triple valid) ∙ ap (λ b. is_some (if b then Some ([], commit) else standing before (triple_key Spo triple))) e
    to triple valid false e either = ap is_some (stands triple valid) ∙ ap (λ b. is_some (if b then Some ([], commit) else standing before (triple_key Spo triple))) e ∙ was either
      where
        was : Contains known triple ⊎ Contains triples triple → IsSome (standing before (triple_key Spo triple))
        was (inl there) = (has.each triple valid).0 there
        was (inr there) = read_is_there number before start triples answers triple decodes plan.load.valid plan.reads plan.all reads there e

    from : (triple : Triple) → IsTriple triple → (b : Bool) → is_among triple (absent_of triples answers) ≡ b → IsSome (standing after (triple_key Spo triple)) → Contains (known ++ triples) triple
    from triple valid true e some = Contains-append_right known triples triple (absent_is_its triples answers triple e)
    from triple valid false e some = Contains-append_left known triples triple ((has.each triple valid).1
        (ap (λ b. is_some (if b then Some ([], commit) else standing before (triple_key Spo triple))) (sym e) ∙ ap is_some (sym (stands triple valid)) ∙ some))

pub loads_add_triples : LoadsAddTriples
loads_add_triples number rows actor others write commit triples known plan may sound has =
    let whole = subst (λ ws. StandsWhole ws commit rows (rows_after (CommitPrimary write commit) actor rows)) plan.writes_are (one_move_changes number rows actor others (CommitPrimary write commit) may sound.consistent) in
    joined number rows (rows_after (CommitPrimary write commit) actor rows) actor.start actor.answers triples known commit (sound_is_fit number rows (actor ∷ others) sound).decodes
    (subst (λ ws. IsLoadPlan actor.start actor.answers ws triples) plan.writes_are plan) sound.consistent.sound.0.reads
    (λ triple valid. stands_of (load_writes (absent_of triples actor.answers)) commit rows (rows_after (CommitPrimary write commit) actor rows) triple (by_order Spo) (is_among triple (absent_of triples actor.answers)) whole
    (mark_written (absent_of triples actor.answers) (by_order Spo) triple (absent_all IsTriple triples actor.answers plan.load.valid) valid)) has

-- ---- the commit of a registration

pub registrations_leave_triples : RegistrationsLeaveTriples
registrations_leave_triples number rows actor others write commit name tree known plan may sound has =
    let whole = subst (λ ws. StandsWhole ws commit rows (rows_after (CommitPrimary write commit) actor rows)) plan.writes_are (one_move_changes number rows actor others (CommitPrimary write commit) may sound.consistent) in
    same_triples rows (rows_after (CommitPrimary write commit) actor rows) known
    (λ triple valid. (whole.others (triple_key Spo triple) (mark_unwritten actor.start name tree (by_order Spo) triple plan.number plan.of_query valid)).stands) has

-- ---- a load that writes nothing

-- it has found all
nothing_absent : (triples : List Triple) → [] ≡ load_writes triples → triples ≡ []
nothing_absent [] e = refl
nothing_absent (triple ∷ triples) e = absurd cc

pub found_are_there : FoundAreThere
found_are_there number rows actor others triples known plan sound has =
    let none = nothing_absent (absent_of triples actor.answers) plan.writes_are in
    joined number rows rows actor.start actor.answers triples known 0 (sound_is_fit number rows (actor ∷ others) sound).decodes
    (subst (λ ws. IsLoadPlan actor.start actor.answers ws triples) plan.writes_are plan) sound.consistent.sound.0.reads
    (λ triple valid. ap (λ b. if b then Some ([], 0) else standing rows (triple_key Spo triple)) (sym (ap (is_among triple) none))) has

-- ---- the empty table

nothing_read : (rows : Rows) → ((key : Key) → ((rows key).lock ≡ None) × ((rows key).versions ≡ [])) → (key : Key) → versions_read rows key ≡ []
nothing_read rows none key = ap (λ l. reading (committed rows) l (rows key).versions) (none key).0 ∙ (none key).1

pub clock_alone_is_fit : ClockAloneIsFit
clock_alone_is_fit number rows alone = (
  record {
    decodes = λ key some. at key some (bytes_cases key clock_key);
    times = consistent.times;
    named = consistent.named;
    once = consistent.once;
    apart = record {
      versions = λ key start commit e. absurd (never key start commit e);
      locks = λ key start commit e. absurd (never key start commit e);
    };
    atomic = record { pos = λ triple valid. stands Pos triple ∙ sym (stands Spo triple); osp = λ triple valid. stands Osp triple ∙ sym (stands Spo triple) };
    registered = record {
      names = λ name put e. absurd (nothing (key_of (row.Name name)) put e);
      registrations = λ registration put small e. absurd (nothing (key_of (row.Registration registration)) put e);
      patterns = λ registration node put small small' e. absurd (nothing (key_of (row.Pattern registration node)) put e);
    };
    origins = record {
      triples = λ triple valid. untasked (key_of (row.Task (task.Triple triple))) (triple_key Spo triple);
      backfills = λ registration node small small'. untasked (key_of (row.Task (task.Backfill registration node))) (key_of (row.Pattern registration node));
    };
    kept = empty_is_kept rows (λ name named differs. alone.others (key_of name) (λ same. differs (names_one_row name row.Clock named tt same)));
  },
  record {
    valid = All-nil IsTriple;
    each = λ triple valid. (λ there. absurd (nothing_in triple there), λ some. absurd (let clash : false ≡ true = ap is_some (sym (stands Spo triple)) ∙ some in cc));
  },
)
  where
    none : (key : Key) → ((rows key).lock ≡ None) × ((rows key).versions ≡ [])
    none key = by (bytes_cases key clock_key)
      where
        by : (key ≡ clock_key) ⊎ (key ≡ clock_key → ⊥) → ((rows key).lock ≡ None) × ((rows key).versions ≡ [])
        by (inl same) = subst (λ k. ((rows k).lock ≡ None) × ((rows k).versions ≡ [])) (sym same) (alone.clock.lock, alone.clock.versions)
        by (inr other) = subst (λ (r : Row). (r.lock ≡ None) × (r.versions ≡ [])) (sym (alone.others key other)) (refl, refl)

    consistent : Rattle.pcj_moves.specs.Moves.IsConsistent (record { number = number; rows = rows; actors = [] })
    consistent = empty_is_consistent number rows none

    never : (key : Key) (start commit : ℕ) → committed rows key start ≡ Some commit → ⊥
    never key start commit e = let clash : None ≡ Some commit = ap (Rattle.pcj_mvcc.specs.Reading.commit_of start) (sym (none key).1) ∙ e in cc

    stands_nowhere : (key : Key) → standing rows key ≡ None
    stands_nowhere key = ap (λ vs. put_of (newest vs)) (nothing_read rows none key)

    stands : (order : Order) (triple : Triple) → standing rows (triple_key order triple) ≡ None
    stands order triple = stands_nowhere (triple_key order triple)

    nothing : (key : Key) (put : Put) → standing rows key ≡ Some put → ⊥
    nothing key put e = let clash : None ≡ Some put = sym (stands_nowhere key) ∙ e in cc

    untasked : (key origin : Key) → HasOrigin rows key origin
    untasked key origin = record {
      stands = subst (λ found. IsAfter found (standing rows origin)) (sym (stands_nowhere key)) tt;
      was_seen = λ at some. absurd (let clash : false ≡ true = ap (λ vs. is_some (put_of (newest (versions_up_to at vs)))) (sym (nothing_read rows none key)) ∙ some in cc);
    }

    at : (key : Key) → has_nothing (rows key) ≡ false → (key ≡ clock_key) ⊎ (key ≡ clock_key → ⊥) → IsDecoded number key (rows key)
    at key some (inl same) = record { name = row.Clock; valid = tt; granted = tt; is = same; holds = subst (λ k. Rattle.pcj_rows.specs.Rows.IsClockRow (rows k)) (sym same) alone.clock }
    at key some (inr other) = absurd (let clash : true ≡ false = ap has_nothing (sym (alone.others key other)) ∙ some in cc)
