-- The writes of a transaction whose rows are distinct.
use Rattle.std.proofs.Common.{◌≡◌, zero, suc, Bool, true, false, cond, not, is_some, List, [], ◌∷◌, Some, refl, ap, sym, ◌∙◌, arith}
use Rattle.std.proofs.lemmas.Bool.{and_parts}
use Rattle.std.specs.List.{slice_get}
use Rattle.pcj_term.proofs.ByteLemmas.{other_bytes, same_bytes_itself}
use Rattle.pcj_term.specs.Order.{same_bytes}
use Rattle.pcj_table.specs.declared.write.Write.{Write}
use Rattle.pcj_moves.specs.Traces.{place}
use Rattle.pcj_moves.specs.Transactions.{are_distinct, write_at}
use Rattle.pcj_moves.specs.WriteLaws.{DistinctAreNew, DistinctAreSecondary, DistinctAreThere, NextIsNew, UndrawnIsUndone}

-- a later write is of another row than the first
apart_from_first : (first : Write) (writes : List Write) (write : Write) → not (is_some (write_at writes first.key)) ≡ true → write_at writes write.key ≡ Some write → same_bytes write.key first.key ≡ false
apart_from_first first writes write none there = other_bytes write.key first.key (λ same. absurd
    (let clash : false ≡ true = ap (λ found. not (is_some found)) (sym there) ∙ ap (λ key. not (is_some (write_at writes key))) same ∙ none in cc))

pub distinct_are_there : DistinctAreThere
distinct_are_there [] place write distinct is = absurd cc
distinct_are_there (first ∷ writes) zero write distinct is =
    let same : first ≡ write = cc in
    ap (λ (w : Write). cond (same_bytes write.key w.key) (Some w) (write_at writes write.key)) same ∙ rw (same_bytes_itself write.key) refl
distinct_are_there (first ∷ writes) (suc place) write distinct is =
    let both = and_parts (not (is_some (write_at writes first.key))) (are_distinct writes) distinct in
    let there = distinct_are_there writes place write both.1 is in
    rw (apart_from_first first writes write both.0 there) there

pub distinct_are_new : DistinctAreNew
distinct_are_new [] place write distinct is = absurd cc
distinct_are_new (first ∷ writes) zero write distinct is = refl
distinct_are_new (first ∷ writes) (suc place) write distinct is =
    let both = and_parts (not (is_some (write_at writes first.key))) (are_distinct writes) distinct in
    rw (apart_from_first first writes write both.0 (distinct_are_there writes place write both.1 is)) (distinct_are_new writes place write both.1 is)

pub distinct_are_secondary : DistinctAreSecondary
distinct_are_secondary [] place write distinct later is same = absurd cc
distinct_are_secondary (first ∷ writes) zero write distinct later is same = absurd (omega arith)
distinct_are_secondary (first ∷ writes) (suc place) write distinct later is same =
    let both = and_parts (not (is_some (write_at writes first.key))) (are_distinct writes) distinct in
    let apart = apart_from_first first writes write both.0 (distinct_are_there writes place write both.1 is) in
    let clash : true ≡ false = sym (same_bytes_itself first.key) ∙ ap (λ key. same_bytes key first.key) (sym same) ∙ apart in
    cc

pub first_of : (writes : List Write) (write : Write) → slice_get writes 0 ≡ Some write → (rest : List Write) × (writes ≡ write ∷ rest)
first_of [] write is = absurd cc
first_of (first ∷ rest) write is = (rest, (let same : first ≡ write = cc in ap (λ w. w ∷ rest) same))

pub undrawn_is_undone : UndrawnIsUndone
undrawn_is_undone start transaction at transacts undrawn = by transaction.committed refl
  where
    by : (b : Bool) → transaction.committed ≡ b → transaction.committed ≡ false
    by true e = absurd (let won = transacts.won e in let drawn = won.1 in cc)
    by false e = e

pub next_is_new : NextIsNew
next_is_new start transaction at write transacts is undrawn = record {
  is = is;
  new = distinct_are_new transaction.writes transaction.prewritten write transacts.distinct is;
  commit = undrawn;
  committed = undrawn_is_undone start transaction at transacts undrawn;
}
