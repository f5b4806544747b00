use Rattle.std.proofs.Common.{◌≡◌, ◌≤◌, ◌^◌, ℕ, List, [], ◌∷◌, Some, refl, ap, sym, subst, ◌∙◌}
use Rattle.pcj_table.specs.declared.row.Row.{Row}
use Rattle.pcj_table.specs.declared.mutated.Mutated.{Mutated}
use Rattle.pcj_table.specs.declared.mutated.Mutated.TheVariants.{Applied}
use Rattle.pcj_table.specs.declared.update.Update.TheVariants.{SetPlain}
use Rattle.pcj_table.specs.Row.{updated}
use Rattle.pcj_table.specs.Table.{Key, Table, row_at, Mutates}
use Rattle.pcj_oracle.specs.Clock.{clock_key, clock_number, stored_number}
use Rattle.pcj_mvcc.specs.Reading.{put}
use Rattle.pcj_term.proofs.ByteLemmas.{other_bytes}
use Rattle.pcj_mvcc.proofs.Rows.{put_same, put_other, with_row_puts}
use Rattle.pcj_rows.specs.Rows.{IsClockRow}
use Rattle.pcj_fit.specs.Laws.{HasClockAlone}
use Rattle.pcj_samples.specs.Fresh.{IsFresh}
use Rattle.pcj_samples.proofs.clock.set_first.Goals as goal

set_fresh : (old new : Table) (number : ℕ) → HasClockAlone (row_at old) → 1 ≤ number → number ≤ 2 ^ 48 →
    Mutates old clock_key [] (SetPlain (record { seq = number; value = Some [] }) ∷ []) Applied new → IsFresh new
set_fresh old new number alone first last mutates =
    record { alone = still; first = subst (λ (n : ℕ). 1 ≤ n) (sym stored) first; last = subst (λ (n : ℕ). n ≤ 2 ^ 48) (sym stored) last }
  where
    row : Row
    row = updated (row_at old clock_key) (SetPlain (record { seq = number; value = Some [] }))

    rows : (other : Key) → row_at new other ≡ put (row_at old) clock_key row other
    rows other = ap (λ (table : Table). row_at table other) mutates.1 ∙ with_row_puts old clock_key row other

    here : row_at new clock_key ≡ row
    here = rows clock_key ∙ put_same (row_at old) clock_key row

    stored : stored_number new ≡ number
    stored = ap (λ (r : Row). clock_number r.plain) here

    still : HasClockAlone (row_at new)
    still = record {
      clock = subst IsClockRow (sym here) (record { lock = alone.clock.lock; versions = alone.clock.versions; value = refl });
      others = λ other differs. rows other ∙ put_other (row_at old) clock_key row other (other_bytes other clock_key differs) ∙ alone.others other differs;
    }

pub returns : goal.returns
returns g c =
    let old = g.T.RowTable.rows c.args.table.now in
    let new = g.T.RowTable.rows c.mutate.new.self in
    let at : c.as_slice.result.now ≡ clock_key = c.as_slice.ensures ∙ c.in_ok-key.ensures {u = tt} in
    let done = (c.in_ok-mutate.ensures {u = tt}).done in
    let here = subst (λ (k : Key). Mutates old k [] (SetPlain (record { seq = c.args.number; value = Some c.new.result }) ∷ []) c.in_ok-mutate.field-0 new) at done in
    let empty = subst (λ (value : List ℕ). Mutates old clock_key [] (SetPlain (record { seq = c.args.number; value = Some value }) ∷ []) c.in_ok-mutate.field-0 new) c.new.ensures here in
    let applied = subst (λ (m : Mutated). Mutates old clock_key [] (SetPlain (record { seq = c.args.number; value = Some [] }) ∷ []) m new) c.in-Applied.is empty in
    set_fresh old new c.args.number c.requires.fresh.alone c.requires.first c.requires.last applied
