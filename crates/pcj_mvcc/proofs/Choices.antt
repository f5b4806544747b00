-- What holds of rows under each choice of the transactions that may be committed next, and how each act keeps it.
use Rattle.std.proofs.Common.{◌≡◌, ◌⊎◌, inl, inr, ℕ, Bool, true, false, Option, Some, None, refl, ap, sym, subst, ◌∙◌}
use Rattle.pcj_term.specs.Order.{same_bytes}
use Rattle.pcj_term.proofs.ByteLemmas.{same_bytes_are, same_bytes_itself}
use Rattle.pcj_table.specs.declared.lock.Lock.{Lock}
use Rattle.pcj_table.specs.declared.row.Row.{Row}
use Rattle.pcj_table.specs.Table.{Key}
use Rattle.pcj_mvcc.specs.Acts.{version_of, roll_forward_act}
use Rattle.pcj_mvcc.specs.Reading.{Rows, put, acted}
use Rattle.pcj_mvcc.specs.Choices.{Choice, committed_row, with_commit, under, choose, IsChoice, ChangeUnderChoice, ChosenIsCommitted, CommittedIsChosen}
use Rattle.pcj_mvcc.proofs.Rows.{put_same, put_other, rows_alike}
use Rattle.pcj_mvcc.proofs.Laws.{replaced}

-- each choice of these transactions
abbrev pub UnderEach : (Rows → Type 0) → (Key → ℕ → Type 0) → Rows → Type 0
UnderEach F ripe rows = (choice : Choice) → IsChoice ripe choice → F (under choice rows)

-- ---- a row that is changed, and a choice that is changed

by_key : {P : Type 0} (other key : Key) → (other ≡ key → P) → (same_bytes other key ≡ false → P) → P
by_key {P} other key here there = by (same_bytes other key) refl
  where
    by : (b : Bool) → same_bytes other key ≡ b → P
    by true e = here (same_bytes_are other key e)
    by false e = there e

pub chosen_here : (choice : Choice) (key : Key) (commit : Option ℕ) → choose choice key commit key ≡ commit
chosen_here choice key commit = rw (same_bytes_itself key) refl

pub chosen_there : (choice : Choice) (key : Key) (commit : Option ℕ) (other : Key) → same_bytes other key ≡ false → choose choice key commit other ≡ choice other
chosen_there choice key commit other differs = rw differs refl

-- a choice that leaves the key out may be made before or after the row is changed
pub under_put : ChangeUnderChoice
under_put choice rows key row none = rows_alike _ _ alike
  where
    alike : (other : Key) → under choice (put rows key row) other ≡ put (under choice rows) key row other
    alike other = by_key other key
        (λ same. rw same (ap (λ c. with_commit c (put rows key row key)) none ∙ put_same rows key row ∙ sym (put_same (under choice rows) key row)))
        (λ differs. ap (with_commit (choice other)) (put_other rows key row other differs) ∙ sym (put_other (under choice rows) key row other differs))

-- under a choice with one more transaction the others are chosen, and it is committed
pub under_chosen : ChosenIsCommitted
under_chosen choice rows key lock commit locked chosen = rows_alike _ _ alike
  where
    without : under (choose choice key None) rows key ≡ rows key
    without = ap (λ c. with_commit c (rows key)) (chosen_here choice key None)

    alike : (other : Key) → under choice rows other ≡ acted (under (choose choice key None) rows) key (roll_forward_act lock commit) other
    alike other = by_key other key
        (λ same. rw same (ap (λ c. with_commit c (rows key)) chosen ∙ ap (λ l. committed_row l commit (rows key)) locked
        ∙ ap (λ r. replaced r (version_of lock commit)) (sym without) ∙ sym (put_same (under (choose choice key None) rows) key _)))
        (λ differs. ap (λ c. with_commit c (rows other)) (sym (chosen_there choice key None other differs)) ∙ sym (put_other (under (choose choice key None) rows) key _ other differs))

-- a choice after a commit is one before it that has this transaction
pub under_committed : CommittedIsChosen
under_committed choice rows key lock commit locked none = rows_alike _ _ alike
  where
    alike : (other : Key) → under choice (acted rows key (roll_forward_act lock commit)) other ≡ under (choose choice key (Some commit)) rows other
    alike other = by_key other key
        (λ same. rw same (ap (λ c. with_commit c (acted rows key (roll_forward_act lock commit) key)) none ∙ put_same rows key _
        ∙ sym (ap (λ c. with_commit c (rows key)) (chosen_here choice key (Some commit)) ∙ ap (λ l. committed_row l commit (rows key)) locked)))
        (λ differs. ap (with_commit (choice other)) (put_other rows key _ other differs) ∙ ap (λ c. with_commit c (rows other)) (sym (chosen_there choice key (Some commit) other differs)))

-- ---- what is chosen

-- where none may be chosen at a key, none is
pub not_chosen : (ripe : Key → ℕ → Type 0) (choice : Choice) (key : Key) → IsChoice ripe choice → ((commit : ℕ) → ripe key commit → ⊥) → choice key ≡ None
not_chosen ripe choice key is none = by (choice key) refl
  where
    by : (c : Option ℕ) → choice key ≡ c → choice key ≡ None
    by None e = e
    by (Some commit) e = absurd (none commit (is key commit e))

-- ---- laws of each claim on rows

-- An act on a row that isn't the primary of a transaction that may be chosen: it is enough that it keeps the claim under a
-- choice that leaves its row out.
pub under_act : (F : Rows → Type 0) (old new : Key → ℕ → Type 0) (rows : Rows) (key : Key) (row : Row) →
    ((other : Key) (commit : ℕ) → new other commit → old other commit) → ((commit : ℕ) → new key commit → ⊥) →
    ((choice : Choice) → IsChoice old choice → choice key ≡ None → F (under choice rows) → F (put (under choice rows) key row)) →
    UnderEach F old rows → UnderEach F new (put rows key row)
under_act F old new rows key row fewer none keeps each choice is =
    let free = not_chosen new choice key is none in
    let was : IsChoice old choice = λ other commit e. fewer other commit (is other commit e) in
    subst F (sym (under_put choice rows key row free)) (keeps choice was free (each choice was))

-- the commit of a primary: nothing more is to be shown
pub under_commit : (F : Rows → Type 0) (old new : Key → ℕ → Type 0) (rows : Rows) (key : Key) (lock : Lock) (commit : ℕ) →
    ((other : Key) (c : ℕ) → new other c → old other c) → ((c : ℕ) → new key c → ⊥) → old key commit → (rows key).lock ≡ Some lock →
    UnderEach F old rows → UnderEach F new (acted rows key (roll_forward_act lock commit))
under_commit F old new rows key lock commit fewer none ripe locked each choice is =
    subst F (sym (under_committed choice rows key lock commit locked (not_chosen new choice key is none))) (each (choose choice key (Some commit)) was)
  where
    was : IsChoice old (choose choice key (Some commit))
    was other c e = by_key other key
        (λ same. subst (λ k. old k c) (sym same) (let is_commit : Some commit ≡ Some c = sym (chosen_here choice key (Some commit)) ∙ ap (choose choice key (Some commit)) (sym same) ∙ e in
        let one : commit ≡ c = cc in subst (old key) one ripe))
        (λ differs. fewer other c (is other c (sym (chosen_there choice key (Some commit) other differs) ∙ e)))

-- a draw: it is enough that this one transaction's commit keeps the claim under each choice of the others
pub under_draw : (F : Rows → Type 0) (old new : Key → ℕ → Type 0) (rows : Rows) (key : Key) (lock : Lock) (commit : ℕ) →
    ((other : Key) (c : ℕ) → new other c → old other c ⊎ ((other ≡ key) × (c ≡ commit))) → ((c : ℕ) → old key c → ⊥) → (rows key).lock ≡ Some lock →
    ((choice : Choice) → IsChoice old choice → choice key ≡ None → F (under choice rows) → F (acted (under choice rows) key (roll_forward_act lock commit))) →
    UnderEach F old rows → UnderEach F new rows
under_draw F old new rows key lock commit more none locked keeps each choice is = by (choice key) refl
  where
    out : IsChoice old (choose choice key None)
    out other c e = by_key other key
        (λ same. absurd (let none_is : None ≡ Some c = sym (chosen_here choice key None) ∙ ap (choose choice key None) (sym same) ∙ e in cc))
        (λ differs. from differs (more other c (is other c (sym (chosen_there choice key None other differs) ∙ e))))
      where
        from : same_bytes other key ≡ false → old other c ⊎ ((other ≡ key) × (c ≡ commit)) → old other c
        from differs (inl h) = h
        from differs (inr h) = absurd (let same : same_bytes key key ≡ false = subst (λ k. same_bytes k key ≡ false) h.0 differs in let itself = same_bytes_itself key in cc)

    was : choice key ≡ None → IsChoice old choice
    was free other c e = from (more other c (is other c e))
      where
        from : old other c ⊎ ((other ≡ key) × (c ≡ commit)) → old other c
        from (inl h) = h
        from (inr h) = absurd (let none_is : None ≡ Some c = sym free ∙ ap choice (sym h.0) ∙ e in cc)

    drawn : (c : ℕ) → old key c ⊎ ((key ≡ key) × (c ≡ commit)) → c ≡ commit
    drawn c (inl h) = absurd (none c h)
    drawn c (inr h) = h.1

    by : (c : Option ℕ) → choice key ≡ c → F (under choice rows)
    by None e = each choice (was e)
    by (Some c) e =
        let commits = e ∙ ap Some (drawn c (more key c (is key c e))) in
        subst F (sym (under_chosen choice rows key lock commit locked commits)) (keeps (choose choice key None) out (chosen_here choice key None) (each (choose choice key None) out))
