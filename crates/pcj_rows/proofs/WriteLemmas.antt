-- Writes of rows, by the names of the rows.
use Rattle.std.proofs.Common.{◌≡◌, ◌≢◌, Bool, true, false, cond, ℕ, List, [], ◌∷◌, Some, None, refl, ap, sym, subst, ◌∙◌}
use Rattle.pcj_term.proofs.ByteLemmas.{other_bytes}
use Rattle.pcj_term.specs.Order.{same_bytes}
use Rattle.pcj_table.specs.Table.{Key}
use Rattle.pcj_table.specs.declared.write.Write.{Write}
use Rattle.pcj_encode.proofs.Names.{names_one_row}
use Rattle.pcj_encode.specs.declared.key_name.KeyName.{KeyName}
use Rattle.pcj_encode.specs.Name.{IsName, key_of}
use Rattle.pcj_moves.specs.Transactions.{write_at}
use Rattle.pcj_rows.specs.Names.{IsGranted, IsNameGranted}
use Rattle.pcj_rows.specs.Values.{MayHold}
use Rattle.pcj_rows.proofs.RowLemmas.{is_written}

-- ---- what may be written

-- the name of the row that is written, and that the value may stand there
pub record CanWrite (next start : ℕ) (write : Write) : Type 0 where
  pub begun : IsGranted next start
  pub name : KeyName
  pub valid : IsName name
  pub granted : IsNameGranted next name
  pub is : write.key ≡ key_of name
  pub written : is_written name ≡ true
  pub value : MayHold next name write.value

abbrev pub EachWrite : (Write → Type 0) → List Write → Type 0
EachWrite P [] = Unit {0}
EachWrite P (write ∷ writes) = P write × EachWrite P writes

pub found_is : (P : Write → Type 0) (writes : List Write) (key : Key) (found : Write) → EachWrite P writes → write_at writes key ≡ Some found → P found
found_is P [] key found each e = absurd cc
found_is P (write ∷ writes) key found each e = by (same_bytes key write.key) refl (found_is P writes key found each.1)
  where
    by : (b : Bool) → same_bytes key write.key ≡ b → (write_at writes key ≡ Some found → P found) → P found
    by true same later = let one : Some write ≡ Some found = ap (λ b. cond b (Some write) (write_at writes key)) (sym same) ∙ e in let is : write ≡ found = cc in subst P is each.0
    by false differs later = later (ap (λ b. cond b (Some write) (write_at writes key)) (sym differs) ∙ e)

-- ---- rows that aren't written

-- two rows have two keys
pub keys_differ : (name other : KeyName) → IsName name → IsName other → name ≢ other → same_bytes (key_of name) (key_of other) ≡ false
keys_differ name other valid valid' differs = other_bytes (key_of name) (key_of other) (λ e. differs (names_one_row name other valid valid' e))

-- the write of a row whose name is of this kind
abbrev pub IsNamed : (KeyName → Type 0) → Write → Type 0
IsNamed P write = (name : KeyName) × IsName name × (write.key ≡ key_of name) × P name

pub none_written : (writes : List Write) (name : KeyName) → IsName name → EachWrite (IsNamed (λ other. other ≢ name)) writes → write_at writes (key_of name) ≡ None
none_written [] name valid each = refl
none_written (write ∷ writes) name valid each = rw differs (none_written writes name valid each.1)
  where
    differs : same_bytes (key_of name) write.key ≡ false
    differs = ap (same_bytes (key_of name)) each.0.2 ∙ keys_differ name each.0.0 valid each.0.1 (λ same. each.0.3 (sym same))
