-- What is read from a row's key, and from its value.
use Rattle.std.proofs.Common.{◌≡◌, ◌≢◌, ℕ, List, [], ◌∷◌, Option, Some, None, IfSome, IfNone, ap, sym, subst, ◌∙◌}
use Rattle.pcj_table.specs.Table.{Key}
use Rattle.pcj_key.specs.Key as parts
use Rattle.pcj_key.proofs.Keys.{injective}
use Rattle.pcj_encode.specs.declared.key_name.KeyName.{KeyName}
use Rattle.pcj_encode.specs.declared.key_name.KeyName.TheVariants as row
use Rattle.pcj_encode.specs.Read.{ReadsKey}
use Rattle.pcj_encode.proofs.Names.{reads_back}
use Rattle.pcj_tree.specs.declared.tree.Tree.{Tree}
use Rattle.pcj_tree.specs.Read.{IsStorable}
use Rattle.pcj_tree.specs.Stored.{stored_tree}
use Rattle.pcj_rows.specs.Registrations.{registration_value}
use Rattle.pcj_registrations.specs.declared.registration.Registration.{Registration}
use Rattle.pcj_registrations.specs.Reading.{ReadsNumber, ReadsParts, ReadsValue}

pub number_read : (key : Key) (name : Option KeyName) (found : Option ℕ) → ReadsKey key name → IfSome found (λ n. name ≡ Some (row.Registration n)) → IfNone found ((n : ℕ) → name ≢ Some (row.Registration n)) → ReadsNumber key found
number_read key name (Some n) reads is none = let its = subst (ReadsKey key) is reads in (its.0, sym its.1)
number_read key name None reads is none = λ n fits same. none n (reads_back (row.Registration n) name fits (subst (λ (k : Key). ReadsKey k name) same reads))

pub value_read : (number : ℕ) (value : List ℕ) (ps : List (List ℕ)) (found : Option Registration) → parts.key_of ps ≡ value → ReadsParts number ps found → ReadsValue number value found
value_read number value ps (Some found) split reads = (reads.0, reads.1, sym split ∙ ap parts.key_of reads.2)
value_read number value ps None split reads = λ name tree storable is. reads name tree storable (injective ps (name ∷ stored_tree tree ∷ []) (split ∙ is))

pub value_unread : (value : List ℕ) → ((ps : List (List ℕ)) → parts.key_of ps ≡ value → ⊥) → (name : List ℕ) (tree : Tree) → IsStorable tree → value ≡ registration_value name tree → ⊥
value_unread value none name tree storable is = none (name ∷ stored_tree tree ∷ []) (sym is)
