-- Rows that are never deleted: what was seen there stands.
use Rattle.std.proofs.Common.{◌≡◌, ℕ, true, false, is_some, List, [], ◌∷◌, Option, Some, None, IsSome, refl, ap, sym, subst, ◌∙◌}
use Rattle.std.proofs.lemmas.List.Elements.{All-cons, All-head, All-nil, All-tail}
use Rattle.std.specs.List.{All}
use Rattle.std.specs.Option.{option_map}
use Rattle.pcj_table.specs.Row.{newest, versions_up_to}
use Rattle.pcj_table.specs.declared.lock.Lock.{Lock}
use Rattle.pcj_table.specs.declared.version.Version.{Version}
use Rattle.pcj_encode.specs.declared.key_name.KeyName.{KeyName}
use Rattle.pcj_encode.specs.Name.{IsName, key_of}
use Rattle.pcj_mvcc.specs.Acts.{version_of}
use Rattle.pcj_mvcc.specs.Reading.{Put, Rows, committed, put_of, reading, standing, versions_read, with_lock}
use Rattle.pcj_moves.specs.Reads.{value_seen}
use Rattle.pcj_rows.specs.Rows.{Decodes, HoldsVersions, IsLockOf, IsVersionOf}
use Rattle.pcj_rows.specs.Values.{MayBeDeleted, MayHold}
use Rattle.pcj_rows.proofs.RowLemmas.{all_with_version, is_written, row_of_name, to_versions}

-- what such a row may have is a put
put_there : (next : ℕ) (name : KeyName) (found : Option (List ℕ)) → (MayBeDeleted name → ⊥) → MayHold next name found → IsSome found
put_there next name None kept may = absurd (kept may)
put_there next name (Some value) kept may = refl

-- where there is a version, a put stands
puts_stand : (versions : List Version) → All (λ version. IsSome version.value) versions → (versions ≡ [] → ⊥) → IsSome (put_of (newest versions))
puts_stand [] puts some = absurd (some refl)
puts_stand (version ∷ []) puts some = of version.value refl (All-head (λ v. IsSome v.value) version [] puts)
  where
    of : (value : Option (List ℕ)) → version.value ≡ value → IsSome version.value → IsSome (put_of (Some version))
    of None e is = absurd (let clash : false ≡ true = ap is_some (sym e) ∙ is in cc)
    of (Some value) e is = ap (λ (v : Option (List ℕ)). is_some {T = Put} (option_map {T = List ℕ} {U = Put} (λ bytes. (bytes, version.commit)) v)) e
puts_stand (version ∷ next ∷ versions) puts some = puts_stand (next ∷ versions) (All-tail (λ v. IsSome v.value) version (next ∷ versions) puts) (λ e. cc)

all_puts : (next : ℕ) (name : KeyName) (versions : List Version) → (MayBeDeleted name → ⊥) → All (IsVersionOf next name) versions → All (λ version. IsSome version.value) versions
all_puts next name [] kept all = All-nil (λ v. IsSome v.value)
all_puts next name (version ∷ versions) kept all =
    All-cons (λ v. IsSome v.value) version versions (put_there next name version.value kept (All-head (IsVersionOf next name) version versions all).value)
    (all_puts next name versions kept (All-tail (IsVersionOf next name) version versions all))

read_puts : (next : ℕ) (rows : Rows) (name : KeyName) → Decodes next rows → IsName name → is_written name ≡ true → (MayBeDeleted name → ⊥) → All (λ version. IsSome version.value) (versions_read rows (key_of name))
read_puts next rows name decodes valid written kept = by (rows (key_of name)).lock refl
  where
    holds : HoldsVersions next name (rows (key_of name))
    holds = to_versions next name (rows (key_of name)) written (row_of_name next rows name decodes valid)

    here : All (λ version. IsSome version.value) (rows (key_of name)).versions
    here = all_puts next name (rows (key_of name)).versions kept holds.versions

    locked : (lock : Lock) → IsLockOf next name lock → (commit : Option ℕ) → All (λ version. IsSome version.value) (with_lock lock commit (rows (key_of name)).versions)
    locked lock is None = here
    locked lock is (Some commit) = all_with_version (λ version. IsSome version.value) (version_of lock commit) (rows (key_of name)).versions (put_there next name lock.value kept is.value) here

    by : (lock : Option Lock) → (rows (key_of name)).lock ≡ lock → All (λ version. IsSome version.value) (versions_read rows (key_of name))
    by None e = subst (λ l. All (λ version. IsSome version.value) (reading (committed rows) l (rows (key_of name)).versions)) (sym e) here
    by (Some lock) e = subst (λ l. All (λ version. IsSome version.value) (reading (committed rows) l (rows (key_of name)).versions)) (sym e)
        (locked lock (subst (λ (l : Option Lock). Rattle.std.specs.Prelude.IfSome l (IsLockOf next name)) e holds.lock) (committed rows lock.primary lock.start))

pub seen_stands : (next : ℕ) (rows : Rows) (name : KeyName) (at : ℕ) (value : List ℕ) → Decodes next rows → IsName name → is_written name ≡ true → (MayBeDeleted name → ⊥) → value_seen rows (key_of name) at ≡ Some value →
    IsSome (standing rows (key_of name))
seen_stands next rows name at value decodes valid written kept is = puts_stand (versions_read rows (key_of name)) (read_puts next rows name decodes valid written kept)
    (λ none. let clash : None ≡ Some value = ap (λ vs. option_map (λ (put : Put). put.0) (put_of (newest (versions_up_to at vs)))) (sym none) ∙ is in cc)
