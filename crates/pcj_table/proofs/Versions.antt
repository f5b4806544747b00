-- Where a version is put among others.
use Rattle.std.proofs.Common.{◌≡◌, ◌≤◌, ℕ, suc, Bool, true, false, nat_le, cond, is_some, List, [], ◌∷◌, length, insert, refl, ap, arith}
use Rattle.pcj_table.specs.declared.version.Version.{Version}
use Rattle.pcj_table.specs.Row.{add_version, place_of, is_put, newest}

pub place_within : (commit : ℕ) (versions : List Version) → place_of commit versions ≤ length versions
place_within commit [] = omega arith
place_within commit (version ∷ versions) = by (nat_le version.commit commit) (place_within commit versions)
  where
    by : (b : Bool) → place_of commit versions ≤ length versions → cond b (suc (place_of commit versions)) 0 ≤ suc (length versions)
    by true h = omega arith
    by false h = omega arith

pub placed : (version : Version) (versions : List Version) → insert versions (place_of version.commit versions) version ≡ add_version version versions
placed version [] = refl
placed version (other ∷ versions) = by (nat_le other.commit version.commit) (placed version versions)
  where
    by : (b : Bool) → insert versions (place_of version.commit versions) version ≡ add_version version versions →
        insert (other ∷ versions) (cond b (suc (place_of version.commit versions)) 0) version ≡ cond b (other ∷ add_version version versions) (version ∷ other ∷ versions)
    by true h = ap (λ vs. other ∷ vs) h
    by false h = refl

-- whether the last of some versions is a put, where there is none as it was
abbrev pub put_after : Bool → List Version → Bool
put_after put [] = put
put_after put (version ∷ versions) = put_after (is_some version.value) versions

put_last : (put : Bool) (version : Version) (versions : List Version) → put_after put (version ∷ versions) ≡ is_put (newest (version ∷ versions))
put_last put version [] = refl
put_last put version (next ∷ versions) = put_last (is_some version.value) next versions

pub put_newest : (versions : List Version) → put_after false versions ≡ is_put (newest versions)
put_newest [] = refl
put_newest (version ∷ versions) = put_last false version versions
