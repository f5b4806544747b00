-- What is seen at a time above all commits of the rows is what stands.
use Rattle.std.proofs.Common.{◌≡◌, ◌<◌, ◌≤◌, ℕ, suc, Bool, true, false, nat_le, nat_lt, if◌then◌else◌, List, [], ◌∷◌, Option, Some, None, refl, ap, sym, ◌∙◌, arith}
use Rattle.std.proofs.lemmas.Bool.{and_from, and_parts, le-leb, leb-true, lt-ltb, ltb-true}
use Rattle.std.specs.List.{list_all}
use Rattle.std.specs.Option.{option_map}
use Rattle.pcj_table.specs.Row.{newest, versions_up_to}
use Rattle.pcj_table.specs.Table.{Key}
use Rattle.pcj_table.specs.declared.lock.Lock.{Lock}
use Rattle.pcj_table.specs.declared.version.Version.{Version}
use Rattle.pcj_mvcc.proofs.Laws.{read_committed, read_uncommitted, read_unlocked}
use Rattle.pcj_mvcc.proofs.Versions.{all_added, all_weaker, up_to_all, version_of_start}
use Rattle.pcj_mvcc.specs.Acts.{version_of}
use Rattle.pcj_mvcc.specs.Reading.{Put, Rows, committed, put_of, seen, standing, versions_read}
use Rattle.pcj_mvcc.specs.Times.{AllVersions}
use Rattle.pcj_moves.specs.Moves.{AreBelow}

-- all versions that are read pass a test of their commits that all versions of the rows pass
pub all_read : (test : ℕ → Bool) (rows : Rows) (key : Key) → AllVersions (λ v. test v.commit) rows → list_all (λ v. test v.commit) (versions_read rows key) ≡ true
all_read test rows key all = by (rows key).lock refl
  where
    locked : (lock : Lock) → (rows key).lock ≡ Some lock → (commit : Option ℕ) → committed rows lock.primary lock.start ≡ commit → list_all (λ v. test v.commit) (versions_read rows key) ≡ true
    locked lock is None none = ap (list_all (λ v. test v.commit)) (read_uncommitted rows key lock is none) ∙ all key
    locked lock is (Some commit) done =
        let its = version_of_start (λ v. test v.commit) lock.start commit (rows lock.primary).versions (all lock.primary) done in
        ap (list_all (λ v. test v.commit)) (read_committed rows key lock commit is done)
        ∙ all_added (λ v. test v.commit) (version_of lock commit) (rows key).versions (ap test (sym its.2) ∙ its.3) (all key)

    by : (lock : Option Lock) → (rows key).lock ≡ lock → list_all (λ v. test v.commit) (versions_read rows key) ≡ true
    by None free = ap (list_all (λ v. test v.commit)) (read_unlocked rows key free) ∙ all key
    by (Some lock) is = locked lock is (committed rows lock.primary lock.start) refl

-- and one that all commits below a number pass
pub read_pass : (number : ℕ) (test : ℕ → Bool) (rows : Rows) (key : Key) → ((commit : ℕ) → commit < number → test commit ≡ true) → AreBelow number rows → list_all (λ v. test v.commit) (versions_read rows key) ≡ true
read_pass number test rows key passed below = all_read test rows key
    (λ k. all_weaker (λ v. nat_lt v.commit number) (λ v. test v.commit) (λ v lower. passed v.commit (ltb-true v.commit number lower)) (rows k).versions (below.versions k))

-- the put of the newest version passes it
put_passes : (test : ℕ → Bool) (versions : List Version) (put : Put) → list_all (λ v. test v.commit) versions ≡ true → put_of (newest versions) ≡ Some put → test put.1 ≡ true
put_passes test [] put all e = absurd cc
put_passes test (version ∷ []) put all e = of version.value e
  where
    of : (value : Option (List ℕ)) → option_map (λ bytes. (bytes, version.commit)) value ≡ Some put → test put.1 ≡ true
    of None none = absurd cc
    of (Some bytes) some = let same : (bytes, version.commit) ≡ put = cc in ap (λ (p : Put). test p.1) (sym same) ∙ (and_parts (test version.commit) _ all).0
put_passes test (version ∷ next ∷ versions) put all e = put_passes test (next ∷ versions) put (and_parts (test version.commit) _ all).1 e

-- what stands has a commit below it
pub standing_below : (number : ℕ) (rows : Rows) (key : Key) (put : Put) → AreBelow number rows → standing rows key ≡ Some put → put.1 < number
standing_below number rows key put below stands = ltb-true put.1 number
    (put_passes (λ commit. nat_lt commit number) (versions_read rows key) put (read_pass number (λ commit. nat_lt commit number) rows key (λ commit lt. lt-ltb commit number lt) below) stands)

pub seen_is_standing : (number at : ℕ) (rows : Rows) (key : Key) → number ≤ suc at → AreBelow number rows → seen rows key at ≡ standing rows key
seen_is_standing number at rows key le below = ap (λ vs. put_of (newest vs))
    (up_to_all at (versions_read rows key) (read_pass number (λ commit. nat_le commit at) rows key (λ commit lt. le-leb commit at (omega (arith, lt, le))) below))

-- ---- what is seen

-- what stands passes a test that all versions pass
pub standing_passes : (test : ℕ → Bool) (rows : Rows) (key : Key) (put : Put) → AllVersions (λ v. test v.commit) rows → standing rows key ≡ Some put → test put.1 ≡ true
standing_passes test rows key put all stands = put_passes test (versions_read rows key) put (all_read test rows key all) stands

all_up_to : (at : ℕ) (versions : List Version) → list_all (λ v. nat_le v.commit at) (versions_up_to at versions) ≡ true
all_up_to at [] = refl
all_up_to at (version ∷ versions) = by (nat_le version.commit at) refl (all_up_to at versions)
  where
    by : (b : Bool) → nat_le version.commit at ≡ b → list_all (λ v. nat_le v.commit at) (versions_up_to at versions) ≡ true → list_all (λ v. nat_le v.commit at) (if b then version ∷ versions_up_to at versions else versions_up_to at versions) ≡ true
    by true e rest = and_from (nat_le version.commit at) _ e rest
    by false e rest = rest

-- what is seen at a time has no later commit
pub seen_at_most : (rows : Rows) (key : Key) (at : ℕ) (put : Put) → seen rows key at ≡ Some put → put.1 ≤ at
seen_at_most rows key at put is = leb-true put.1 at (put_passes (λ commit. nat_le commit at) (versions_up_to at (versions_read rows key)) put (all_up_to at (versions_read rows key)) is)
