-- No number is the commit of two starts, or both a start and a commit.
use Rattle.std.proofs.Common.{◌≡◌, ◌≢◌, ◌⊎◌, inl, inr, ◌<◌, ◌≤◌, ℕ, Bool, true, false, not, ◌==◌, nat_lt, ◌||◌, List, [], ◌∷◌, Some, None, refl, ap, sym, subst, ◌∙◌, arith}
use Rattle.std.proofs.lemmas.Bool.{and_from, and_parts, eq-eqb, ltb-true}
use Rattle.std.specs.List.{list_all}
use Rattle.pcj_table.specs.Row.{add_version}
use Rattle.pcj_table.specs.Table.{Key}
use Rattle.pcj_table.specs.declared.lock.Lock.{Lock}
use Rattle.pcj_table.specs.declared.row.Row.{Row}
use Rattle.pcj_table.specs.declared.version.Version.{Version}
use Rattle.pcj_mvcc.proofs.Laws.{replace_keeps_all, replaced, versions_kept}
use Rattle.pcj_mvcc.proofs.Rows.{put_each}
use Rattle.pcj_mvcc.proofs.Versions.{commit_added, commit_kept, version_of_start}
use Rattle.pcj_mvcc.specs.Acts.{version_of}
use Rattle.pcj_mvcc.specs.Reading.{Rows, commit_of, committed, put}
use Rattle.pcj_mvcc.specs.Times.{AllVersions}
use Rattle.pcj_moves.proofs.ActorLemmas.{by_number}
use Rattle.pcj_moves.proofs.ConsistencyLemmas.{NoNewNumbers}
use Rattle.pcj_moves.proofs.TraceLemmas.{unequal_false}
use Rattle.pcj_moves.specs.Moves.{AreBelow, is_own}
use Rattle.pcj_fit.specs.Fit.{NumbersApart}

-- where no number is new
pub apart_kept : (before after : Rows) → NoNewNumbers before after → NumbersApart before → NumbersApart after
apart_kept before after kept apart = record {
  versions = λ key start commit e. let found = kept.commits key start commit e in kept.versions (is_own start commit) (apart.versions found.0 start commit found.1);
  locks = λ key start commit e other lock locked. let found = kept.commits key start commit e in apart.locks found.0 start commit found.1 other lock (kept.fewer other lock locked);
}

-- the commit of a version isn't a start that no version has for its commit
commit_differs : (rows : Rows) (start : ℕ) → AllVersions (λ version. not (version.commit == start)) rows → (key : Key) (other commit : ℕ) → committed rows key other ≡ Some commit → start ≢ commit
commit_differs rows start own key other commit e same =
    let found = version_of_start (λ version. not (version.commit == start)) other commit (rows key).versions (own key) e in
    let is : (found.0.commit == start) ≡ true = eq-eqb found.0.commit start (found.2 ∙ sym same) in
    let clash : false ≡ true = ap not (sym is) ∙ found.3 in cc

-- a lock of a start that is no commit
pub apart_locked : (rows : Rows) (key : Key) (found : Row) (lock : Lock) → AllVersions (λ version. not (version.commit == lock.start)) rows → found.lock ≡ Some lock → found.versions ≡ (rows key).versions → NumbersApart rows →
    NumbersApart (put rows key found)
apart_locked rows key found lock own locked same apart = record {
  versions = λ other start commit e. put_each (λ q r. list_all (λ version. is_own start commit version.start version.commit) r.versions ≡ true) rows key found
      (ap (list_all (λ version. is_own start commit version.start version.commit)) same ∙ apart.versions other start commit (before other start commit e) key)
      (λ q differs. apart.versions other start commit (before other start commit e) q);
  locks = λ other start commit e. put_each (λ q r. (l : Lock) → r.lock ≡ Some l → l.start ≢ commit) rows key found
      (λ l is. let one : Some lock ≡ Some l = sym locked ∙ is in let is_one : lock ≡ l = cc in subst (λ (m : Lock). m.start ≢ commit) is_one (commit_differs rows lock.start own other start commit (before other start commit e)))
      (λ q differs l is. apart.locks other start commit (before other start commit e) q l is);
}
  where
    before : (other : Key) (start commit : ℕ) → committed (put rows key found) other start ≡ Some commit → committed rows other start ≡ Some commit
    before other start commit e = sym (versions_kept rows key found same other start) ∙ e

-- ---- a commit above all numbers

owns : (start commit first last : ℕ) → (first ≢ commit) → ((last ≢ commit) ⊎ (first ≡ start)) → is_own start commit first last ≡ true
owns start commit first last start_differs either = and_from (not (first == commit)) (not (last == commit) || first == start) (ap not (unequal_false first commit start_differs)) (by either)
  where
    by : (last ≢ commit) ⊎ (first ≡ start) → (not (last == commit) || first == start) ≡ true
    by (inl differs) = rw (unequal_false last commit differs) refl
    by (inr same) = or_true (not (last == commit)) (eq-eqb first start same)
      where
        or_true : (b : Bool) {c : Bool} → c ≡ true → (b || c) ≡ true
        or_true true e = refl
        or_true false e = e

-- the version with the commit in place of a lock
pub apart_committed : (number : ℕ) (rows : Rows) (key : Key) (lock : Lock) (commit : ℕ) → number ≤ commit → AreBelow number rows → (rows key).lock ≡ Some lock → commit_of lock.start (rows key).versions ≡ None →
    AllVersions (λ version. not (version.commit == lock.start)) rows → AllVersions (λ version. nat_lt version.start version.commit) rows → NumbersApart rows → NumbersApart (put rows key (replaced (rows key) (version_of lock commit)))
apart_committed number rows key lock commit le below locked none own first apart = record { versions = versions; locks = locks }
  where
    new : Version
    new = version_of lock commit

    started : lock.start < commit
    started = let lt = below.locks key lock locked in omega arith

    -- what is committed was so before, or is this
    was : (other : Key) (start c : ℕ) → committed (put rows key (replaced (rows key) new)) other start ≡ Some c → (committed rows other start ≡ Some c) ⊎ ((start ≡ lock.start) × (c ≡ commit))
    was = put_each (λ q r. (start c : ℕ) → commit_of start r.versions ≡ Some c → (committed rows q start ≡ Some c) ⊎ ((start ≡ lock.start) × (c ≡ commit))) rows key (replaced (rows key) new) here (λ q differs start c e. inl e)
      where
        here : (start c : ℕ) → commit_of start (add_version new (rows key).versions) ≡ Some c → (committed rows key start ≡ Some c) ⊎ ((start ≡ lock.start) × (c ≡ commit))
        here start c e = by_number lock.start start
            (λ same. inr (sym same, (let some : Some commit ≡ Some c = sym (commit_added new (rows key).versions none) ∙ ap (λ s. commit_of s (add_version new (rows key).versions)) same ∙ e in cc)))
            (λ differs. inl (sym (commit_kept start new (rows key).versions (unequal_false lock.start start differs)) ∙ e))

    lower : (other : Key) (start c : ℕ) → committed rows other start ≡ Some c → c < number
    lower other start c e = let found = version_of_start (λ version. nat_lt version.commit number) start c (rows other).versions (below.versions other) e in
        let lt = ltb-true found.0.commit number found.3 in let same = found.2 in omega arith

    -- all versions in the rows have numbers below the commit
    old_own : AllVersions (λ version. is_own lock.start commit version.start version.commit) rows
    old_own q = both (rows q).versions (below.versions q) (first q)
      where
        both : (versions : List Version) → list_all (λ version. nat_lt version.commit number) versions ≡ true → list_all (λ version. nat_lt version.start version.commit) versions ≡ true →
            list_all (λ version. is_own lock.start commit version.start version.commit) versions ≡ true
        both [] low starts = refl
        both (version ∷ versions) low starts =
            let lows = and_parts _ _ low in
            let firsts = and_parts _ _ starts in
            let lt = ltb-true version.commit number lows.0 in
            let sooner = ltb-true version.start version.commit firsts.0 in
            and_from (is_own lock.start commit version.start version.commit) _
            (owns lock.start commit version.start version.commit (λ e. omega (arith, lt, sooner, le, e)) (inl (λ e. omega (arith, lt, le, e))))
            (both versions lows.1 firsts.1)

    versions : (other : Key) (start c : ℕ) → committed (put rows key (replaced (rows key) new)) other start ≡ Some c → AllVersions (λ version. is_own start c version.start version.commit) (put rows key (replaced (rows key) new))
    versions other start c e = by (was other start c e)
      where
        by : (committed rows other start ≡ Some c) ⊎ ((start ≡ lock.start) × (c ≡ commit)) → AllVersions (λ version. is_own start c version.start version.commit) (put rows key (replaced (rows key) new))
        by (inl before) = replace_keeps_all (λ version. is_own start c version.start version.commit) rows key new
            (owns start c lock.start commit (commit_differs rows lock.start own other start c before) (inl (λ same. let lt = lower other start c before in omega (arith, lt, le, same))))
            (apart.versions other start c before)
        by (inr this) = subst (λ s. AllVersions (λ version. is_own s c version.start version.commit) (put rows key (replaced (rows key) new))) (sym this.0)
            (subst (λ n. AllVersions (λ version. is_own lock.start n version.start version.commit) (put rows key (replaced (rows key) new))) (sym this.1)
            (replace_keeps_all (λ version. is_own lock.start commit version.start version.commit) rows key new (owns lock.start commit lock.start commit (λ same. omega (arith, started, same)) (inr refl)) old_own))

    locks : (other : Key) (start c : ℕ) → committed (put rows key (replaced (rows key) new)) other start ≡ Some c → (q : Key) (l : Lock) → ((put rows key (replaced (rows key) new)) q).lock ≡ Some l → l.start ≢ c
    locks other start c e = put_each (λ q r. (l : Lock) → r.lock ≡ Some l → l.start ≢ c) rows key (replaced (rows key) new) (λ l is. absurd cc) (λ q differs l is. by q l is (was other start c e))
      where
        by : (q : Key) (l : Lock) → (rows q).lock ≡ Some l → (committed rows other start ≡ Some c) ⊎ ((start ≡ lock.start) × (c ≡ commit)) → l.start ≢ c
        by q l is (inl before) = apart.locks other start c before q l is
        by q l is (inr this) = λ same. let lt = below.locks q l is in let at = this.1 in omega (arith, lt, le, same, at)
