-- The queries of a table's registrations, one after another.
use Rattle.std.proofs.Common.{◌≡◌, ◌≢◌, ◌<◌, ℕ, zero, suc, cond, List, [], ◌∷◌, ◌++◌, get_or, length, take, Some, None, refl, ap, sym, subst, ◌∙◌, arith}
use Rattle.std.specs.List.{AllByRecursion}
use Rattle.std.specs.Map.{lookup}
use Rattle.pcj_term.specs.Order.{same_bytes}
use Rattle.pcj_term.proofs.ByteLemmas.{other_bytes}
use Rattle.pcj_algebra.specs.declared.query.Query.{Query}
use Rattle.pcj_tree.specs.Tree.{IsTree}
use Rattle.pcj_rows.specs.Registrations.{IsQueryTree}
use Rattle.pcj_registrations.specs.declared.registration.Registration.{Registration}
use Rattle.pcj_session.specs.Registry.{AreRebuilt, AreRegistrations}

-- the one at a place has a query's tree
pub tree_at : (registrations : List Registration) (at : ℕ) (registration : Registration) → AreRegistrations registrations → at < length registrations → registration ≡ get_or registrations at registration → IsQueryTree registration.tree
tree_at [] at registration are lt is = absurd (omega (arith, lt))
tree_at (first ∷ registrations) zero registration are lt is = subst (λ (r : Registration). IsQueryTree r.tree) (sym is) are.0
tree_at (first ∷ registrations) (suc at) registration are lt is = tree_at registrations at registration are.2 (omega (arith, lt)) is

holds_at : (P : Registration → Type 0) (registrations : List Registration) (at : ℕ) (registration : Registration) → AllByRecursion P registrations → at < length registrations → registration ≡ get_or registrations at registration → P registration
holds_at P [] at registration all lt is = absurd (omega (arith, lt))
holds_at P (first ∷ registrations) zero registration all lt is = subst P (sym is) all.0
holds_at P (first ∷ registrations) (suc at) registration all lt is = holds_at P registrations at registration all.1 (omega (arith, lt)) is

-- and a name that none before it has
pub not_yet : (registrations : List Registration) (at : ℕ) (registration : Registration) (entries : List (List ℕ × Query)) → AreRegistrations registrations → at < length registrations → registration ≡ get_or registrations at registration →
    AreRebuilt (take at registrations) entries → lookup (same_bytes registration.name) entries ≡ None
not_yet [] at registration entries are lt is rebuilt = absurd (omega (arith, lt))
not_yet (first ∷ registrations) zero registration [] are lt is rebuilt = refl
not_yet (first ∷ registrations) zero registration (entry ∷ entries) are lt is rebuilt = absurd rebuilt
not_yet (first ∷ registrations) (suc at) registration [] are lt is rebuilt = absurd rebuilt
not_yet (first ∷ registrations) (suc at) registration (entry ∷ entries) are lt is rebuilt =
    ap (λ b. cond b (Some entry.1) (lookup (same_bytes registration.name) entries))
    (other_bytes registration.name entry.0 (λ same. holds_at (λ (other : Registration). first.name ≢ other.name) registrations at registration are.1 (omega (arith, lt)) is (sym rebuilt.0 ∙ sym same)))
    ∙ not_yet registrations at registration entries are.2 (omega (arith, lt)) is rebuilt.2

-- one more
pub rebuilt_more : (registrations : List Registration) (at : ℕ) (registration : Registration) (entries : List (List ℕ × Query)) (query : Query) → at < length registrations → registration ≡ get_or registrations at registration → AreRebuilt (take at registrations) entries →
    IsTree query registration.tree → AreRebuilt (take (suc at) registrations) (entries ++ (registration.name, query) ∷ [])
rebuilt_more [] at registration entries query lt is rebuilt of_tree = absurd (omega (arith, lt))
rebuilt_more (first ∷ registrations) zero registration [] query lt is rebuilt of_tree = (ap (λ (r : Registration). r.name) is, subst (λ (r : Registration). IsTree query r.tree) is of_tree, tt)
rebuilt_more (first ∷ registrations) zero registration (entry ∷ entries) query lt is rebuilt of_tree = absurd rebuilt
rebuilt_more (first ∷ registrations) (suc at) registration [] query lt is rebuilt of_tree = absurd rebuilt
rebuilt_more (first ∷ registrations) (suc at) registration (entry ∷ entries) query lt is rebuilt of_tree = (rebuilt.0, rebuilt.1, rebuilt_more registrations at registration entries query (omega (arith, lt)) is rebuilt.2 of_tree)
