-- A job's step is that of its kind.
use Rattle.std.proofs.Common.{◌≡◌, Option, sym, subst}
use Rattle.pcj_oracle.specs.declared.block.Block.{Block}
use Rattle.pcj_client.specs.Job.{Job}

-- what is said of the one is said of the other
pub its_own : {R X : Type 0} (P : Job → R → Job → Option Block → X → Type 0) (old its : Job) (result found : R) (new left : Job) (oracle numbers : Option Block) (table rows : X) → old ≡ its → result ≡ found → new ≡ left → oracle ≡ numbers → table ≡ rows →
    P its found left numbers rows → P old result new oracle table
its_own P old its result found new left oracle numbers table rows a b c d e is =
    subst (λ x. P x result new oracle table) (sym a) (subst (λ x. P its x new oracle table) (sym b) (subst (λ x. P its found x oracle table) (sym c) (subst (λ x. P its found left x table) (sym d) (subst (λ x. P its found left numbers x) (sym e) is))))
