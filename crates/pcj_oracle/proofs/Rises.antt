-- The numbers that oracles grant in turn rise.
use Rattle.std.proofs.Common.{◌≡◌, ◌≢◌, ◌⊎◌, inl, inr, ℕ, ◌+◌, ◌<◌, ◌≤◌, ◌==◌, Bool, true, false, cond, List, [], ◌∷◌, Option, Some, None, arith, refl, sym, ap, subst, ◌∙◌}
use Rattle.std.proofs.lemmas.Bool.{eqb-true, eq-eqb, cases_lt}
use Rattle.pcj_table.specs.Table.{Table}
use Rattle.pcj_oracle.specs.declared.block.Block.{Block}
use Rattle.pcj_oracle.specs.Clock.{IsClock, IsAttached, stored_number, next_number, next_at}
use Rattle.pcj_oracle.specs.Draw.{Grants, Keeps}
use Rattle.pcj_oracle.specs.Run.{Event, Granted, Refused, Crashed, StoodBy, Oracles, with_oracle, Run, numbers, RiseFrom}
use Rattle.pcj_oracle.proofs.Numbers.{stored_stays}

-- the oracles' numbers are apart: of those that fit the stored number one at most has numbers of its own left
record Apart (oracles : Oracles) (stored from : ℕ) : Type 0 where
  stored_above : from ≤ stored
  limit : (who : ℕ) (block : Block) → oracles who ≡ Some block → block.limit ≤ stored
  next : (who : ℕ) (block : Block) → oracles who ≡ Some block → block.limit ≡ stored → from ≤ block.next
  one : (who other : ℕ) (block rest : Block) → oracles who ≡ Some block → oracles other ≡ Some rest →
      block.limit ≡ stored → rest.limit ≡ stored → block.next < stored → rest.next < stored → who ≡ other

abbrev limit_of : Option Block → ℕ
limit_of None = 0
limit_of (Some block) = block.limit

abbrev next_of : Option Block → ℕ
next_of None = 0
next_of (Some block) = block.next

-- of the others that fit the stored number none has a number left
abbrev IsLone : Oracles → ℕ → ℕ → Type 0
IsLone oracles who stored = (other : ℕ) (rest : Block) → other ≢ who → oracles other ≡ Some rest → rest.limit ≡ stored → stored ≤ rest.next

is_lone : (oracles : Oracles) (stored from who : ℕ) (block : Block) → Apart oracles stored from → oracles who ≡ Some block → block.limit ≡ stored → block.next < stored → IsLone oracles who stored
is_lone oracles stored from who block apart is fits left other rest differs held at = by (cases_lt rest.next stored)
  where
    by : (rest.next < stored) ⊎ (stored ≤ rest.next) → stored ≤ rest.next
    by (inl below) = absurd (differs (sym (apart.one who other block rest is held fits at left below)))
    by (inr above) = above

placed : (oracles : Oracles) (who : ℕ) (oracle : Option Block) (other : ℕ) (block : Block) → with_oracle oracles who oracle other ≡ Some block →
    ((other ≡ who) × (oracle ≡ Some block)) ⊎ ((other ≢ who) × (oracles other ≡ Some block))
placed oracles who oracle other block = by (other == who) refl
  where
    by : (b : Bool) → (other == who) ≡ b → cond b oracle (oracles other) ≡ Some block → ((other ≡ who) × (oracle ≡ Some block)) ⊎ ((other ≢ who) × (oracles other ≡ Some block))
    by true e is = inl (eqb-true other who e, is)
    by false e is = inr ((λ same. let equal = eq-eqb other who same in absurd cc), is)

-- what another state of one oracle may be, where the stored number stays
record Stays (oracles : Oracles) (stored from who : ℕ) (oracle : Option Block) : Type 0 where
  limit : (block : Block) → oracle ≡ Some block → block.limit ≤ stored
  next : (block : Block) → oracle ≡ Some block → block.limit ≡ stored → from ≤ block.next
  lone : (block : Block) → oracle ≡ Some block → block.limit ≡ stored → block.next < stored → IsLone oracles who stored
  others : (other : ℕ) (block : Block) → other ≢ who → oracles other ≡ Some block → block.limit ≡ stored → from ≤ block.next

apart_stays : (oracles : Oracles) (stored low from who : ℕ) (oracle : Option Block) → Apart oracles stored low → from ≤ stored → Stays oracles stored from who oracle →
    Apart (with_oracle oracles who oracle) stored from
apart_stays oracles stored low from who oracle apart above stays = record { stored_above = above; limit = limit; next = next; one = one }
  where
    limit : (other : ℕ) (block : Block) → with_oracle oracles who oracle other ≡ Some block → block.limit ≤ stored
    limit other block is = elim (placed oracles who oracle other block is) [ inl p ↦ stays.limit block p.1 | inr p ↦ apart.limit other block p.1 ]

    next : (other : ℕ) (block : Block) → with_oracle oracles who oracle other ≡ Some block → block.limit ≡ stored → from ≤ block.next
    next other block is fits = elim (placed oracles who oracle other block is) [ inl p ↦ stays.next block p.1 fits | inr p ↦ stays.others other block p.0 p.1 fits ]

    one : (a b : ℕ) (block rest : Block) → with_oracle oracles who oracle a ≡ Some block → with_oracle oracles who oracle b ≡ Some rest →
        block.limit ≡ stored → rest.limit ≡ stored → block.next < stored → rest.next < stored → a ≡ b
    one a b block rest first second fits also left more = by (placed oracles who oracle a block first) (placed oracles who oracle b rest second)
      where
        by : ((a ≡ who) × (oracle ≡ Some block)) ⊎ ((a ≢ who) × (oracles a ≡ Some block)) → ((b ≡ who) × (oracle ≡ Some rest)) ⊎ ((b ≢ who) × (oracles b ≡ Some rest)) → a ≡ b
        by (inl p) (inl q) = p.0 ∙ sym q.0
        by (inl p) (inr q) = let none = stays.lone block p.1 fits left b rest q.0 q.1 also in absurd (omega (arith, none, more))
        by (inr p) (inl q) = let none = stays.lone rest q.1 also more a block p.0 p.1 fits in absurd (omega (arith, none, left))
        by (inr p) (inr q) = apart.one a b block rest p.1 q.1 fits also left more

-- the oracle that raises the stored number is the only one that fits it
apart_raised : (oracles : Oracles) (stored low from who raised : ℕ) (block : Block) → Apart oracles stored low → stored < raised → from ≤ raised → block.limit ≡ raised → from ≤ block.next →
    Apart (with_oracle oracles who (Some block)) raised from
apart_raised oracles stored low from who raised block apart higher above fits next_above = record { stored_above = above; limit = limit; next = next; one = one }
  where
    limit : (other : ℕ) (rest : Block) → with_oracle oracles who (Some block) other ≡ Some rest → rest.limit ≤ raised
    limit other rest is = by (placed oracles who (Some block) other rest is)
      where
        by : ((other ≡ who) × (Some block ≡ Some rest)) ⊎ ((other ≢ who) × (oracles other ≡ Some rest)) → rest.limit ≤ raised
        by (inl p) = let same : block.limit ≡ rest.limit = ap limit_of p.1 in omega (arith, same, fits)
        by (inr p) = let low = apart.limit other rest p.1 in omega (arith, low, higher)

    next : (other : ℕ) (rest : Block) → with_oracle oracles who (Some block) other ≡ Some rest → rest.limit ≡ raised → from ≤ rest.next
    next other rest is also = by (placed oracles who (Some block) other rest is)
      where
        by : ((other ≡ who) × (Some block ≡ Some rest)) ⊎ ((other ≢ who) × (oracles other ≡ Some rest)) → from ≤ rest.next
        by (inl p) = let same : block.next ≡ rest.next = ap next_of p.1 in omega (arith, same, next_above)
        by (inr p) = let low = apart.limit other rest p.1 in absurd (omega (arith, low, higher, also))

    one : (a b : ℕ) (first second : Block) → with_oracle oracles who (Some block) a ≡ Some first → with_oracle oracles who (Some block) b ≡ Some second →
        first.limit ≡ raised → second.limit ≡ raised → first.next < raised → second.next < raised → a ≡ b
    one a b first second is has fits_one fits_two left more = is_who a first is fits_one ∙ sym (is_who b second has fits_two)
      where
        is_who : (other : ℕ) (rest : Block) → with_oracle oracles who (Some block) other ≡ Some rest → rest.limit ≡ raised → other ≡ who
        is_who other rest is also = by (placed oracles who (Some block) other rest is)
          where
            by : ((other ≡ who) × (Some block ≡ Some rest)) ⊎ ((other ≢ who) × (oracles other ≡ Some rest)) → other ≡ who
            by (inl p) = p.0
            by (inr p) = let low = apart.limit other rest p.1 in absurd (omega (arith, low, higher, also))

-- the next number of an oracle that fits the table
next_within : (oracles : Oracles) (table : Table) (from who : ℕ) (oracle : Option Block) → Apart oracles (stored_number table) from → oracles who ≡ oracle → IsClock oracle table →
    (from ≤ next_number oracle table) × (next_number oracle table ≤ stored_number table)
next_within oracles table from who None apart is clock = (apart.stored_above, omega arith)
next_within oracles table from who (Some block) apart is clock =
    (apart.next who block is clock.attached.limit, let last = clock.attached.last in let limit = clock.attached.limit in omega (arith, last, limit))

-- an oracle that has numbers left is the only one
lone_of : (oracles : Oracles) (table : Table) (from who : ℕ) (oracle : Option Block) → Apart oracles (stored_number table) from → oracles who ≡ oracle → IsClock oracle table →
    next_number oracle table < stored_number table → IsLone oracles who (stored_number table)
lone_of oracles table from who None apart is clock left = absurd (omega (arith, left))
lone_of oracles table from who (Some block) apart is clock left = is_lone oracles (stored_number table) from who block apart is clock.attached.limit left

granted : (oracles : Oracles) (table : Table) (from who number : ℕ) (oracle' : Option Block) (table' : Table) → Apart oracles (stored_number table) from → IsClock (oracles who) table →
    Grants (oracles who) table number oracle' table' → (from ≤ number) × Apart (with_oracle oracles who oracle') (stored_number table') (number + 1)
granted oracles table from who number oracle' table' apart clock grants = (low, by (cases_lt number (stored_number table)))
  where
    within : (from ≤ next_number (oracles who) table) × (next_number (oracles who) table ≤ stored_number table)
    within = next_within oracles table from who (oracles who) apart refl clock

    low : from ≤ number
    low = let bound = within.0 in let is = grants.granted in omega (arith, bound, is)

    new : Block
    new = record { next = number + 1; limit = stored_number table' }

    by : (number < stored_number table) ⊎ (stored_number table ≤ number) → Apart (with_oracle oracles who oracle') (stored_number table') (number + 1)
    by (inr high) =
        let below = grants.below in
        subst (λ o. Apart (with_oracle oracles who o) (stored_number table') (number + 1)) (sym grants.rest)
        (apart_raised oracles (stored_number table) from (number + 1) who (stored_number table') new apart (omega (arith, high, below)) (omega (arith, below)) refl (omega arith))
    by (inl left) = subst (λ o. Apart (with_oracle oracles who o) (stored_number table') (number + 1)) (sym grants.rest)
        (subst (λ n. Apart (with_oracle oracles who (Some new)) n (number + 1)) (sym same)
        (apart_stays oracles (stored_number table) from (number + 1) who (Some new) apart (omega (arith, left)) (record { limit = limit; next = next; lone = λ block is fits below. lone; others = others })))
      where
        same : stored_number table' ≡ stored_number table
        same = ap stored_number grants.stored ∙ stored_stays table number left

        lone : IsLone oracles who (stored_number table)
        lone = lone_of oracles table from who (oracles who) apart refl clock (let is = grants.granted in omega (arith, left, is))

        limit : (block : Block) → Some new ≡ Some block → block.limit ≤ stored_number table
        limit block is = let equal : stored_number table' ≡ block.limit = ap limit_of is in omega (arith, equal, same)

        next : (block : Block) → Some new ≡ Some block → block.limit ≡ stored_number table → number + 1 ≤ block.next
        next block is fits = let equal : number + 1 ≡ block.next = ap next_of is in omega (arith, equal)

        others : (other : ℕ) (block : Block) → other ≢ who → oracles other ≡ Some block → block.limit ≡ stored_number table → number + 1 ≤ block.next
        others other block differs held fits = let above = lone other block differs held fits in omega (arith, above, left)

refused : (oracles : Oracles) (table : Table) (from who : ℕ) (oracle' : Option Block) (table' : Table) → Apart oracles (stored_number table) from → IsClock (oracles who) table → IsClock oracle' table' →
    Keeps (oracles who) table oracle' table' → Apart (with_oracle oracles who oracle') (stored_number table') from
refused oracles table from who oracle' table' apart clock clock' keeps = subst (λ n. Apart (with_oracle oracles who oracle') n from) (sym same)
    (apart_stays oracles (stored_number table) from from who oracle' apart apart.stored_above (record { limit = limit; next = next; lone = lone; others = λ other block differs held fits. apart.next other block held fits }))
  where
    same : stored_number table' ≡ stored_number table
    same = ap stored_number keeps.same

    within : (from ≤ next_number (oracles who) table) × (next_number (oracles who) table ≤ stored_number table)
    within = next_within oracles table from who (oracles who) apart refl clock

    limit_is : (block : Block) → oracle' ≡ Some block → block.limit ≡ stored_number table
    limit_is block is = let attached : IsAttached (Some block) (stored_number table') = subst (λ o. IsAttached o (stored_number table')) is clock'.attached in attached.limit ∙ same

    next_is : (block : Block) → oracle' ≡ Some block → block.next ≡ next_number (oracles who) table
    next_is block is = sym (ap (λ o. next_at o (stored_number table')) is) ∙ keeps.next

    limit : (block : Block) → oracle' ≡ Some block → block.limit ≤ stored_number table
    limit block is = let equal = limit_is block is in omega (arith, equal)

    next : (block : Block) → oracle' ≡ Some block → block.limit ≡ stored_number table → from ≤ block.next
    next block is fits = let equal = next_is block is in let low = within.0 in omega (arith, equal, low)

    lone : (block : Block) → oracle' ≡ Some block → block.limit ≡ stored_number table → block.next < stored_number table → IsLone oracles who (stored_number table)
    lone block is fits left = lone_of oracles table from who (oracles who) apart refl clock (let equal = next_is block is in omega (arith, equal, left))

crashed : (oracles : Oracles) (table : Table) (from who : ℕ) (oracle' : Option Block) (table' : Table) → Apart oracles (stored_number table) from → oracle' ≡ None → table' ≡ table →
    Apart (with_oracle oracles who oracle') (stored_number table') from
crashed oracles table from who oracle' table' apart none same = subst (λ t. Apart (with_oracle oracles who oracle') (stored_number t) from) (sym same)
    (apart_stays oracles (stored_number table) from from who oracle' apart apart.stored_above (record {
      limit = λ block is. absurd (never block is);
      next = λ block is fits. absurd (never block is);
      lone = λ block is fits left. absurd (never block is);
      others = λ other block differs held fits. apart.next other block held fits;
    }))
  where
    never : (block : Block) → oracle' ≡ Some block → ⊥
    never block is = let wrong = sym none ∙ is in absurd cc

stood_by : (oracles : Oracles) (table : Table) (from who : ℕ) (oracle' : Option Block) (table' : Table) → Apart oracles (stored_number table) from → oracle' ≡ oracles who →
    stored_number table' ≡ stored_number table → Apart (with_oracle oracles who oracle') (stored_number table') from
stood_by oracles table from who oracle' table' apart kept same = subst (λ n. Apart (with_oracle oracles who oracle') n from) (sym same)
    (apart_stays oracles (stored_number table) from from who oracle' apart apart.stored_above (record {
      limit = λ block is. apart.limit who block (sym kept ∙ is);
      next = λ block is fits. apart.next who block (sym kept ∙ is) fits;
      lone = λ block is fits left. is_lone oracles (stored_number table) from who block apart (sym kept ∙ is) fits left;
      others = λ other block differs held fits. apart.next other block held fits;
    }))

rise : (events : List Event) (oracles : Oracles) (table : Table) (from : ℕ) → Apart oracles (stored_number table) from → Run oracles table events → RiseFrom from (numbers events)
rise [] oracles table from apart run = tt
rise (Granted who number ∷ events) oracles table from apart (oracle', table', happens, run) =
    let step = granted oracles table from who number oracle' table' apart happens.0 happens.1 in
    (step.0, rise events (with_oracle oracles who oracle') table' (number + 1) step.1 run)
rise (Refused who ∷ events) oracles table from apart (oracle', table', happens, run) =
    rise events (with_oracle oracles who oracle') table' from (refused oracles table from who oracle' table' apart happens.0 happens.1 happens.2) run
rise (Crashed who ∷ events) oracles table from apart (oracle', table', happens, run) =
    rise events (with_oracle oracles who oracle') table' from (crashed oracles table from who oracle' table' apart happens.0 happens.1) run
rise (StoodBy who ∷ events) oracles table from apart (oracle', table', happens, run) =
    rise events (with_oracle oracles who oracle') table' from (stood_by oracles table from who oracle' table' apart happens.0 happens.1) run

pub numbers_rise : (oracles : Oracles) (table : Table) (events : List Event) → ((who : ℕ) → oracles who ≡ None) → Run oracles table events → RiseFrom (stored_number table) (numbers events)
numbers_rise oracles table events fresh run = rise events oracles table (stored_number table) (record {
  stored_above = omega arith;
  limit = λ who block is. absurd (never who block is);
  next = λ who block is fits. absurd (never who block is);
  one = λ who other block rest is held fits also left more. absurd (never who block is);
}) run
  where
    never : (who : ℕ) (block : Block) → oracles who ≡ Some block → ⊥
    never who block is = let wrong = sym (fresh who) ∙ is in absurd cc
