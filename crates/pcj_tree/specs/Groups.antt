-- The value of a group's row: what an aggregate comes to over solutions of the group. Numbers have their highest byte first.
use Rattle.std.specs.Prelude.{◌≡◌, ◌⊎◌, ◌-◌, ◌^◌, ℕ, suc, ℤ, pos, negsuc, Bool, true, false, List, [], ◌∷◌, ◌++◌, length, map, Some}
use Rattle.std.specs.Int.{w64, bytes_high_first, to_be_bytes}
use Rattle.std.specs.List.{filter_map, list_all}
use Rattle.std.specs.Option.{is_some}
use Rattle.pcj_term.specs.declared.term.Term.{Term}
use Rattle.pcj_expr.specs.declared.mapping.Mapping.{Mapping}
use Rattle.pcj_algebra.specs.declared.query.Aggregate.{Aggregate}
use Rattle.pcj_algebra.specs.declared.query.Aggregate.TheVariants.{Count, Sum, Min, Max}
use Rattle.pcj_answers.specs.Aggregates.{AreTermsOf, integer_at, sum_of, IsLeast, IsGreatest}

-- a number in two's complement of so many bits
abbrev pub twos_complement : ℕ → ℤ → ℕ
twos_complement bits (pos n) = n
twos_complement bits (negsuc n) = 2 ^ bits - suc n

-- the last byte: 0 where each value was an integer, and else 1
abbrev pub flag_part : Bool → List ℕ
flag_part true = 0 ∷ []
flag_part false = 1 ∷ []

-- how many distinct terms there are, in 8 bytes
abbrev pub count_value : ℕ → List ℕ
count_value count = to_be_bytes w64 count

-- a sum, in 16 bytes, and whether each value was an integer
abbrev pub sum_value : ℤ → Bool → List ℕ
sum_value sum are_integers = bytes_high_first 16 (twos_complement 128 sum) ++ flag_part are_integers

-- a least or greatest value, in 8 bytes, and whether each value was an integer
abbrev pub bound_value : ℤ → Bool → List ℕ
bound_value value are_integers = bytes_high_first 8 (twos_complement 64 value) ++ flag_part are_integers

-- whether each of the solutions gives the variable an integer
abbrev pub are_integers_at : List ℕ → List Mapping → Bool
are_integers_at var members = list_all (λ mapping. is_some (integer_at var mapping)) members

-- the least or greatest of the variable's integers, or 0 where a solution gives it none
abbrev pub IsBoundValue : (List ℤ → ℤ → Type 0) → List ℕ → List Mapping → List ℕ → Type 0
IsBoundValue Is var members bytes =
    ((values : List ℤ) × (value : ℤ) × (map (integer_at var) members ≡ map Some values) × Is values value × (bytes ≡ bound_value value true))
    ⊎ ((are_integers_at var members ≡ false) × (bytes ≡ bound_value (pos 0) false))

-- The bytes are the value of a group of which these solutions were taken, one or more. A sum leaves out what is no integer.
abbrev pub IsGroupValue : Aggregate → List ℕ → List Mapping → List ℕ → Type 0
IsGroupValue Count var members bytes = (terms : List Term) × AreTermsOf var members terms × (bytes ≡ count_value (length terms))
IsGroupValue Sum var members bytes = bytes ≡ sum_value (sum_of (filter_map (integer_at var) members)) (are_integers_at var members)
IsGroupValue Min var members bytes = IsBoundValue IsLeast var members bytes
IsGroupValue Max var members bytes = IsBoundValue IsGreatest var members bytes
