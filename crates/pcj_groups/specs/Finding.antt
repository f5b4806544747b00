-- What a walk over a group has found, a part of the group at a time.
use Rattle.std.specs.Prelude.{ℕ, Bool, true, false, ◌&&◌, List, [], ◌∷◌, ◌++◌, Option, None}
use Rattle.pcj_algebra.specs.declared.triple_pattern.TriplePattern.{TriplePattern}
use Rattle.pcj_grammar.specs.declared.lexeme.Lexeme.{Lexeme}
use Rattle.pcj_grammar.specs.declared.terminal.Terminal.{Terminal}
use Rattle.pcj_grammar.specs.declared.terminal.Terminal.TheVariants as t
use Rattle.pcj_grammar.specs.Grammar.{Form, word, name, maybe, many, ◌▹◌, Derives, is, by, one_after, left, right, without, with_it, end, again}
use Rattle.pcj_grammar.specs.Grammar as g
use Rattle.pcj_translate.specs.Term.{Scope}
use Rattle.pcj_translate.specs.Triples.{token_of}
use Rattle.pcj_translate.specs.Adding.{block_form, maybe_triples}
use Rattle.pcj_translate.specs.Group.{others_form, unions_form}
use Rattle.pcj_translate.specs.Grouping.{joint_form}
use Rattle.pcj_translate.specs.Names.{with_names}
use Rattle.pcj_translate.specs.Places.{lower, lowest_of, lower_of}
use Rattle.pcj_translate.specs.Uses.{expr_uses, place_of, unknown_among}
use Rattle.pcj_translate.specs.Variables.{same_variables, triple_variables}
use Rattle.pcj_groups.specs.declared.faults.GroupFaults.{GroupFaults}
use Rattle.pcj_groups.specs.declared.findings.Findings.{Findings}

-- ---- parts

abbrev pub no_faults : GroupFaults
no_faults = record { bare = None; unknown = None; uneven = None }

abbrev pub lower_faults : GroupFaults → GroupFaults → GroupFaults
lower_faults first other = record { bare = lower_of first.bare other.bare; unknown = lower_of first.unknown other.unknown; uneven = lower_of first.uneven other.uneven }

abbrev pub nothing : Findings
nothing = record { names = []; uses = []; is_bare = true; faults = no_faults }

abbrev pub triples_variables : List TriplePattern → List (List ℕ)
triples_variables [] = []
triples_variables (triple ∷ triples) = triple_variables triple ++ triples_variables triples

abbrev pub is_none : List TriplePattern → Bool
is_none [] = true
is_none (triple ∷ triples) = false

abbrev pub with_triples : Findings → List TriplePattern → Findings
with_triples found triples = record { names = with_names found.names (triples_variables triples); uses = found.uses; is_bare = is_none triples && found.is_bare; faults = found.faults }

abbrev pub with_uses : Findings → List Lexeme → Findings
with_uses found uses = record { names = found.names; uses = found.uses ++ uses; is_bare = found.is_bare; faults = found.faults }

abbrev pub with_group : Findings → Findings → Findings
with_group found group = record { names = with_names found.names group.names; uses = found.uses; is_bare = false; faults = lower_faults found.faults group.faults }

abbrev pub uneven_by : Bool → ℕ → Option ℕ → Option ℕ
uneven_by true place uneven = uneven
uneven_by false place uneven = lower place uneven

abbrev pub with_uneven : Findings → Bool → ℕ → Findings
with_uneven found same place =
    record { names = found.names; uses = found.uses; is_bare = found.is_bare; faults = record { bare = found.faults.bare; unknown = found.faults.unknown; uneven = uneven_by same place found.faults.uneven } }

-- a group behind the word UNION at this place, whose first group has these names
abbrev pub with_union : Findings → List (List ℕ) → ℕ → Findings → Findings
with_union found first place group = with_uneven (with_group found group) (same_variables first group.names) place

abbrev pub bare_by : Bool → ℕ → Option ℕ → Option ℕ
bare_by true place bare = lower place bare
bare_by false place bare = bare

-- the faults of a group whose brace is at this place
abbrev pub closed_faults : Scope → ℕ → Findings → GroupFaults
closed_faults scope place found = record {
  bare = bare_by found.is_bare place found.faults.bare;
  unknown = lower_of found.faults.unknown (lowest_of (unknown_among scope found.names found.uses));
  uneven = found.faults.uneven;
}

abbrev pub closed : Scope → ℕ → Findings → Findings
closed scope place found = record { names = found.names; uses = found.uses; is_bare = found.is_bare; faults = closed_faults scope place found }

-- ---- derivations

abbrev pub with_block : {x y : List Lexeme} → Scope → Findings → Derives block_form x y → Findings
with_block scope found d = with_triples found (maybe_triples scope d)

abbrev mutual
  pub group_found : {x y : List Lexeme} → Scope → Derives (name g.Group) x y → Findings
  group_found scope (by (one_after o (one_after b (one_after others c)))) = closed scope (place_of (token_of o)) (others_found scope (with_block scope nothing b) others)

  pub others_found : {x y : List Lexeme} → Scope → Findings → Derives others_form x y → Findings
  others_found scope found end = found
  others_found scope found (again (one_after o (one_after d b)) more) = others_found scope (with_block scope (other_found scope found o) b) more

  pub other_found : {x y : List Lexeme} → Scope → Findings → Derives (name g.Other) x y → Findings
  other_found scope found (by (left (one_after f (one_after p (one_after e c))))) = with_uses found (expr_uses e)
  other_found scope found (by (right (one_after group unions))) = unions_found scope (group_found scope group).names (with_group found (group_found scope group)) unions

  pub unions_found : {x y : List Lexeme} → Scope → List (List ℕ) → Findings → Derives unions_form x y → Findings
  unions_found scope first found end = found
  unions_found scope first found (again (one_after u group) more) = unions_found scope first (with_union found first (place_of (token_of u)) (group_found scope group)) more

abbrev pub joint_found : {x y : List Lexeme} → Scope → Findings → Derives joint_form x y → Findings
joint_found scope found (one_after group unions) = unions_found scope (group_found scope group).names (with_group found (group_found scope group)) unions

-- ---- tokens

abbrev pub is_variable : Terminal → Bool
is_variable t.Var = true
is_variable _ = false

abbrev pub is_use : Lexeme → Bool
is_use l = is_variable l.terminal

abbrev pub place_at : List Lexeme → ℕ
place_at [] = 0
place_at (l ∷ x) = l.at
