-- Names of lexemes and items, as they are listed.
use Rattle.std.specs.Prelude.{ℕ, Bool, not, List, drop, map, filter}
use Rattle.pcj_grammar.specs.declared.lexeme.Lexeme.{Lexeme}
use Rattle.pcj_algebra.specs.declared.pattern.Pattern.{Pattern, fold-Pattern}
use Rattle.pcj_translate.specs.Variables.{has_variable, nodes_step}
use Rattle.pcj_translate.specs.Uses.{place_of}
use Rattle.pcj_translate.specs.Term.{source_of}
use Rattle.pcj_sparql.specs.declared.said.Said.{Said}
use Rattle.pcj_sparql.specs.declared.said.Said.TheVariants.{Plain, Aggregate}

-- a variable's name, without its sign
abbrev pub name_in : List ℕ → Lexeme → List ℕ
name_in text l = drop 1 (source_of text l)

abbrev pub said_token : Said → Lexeme
said_token (Plain l) = l
said_token (Aggregate f d a n) = n

abbrev pub said_use : Said → Lexeme
said_use (Plain l) = l
said_use (Aggregate f d a n) = a

abbrev pub said_name_in : List ℕ → Said → List ℕ
said_name_in text said = name_in text (said_token said)

-- the nodes of a pattern's tree
abbrev pub nodes_in : Pattern → ℕ
nodes_in pattern = fold-Pattern ℕ nodes_step pattern

-- ---- uses

-- a variable that isn't among these names
abbrev pub is_stranger : List ℕ → List (List ℕ) → Lexeme → Bool
is_stranger text names l = not (has_variable names (name_in text l))

abbrev pub strangers : List ℕ → List (List ℕ) → List Lexeme → List ℕ
strangers text names ls = map place_of (filter (is_stranger text names) ls)
