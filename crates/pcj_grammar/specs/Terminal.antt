-- What a token is in the grammar. Words compare without case, but for the predicate `a`.
use Rattle.std.specs.Prelude.{ℕ, Bool, true, false, List, [], ◌∷◌, map, codes, ◌==◌, if◌then◌else◌}
use Rattle.std.specs.Char.{to_ascii_lowercase}
use Rattle.pcj_term.specs.Order.{same_bytes}
use Rattle.pcj_lex.specs.declared.token.TokenKind.{TokenKind}
use Rattle.pcj_lex.specs.declared.token.TokenKind.TheVariants as kinds
use Rattle.pcj_grammar.specs.declared.fault.FaultKind.{FaultKind}
use Rattle.pcj_grammar.specs.declared.fault.FaultKind.TheVariants as faults
use Rattle.pcj_grammar.specs.declared.terminal.Terminal.{Terminal}
use Rattle.pcj_grammar.specs.declared.terminal.Terminal.TheVariants as t

-- two words that differ in the case of their letters alone
abbrev pub is_keyword : List ℕ → List ℕ → Bool
is_keyword source keyword = same_bytes (map to_ascii_lowercase source) (map to_ascii_lowercase keyword)

abbrev pub function_of : List ℕ → Terminal
function_of source =
    if is_keyword source (codes "count") then t.Count else
    if is_keyword source (codes "sum") then t.Sum else
    if is_keyword source (codes "min") then t.Min else
    if is_keyword source (codes "max") then t.Max else
    t.Word

abbrev pub word_of : List ℕ → Terminal
word_of source =
    if is_keyword source (codes "prefix") then t.Prefix else
    if is_keyword source (codes "select") then t.Select else
    if is_keyword source (codes "distinct") then t.Distinct else
    if is_keyword source (codes "where") then t.Where else
    if is_keyword source (codes "group") then t.Group else
    if is_keyword source (codes "by") then t.By else
    if is_keyword source (codes "as") then t.As else
    if is_keyword source (codes "filter") then t.Filter else
    if is_keyword source (codes "union") then t.Union else
    if same_bytes source (codes "a") then t.A else
    function_of source

abbrev pub is_nothing : List ℕ → Bool
is_nothing [] = true
is_nothing (byte ∷ bytes) = false

-- a prefixed name without a local name: its first colon is its last byte
abbrev pub is_namespace : List ℕ → Bool
is_namespace [] = false
is_namespace (byte ∷ bytes) = if byte == 58 then is_nothing bytes else is_namespace bytes

abbrev pub name_of : List ℕ → Terminal
name_of source = if is_namespace source then t.Namespace else t.Name

abbrev pub mark_of : List ℕ → Terminal
mark_of source =
    if same_bytes source (codes "{") then t.OpenBrace else
    if same_bytes source (codes "}") then t.CloseBrace else
    if same_bytes source (codes "(") then t.OpenParen else
    if same_bytes source (codes ")") then t.CloseParen else
    if same_bytes source (codes ".") then t.Dot else
    if same_bytes source (codes ";") then t.Semicolon else
    if same_bytes source (codes ",") then t.Comma else
    if same_bytes source (codes "=") then t.Equal else
    if same_bytes source (codes "!=") then t.Unequal else
    if same_bytes source (codes "<") then t.Less else
    if same_bytes source (codes ">") then t.Greater else
    if same_bytes source (codes "<=") then t.AtMost else
    if same_bytes source (codes ">=") then t.AtLeast else
    if same_bytes source (codes "&&") then t.And else
    if same_bytes source (codes "||") then t.Or else
    if same_bytes source (codes "!") then t.Not else
    t.Datatype

abbrev pub outside_of : List ℕ → Terminal
outside_of source = if same_bytes source (codes "*") then t.Star else t.Outside

abbrev pub terminal_of : TokenKind → List ℕ → Terminal
terminal_of kinds.Word source = word_of source
terminal_of kinds.Var source = t.Var
terminal_of kinds.Iri source = t.Iri
terminal_of kinds.Pname source = name_of source
terminal_of kinds.Text source = t.Text
terminal_of kinds.Tag source = t.Tag
terminal_of kinds.Integer source = t.Integer
terminal_of kinds.Mark source = mark_of source
terminal_of kinds.Outside source = outside_of source

-- the fault of a text that has it where no text of the grammar does: a word and what the profile leaves out is told from the rest
abbrev pub fault_of : Terminal → FaultKind
fault_of t.Prefix = faults.OutOfProfile
fault_of t.Select = faults.OutOfProfile
fault_of t.Distinct = faults.OutOfProfile
fault_of t.Where = faults.OutOfProfile
fault_of t.Group = faults.OutOfProfile
fault_of t.By = faults.OutOfProfile
fault_of t.As = faults.OutOfProfile
fault_of t.Count = faults.OutOfProfile
fault_of t.Sum = faults.OutOfProfile
fault_of t.Min = faults.OutOfProfile
fault_of t.Max = faults.OutOfProfile
fault_of t.Filter = faults.OutOfProfile
fault_of t.Union = faults.OutOfProfile
fault_of t.A = faults.OutOfProfile
fault_of t.Word = faults.OutOfProfile
fault_of t.Star = faults.OutOfProfile
fault_of t.Outside = faults.OutOfProfile
fault_of _ = faults.Syntax
