-- What the reader holds: its text, and what prefixes stand for.
use Rattle.std.specs.Prelude.{ℕ, List}
use Rattle.std.specs.Map.{lookup}
use Rattle.pcj_term.specs.Order.{same_bytes}
use Rattle.pcj_translate.specs.declared.reader.Reader.{Reader}
use Rattle.pcj_translate.specs.declared.scope.Prefixes.{Prefixes}
use Rattle.pcj_translate.specs.Term.{Scope}

-- what prefixes stand for
abbrev pub scope_by : List ℕ → Prefixes → Scope
scope_by text prefixes = record { text = text; namespace = λ prefix. lookup (same_bytes prefix) prefixes.declared.entries }

abbrev pub scope_of_reader : Reader → Scope
scope_of_reader r = scope_by r.text.now r.prefixes.now
