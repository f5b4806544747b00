-- Rows that have nothing.
use Rattle.std.proofs.Common.{◌≡◌, true, not, ◌&&◌, is_some, List, [], ◌∷◌, Option, Some, None, refl, ap, ◌∙◌}
use Rattle.pcj_table.specs.declared.lock.Lock.{Lock}
use Rattle.pcj_table.specs.declared.version.Version.{Version}
use Rattle.pcj_table.specs.declared.plain.Plain.{Plain}
use Rattle.pcj_table.specs.declared.row.Row.{Row}
use Rattle.pcj_table.specs.Row.{no_row, has_nothing, is_empty}

pub row_is : (row : Row) → row.lock ≡ None → row.versions ≡ [] → row.plain ≡ None → row ≡ no_row
row_is row lock versions plain =
    let row_of : Option Lock → List Version → Option Plain → Row = λ l vs p. record { lock = l; versions = vs; plain = p } in
    ap (λ l. row_of l row.versions row.plain) lock ∙ ap (λ vs. row_of None vs row.plain) versions ∙ ap (row_of None []) plain

no_parts : (lock : Option Lock) (versions : List Version) (plain : Option Plain) → (not (is_some lock) && is_empty versions && not (is_some plain)) ≡ true →
    (lock ≡ None) × (versions ≡ []) × (plain ≡ None)
no_parts None [] None none = (refl, refl, refl)
no_parts None [] (Some plain) none = absurd cc
no_parts None (version ∷ versions) plain none = absurd cc
no_parts (Some lock) versions plain none = absurd cc

pub no_row_is : (row : Row) → has_nothing row ≡ true → row ≡ no_row
no_row_is row none = let parts = no_parts row.lock row.versions row.plain none in row_is row parts.0 parts.1 parts.2
