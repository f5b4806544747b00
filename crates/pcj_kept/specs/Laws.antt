-- What commits, and values written without a transaction, leave of what is kept.
use Rattle.std.specs.Prelude.{◌≡◌, ◌≢◌, ℕ, List}
use Rattle.pcj_table.specs.Row.{no_row, updated}
use Rattle.pcj_table.specs.Table.{Key}
use Rattle.pcj_table.specs.declared.plain.Plain.{Plain}
use Rattle.pcj_table.specs.declared.update.Update.TheVariants.{SetPlain}
use Rattle.pcj_table.specs.declared.write.Write.{Write}
use Rattle.pcj_encode.specs.declared.key_name.KeyName.{KeyName}
use Rattle.pcj_encode.specs.declared.key_name.KeyName.TheVariants as row
use Rattle.pcj_encode.specs.Name.{IsName, key_of}
use Rattle.pcj_mvcc.specs.Reading.{Rows, put, versions_read}
use Rattle.pcj_moves.specs.declared.answer.Answer.{Answer}
use Rattle.pcj_moves.specs.Reads.{Reads}
use Rattle.pcj_rows.specs.Workers.{IsExport}
use Rattle.pcj_nodes.specs.Commits.{Base, Commits, HasWritten}
use Rattle.pcj_kept.specs.Kept.{Kept}
use Rattle.pcj_duties.specs.Observers.{HasPurpose}

-- whatever an actor is at work for, its commit keeps all
abbrev pub CommitsKeepAll : Type 0
CommitsKeepAll = (number commit start : ℕ) (answers : List Answer) (writes : List Write) (before after : Rows) → Commits number commit start answers writes before after → HasPurpose start answers writes →
    HasWritten start writes before → Kept before → Kept after

-- a line that is exported
abbrev pub ExportsKeepAll : Type 0
ExportsKeepAll = (number start : ℕ) (answers : List Answer) (rows : Rows) (key : Key) (plain : Plain) → Base number rows → Reads rows start answers → IsExport start answers (rows key).plain key plain →
    Kept rows → Kept (put rows key (updated (rows key) (SetPlain plain)))

-- what is read and the plain values of exports say all
abbrev pub ReadingsSayAll : Type 0
ReadingsSayAll = (before after : Rows) → versions_read after ≡ versions_read before →
    ((registration : ℕ) (cells : List (List ℕ)) → IsName (row.Export registration cells) → (after (key_of (row.Export registration cells))).plain ≡ (before (key_of (row.Export registration cells))).plain) → Kept before → Kept after

-- nothing is kept where no row but the clock's has anything
abbrev pub EmptyIsKept : Type 0
EmptyIsKept = (rows : Rows) → ((name : KeyName) → IsName name → name ≢ row.Clock → rows (key_of name) ≡ no_row) → Kept rows
