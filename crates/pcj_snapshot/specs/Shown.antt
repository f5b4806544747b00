-- What a read shows: what is seen at its time, also of a row that was locked by a transaction that has committed since
-- (Percolator, OSDI 2010, section 2.2).
use Rattle.std.specs.Prelude.{◌≡◌, ℕ, true, Some, None}
use Rattle.pcj_table.specs.Table.{Key, is_between}
use Rattle.pcj_mvcc.specs.Reading.{Rows, lock_up_to}
use Rattle.pcj_moves.specs.declared.answer.Answer.TheVariants.{OfRow, OfRange}
use Rattle.pcj_moves.specs.Reads.{IsRead}
use Rattle.pcj_snapshot.specs.declared.ask.Ask.{Ask}
use Rattle.pcj_snapshot.specs.declared.ask.Ask.TheVariants.{Get, Next}
use Rattle.pcj_snapshot.specs.declared.event.ReadEvent.{ReadEvent}
use Rattle.pcj_snapshot.specs.declared.event.ReadEvent.TheVariants as event
use Rattle.pcj_snapshot.specs.Reads.{Read}

-- no row of a range has a plain value
abbrev pub HasNoPlain : Ask → Rows → Type 0
HasNoPlain (Get key) rows = Unit {0}
HasNoPlain (Next range) rows = (key : Key) → is_between range.after range.end key ≡ true → (rows key).plain ≡ None

-- A value is the one that is seen in the row that was asked for, or in the first row of the range in which one is;
-- nothing is seen in the row, or in any of the range; or the row that is met has a lock of the time or before.
abbrev pub ShowsAt : Ask → ℕ → Rows → ReadEvent → Type 0
ShowsAt (Get key) at rows (event.Found pair) = (pair.key ≡ key) × IsRead rows at (OfRow key (Some pair.value))
ShowsAt (Get key) at rows event.Nothing = IsRead rows at (OfRow key None)
ShowsAt (Get key) at rows (event.MetLock met lock) = (met ≡ key) × (lock_up_to at (rows met).lock ≡ Some lock)
ShowsAt (Next range) at rows (event.Found pair) =
    (is_between range.after range.end pair.key ≡ true) × IsRead rows at (OfRange range.after range.end (Some pair))
ShowsAt (Next range) at rows event.Nothing = IsRead rows at (OfRange range.after range.end None)
ShowsAt (Next range) at rows (event.MetLock met lock) = (is_between range.after range.end met ≡ true) × (lock_up_to at (rows met).lock ≡ Some lock)

abbrev pub Shows : Read → Rows → ReadEvent → Type 0
Shows read rows told = ShowsAt read.ask read.at rows told
