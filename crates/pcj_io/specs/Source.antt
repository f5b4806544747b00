-- What a read does to the bytes that a source has left, where it tells them.
use Rattle.std.specs.Prelude.{◌≡◌, ◌↔◌, ℕ, List, [], IfSome, Option}
pub use Rattle.std.specs.Io.{ReadsAtMost}
pub use Rattle.std.specs.Io.KnownBytes.{Consumes, ReadConsumes, IsAtEnd, Keeps}

-- a read of n bytes is the end of the input exactly where nothing is left
abbrev pub EndsWhereNothingIsLeft : Option (List ℕ) → ℕ → Type 0
EndsWhereNothingIsLeft left n = IfSome left (λ bytes. (n ≡ 0) ↔ (bytes ≡ []))
