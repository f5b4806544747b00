use Rattle.std.proofs.Common.{◌≡◌, ◌++◌, take}
use Rattle.std.specs.List.{flat_map}
use Rattle.pcj_term.proofs.bytes.Bytes.extend_from_pieces.Given as goal

abbrev pub invariant-loop-piece : goal.invariant-loop-piece
invariant-loop-piece l = l.self-inside.bytes.items ≡ l.fn.self ++ flat_map (λ piece. piece.now) (take l.piece-index l.pieces)
