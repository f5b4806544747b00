-- Bytes that begin as others.
use Rattle.std.proofs.Common.{◌≡◌, ℕ, List, [], ◌∷◌, ◌++◌, refl, ap}
use Rattle.std.specs.Io.{StartsWith}

pub starts_itself : (bytes : List ℕ) → StartsWith bytes bytes
starts_itself [] = refl
starts_itself (byte ∷ bytes) = ap (λ (t : List ℕ). byte ∷ t) (starts_itself bytes)

pub starts_more : (old new more : List ℕ) → StartsWith new old → StartsWith (new ++ more) old
starts_more [] new more starts = refl
starts_more (byte ∷ old) [] more starts = absurd cc
starts_more (byte ∷ old) (first ∷ new) more starts =
    let same : first ≡ byte = cc in
    let rest : StartsWith new old = cc in
    let later = starts_more old new more rest in
    cc
