-- What a test says.
use Rattle.std.proofs.Common.{◌≡◌, Bool, true, false, T, refl}

pub true_from_T : (b : Bool) → T b → b ≡ true
true_from_T true holds = refl
true_from_T false holds = absurd holds
