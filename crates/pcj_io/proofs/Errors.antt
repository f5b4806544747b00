-- What holds at an error, from what holds anyway and from what held before.
use Rattle.std.proofs.Common.{Result, Ok, Err, OnErr}

pub OnErr-of : {T E P : Type 0} (r : Result T E) → P → OnErr r P
OnErr-of (Ok x) h = tt
OnErr-of (Err e) h = h

pub OnErr-weaker : {T E P Q : Type 0} (r : Result T E) → (P → Q) → OnErr r P → OnErr r Q
OnErr-weaker (Ok x) f h = tt
OnErr-weaker (Err e) f h = f h
