use Rattle.std.proofs.Common.{◌≡◌, ◌+◌, ℕ, length, take, drop, arith, ◌∙◌, rules, length-take, ap}
use Rattle.std.proofs.lemmas.List.{drop_all}
use Rattle.pcj_io.proofs.Given.{given}
use Rattle.pcj_io.proofs.mem_source.MemSourceSource.read.Goals as goal

pub returns-clause-bytes : goal.returns-clause-bytes
returns-clause-bytes c =
    let bytes = c.self.inside.bytes.items in
    let at = c.self.inside.at in
    let n = c.min-count.result in
    let front = c.copy_from_slice.new.self in
    let front_is : front ≡ take n (drop at bytes) = search rules in
    let front_len : length front ≡ n = omega (arith, length-take {A = ℕ}) in
    let left_is : c.args.self.now.left ≡ drop at bytes = search rules in
    let left_len : length c.split_at.result.1.now + at ≡ length bytes = omega (arith, c.split_at.ensures.back_len, ap length c.deref.ensures.value) in
    (left_is ∙ given bytes front c.args.buf.now at n front_is front_len, λ none _. drop_all (at + n) bytes (omega (arith, c.requires)))
