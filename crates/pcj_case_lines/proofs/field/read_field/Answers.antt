use Rattle.std.proofs.Common.{ℕ, [], ◌≡◌, ◌∷◌, subst, arith, rules}
use Rattle.pcj_case_lines.proofs.FieldLemmas.{goes_on, is_itself, ends, ends_at_tab}
use Rattle.pcj_case_lines.proofs.field.read_field.Goals as goal

pub returns-in_default : goal.returns-in_default
returns-in_default c = ends c.args.line.now c.loop-byte.field c.loop-byte.rest.now c.loop-byte.invariant (c.in_default.ensures {u = tt}).cases

pub returns-in-9 : goal.returns-in-9
returns-in-9 c = ends_at_tab c.args.line.now c.loop-byte.field c.loop-byte.rest.now c.in-Some.behind.now c.loop-byte.invariant (subst (λ (byte : ℕ). c.loop-byte.rest.now ≡ byte ∷ c.in-Some.behind.now) c.in-9.is (c.in-Some.ensures {u = tt}).cases.0)

pub loop-byte-preserved : goal.loop-byte-preserved
loop-byte-preserved c = goes_on c.args.line.now c.loop-byte.field c.loop-byte.rest.now (c.in-Some.byte.now ∷ []) c.push.new.self c.in-Some.behind.now c.loop-byte.invariant (omega (arith, (c.in-Some.ensures {u = tt}).cases.1)) (is_itself c.in-Some.byte.now c.loop-byte.rest.now c.in-Some.behind.now (c.in-Some.ensures {u = tt}).cases.0 (search rules) (search rules)) c.in_ok-push-in_default-byte.ensures.ok
