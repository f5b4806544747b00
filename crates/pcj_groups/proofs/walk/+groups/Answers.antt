use Rattle.std.proofs.Common.{◌<◌, ◌-◌, ◌∙◌, sym, ap, List, length, arith}
use Rattle.std.proofs.lemmas.Result.{on_ok_weaker}
use Rattle.pcj_grammar.specs.declared.lexeme.Lexeme.{Lexeme}
use Rattle.pcj_translate.specs.Reading.{scope_of_reader}
use Rattle.pcj_translate.proofs.BlocksRead.{behind_dot_fewer}
use Rattle.pcj_translate.proofs.ConditionsRead.{behind_one_fewer}
use Rattle.pcj_groups.proofs.Walked.{union_first, union_step, last_union, other_joint, part_first, part_step, group_done, union_fewer}
use Rattle.pcj_groups.proofs.walk.+groups.Goals as goal

pub group-loop-reader-init : goal.group-loop-reader-init
group-loop-reader-init t c =
    let block = c.in_ok-block.ensures {u = tt} in (
      part_first (scope_of_reader c.args.reader.now) (scope_of_reader c.skip.new.self) (c.args.levels - 1) c.args.reader.now.rest.now c.skip.new.self.rest.now c.block.new.reader.rest.now c.new-found.result c.block.new.found block.ok c.skip.ensures.scope c.skip.ensures.rest c.new-found.ensures,
      block.scope ∙ c.skip.ensures.scope,
      (let size = ap (λ (r : List Lexeme). length r) c.skip.ensures.rest in omega (arith, size, block.fewer)),
    )

pub group-loop-reader-preserved : goal.group-loop-reader-preserved
group-loop-reader-preserved t c =
    let starts = sym c.starts_other.ensures ∙ c.loop-reader-test.true in
    let other = c.in_ok-other.ensures {u = tt} in
    let block = c.in_ok-block-2.ensures {u = tt} in
    let scope = c.dot.ensures.scope ∙ other.scope ∙ c.loop-reader.invariant.1 in (
      part_step (scope_of_reader c.args.reader.now) (scope_of_reader c.loop-reader.reader) (scope_of_reader c.dot.new.self) (c.args.levels - 1) c.args.reader.now.rest.now c.loop-reader.reader.rest.now c.other.new.reader.rest.now c.dot.new.self.rest.now c.block-in-loop-reader.new.reader.rest.now
          c.loop-reader.found c.other.new.found c.block-in-loop-reader.new.found starts c.loop-reader.invariant.0 other.ok c.loop-reader.invariant.1 c.dot.ensures.rest block.ok scope,
      block.scope ∙ scope,
      (let size = ap (λ (r : List Lexeme). length r) c.dot.ensures.rest in
          omega (arith, size, behind_dot_fewer c.other.new.reader.rest.now, behind_one_fewer c.loop-reader.reader.rest.now, other.fewer, block.fewer, c.loop-reader.invariant.2)),
    )

pub group-returns-clause-ok : goal.group-returns-clause-ok
group-returns-clause-ok t c =
    let some : 0 < c.args.levels = omega (arith, c.if-levels-eq0.false) in
    group_done (scope_of_reader c.args.reader.now) (scope_of_reader c.skip-2.new.self) c.args.levels c.place_at-place.result c.args.reader.now.rest.now c.loop-reader.reader.rest.now c.skip-2.new.self.rest.now c.loop-reader.found c.close.new.self c.loop-reader.invariant.0 some
    (sym c.starts_other.ensures ∙ c.loop-reader-test.false) c.skip-2.ensures.rest (c.skip-2.ensures.scope ∙ c.loop-reader.invariant.1) c.place_at-place.ensures (c.in_ok-close.ensures {u = tt})

pub joint-loop-alloc-init : goal.joint-loop-alloc-init
joint-loop-alloc-init t c = (
  union_first (scope_of_reader c.args.reader.now) c.args.levels c.args.reader.now.rest.now c.group.new.reader.rest.now c.args.found.now c.in_ok-first.first c.add_group.new.self c.in_ok-first.ensures.ok (c.in_ok-add_group.ensures {u = tt}),
  c.in_ok-first.ensures.scope,
  c.in_ok-first.ensures.fewer,
)

pub joint-loop-alloc-smaller : goal.joint-loop-alloc-smaller
joint-loop-alloc-smaller t c =
    let starts = sym c.starts_union.ensures ∙ c.loop-alloc-test.true in
    let size = ap (λ (r : List Lexeme). length r) c.skip.ensures.rest in
    let less : length c.group-in-loop-alloc.new.reader.rest.now < length c.loop-alloc.reader.rest.now = omega (arith, size, behind_one_fewer c.skip.new.self.rest.now, c.in_ok-next.ensures.fewer, union_fewer c.loop-alloc.reader.rest.now starts) in
    less

pub joint-loop-alloc-preserved : goal.joint-loop-alloc-preserved
joint-loop-alloc-preserved t c =
    let starts = sym c.starts_union.ensures ∙ c.loop-alloc-test.true in
    let scope = c.skip.ensures.scope ∙ c.loop-alloc.invariant.1 in (
      union_step (scope_of_reader c.args.reader.now) (scope_of_reader c.skip.new.self) c.args.levels c.place_at-place.result c.args.reader.now.rest.now c.loop-alloc.reader.rest.now c.skip.new.self.rest.now c.group-in-loop-alloc.new.reader.rest.now
          c.in_ok-first.first.names c.args.found.now c.loop-alloc.found c.in_ok-next.next c.add_union.new.self starts c.loop-alloc.invariant.0 c.skip.ensures.rest c.place_at-place.ensures c.in_ok-next.ensures.ok scope (c.in_ok-add_union.ensures {u = tt}),
      c.in_ok-next.ensures.scope ∙ scope,
      (let size = ap (λ (r : List Lexeme). length r) c.skip.ensures.rest in
          omega (arith, size, behind_one_fewer c.skip.new.self.rest.now, behind_one_fewer c.loop-alloc.reader.rest.now, c.in_ok-next.ensures.fewer, c.loop-alloc.invariant.2)),
    )

pub joint-returns-clause-ok : goal.joint-returns-clause-ok
joint-returns-clause-ok t c =
    last_union (scope_of_reader c.args.reader.now) c.args.levels c.args.reader.now.rest.now c.loop-alloc.reader.rest.now c.in_ok-first.first.names c.args.found.now c.loop-alloc.found c.loop-alloc.invariant.0 (sym c.starts_union.ensures ∙ c.loop-alloc-test.false)

pub other-returns-then-starts_brace-clause-ok : goal.other-returns-then-starts_brace-clause-ok
other-returns-then-starts_brace-clause-ok t c =
    on_ok_weaker c.joint.result
    (λ walks. other_joint (scope_of_reader c.args.reader.now) c.args.levels c.args.found.now c.joint.new.found c.args.reader.now.rest.now c.joint.new.reader.rest.now (sym c.starts_brace.ensures ∙ c.if-starts_brace.true) walks)
    c.joint.ensures.ok
