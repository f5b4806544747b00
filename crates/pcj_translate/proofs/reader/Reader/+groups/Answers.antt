use Rattle.std.proofs.Common.{◌≡◌, ◌<◌, ◌-◌, ◌∙◌, sym, subst, ap, List, Option, length, arith}
use Rattle.std.proofs.lemmas.Bool.{OnTrue_at, OnFalse_at}
use Rattle.std.proofs.lemmas.Result.{IfOk-weaker}
use Rattle.pcj_algebra.specs.declared.pattern.Pattern.{Pattern}
use Rattle.pcj_grammar.specs.declared.lexeme.Lexeme.{Lexeme}
use Rattle.pcj_translate.specs.declared.content.Content.{Content}
use Rattle.pcj_translate.specs.Term.{Scope}
use Rattle.pcj_translate.specs.Testing.{ReadsInner}
use Rattle.pcj_translate.specs.Group.{with_group, with_condition, closed}
use Rattle.pcj_translate.specs.Grouping.{nothing, ReadsGroup, ReadsJoint, ReadsBlock, ReadsOther}
use Rattle.pcj_translate.specs.Reading.{scope_of_reader}
use Rattle.pcj_translate.proofs.BlocksRead.{behind_dot_fewer}
use Rattle.pcj_translate.proofs.ConditionsRead.{behind_one_fewer}
use Rattle.pcj_translate.proofs.GroupsRead.{UnionsLeft, first_union, next_union, last_union, other_filter, other_joint, first_part, next_part, last_part}
use Rattle.pcj_translate.proofs.reader.Reader.+groups.Goals as goal

pub group-loop-self-init : goal.group-loop-self-init
group-loop-self-init t c =
    let scoped = subst (λ (s : Scope). ReadsBlock s c.new.result c.skip.new.self.rest.now c.joined_block.new.self.rest.now c.in_ok-content.content) c.skip.ensures.scope c.in_ok-content.ensures.ok in
    let fresh = subst (λ (b : Content). ReadsBlock (scope_of_reader c.args.self.now) b c.skip.new.self.rest.now c.joined_block.new.self.rest.now c.in_ok-content.content) c.new.ensures scoped in
    let behind = subst (λ (x : List Lexeme). ReadsBlock (scope_of_reader c.args.self.now) nothing x c.joined_block.new.self.rest.now c.in_ok-content.content) c.skip.ensures.rest fresh in (
      first_part (scope_of_reader c.args.self.now) (c.args.levels - 1) c.args.self.now.rest.now c.joined_block.new.self.rest.now c.in_ok-content.content behind,
      c.in_ok-content.ensures.scope ∙ c.skip.ensures.scope,
      (let size = ap (λ (r : List Lexeme). length r) c.skip.ensures.rest in omega (arith, size, c.in_ok-content.ensures.fewer)),
    )

pub group-loop-self-preserved : goal.group-loop-self-preserved
group-loop-self-preserved t c =
    let starts = sym c.starts_other.ensures ∙ c.loop-self-test.true in
    let scope = c.dot.ensures.scope ∙ c.in_ok-after.ensures.scope ∙ c.loop-self.invariant.1 in
    let other = subst (λ (s : Scope). ReadsOther s (c.args.levels - 1) c.loop-self.content c.loop-self.self.rest.now c.other.new.self.rest.now c.in_ok-after.after) c.loop-self.invariant.1 c.in_ok-after.ensures.ok in
    let scoped = subst (λ (s : Scope). ReadsBlock s c.in_ok-after.after c.dot.new.self.rest.now c.joined_block-in-loop-self.new.self.rest.now c.in_ok-content-2.content) scope c.in_ok-content-2.ensures.ok in
    let block = subst (λ (x : List Lexeme). ReadsBlock (scope_of_reader c.args.self.now) c.in_ok-after.after x c.joined_block-in-loop-self.new.self.rest.now c.in_ok-content-2.content) c.dot.ensures.rest scoped in (
      next_part (scope_of_reader c.args.self.now) (c.args.levels - 1) c.args.self.now.rest.now c.loop-self.self.rest.now c.other.new.self.rest.now c.joined_block-in-loop-self.new.self.rest.now c.loop-self.content c.in_ok-after.after c.in_ok-content-2.content starts c.loop-self.invariant.0 other block,
      c.in_ok-content-2.ensures.scope ∙ scope,
      (let size = ap (λ (r : List Lexeme). length r) c.dot.ensures.rest in
          omega (arith, size, behind_dot_fewer c.other.new.self.rest.now, behind_one_fewer c.loop-self.self.rest.now, c.in_ok-after.ensures.fewer, c.in_ok-content-2.ensures.fewer, c.loop-self.invariant.2)),
    )

pub group-returns-clause-ok : goal.group-returns-clause-ok
group-returns-clause-ok t c =
    let some : 0 < c.args.levels = omega (arith, c.if-levels-eq0.false) in
    let done = last_part (scope_of_reader c.args.self.now) c.args.levels c.args.self.now.rest.now c.loop-self.self.rest.now c.loop-self.content c.loop-self.invariant.0 some (sym c.starts_other.ensures ∙ c.loop-self-test.false) in
    let behind = subst (λ (z : List Lexeme). ReadsGroup (scope_of_reader c.args.self.now) c.args.levels c.args.self.now.rest.now z (closed c.loop-self.content)) (sym c.skip-2.ensures.rest) done in
    IfOk-weaker c.closed.result
    (λ (pattern : Option Pattern). pattern ≡ closed c.loop-self.content)
    (ReadsGroup (scope_of_reader c.args.self.now) c.args.levels c.args.self.now.rest.now c.skip-2.new.self.rest.now)
    (λ (pattern : Option Pattern) e. subst (λ (p : Option Pattern). ReadsGroup (scope_of_reader c.args.self.now) c.args.levels c.args.self.now.rest.now c.skip-2.new.self.rest.now p) (sym e) behind)
    c.closed.ensures

pub joint-loop-alloc-init : goal.joint-loop-alloc-init
joint-loop-alloc-init t c = (
  first_union (scope_of_reader c.args.self.now) c.args.levels c.args.self.now.rest.now c.group.new.self.rest.now c.in_ok-first.first c.in_ok-first.ensures.ok,
  c.in_ok-first.ensures.scope,
  c.in_ok-first.ensures.fewer,
)

pub joint-loop-alloc-preserved : goal.joint-loop-alloc-preserved
joint-loop-alloc-preserved t c =
    let taken = OnTrue_at c.loop-alloc-test.true c.union.ensures.taken in
    let scope = c.union.ensures.scope ∙ c.loop-alloc.invariant.1 in
    let here = subst (λ (r : List Lexeme). UnionsLeft (scope_of_reader c.args.self.now) c.args.levels c.args.self.now.rest.now r c.loop-alloc.first) taken.1 c.loop-alloc.invariant.0 in
    let reads = subst (λ (s : Scope). ReadsGroup s c.args.levels c.union.new.self.rest.now c.group-in-loop-alloc.new.self.rest.now c.in_ok-next.next) scope c.in_ok-next.ensures.ok in
    let next = next_union (scope_of_reader c.args.self.now) c.args.levels c.args.self.now.rest.now c.union.new.self.rest.now c.group-in-loop-alloc.new.self.rest.now taken.0 c.loop-alloc.first c.in_ok-next.next taken.2 here reads in (
      subst (λ (p : Option Pattern). UnionsLeft (scope_of_reader c.args.self.now) c.args.levels c.args.self.now.rest.now c.group-in-loop-alloc.new.self.rest.now p) (sym c.in_ok-first-2.ensures) next,
      c.in_ok-next.ensures.scope ∙ scope,
      (let size = ap (λ (r : List Lexeme). length r) taken.1 in omega (arith, size, behind_one_fewer c.union.new.self.rest.now, c.in_ok-next.ensures.fewer, c.loop-alloc.invariant.2)),
    )

pub joint-returns-clause-ok : goal.joint-returns-clause-ok
joint-returns-clause-ok t c =
    let none = OnFalse_at c.loop-alloc-test.false c.union.ensures.none in
    let done = last_union (scope_of_reader c.args.self.now) c.args.levels c.args.self.now.rest.now c.loop-alloc.self.rest.now c.loop-alloc.first c.loop-alloc.invariant.0 none.0 in
    subst (λ (r : List Lexeme). ReadsJoint (scope_of_reader c.args.self.now) c.args.levels c.args.self.now.rest.now r c.loop-alloc.first) (sym none.1) done

pub other-returns-then-starts_brace-clause-ok : goal.other-returns-then-starts_brace-clause-ok
other-returns-then-starts_brace-clause-ok t c =
    let done = other_joint (scope_of_reader c.args.self.now) c.args.levels c.args.before c.args.self.now.rest.now c.joint.new.self.rest.now c.in_ok-joint.joint (sym c.starts_brace.ensures ∙ c.if-starts_brace.true) c.in_ok-joint.ensures.ok in
    IfOk-weaker c.with_group.result
    (λ (after : Content). after ≡ with_group c.args.before c.in_ok-joint.joint)
    (ReadsOther (scope_of_reader c.args.self.now) c.args.levels c.args.before c.args.self.now.rest.now c.joint.new.self.rest.now)
    (λ (after : Content) e. subst (λ (a : Content). ReadsOther (scope_of_reader c.args.self.now) c.args.levels c.args.before c.args.self.now.rest.now c.joint.new.self.rest.now a) (sym e) done)
    c.with_group.ensures

pub other-returns-clause-ok : goal.other-returns-clause-ok
other-returns-clause-ok t c =
    let scoped = subst (λ (s : Scope). ReadsInner s c.args.levels c.skip.new.self.rest.now c.inner.new.self.rest.now c.in_ok-condition.condition) c.skip.ensures.scope c.in_ok-condition.ensures.ok in
    let reads = subst (λ (x : List Lexeme). ReadsInner (scope_of_reader c.args.self.now) c.args.levels x c.inner.new.self.rest.now c.in_ok-condition.condition) c.skip.ensures.rest scoped in
    let done = other_filter (scope_of_reader c.args.self.now) c.args.levels c.args.before c.args.self.now.rest.now c.inner.new.self.rest.now c.in_ok-condition.condition (sym c.starts_brace.ensures ∙ c.if-starts_brace.false) reads in
    IfOk-weaker c.with_condition.result
    (λ (after : Content). after ≡ with_condition c.args.before c.in_ok-condition.condition)
    (ReadsOther (scope_of_reader c.args.self.now) c.args.levels c.args.before c.args.self.now.rest.now c.inner.new.self.rest.now)
    (λ (after : Content) e. subst (λ (a : Content). ReadsOther (scope_of_reader c.args.self.now) c.args.levels c.args.before c.args.self.now.rest.now c.inner.new.self.rest.now a) (sym e) done)
    c.with_condition.ensures
