use Rattle.std.proofs.Common.{ℕ, List, ◌++◌, ◌-◌, length, take, drop, get_or, refl, sym, ap, ◌∙◌, subst}
use Rattle.std.specs.Io.{StartsWith}
use Rattle.std.specs.List.{prefix_len}
use Rattle.pcj_term.specs.Reading.{is_plain}
use Rattle.pcj_term.specs.Term.{escape_of, escaped}
use Rattle.pcj_term.proofs.Escapes.{first_and_rest, escaped_step, escaped_last, step_shorter}
use Rattle.pcj_term.proofs.FrontLemmas.{starts_itself, starts_more}
use Rattle.pcj_term.proofs.print.push_escaped.Goals as goal

pub loop-byte-init : goal.loop-byte-init
loop-byte-init c = record { pushed = refl; kept = starts_itself c.args.out.now }

pub loop-byte-smaller : goal.loop-byte-smaller
loop-byte-smaller c = step_shorter c.loop-byte.rest.now c.cut_plain.result.1.now (prefix_len is_plain c.loop-byte.rest.now) c.cut_plain.ensures.end c.in-len1-up.len_at_least

pub loop-byte-preserved : goal.loop-byte-preserved
loop-byte-preserved c =
    let end : List ℕ = c.cut_plain.result.1.now in
    let plain : List ℕ = c.cut_plain.result.0.now in
    let byte : ℕ = get_or end 0 0 in
    let following : List ℕ = take (length end - 1) (drop 1 end) in
    let pushed = c.in_ok-push_escape.ensures.ok ∙ ap (λ (out : List ℕ). out ++ escape_of byte) c.in_ok-extend_from_slice.ensures.ok in
    record {
      pushed = ap (λ (out : List ℕ). out ++ escaped following) pushed
          ∙ escaped_step c.loop-byte.out c.loop-byte.rest.now plain end following byte c.cut_plain.ensures.front c.cut_plain.ensures.end (first_and_rest end c.in-len1-up.len_at_least)
          ∙ c.loop-byte.invariant.pushed;
      kept = subst (λ (out : List ℕ). StartsWith out c.args.out.now) (sym pushed)
          (starts_more c.args.out.now (c.loop-byte.out ++ plain) (escape_of byte) (starts_more c.args.out.now c.loop-byte.out plain c.loop-byte.invariant.kept));
    }

pub returns-in_default-clause-ok : goal.returns-in_default-clause-ok
returns-in_default-clause-ok c =
    c.in_ok-extend_from_slice.ensures.ok
    ∙ escaped_last c.loop-byte.out c.loop-byte.rest.now c.cut_plain.result.0.now c.cut_plain.result.1.now c.cut_plain.ensures.front c.cut_plain.ensures.end c.in_default.len_below
    ∙ c.loop-byte.invariant.pushed

pub returns-in_default-clause-kept : goal.returns-in_default-clause-kept
returns-in_default-clause-kept c =
    subst (λ (out : List ℕ). StartsWith out c.args.out.now) (sym c.in_ok-extend_from_slice.ensures.ok)
    (starts_more c.args.out.now c.loop-byte.out c.cut_plain.result.0.now c.loop-byte.invariant.kept)
