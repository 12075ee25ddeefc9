use native.Mathlib.Omega.{arith}
use mathlib.Core.Path.{refl, sym, ap, ◌∙◌}
use Prim.Native.Nat.{ℕ}
use lib.ListN.{set}
use Rattle.std.specs.Prelude.{Some}
use Rattle.laws.proofs.Tests.{cond_yes, cond_no}
use Rattle.syntax.proofs.Turns.{ends, other_byte, same_byte, letter-taken}
use Rattle.syntax.proofs.scan.Goals as goal

pub returns-then-a-c : goal.returns-then-a-c
returns-then-a-c c =
    let m = sym c.is_ascii_uppercase.ensures.value ∙ c.if-not-is_ascii_uppercase.true in
    cond_no _ _ _ _ (c.loop-c.invariant.1 ∙ other_byte c.args.row.now c.args.text.now c.loop-c.c-index c.loop-c.at _ c.loop-c-test.true c.byte_at-a.ensures m c.if-a-c.true) refl

pub loop-c-preserved-then-not-is_ascii_uppercase : goal.loop-c-preserved-then-not-is_ascii_uppercase
loop-c-preserved-then-not-is_ascii_uppercase c =
    let m = sym c.is_ascii_uppercase.ensures.value ∙ c.if-not-is_ascii_uppercase.true in
    let on = same_byte c.args.row.now c.args.text.now c.loop-c.values c.loop-c.c-index c.loop-c.at _ c.loop-c-test.true c.byte_at-a.ensures m c.if-a-c.false in
    (omega arith, c.loop-c.invariant.1 ∙ on.0, c.loop-c.invariant.2 ∙ on.1)

pub loop-c-preserved : goal.loop-c-preserved
loop-c-preserved c =
    let m = sym c.is_ascii_uppercase.ensures.value ∙ c.if-not-is_ascii_uppercase.false in
    let on = letter-taken c.args.row.now c.args.text.now c.loop-c.values _ c.loop-c.c-index c.loop-c.at _ _ _ _ c.loop-c-test.true c.byte_at-a.ensures c.byte_at.ensures m c.first-value.ensures.value (ap (λ (k : ℕ). set c.loop-c.values k c.first-value.result.0) c.from.ensures) c.first-value.ensures.passed.0 in
    (omega arith, c.loop-c.invariant.1 ∙ on.0, c.loop-c.invariant.2 ∙ on.1)

pub returns : goal.returns
returns c =
    let e = ends c.args.row.now c.args.text.now c.loop-c.values c.loop-c.c-index c.loop-c.at (omega arith) in
    cond_yes _ _ _ _ (c.loop-c.invariant.1 ∙ e.0) (ap Some (sym (c.loop-c.invariant.2 ∙ e.1)))
