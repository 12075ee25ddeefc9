use Rattle.std.proofs.Common.{rules, ◌≡◌, None, get_or, arith, sym, ◌∙◌}
use Rattle.spell.proofs.Digits.{number_small, not_eight, digit_small, digit_none, no_digit, all_digits}
use Rattle.spell.proofs.word_in.Goals as goal

pub returns-then-line-ne8 : goal.returns-then-line-ne8
returns-then-line-ne8 c = sym (not_eight _ c.if-line-ne8.true)

pub overflow_mul-word : goal.overflow_mul-word
overflow_mul-word c = omega (arith, number_small c.args.line.now c.loop-byte.byte-index (omega arith))

pub overflow_add-word : goal.overflow_add-word
overflow_add-word c =
    let d = digit_small (get_or c.args.line.now c.loop-byte.byte-index 0) _ (sym c.digit.ensures ∙ c.in_ok-word.was) in
    omega (arith, d, number_small c.args.line.now c.loop-byte.byte-index (omega arith))

pub returns-in_err-word : goal.returns-in_err-word
returns-in_err-word c =
    let e : c.from_residual.result ≡ None = search rules in
    e ∙ sym (no_digit c.args.line.now c.loop-byte.byte-index c.loop-byte.invariant.0 (omega arith) (digit_none (get_or c.args.line.now c.loop-byte.byte-index 0) (sym c.digit.ensures ∙ c.in_err-word.was)))

pub returns : goal.returns
returns c =
    sym (all_digits c.args.line.now c.loop-byte.byte-index _ c.loop-byte.invariant.0 (omega arith) (omega arith) c.loop-byte.invariant.1 c.loop-byte.invariant.2)
