use Rattle.std.proofs.Common.{rules, ◌<◌, ◌++◌, ℕ, length, List, [], ◌∷◌, arith, ap, ◌∙◌}
use native.Mathlib.Numerals.{add-one}
use mathlib.Core.List.{append_assoc}
use lib.ListN.{get_or, length-append}
use lib.Seq.{take-suc, take_all}
use Rattle.std.proofs.lemmas.Str.{encode_ascii}
use Rattle.pieces.specs.Pieces.{hex8}
use Rattle.pieces.proofs.Digits.{ascii-digits, length_digits}
use Rattle.pieces.proofs.push_hex8.Goals as goal

pub push-requires : goal.push-requires
push-requires g c =
    let ds = c.last_digits.result in
    let e = c.loop-digit.invariant.0 in
    let i = c.loop-digit.digit-index in
    let small : get_or ds i 0 < 128 = rw e (ascii-digits 16 8 c.args.word (omega arith) (omega arith) i) in
    let n = length_digits 16 8 c.args.word in
    (search rules, omega (arith, ap length (encode_ascii c.from-in-loop-digit.result (omega (arith, c.from-in-loop-digit.ensures, small))), c.requires, n, ap length e, c.loop-digit.invariant.2, c.loop-digit-test.true))

pub loop-digit-preserved : goal.loop-digit-preserved
loop-digit-preserved g c =
    let ds = c.last_digits.result in
    let e = c.loop-digit.invariant.0 in
    let i = c.loop-digit.digit-index in
    let inside : i < length ds = omega (arith, c.loop-digit-test.true) in
    let small : get_or ds i 0 < 128 = rw e (ascii-digits 16 8 c.args.word (omega arith) (omega arith) i) in
    let pushed = c.push.ensures.ascii (omega (arith, c.from-in-loop-digit.ensures, small)) in (
      e,
      pushed ∙ rw (c.loop-digit.invariant.1, c.from-in-loop-digit.ensures, add-one, take-suc ds i 0 inside) (append_assoc c.args.out.now.bytes _ _),
      omega (arith, ap length pushed, length-append c.loop-digit.out.bytes (c.from-in-loop-digit.result ∷ []), c.loop-digit.invariant.2),
    )

pub returns-clause-text : goal.returns-clause-text
unfolding hex8
returns-clause-text g c =
    let n = length_digits 16 8 c.args.word in
    c.loop-digit.invariant.1 ∙ ap (λ (s : List ℕ). c.args.out.now.bytes ++ s) (take_all c.loop-digit.digit-index c.last_digits.result (omega (arith, n, ap length c.loop-digit.invariant.0, c.loop-digit-test.false)) ∙ c.loop-digit.invariant.0)
