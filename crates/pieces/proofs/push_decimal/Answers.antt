-- `pieces::push_decimal` meets its contract. Assumes nothing.
use Prim.Native.Nat.{ℕ, ◌<◌}
use native.Mathlib.Omega.{arith}
use mathlib.Core.Path.{sym, ap, ◌∙◌}
use mathlib.Core.List.{List, [], ◌∷◌, ◌++◌}
use Rattle.pieces.proofs.Digits.{ascii_glyph, decimal_one, decimal_is}
use Rattle.pieces.proofs.push_decimal.Goals as goal

pub returns-then-n-lt10-clause-text : goal.returns-then-n-lt10-clause-text
returns-then-n-lt10-clause-text g c =
    let digit = c.from.ensures ∙ c.glyph.ensures in
    let small : c.from.result < 128 = rw digit (ascii_glyph c.args.n (omega arith)) in
    c.push.ensures.ascii small ∙ ap (λ (s : List ℕ). c.args.out.now.bytes ++ s) (ap (λ (b : ℕ). b ∷ []) digit ∙ sym (decimal_one c.args.n c.if-n-lt10.true))

pub returns-clause-text : goal.returns-clause-text
returns-clause-text g c =
    c.push_str.ensures.bytes ∙ ap (λ (s : List ℕ). c.args.out.now.bytes ++ s) (c.format.ensures.text ∙ decimal_is c.args.n c.ranges.n.fits)
