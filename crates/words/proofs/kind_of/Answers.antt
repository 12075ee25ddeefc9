-- `words::kind_of` meets its contract: the rows of A and B, then the rows that the top byte leaves, by the laws of ByKind.antt. Assumes nothing.
use mathlib.Core.Path.{◌≡◌, ◌∙◌}
use native.Mathlib.Omega.{arith}
use Prim.Native.Nat.{ℕ}
use mathlib.Core.Bool.{Bool, false}
use mathlib.Core.List.{◌++◌}
use Rattle.layouts.specs.Layout.{matches}
use Rattle.words.specs.Rows.{row_a, row_b}
use Rattle.words.specs.Says.{table_c, table_za, says_first, describe}
use Rattle.words.proofs.ByKind.{only_c, only_za, no_row}
use Rattle.words.proofs.kind_of.Goals as goal

-- where neither the row of A nor that of B matches, the rows after them say it
after_b : (w : ℕ) (a b : Bool) → a ≡ matches row_a w → b ≡ matches row_b w → a ≡ false → b ≡ false
    → describe w ≡ says_first (table_c ++ table_za) w
unfolding describe
after_b w a b ea eb no_a no_b = rw (← ea, no_a, ← eb, no_b)

pub returns-then-is_a : goal.returns-then-is_a
unfolding describe
returns-then-is_a c =
    rw (← c.is_a.ensures, c.if-is_a.true) c.kind_a.ensures

pub returns-then-is_b : goal.returns-then-is_b
unfolding describe
returns-then-is_b c =
    rw (
      ← c.is_a.ensures,
      c.if-is_a.false,
      ← c.is_b.ensures,
      c.if-is_b.true,
    )
    c.kind_b.ensures

pub returns-in-68 : goal.returns-in-68
returns-in-68 c = after_b _ _ _ c.is_a.ensures c.is_b.ensures c.if-is_a.false c.if-is_b.false ∙ only_c _ c.ranges.w.fits c.in-68.is ∙ c.kind_c.ensures

pub returns-in-193 : goal.returns-in-193
returns-in-193 c = after_b _ _ _ c.is_a.ensures c.is_b.ensures c.if-is_a.false c.if-is_b.false ∙ only_za _ c.ranges.w.fits c.in-193.is ∙ c.kind_za.ensures

pub returns-in_default : goal.returns-in_default
returns-in_default c = after_b _ _ _ c.is_a.ensures c.is_b.ensures c.if-is_a.false c.if-is_b.false ∙ no_row _ c.ranges.w.fits (λ e. omega arith) (λ e. omega arith)
