-- `spelling::put_text` meets its contract. Assumes nothing.
use native.Mathlib.Omega.{arith}
use mathlib.Core.Path.{sym, ap, ap₂, subst, ◌∙◌}
use lib.ListN.{length}
use mathlib.Core.List.{List}
use Prim.Native.Nat.{ℕ}
use Rattle.syntax.specs.Syntax.{fill, TwoDigits, OneByte}
use Rattle.spelling.proofs.Back.{two_digits, one_byte}
use Rattle.spelling.proofs.Putting.{kept_text}
use Rattle.spelling.proofs.Reading.{row_short}
use Rattle.spelling.proofs.put_text.Goals as goal

pub put_row-n-requires : goal.put_row-n-requires
put_row-n-requires c = (
  omega (arith, row_short c.args.k c.requires.0, ap length c.row_at.ensures.text, ap length c.as_mut_slice.ensures.value, c.requires.1),
  subst TwoDigits (sym c.values_of.ensures) (two_digits c.args.f c.requires.2),
  subst OneByte (sym c.values_of.ensures) (one_byte c.args.f c.requires.2),
)

pub returns : goal.returns
returns c =
    c.truncate.ensures.items
    ∙ kept_text _ c.args.text.now.items c.put_row-n.ensures (omega (arith, ap length c.as_mut_slice.ensures.value))
    ∙ ap₂ (λ (vs row : List ℕ). fill vs row) c.values_of.ensures c.row_at.ensures.text
