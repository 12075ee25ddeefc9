-- No text is longer than the longest. Assumes nothing.
use Prim.Native.Nat.{ℕ, ◌+◌, ◌-◌, ◌<◌, ◌≤◌}
use native.Mathlib.Omega.{arith}
use mathlib.Core.Path.{◌≡◌, refl, ap}
use mathlib.Core.Bool.{Bool, false, ◌||◌, cond}
use lib.Dec.{eqb}
use lib.ListN.{length}
use Rattle.laws.specs.Lists.{Each}
use Rattle.pieces.specs.Pieces.{text, decimal, decimal_up_to}
use Rattle.syntax.specs.Syntax.{value_in, fill}
use Rattle.syntax.proofs.Laws.{number_range}
use Rattle.syntax.proofs.Widths.{Narrow, width, length-fill}
use Rattle.words.specs.Says.{describe}
use Rattle.words.specs.Kinds.{fields_said}
use Rattle.words.specs.declared.Fields.{Fields}
use Rattle.words.proofs.Table.{◌then◌}
use Rattle.spelling.specs.Rows.{syntax_at}
use Rattle.spelling.specs.Spell.{byte_of, letter_values, row_for, spell, longest_text}
use Rattle.spelling.specs.Theorems.{NoLonger, OneAsLong}
use Rattle.spelling.specs.Tried.{Figures}
use Rattle.spelling.proofs.Arms.{below, each_below}
use Rattle.spelling.proofs.Back.{figures}
use Rattle.spelling.proofs.Reading.{row_below}

-- the group, the index and the offsets have one digit
abbrev one_digit : ℕ → Bool
one_digit c = eqb c (byte_of "G") || eqb c (byte_of "I") || eqb c (byte_of "O") || eqb c (byte_of "P")

narrow_at : (f : Fields) → Figures f → Each (λ (i : ℕ). value_in (letter_values f) (i + 65) < cond (one_digit (i + 65)) 10 100) (below 18)
unfolding letter_values
narrow_at f g =
    let z : 0 < 100 = omega arith in
    omega (arith, g.select) then z then omega (arith, g.last) then omega (arith, g.offset) then omega (arith, g.first) then omega (arith, g.second)
    then omega (arith, g.second) then omega (arith, g.first) then z then omega (arith, g.index) then z then omega (arith, g.group) then z then z
    then omega (arith, g.destination) then z then z then z then tt

narrow : (f : Fields) → Figures f → Narrow one_digit (letter_values f)
narrow f g c n =
    let r = number_range c n in
    let e : c - 65 + 65 ≡ c = omega arith in
    rw e at (each_below (λ (i : ℕ). value_in (letter_values f) (i + 65) < cond (one_digit (i + 65)) 10 100) 18 (narrow_at f g) (c - 65) (omega arith))

widths : (k : ℕ) → k < 18 → width one_digit (syntax_at k) ≤ longest_text
unfolding width syntax_at
widths =
    each_below (λ (k : ℕ). width one_digit (syntax_at k) ≤ longest_text) 18 (omega arith)

pub no_longer : NoLonger
unfolding spell
no_longer t w p =
    let f = p.fields in
    let k = row_for p.short f in
    let a = length-fill one_digit (letter_values f) (narrow f (figures w f p.says)) (syntax_at k) in
    let b = widths k (row_below p.short f) in
    omega (arith, ap length p.spelled, a, b)

-- umlsll za.s[w11, 4:7, vgx4], { z28.b-z31.b }, { z28.b-z31.b }
pub one_as_long : OneAsLong
unfolding spell describe row_for letter_values syntax_at fill decimal decimal_up_to
one_as_long =
    record {
      text = text "umlsll za.s[w11, 4:7, vgx4], { z28.b-z31.b }, { z28.b-z31.b }";
      word = 0xC1BD6399;
      spells = record { fits = omega arith; fields = fields_said (describe 0xC1BD6399); says = refl; short = false; spelled = refl };
      long = refl;
    }
