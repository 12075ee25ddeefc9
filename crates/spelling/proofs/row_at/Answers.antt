-- A row's text is what stands from the row's start to the next one's, in one string of all rows.
use Rattle.std.proofs.Common.{◌∙◌, sym, refl, rules}
use Rattle.spelling.specs.Rows.{syntax_at}
use Rattle.spelling.proofs.Placed.{placed}
use Rattle.spelling.proofs.row_at.Goals as goal

pub returns-clause-place : goal.returns-clause-place
unfolding syntax_at
returns-clause-place c = (placed c.args.k _ _ _ c.requires refl refl refl).2 ∙ sym (search rules)
