-- `syntax::put_said` meets its contract. Assumes nothing.
use mathlib.Core.Path.{sym, ◌∙◌}
use Rattle.syntax.proofs.Turns.{wrote_byte, wrote_one, wrote_two}
use Rattle.syntax.proofs.put_said.Goals as goal

pub returns-then-not-is_number-clause-wrote : goal.returns-then-not-is_number-clause-wrote
returns-then-not-is_number-clause-wrote c = wrote_byte c.args.c _ _ _ c.requires.0 (sym c.is_number.ensures ∙ c.if-not-is_number.true)

pub returns-then-v-lt10-clause-wrote : goal.returns-then-v-lt10-clause-wrote
returns-then-v-lt10-clause-wrote c = wrote_one c.args.c _ _ _ c.requires.0 (sym c.is_number.ensures ∙ c.if-not-is_number.false) c.if-v-lt10.true

pub returns-clause-wrote : goal.returns-clause-wrote
returns-clause-wrote c =
    let n = sym c.is_number.ensures ∙ c.if-not-is_number.false in
    wrote_two c.args.c _ _ _ c.requires.0 n c.if-v-lt10.false (c.requires.1 n)
