-- `machine::execute` meets its contract. Assumes nothing.
use mathlib.Core.Path.{sym, ◌∙◌}
use Rattle.machine.proofs.Executing.{not_valid, not_long}
use Rattle.machine.proofs.execute.Goals as goal

pub returns-then-not-valid : goal.returns-then-not-valid
returns-then-not-valid c =
    not_valid c.args.settings c.args.z.now c.args.za.now c.args.word (sym c.valid.ensures ∙ c.if-not-valid.true)

pub returns-then-not-right_lengths : goal.returns-then-not-right_lengths
returns-then-not-right_lengths c =
    not_long c.args.settings c.args.z.now c.args.za.now c.args.word (sym c.valid.ensures ∙ c.if-not-valid.false) (sym c.right_lengths.ensures ∙ c.if-not-right_lengths.true)
