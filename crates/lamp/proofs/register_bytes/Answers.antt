use Rattle.std.proofs.Common.{sym, ◌∙◌}
use Rattle.lamp.specs.Lamp.{register_bytes}
use Rattle.lamp.proofs.Lent.{register_valid, register_not, register_none}
use Rattle.lamp.proofs.register_bytes.Goals as goal

pub returns-then-valid_length : goal.returns-then-valid_length
unfolding register_bytes
returns-then-valid_length c = register_valid _ _ (sym c.in-Ok.ensures) (sym c.valid_length.ensures ∙ c.if-valid_length.true)

pub returns : goal.returns
unfolding register_bytes
returns c = register_not _ _ (sym c.in-Ok.ensures) (sym c.valid_length.ensures ∙ c.if-valid_length.false)

pub returns-in_default : goal.returns-in_default
unfolding register_bytes
returns-in_default c = register_none _ _ (sym c.in_default.ensures)
