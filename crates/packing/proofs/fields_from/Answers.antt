-- `packing::fields_from` meets its contract. Assumes nothing.
use mathlib.Core.Path.{sym, ◌∙◌}
use Rattle.packing.proofs.Put.{no_bits, no_family, some_fields, number_of_some, number_of_none}
use Rattle.packing.proofs.fields_from.Goals as goal

pub returns-then-unsigned-subtract : goal.returns-then-unsigned-subtract
returns-then-unsigned-subtract c = no_bits _ c.if-unsigned-subtract.true

pub returns-in_err-ok : goal.returns-in_err-ok
returns-in_err-ok c =
    rw c.from_residual.ensures (no_family _ (number_of_none _ c.try_from.result c.try_from.ensures (sym c.ok.ensures.value ∙ c.in_err-ok.was)))

pub returns : goal.returns
returns c =
    some_fields c.args.numbers.now _ c.if-unsigned-subtract.false
    (number_of_some _ c.try_from.result _ c.try_from.ensures (sym c.ok.ensures.value ∙ c.in_ok-ok.was))
