-- `bits::Toggles::of_word` meets its contract. Assumes nothing.
use Rattle.std.proofs.Common.{◌∙◌, arith}
use Rattle.bits.proofs.Put.{same_toggles}
use Rattle.bits.proofs.Ones.{ones_new, ones_old}
use Rattle.bits.proofs.Toggles.of_word.Goals as goal

pub returns-clause-value : goal.returns-clause-value
returns-clause-value c =
    same_toggles _ _
    (c.from.ensures ∙ ones_new 64 c.args.before c.args.after (omega arith) (omega arith))
    (c.from-2.ensures ∙ ones_old 64 c.args.before c.args.after (omega arith) (omega arith))
