-- `lines::push_ran` meets its contract. Assumes nothing.
use mathlib.Core.List.{append_assoc}
use Rattle.std.proofs.Common.{rules}
use Rattle.lines.specs.Lines.{ran_lines}
use Rattle.lines.proofs.push_ran.Goals as goal

pub returns : goal.returns
unfolding ran_lines
returns g c = search (rules, append_assoc)
