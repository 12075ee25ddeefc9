-- `lines::push_counts` meets its contract. Assumes nothing.
use mathlib.Core.List.{append_assoc}
use Rattle.std.proofs.Common.{rules}
use Rattle.lines.specs.Lines.{counts_after}
use Rattle.lines.proofs.push_counts.Goals as goal

pub returns-clause-text : goal.returns-clause-text
unfolding counts_after
returns-clause-text g c = search (rules, append_assoc)
