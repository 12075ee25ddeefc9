-- `lines::push_outcome` meets its contract. Assumes nothing.
use mathlib.Core.List.{append_assoc}
use Rattle.std.proofs.Common.{rules}
use Rattle.lines.specs.Lines.{counts_after, outcome}
use Rattle.lines.proofs.push_outcome.Goals as goal

pub returns-then-refusal-eq0-clause-text : goal.returns-then-refusal-eq0-clause-text
unfolding outcome counts_after
returns-then-refusal-eq0-clause-text g c = search (rules, append_assoc)

pub returns-clause-text : goal.returns-clause-text
unfolding outcome
returns-clause-text g c = search (rules, append_assoc)
