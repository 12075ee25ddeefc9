-- `lines::push_word` meets its contract. Assumes nothing.
use mathlib.Core.List.{append_assoc}
use Rattle.std.proofs.Common.{rules}
use Rattle.lines.specs.Lines.{word_line}
use Rattle.lines.proofs.push_word.Goals as goal

pub returns-clause-text : goal.returns-clause-text
unfolding word_line
returns-clause-text g c = search (rules, append_assoc)
