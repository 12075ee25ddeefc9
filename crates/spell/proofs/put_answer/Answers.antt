use Rattle.std.proofs.Common.{sym, ◌∙◌}
use Rattle.spell.proofs.Digits.{says_none}
use Rattle.spell.proofs.Ends.{word_answered}
use Rattle.spell.proofs.put_answer.Goals as goal

pub returns-in-Some : goal.returns-in-Some
returns-in-Some c = word_answered _ _ _ (sym c.word_in.ensures ∙ c.in-Some.is) c.put_text_of.ensures

pub returns-in-None : goal.returns-in-None
returns-in-None c = c.put_word_of.ensures (says_none _ (sym c.word_in.ensures ∙ c.in-None.is))
