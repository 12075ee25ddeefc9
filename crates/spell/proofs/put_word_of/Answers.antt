use Rattle.std.proofs.Common.{ap, ◌∙◌, ◌++◌, List, ℕ}
use Rattle.std.proofs.lemmas.Option.{MatchOption-at_some, MatchOption-at_none}
use Rattle.pieces.specs.Pieces.{text}
use Rattle.spell.proofs.Ends.{text_said, text-refused}
use Rattle.spell.proofs.put_word_of.Goals as goal

pub returns-in-Some : goal.returns-in-Some
returns-in-Some c =
    text_said _ _ _ (MatchOption-at_some _ _ _ c.in-Some.is c.word_of.ensures)
    (c.put_ended.ensures ∙ ap (λ (t : List ℕ). t ++ text "\n") (c.as_bytes.ensures.value ∙ c.as_str.ensures.value ∙ c.hex8.ensures))

pub returns-in-None : goal.returns-in-None
returns-in-None c = text-refused _ _ (MatchOption-at_none _ _ c.in-None.is c.word_of.ensures) c.put_ended-in-None.ensures
