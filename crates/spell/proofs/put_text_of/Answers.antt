-- What was promised of print, where its answer is known, is promised with all features on.
use Rattle.std.proofs.Common.{arith, ap, ◌∙◌, ◌++◌, List, ℕ}
use Rattle.pieces.specs.Pieces.{text}
use Rattle.spell.proofs.Ends.{word_short, word_stands, word-refused}
use Rattle.spell.proofs.put_text_of.Goals as goal

pub slice_bounds-room-end : goal.slice_bounds-room-end
slice_bounds-room-end c =
    (word_stands _ _ _ _ c.in-Ok.ensures).inside

pub slice_bounds-put_ended-end : goal.slice_bounds-put_ended-end
slice_bounds-put_ended-end c =
    (word_stands _ _ _ _ c.in-Ok.ensures).counted

pub put_ended-requires : goal.put_ended-requires
put_ended-requires c =
    (c.requires, omega (arith, (word_stands _ _ _ _ c.in-Ok.ensures).counted, word_short _ _ _ _ c.ranges.word.fits c.in-Ok.ensures))

pub returns-in-Ok : goal.returns-in-Ok
returns-in-Ok c =
    c.put_ended.ensures ∙ ap (λ (t : List ℕ). t ++ text "\n") (word_stands _ _ _ _ c.in-Ok.ensures).is

pub returns-in-Err : goal.returns-in-Err
returns-in-Err c =
    c.put_ended-in-Err.ensures ∙ ap (λ (t : List ℕ). t ++ text "\n") (word-refused _ c.ranges.word.fits c.in-Err.field-0 _ _ (omega arith) c.in-Err.ensures)
