use Rattle.std.specs.Prelude.{◌≡◌, None}
use native.Mathlib.Omega.{arith}
use Rattle.std.proofs.lemmas.Option.{MatchOption-at_some, MatchOption-at_none}
use Rattle.spelling.proofs.Reading.{one_tried, all_tried}
use Rattle.spelling.proofs.word_of.Goals as goal

pub returns-in-Some : goal.returns-in-Some
returns-in-Some c = (MatchOption-at_some _ _ _ c.in-Some.is c.word_by.ensures).spells

pub loop-k-preserved : goal.loop-k-preserved
loop-k-preserved c =
    let none : c.word_by.result ≡ None = grind arith in
    one_tried c.args.text.now c.loop-k.k c.loop-k.invariant (MatchOption-at_none _ _ none c.word_by.ensures)

pub returns : goal.returns
returns c = all_tried c.args.text.now c.loop-k.k (omega arith) c.loop-k.invariant
