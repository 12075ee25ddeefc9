-- `spelling::compared` meets its contract. Assumes nothing.
use Rattle.std.specs.Prelude.{◌≡◌, Some, None}
use native.Mathlib.Omega.{arith}
use Rattle.std.proofs.lemmas.Option.{MatchOption-at_some, MatchOption-at_none}
use Rattle.spelling.proofs.Back.{figures}
use Rattle.spelling.proofs.Reading.{no_word_of, then_theirs}
use Rattle.spelling.proofs.compared.Goals as goal

pub returns-in_err-word : goal.returns-in_err-word
returns-in_err-word c =
    let none : c.word_with.result ≡ None = grind arith in
    let e : c.from_residual.result ≡ None = grind arith in
    rw e (no_word_of c.args.text.now c.args.k c.args.f c.requires.1 (MatchOption-at_none _ _ none c.word_with.ensures))

pub is_theirs-requires : goal.is_theirs-requires
is_theirs-requires c =
    let some : c.word_with.result ≡ Some c.in_ok-word.word = grind arith in
    (c.requires.0, figures _ c.args.f (MatchOption-at_some _ _ _ some c.word_with.ensures).says)

pub returns : goal.returns
returns c =
    let some : c.word_with.result ≡ Some c.in_ok-word.word = grind arith in
    then_theirs c.args.k c.args.text.now c.args.f _ _ _ c.requires.0 c.requires.1 (MatchOption-at_some _ _ _ some c.word_with.ensures)
    c.is_theirs.ensures.0 c.is_theirs.ensures.1 c.then_some.ensures
