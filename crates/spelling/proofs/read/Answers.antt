-- `spelling::read` meets its contract. Assumes nothing.
use Rattle.std.specs.Prelude.{◌≡◌, Some, None, Err}
use Rattle.std.proofs.Common.{rules, arith, sym, ◌∙◌}
use Rattle.std.proofs.lemmas.Option.{MatchOption-at_some, MatchOption-at_none}
use Rattle.std.proofs.lemmas.Result.{err_from_is_err_and}
use Rattle.settings.specs.declared.Refusal.TheVariants.{NotText}
use Rattle.settings.proofs.Refusals.{tests_not_0}
use Rattle.spelling.specs.Language.{bad_settings, not_text}
use Rattle.spelling.proofs.Reading.{read_as_decoded}
use Rattle.spelling.proofs.read.Goals as goal

pub returns-then-not-valid : goal.returns-then-not-valid
returns-then-not-valid c = bad_settings (sym c.valid.ensures ∙ c.if-not-valid.true)

pub returns-in_err-word : goal.returns-in_err-word
returns-in_err-word c =
    let none : c.word_of.result ≡ None = grind arith in
    let p = err_from_is_err_and c.from_residual.result c.from_residual.ensures.1 in
    let e : c.from_residual.result ≡ Err NotText = grind (arith, p.1, p.2) in
    rw e (not_text (sym c.valid.ensures ∙ c.if-not-valid.false) (MatchOption-at_none _ _ none c.word_of.ensures))

pub returns-in_err-decode : goal.returns-in_err-decode
returns-in_err-decode c =
    let some : c.word_of.result ≡ Some c.in_ok-word.word = grind arith in
    let e : c.from_residual-in_err-decode.result ≡ Err c.in_err-decode.field-0.0 = search rules in
    rw e (rw (tests_not_0 c.in_err-decode.field-0.0) at (read_as_decoded c.args.settings c.args.text.now _ _ _ (sym c.valid.ensures ∙ c.if-not-valid.false) (MatchOption-at_some _ _ _ some c.word_of.ensures) (sym c.in_err-decode.ensures)))

pub returns : goal.returns
returns c =
    let some : c.word_of.result ≡ Some c.in_ok-word.word = grind arith in
    read_as_decoded c.args.settings c.args.text.now _ _ _ (sym c.valid.ensures ∙ c.if-not-valid.false) (MatchOption-at_some _ _ _ some c.word_of.ensures) (sym c.in_ok-decode.ensures)
