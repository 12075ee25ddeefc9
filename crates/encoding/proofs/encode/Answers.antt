-- `encoding::encode` meets its contract. Assumes nothing.
use Rattle.std.specs.Prelude.{◌≡◌, Some, None, Err}
use native.Mathlib.Omega.{arith}
use Rattle.std.proofs.lemmas.Option.{MatchOption-at_some, MatchOption-at_none}
use Rattle.std.proofs.lemmas.Result.{err_from_is_err_and}
use mathlib.Core.Path.{sym, ◌∙◌}
use Rattle.settings.specs.declared.Refusal.TheVariants.{NoSuchWord}
use Rattle.encoding.specs.Encode.{bad_settings, no_word, not_enabled, a_word}
use Rattle.encoding.proofs.encode.Goals as goal

pub returns-then-not-valid : goal.returns-then-not-valid
returns-then-not-valid c = bad_settings (sym c.valid.ensures ∙ c.if-not-valid.true)

pub returns-in_err-word : goal.returns-in_err-word
returns-in_err-word c =
    let none : c.word_with.result ≡ None = grind arith in
    let p = err_from_is_err_and c.from_residual.result c.from_residual.ensures.1 in
    let e : c.from_residual.result ≡ Err NoSuchWord = grind (arith, p.1, p.2) in
    rw e (no_word (sym c.valid.ensures ∙ c.if-not-valid.false) (MatchOption-at_none _ _ none c.word_with.ensures))

pub returns-then-not-enables : goal.returns-then-not-enables
returns-then-not-enables c =
    let some : c.word_with.result ≡ Some c.in_ok-word.word = grind arith in
    not_enabled (sym c.valid.ensures ∙ c.if-not-valid.false) _ (MatchOption-at_some _ _ _ some c.word_with.ensures) (sym c.enables.ensures ∙ c.if-not-enables.true)

pub returns : goal.returns
returns c =
    let some : c.word_with.result ≡ Some c.in_ok-word.word = grind arith in
    a_word (sym c.valid.ensures ∙ c.if-not-valid.false) _ (MatchOption-at_some _ _ _ some c.word_with.ensures) (sym c.enables.ensures ∙ c.if-not-enables.false)
