-- `words::partner` meets its contract, by the laws of Answers.antt. Assumes nothing.
use Rattle.std.proofs.lemmas.Result.{MatchResult-at_ok, MatchResult-at_err, err_from_is_err_and}
use mathlib.Core.Path.{sym, ap, ◌∙◌}
use Rattle.words.specs.Sign.{partner_in}
use Rattle.words.specs.declared.Family.{Family}
use Rattle.words.proofs.Answers.{partner_not_valid, partner_not_enabled, partner_by_kind}
use Rattle.words.proofs.partner.Goals as goal

pub returns-then-not-valid : goal.returns-then-not-valid
returns-then-not-valid c = sym (partner_not_valid c.args.settings c.args.word (sym c.valid.ensures ∙ c.if-not-valid.true))

pub returns-in_err-found : goal.returns-in_err-found
returns-in_err-found c =
    let p = err_from_is_err_and c.from_residual.result c.from_residual.ensures.1 in
    let q = MatchResult-at_err _ _ _ c.in_err-found.was c.enabled_kind.ensures in
    rw (p.1, p.2 ∙ q.0) (sym (partner_not_enabled c.args.settings c.args.word (sym c.valid.ensures ∙ c.if-not-valid.false) q.1))

pub returns : goal.returns
returns c =
    c.partner_in.ensures
    ∙ ap (λ (family : Family). partner_in family c.args.word) c.from.ensures
    ∙ sym (partner_by_kind c.args.settings c.args.word (sym c.valid.ensures ∙ c.if-not-valid.false) _ (MatchResult-at_ok _ _ _ c.in_ok-found.was c.enabled_kind.ensures))
