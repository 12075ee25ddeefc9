-- `words::decode` meets its contract. Assumes nothing.
use Rattle.std.proofs.lemmas.Result.{MatchResult-at_ok, MatchResult-at_err, err_from_is_err_and}
use mathlib.Core.Path.{sym, ◌∙◌}
use Rattle.words.specs.Decode.{decode_paper}
use Rattle.words.proofs.ByKind.{decodes_enabled}
use Rattle.words.proofs.decode.Goals as goal

pub returns-then-not-valid : goal.returns-then-not-valid
unfolding decode_paper
returns-then-not-valid c = rw (sym c.valid.ensures ∙ c.if-not-valid.true)

pub returns-in_err-kind : goal.returns-in_err-kind
returns-in_err-kind c =
    let p = err_from_is_err_and c.from_residual.result c.from_residual.ensures.1 in
    let q = MatchResult-at_err _ _ _ c.in_err-kind.was c.enabled_kind.ensures in
    rw (p.1, p.2 ∙ q.0, decodes_enabled c.args.settings c.args.word (sym c.valid.ensures ∙ c.if-not-valid.false), q.1)

pub returns : goal.returns
returns c =
    rw (c.fields_of.ensures, decodes_enabled c.args.settings c.args.word (sym c.valid.ensures ∙ c.if-not-valid.false), MatchResult-at_ok _ _ _ c.in_ok-kind.was c.enabled_kind.ensures)
