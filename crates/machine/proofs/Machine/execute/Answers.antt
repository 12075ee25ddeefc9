-- `machine::Machine::execute` meets its contract. Assumes nothing.
use Prim.Native.Nat.{ℕ}
use native.Mathlib.Omega.{arith}
use Rattle.std.proofs.lemmas.Result.{MatchResult-at_ok, MatchResult-at_err, err_from_is_err_and}
use mathlib.Core.Path.{◌≡◌, sym, ap, ◌∙◌}
use Rattle.words.specs.declared.Fields.{Fields}
use Rattle.machine.proofs.Executing.{decodes_to, not_decoded}
use Rattle.machine.proofs.Machine.execute.Goals as goal

pub execute_kind-requires : goal.execute_kind-requires
execute_kind-requires c =
    decodes_to c.args.self.now.settings c.args.word _ c.args.self.now.ready.valid (MatchResult-at_ok _ _ _ c.in_ok-kind.was c.enabled_kind.ensures)

pub returns-in_err-kind-clause-executed : goal.returns-in_err-kind-clause-executed
returns-in_err-kind-clause-executed c =
    let p = err_from_is_err_and c.from_residual.result c.from_residual.ensures.1 in
    let q = MatchResult-at_err _ _ _ c.in_err-kind.was c.enabled_kind.ensures in
    let d = decodes_to c.args.self.now.settings c.args.word _ c.args.self.now.ready.valid q.1 in
    rw (p.1, p.2 ∙ q.0)
    (not_decoded _ _ _ c.args.word c.args.self.now.ready
    (λ e. let three : ◌≡◌ {A = ℕ} 3 0 = sym (ap (λ (p : ℕ × Fields). p.0) d) ∙ e in omega arith))
