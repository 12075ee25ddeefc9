use Prim.Native.Nat.{◌+◌, ◌*◌, ◌≤◌}
use native.Mathlib.Omega.{arith}
use mathlib.Core.Path.{◌∙◌}
use mathlib.Core.List.{[]}
use lib.ListN.{length, get_or}
use Rattle.machine.specs.Execute.{execute_paper, executed_says}
use Rattle.machine.specs.Run.{report_of}
use borrow.Author.Rules.{rules}
use Rattle.runlist.proofs.Runs.{WordRun, word_run, counts_said, plus_said, counted_within, stored, turn, finished}
use Rattle.runlist.proofs.perform.Goals as goal

pub add_assign-requires : goal.add_assign-requires
add_assign-requires c = let word-done : WordRun (execute_paper c.args.machine.now.settings (get_or c.args.words.now c.loop-i.i 0) c.loop-i.machine.z.now c.loop-i.machine.za.now)
    (report_of (executed_says c.execute-answer.result [] [])) c.execute-answer.new.self.z.now c.execute-answer.new.self.za.now =
    word_run _ _ _ _ _ c.execute-answer.result _ _ c.loop-i.invariant.0.0 c.execute-answer.ensures.executed in
    let few = counted_within _ _ _ _ _ _ _ _ _ word-done c.loop-i.invariant.2.small in
    let said = counts_said c.execute-answer.result c.unwrap_or_default.result c.unwrap_or_default.ensures in
    (omega (arith, few.0, said.0), omega (arith, few.1, said.1), omega (arith, few.2, said.2))

pub loop-i-preserved : goal.loop-i-preserved
loop-i-preserved c = let word-done : WordRun (execute_paper c.args.machine.now.settings (get_or c.args.words.now c.loop-i.i 0) c.loop-i.machine.z.now c.loop-i.machine.za.now)
    (report_of (executed_says c.execute-answer.result [] [])) c.execute-answer.new.self.z.now c.execute-answer.new.self.za.now =
    word_run _ _ _ _ _ c.execute-answer.result _ _ c.loop-i.invariant.0.0 c.execute-answer.ensures.executed in
    let room : 4 * c.loop-i.i + 4 ≤ length c.loop-i.report = omega (arith, c.requires.1, c.loop-i-test.true, c.loop-i.invariant.1) in
    let added = counts_said c.execute-answer.result c.unwrap_or_default.result c.unwrap_or_default.ensures in
    let same = c.execute-answer.ensures.same in (
      (same.0 ∙ c.loop-i.invariant.0.0, same.1 ∙ c.loop-i.invariant.0.1, same.2 ∙ c.loop-i.invariant.0.2),
      c.put_report.auto.report ∙ c.loop-i.invariant.1,
      turn _ _ _ (search rules) _ _ _ _ _ word-done _ _ _ _ _ _ _ c.loop-i.invariant.2 room
          (stored _ _ _ room _ _ c.put_report.ensures c.report_of.ensures) (c.add_assign.ensures.after ∙ plus_said _ _ (report_of (executed_says c.execute-answer.result [] [])) added),
    )

pub returns-clause-performed : goal.returns-clause-performed
returns-clause-performed c = finished _ _ _ _ _ _ _ _ _ _ (omega arith) c.loop-i.invariant.2
