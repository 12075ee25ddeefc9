use Rattle.std.proofs.Common.{◌≡◌, ℕ, ◌*◌, ◌≤◌, List, length, take, Ok, sym, ◌∙◌, arith}
use lib.Seq.{length-take-le}
use Rattle.runlist.specs.Plan.{lengths_of, most_words, plan_of}
use Rattle.runlist.specs.RunList.{RunPromise}
use Rattle.runlist.specs.declared.Ran.{Ran}
use Rattle.lamp.specs.Lamp.{words_of, WordsAgain}
use Rattle.lamp.proofs.Text.{accepted, toggled_fits, front, text_ran, text-refused}
use Rattle.lamp.proofs.put_answer.Goals as goal

-- the list was accepted: the words stand in front, and they are few enough
there : (list z za report : List ℕ) {z' za' report' words : List ℕ} {r : Ran} → RunPromise list z za report (Ok r) z' za' report'
    → length z' ≡ length z → length za' ≡ length za → length report' ≡ length report → WordsAgain list (lengths_of z' za' report') words
    → (take r.words words ≡ words_of (plan_of list (lengths_of z za report))) × (r.words ≤ most_words) × (4 * r.words ≤ length report)
there list z za report p e f g w = front _ _ _ _ (accepted _ _ _ _ _ _ _ _ p) (rw (e, f, g) at w)

pub overflow_add-toggled : goal.overflow_add-toggled
overflow_add-toggled c =
    let few = (accepted _ _ _ _ _ _ _ _ c.in-Ok.ensures).small in
    let h = there _ _ _ _ c.in-Ok.ensures c.run.auto.z c.run.auto.za c.run.auto.report c.words_again.ensures in
    omega (arith, few.0, few.1, h.1)

pub slice_bounds-push_ran-end : goal.slice_bounds-push_ran-end
slice_bounds-push_ran-end c =
    let h = there _ _ _ _ c.in-Ok.ensures c.run.auto.z c.run.auto.za c.run.auto.report c.words_again.ensures in
    omega (arith, h.1, c.words_again.auto.words, c.requires.0)

pub slice_bounds-push_ran-end-in-Ok : goal.slice_bounds-push_ran-end-in-Ok
slice_bounds-push_ran-end-in-Ok c =
    let h = there _ _ _ _ c.in-Ok.ensures c.run.auto.z c.run.auto.za c.run.auto.report c.words_again.ensures in
    sym (length-take-le _ _ (omega (arith, h.1, c.words_again.auto.words, c.requires.0)))

pub push_ran-requires : goal.push_ran-requires
push_ran-requires c =
    let h = there _ _ _ _ c.in-Ok.ensures c.run.auto.z c.run.auto.za c.run.auto.report c.words_again.ensures in
    let many : length (take c.in-Ok.ran.words c.words_again.new.words) ≡ c.in-Ok.ran.words =
    length-take-le _ _ (omega (arith, h.1, c.words_again.auto.words, c.requires.0)) in
    let empty : length c.args.out.now.bytes ≡ 0 = rw c.requires.1 in (
      omega arith,
      (
        omega (arith, many, h.1, empty),
        (omega (arith, many, h.2, c.run.auto.report), λ i k. toggled_fits _ _ _ _ _ _ _ _ c.in-Ok.ensures i (omega (arith, many, k))),
      ),
    )

pub returns-in-Err : goal.returns-in-Err
returns-in-Err c =
    let line = text-refused _ _ _ _ _ _ _ c.in-Err.fault _ c.in-Err.ensures c.from.ensures in
    rw (c.requires.1, c.deref.ensures.0, c.refused_line.ensures) at c.push_str.ensures.bytes ∙ line

pub returns-in-Ok : goal.returns-in-Ok
returns-in-Ok c =
    let h = there _ _ _ _ c.in-Ok.ensures c.run.auto.z c.run.auto.za c.run.auto.report c.words_again.ensures in
    rw c.requires.1 at c.push_ran.ensures ∙ text_ran _ _ _ _ _ _ _ _ _ c.in-Ok.ensures h.0
