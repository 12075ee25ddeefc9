use Rattle.std.proofs.Common.{length, arith, ◌∙◌}
use Rattle.std.proofs.lemmas.Iterator.{YieldsList-from_slice, YieldsList-from_zip}
use Rattle.std.proofs.lemmas.Iterator.Consumers.{YieldsList-from_enumerate, YieldsList-turn}
use Rattle.std.proofs.lemmas.List.{length_push}
use Rattle.lines.proofs.Lines.{no_lines, sum_is, one_line, numbered}
use Rattle.lines.proofs.push_lines.Goals as goal

pub loop-i-init : goal.loop-i-init
loop-i-init g c = (no_lines c.args.words.now c.args.report.now c.args.out.now.bytes, omega arith)

pub overflow_add-rises : goal.overflow_add-rises
overflow_add-rises g c =
    let n =
    numbered c.args.words.now c.as_chunks.result.0.now (length c.loop-i.yielded) c.in-Some.i c.in-Some.word.now c.in-Some.numbers.now
    (YieldsList-turn {s = c.into_iter-i-iterator.result}
    (YieldsList-from_enumerate
    (YieldsList-from_zip (YieldsList-from_slice c.args.words.now cc) (YieldsList-from_slice c.as_chunks.result.0.now cc)) cc)
    c.loop-i.yielded c.loop-i.i-iterator c.loop-i.yielded_by c.next.result c.next.new.self (c.in-Some.i, (c.in-Some.word, c.in-Some.numbers)) c.in-Some.is c.next.ensures.steps) in
    let k = length c.loop-i.yielded in
    rw n.2 (omega (arith, sum_is c.args.report.now _ c.as_chunks.ensures.front k (omega (arith, n.3)), c.requires.fours.1 k n.3))

pub loop-i-preserved : goal.loop-i-preserved
loop-i-preserved g c =
    let n =
    numbered c.args.words.now c.as_chunks.result.0.now (length c.loop-i.yielded) c.in-Some.i c.in-Some.word.now c.in-Some.numbers.now
    (YieldsList-turn {s = c.into_iter-i-iterator.result}
    (YieldsList-from_enumerate
    (YieldsList-from_zip (YieldsList-from_slice c.args.words.now cc) (YieldsList-from_slice c.as_chunks.result.0.now cc)) cc)
    c.loop-i.yielded c.loop-i.i-iterator c.loop-i.yielded_by c.next.result c.next.new.self (c.in-Some.i, (c.in-Some.word, c.in-Some.numbers)) c.in-Some.is c.next.ensures.steps) in
    let k = length c.loop-i.yielded in
    let more = length_push c.loop-i.yielded (c.in-Some.i, (c.in-Some.word, c.in-Some.numbers)) in (
      c.push_word.ensures.text
          ∙ rw (more, c.loop-i.invariant.0, n.0, n.1, n.2)
          (one_line c.args.report.now _ c.as_chunks.ensures.front k (omega (arith, n.3)) c.args.words.now c.args.out.now.bytes),
      omega (arith, more, c.push_word.ensures.upper_bound, c.loop-i.invariant.1),
    )
