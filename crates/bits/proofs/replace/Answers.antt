use mathlib.Core.Path.{refl}
use native.Mathlib.Omega.{arith}
use Rattle.elements.proofs.Vectors.{put_each}
use Rattle.bits.proofs.Put.{none_yet, word_turn, word_end}
use Rattle.bits.proofs.replace.Goals as goal

pub loop-word-init : goal.loop-word-init
unfolding put_each
loop-word-init c = (refl, none_yet c.args.file.now c.default-toggles.result c.default-toggles.ensures.0 c.default-toggles.ensures.1, (omega arith, omega arith), refl, λ j. (c.type_inv.file j).fits)

pub loop-word-preserved : goal.loop-word-preserved
loop-word-preserved c =
    let T =
    word_turn c.args.file.now c.args.new.now c.args.at c.requires.in_bounds c.requires.len.0
    c.loop-word.word c.loop-word.toggles c.write.result c.add_assign.new.self c.read-after.result c.loop-word.file c.write.new.file
    c.loop-word.invariant.4 (omega arith) c.loop-word.invariant.0 c.loop-word.invariant.1 c.read-after.ensures.0 c.write.ensures.value c.add_assign.ensures.after c.write.ensures.new in
    (T.0, T.1, (omega arith, omega arith), T.2, c.loop-word.invariant.4)

pub returns : goal.returns
returns c =
    word_end c.args.file.now c.args.new.now c.args.at c.requires.in_bounds c.requires.len.0 c.loop-word.word c.loop-word.toggles c.loop-word.file
    (λ j. (c.type_inv.new j).fits) (omega arith) c.loop-word.invariant.0 c.loop-word.invariant.1
