use mathlib.Core.Path.{◌≡◌, refl, sym}
use Prim.Native.Nat.{◌+◌, ◌*◌, ◌≤◌}
use lib.ListN.{length}
use native.Mathlib.Omega.{arith}
use Rattle.elements.specs.Elements.{zeros}
use Rattle.elements.proofs.Elements.{length-zeros, Bytes-zeros, element_at-zeros}
use Rattle.elements.proofs.Vectors.{put_each}
use Rattle.bits.proofs.Put.{none_yet, word_turn, word_end, cleared_rise}
use Rattle.bits.proofs.clear.Goals as goal

pub loop-word-init : goal.loop-word-init
unfolding put_each
loop-word-init c = (refl, none_yet c.args.file.now c.default-toggles.result c.default-toggles.ensures.0 c.default-toggles.ensures.1, (omega arith, omega arith), refl, λ j. (c.type_inv.file j).fits)

pub loop-word-preserved : goal.loop-word-preserved
loop-word-preserved c =
    let long : length (zeros c.args.bytes) ≡ c.args.bytes = length-zeros c.args.bytes in
    let T =
    word_turn c.args.file.now (zeros c.args.bytes) c.args.at (omega arith) (rw long c.requires.bytes_value.0)
    c.loop-word.word c.loop-word.toggles c.write-cleared.result c.add_assign.new.self 0 c.loop-word.file c.write-cleared.new.file
    c.loop-word.invariant.4 (omega arith) c.loop-word.invariant.0 c.loop-word.invariant.1 (sym (element_at-zeros 8 (8 * c.loop-word.word) c.args.bytes)) c.write-cleared.ensures.value c.add_assign.ensures.after c.write-cleared.ensures.new in
    (T.0, T.1, (omega arith, omega arith), T.2, c.loop-word.invariant.4)

pub returns : goal.returns
returns c =
    let long : length (zeros c.args.bytes) ≡ c.args.bytes = length-zeros c.args.bytes in
    let fit : c.args.at + length (zeros c.args.bytes) ≤ length c.args.file.now = omega arith in
    let R =
    word_end c.args.file.now (zeros c.args.bytes) c.args.at fit (rw long c.requires.bytes_value.0) c.loop-word.word c.loop-word.toggles c.loop-word.file
    (Bytes-zeros c.args.bytes) (omega arith) c.loop-word.invariant.0 c.loop-word.invariant.1 in
    (cleared_rise c.args.at c.args.bytes c.args.file.now c.loop-word.toggles c.loop-word.file fit R, R)
