-- A part is 128 bytes more. Assumes nothing.
use Rattle.std.proofs.Common.{◌≡◌, ◌+◌, ◌*◌, ◌≤◌, ◌-◌, ◌++◌, length, take, drop, ℕ, List, arith, ap, sym, ◌∙◌, rules}
use Rattle.std.proofs.lemmas.List.{take-append-le}
use lib.ListN.{length-drop}
use lib.Seq.{take-append-add, take-add, length-take-le, take_all}
use borrow.Rule.Slice.PartMut.{put_mid, post_of}
use Rattle.runlist.proofs.copy.Goals as goal

grown : (a k : ℕ) (to from new : List ℕ) → k ≡ 128 → a + 128 ≤ length from → length to ≡ length from → take a to ≡ take a from → new ≡ take k (drop a from)
    → take (a + 128) (put_mid a k to new) ≡ take (a + 128) from
grown a k to from new ek h l p e =
    let s : a ≤ length to = omega (arith, l) in
    let n : length new ≡ 128 = ap length e ∙ length-take-le k (drop a from) (omega (arith, length-drop a from)) ∙ ek in
    ap (λ (m : ℕ). take (m + 128) (put_mid a k to new)) (sym (length-take-le a to s))
    ∙ take-append-add (take a to) (new ++ post_of a k to) 128
    ∙ ap (λ (zs : List ℕ). take a to ++ zs) (take-append-le 128 new (post_of a k to) (omega (arith, n)) ∙ take_all 128 new (omega (arith, n)) ∙ rw ek at e)
    ∙ ap (λ (zs : List ℕ). zs ++ take 128 (drop a from)) p
    ∙ sym (take-add a 128 from)

pub loop-part-preserved : goal.loop-part-preserved
loop-part-preserved c =
    let at = 128 * c.loop-part.part in
    let k : at + 128 - at ≡ 128 = omega arith in
    let next : 128 * (c.loop-part.part + 1) ≡ at + 128 = omega arith in
    let room : at + 128 ≤ length c.args.from.now = omega (arith, c.loop-part-test.true, c.requires.same) in (
      search rules,
      ap (λ (m : ℕ). take m (put_mid at (at + 128 - at) c.loop-part.to c.copy_part.new.to)) next
          ∙ grown at (at + 128 - at) c.loop-part.to c.args.from.now c.copy_part.new.to k room c.loop-part.invariant.0 c.loop-part.invariant.1 c.copy_part.ensures
          ∙ ap (λ (m : ℕ). take m c.args.from.now) (sym next),
    )
