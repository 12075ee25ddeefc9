-- The room has a place for each word, and what is read into it are the list's words.
use Rattle.std.proofs.Common.{◌≡◌, ℕ, length, take, sym, ap, ◌∙◌, arith}
use lib.Seq.{length-take-le}
use Rattle.numbers.specs.Numbers.{numbers_at}
use Rattle.runlist.specs.Plan.{ended_at}
use Rattle.lamp.proofs.Text.{none_again, words_again}
use Rattle.lamp.proofs.words_again.Goals as goal

pub slice_bounds-read_to_end-end : goal.slice_bounds-read_to_end-end
slice_bounds-read_to_end-end c = omega (arith, c.in-Ok.ensures.front_read.fits.1, c.requires)

pub slice_bounds-read_to_end-end-in-Ok : goal.slice_bounds-read_to_end-end-in-Ok
slice_bounds-read_to_end-end-in-Ok c = sym (length-take-le _ _ (omega (arith, c.in-Ok.ensures.front_read.fits.1, c.requires)))

pub returns-in_default : goal.returns-in_default
returns-in_default c = none_again _ _ _ _ c.in_default.ensures.front_read.says

pub returns-in-Ok : goal.returns-in-Ok
returns-in-Ok c =
    let many : length (take c.in-Ok.front.words c.args.words.now) ≡ c.in-Ok.front.words =
    length-take-le _ _ (omega (arith, c.in-Ok.ensures.front_read.fits.1, c.requires)) in
    words_again c.args.list.now _ c.in-Ok.front c.in-Ok.ensures.front_read.says c.read_to_end.result _ _
    (c.read_to_end.ensures.words_after ∙ ap (λ (n : ℕ). ended_at c.args.list.now (numbers_at c.args.list.now c.in-Ok.front.from n)) many)
