-- `put_letters` meets its contract: the letters are put entry by entry.
use mathlib.Core.Path.{◌≡◌, refl, ap, ◌∙◌}
use mathlib.Core.List.{map}
use Prim.Native.Nat.{ℕ}
use native.Mathlib.Omega.{arith}
use lib.ListN.{length, length-set}
use Rattle.lists.specs.Entries.{at}
use Rattle.lists.specs.Rows.{tab}
use Rattle.lists.proofs.Rows.{tab_map, tab_own}
use Rattle.lists.proofs.Placed.{put_first, put_more, put_all}
use Rattle.answer.specs.Lines.{letter_of}
use Rattle.answer.proofs.put.put_letters.Goals as goal

pub loop-i-init : goal.loop-i-init
loop-i-init c = (refl, put_first _ _ _ (omega arith))

pub loop-i-preserved : goal.loop-i-preserved
loop-i-preserved c =
    let l = c.loop-i in
    (simp length-set l.invariant.0, put_more _ _ _ _ _ _ l.invariant.1 (omega arith) c.letter.ensures)

pub returns : goal.returns
returns c =
    let values = c.args.values.now in
    let all : tab (λ (i : ℕ). letter_of (at values i)) (length values) ≡ map letter_of values = tab_map letter_of (at values) (length values) ∙ ap (map letter_of) (tab_own values) in
    rw all at (put_all _ _ _ _ _ (length values) c.loop-i.invariant.1 (omega arith))
