-- `lay_symbols` meets its contract. The loop that lays values, which are the places of the text's bytes among the signs.
use native.Mathlib.Omega.{arith}
use Prim.Native.Nat.{◌+◌, ℕ, ◌≤◌}
use mathlib.Core.Path.{ap, sym, ◌∙◌}
use mathlib.Core.List.{List, map}
use lib.ListN.{length, drop, length-drop, length-map}
use lib.Seq.{get_or-drop}
use Rattle.lists.specs.Rows.{laid}
use Rattle.form.specs.Readers.{place_of}
use Rattle.lists.proofs.Laid.{laying_more, laying_done, map_at, map_take}
use Rattle.text.proofs.tables.lay_symbols.Goals as goal

abbrev places : List ℕ → List ℕ → ℕ → List ℕ
places signs text from = map (place_of signs) (drop from text)

enough : (signs text : List ℕ) (from n : ℕ) → from + n ≤ length text → n ≤ length (places signs text from)
enough signs text from n h = omega (arith, length-map (drop from text) (place_of signs), length-drop from text)

pub loop-j-preserved : goal.loop-j-preserved
loop-j-preserved c =
    let a = c.args in
    let l = c.loop-j in
    let s = a.text.now in
    laying_more (places a.signs.now s a.from) a.n a.to a.out.now (enough a.signs.now s a.from a.n (omega arith)) (omega arith) l.out l.j c.place_of-v.result l.invariant (omega arith)
    (c.place_of-v.ensures ∙ ap (place_of a.signs.now) (sym (get_or-drop a.from s l.j 0))
    ∙ sym (map_at (place_of a.signs.now) (drop a.from s) l.j (omega (arith, length-drop a.from s))))

pub returns : goal.returns
returns c =
    let a = c.args in
    let l = c.loop-j in
    let f = place_of a.signs.now in
    laying_done (places a.signs.now a.text.now a.from) a.n a.to a.out.now (enough a.signs.now a.text.now a.from a.n (omega arith)) (omega arith) l.out l.j l.invariant c.loop-j-test.false
    ∙ ap (λ (xs : List ℕ). laid a.to xs a.out.now) (map_take f a.n (drop a.from a.text.now))
