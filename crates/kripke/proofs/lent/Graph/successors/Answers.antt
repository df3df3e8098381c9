-- `successors` meets its contract: the beginnings cut the part of the list that holds them.
use Rattle.std.proofs.Common.{◌≡◌, ◌<◌, ℕ, zero, suc, ◌+◌, ◌-◌, ◌*◌, ◌≤◌, List, [], ◌∷◌, take, drop, refl, sym, ap, ◌∙◌}
use native.Mathlib.Omega.{arith}
use Rattle.std.proofs.lemmas.Bool.{ne_eqb}
use lib.Seq.{drop-cons}
use mathlib.Core.Bool.{Bool, cond}
use Rattle.lists.specs.Entries.{All, at}
use Rattle.kripke.specs.Answers.{targets}
use Rattle.kripke.specs.Transitions.{count, ends, succs}
use Rattle.kripke.proofs.lent.Graph.successors.Goals as goal

-- of so many transitions from place k on
cut : (es : List ℕ) (k n : ℕ) → k + n ≤ count es → targets (take (2 * n) (drop (2 * k) es)) ≡ ends es k n
unfolding ends
cut es k zero h = refl
cut es k (suc n) h =
    let two : 2 * suc n ≡ suc (suc (2 * n)) = omega arith in
    let one : suc (suc (2 * k)) ≡ 2 * suc k = omega arith in
    let odd : suc (2 * k) ≡ 2 * k + 1 = omega arith in
    rw (two, drop-cons es (2 * k) 0 (omega arith), drop-cons es (suc (2 * k)) 0 (omega arith), one) (ap (λ (r : List ℕ). at es (suc (2 * k)) ∷ r) (cut es (suc k) n (omega arith)) ∙ ap (λ (j : ℕ). at es j ∷ ends es (suc k) n) odd)

-- no transition begins at a number that is no state
none : (S s : ℕ) (es : List ℕ) → All (λ (t : ℕ). t < S) es → S ≤ s → succs es s ≡ []
unfolding succs
none S s [] a h = refl
none S s (f ∷ []) a h = refl
none S s (f ∷ t ∷ es) a h = ap (λ (b : Bool). cond b (t ∷ succs es s) (succs es s)) (ne_eqb f s (λ (q : f ≡ s). omega (arith, a.0, h, q))) ∙ none S s es a.1.1 h

pub returns-then-self-s : goal.returns-then-self-s
returns-then-self-s c = let g = c.args.self.now in sym (none _ _ _ g.ready.accepted.graph.ends c.if-self-s.true)

pub returns : goal.returns
returns c =
    let g = c.args.self.now in
    let b = g.ready.begun in
    let s = c.args.s in
    let here : s < g.states = omega arith in
    let x : ℕ = at g.begins.now s in
    let y : ℕ = at g.begins.now (s + 1) in
    let rises : x < y = b.rises s here in
    let within : y ≤ count g.transitions.now = b.within (s + 1) (omega arith) in
    let n : 2 * y - 2 * x ≡ 2 * (y - x) = omega arith in
    ap (λ (m : ℕ). targets (take m (drop (2 * x) g.transitions.now))) n ∙ cut g.transitions.now x (y - x) (omega arith) ∙ sym (b.lists s here)
