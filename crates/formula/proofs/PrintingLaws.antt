-- Printing permits one answer for each input, and a list that an accepted formula has prints as its text.
use Prim.Native.Nat.{ℕ, ◌+◌, ◌-◌, ◌*◌, ◌≤◌}
use mathlib.Core.Path.{◌≡◌, refl, ap, sym, ◌∙◌}
use mathlib.Core.List.{List}
use native.Mathlib.Omega.{arith}
use lib.ListN.{length}
use lib.Seq.{take_all}
use Rattle.lists.specs.Rows.{fill}
use Rattle.values.specs.Limits.{most_formula}
use Rattle.formula.specs.Tree.{Formula, size}
use Rattle.formula.specs.Text.{text_of}
use Rattle.formula.specs.Nodes.{nodes_of}
use Rattle.formula.specs.Answers.{Outcome, formula, Accepted, PartAt, Yields, YieldsPart, Prints, tight, unyielded, prints, printed_of, space_after, FormulaPrinted}
use Rattle.std.specs.Prelude.{Result, Ok}
use Rattle.values.specs.declared.refusal.Refusal.{Refusal}
use Rattle.formula.proofs.Sizes.{size_some, nodes_length}
use Rattle.formula.proofs.OneTree.{part_one}

-- a formula's own list ends with its last node
pub whole_part : (nodes : List ℕ) (k : ℕ) (f : Formula) → k + 1 ≡ size f → nodes ≡ nodes_of f → PartAt nodes k 0 f
whole_part nodes k f e same =
    let long : length nodes ≡ 3 * size f = ap length same ∙ nodes_length 0 f in
    record {
      there = omega arith;
      whole = omega arith;
      listed = take_all (3 * (k + 1)) nodes (omega arith) ∙ same;
    }

outcome_one : {IsOf : Formula → Type 0} {room : ℕ} {o o' : Outcome} → ((f g : Formula) → IsOf f → IsOf g → f ≡ g)
    → Prints IsOf room o → Prints IsOf room o' → o ≡ o'
outcome_one one (tight h e) (tight h' e') = e ∙ sym e'
outcome_one one (tight h e) (unyielded h' none e') = absurd (omega arith)
outcome_one one (tight h e) (prints h' f y e') = absurd (omega arith)
outcome_one one (unyielded h none e) (tight h' e') = absurd (omega arith)
outcome_one one (unyielded h none e) (unyielded h' none' e') = e ∙ sym e'
outcome_one one (unyielded h none e) (prints h' f y e') = absurd (none f y)
outcome_one one (prints h f y e) (tight h' e') = absurd (omega arith)
outcome_one one (prints h f y e) (unyielded h' none e') = absurd (none f y)
outcome_one one (prints h f y e) (prints h' g z e') = e ∙ ap formula (one f g y z) ∙ sym e'

-- any two permitted answers coincide, and what they leave in the space
pub one_printed : (IsOf : Formula → Type 0) → ((f g : Formula) → IsOf f → IsOf g → f ≡ g) → {before after after' : List ℕ} {r r' : Result ℕ Refusal}
    → FormulaPrinted IsOf before after r → FormulaPrinted IsOf before after' r' → (r ≡ r') × (after ≡ after')
one_printed IsOf one {before} p q =
    let e : p.outcome ≡ q.outcome = outcome_one one p.comes q.comes in
    (p.answer ∙ ap printed_of e ∙ sym q.answer, p.space ∙ ap (λ (o : Outcome). space_after text_of o before) e ∙ sym q.space)

pub yields_one : (nodes : List ℕ) (f g : Formula) → Yields nodes f → Yields nodes g → f ≡ g
yields_one nodes f g y z =
    let same : 3 * size f ≡ 3 * size g = sym (ap length y.1 ∙ nodes_length 0 f) ∙ ap length z.1 ∙ nodes_length 0 g in
    let some = size_some f in
    (part_one (whole_part nodes (size f - 1) f (omega arith) y.1) (whole_part nodes (size f - 1) g (omega arith) z.1)).0

pub yields_part_one : (nodes : List ℕ) (k : ℕ) (f g : Formula) → YieldsPart nodes k f → YieldsPart nodes k g → f ≡ g
yields_part_one nodes k f g y z = (part_one y.2.1 z.2.1).0

pub formula_printed_one : (nodes : List ℕ) {before after after' : List ℕ} {r r' : Result ℕ Refusal}
    → FormulaPrinted (Yields nodes) before after r → FormulaPrinted (Yields nodes) before after' r' → (r ≡ r') × (after ≡ after')
formula_printed_one nodes = one_printed (Yields nodes) (yields_one nodes)

pub part_printed_one : (nodes : List ℕ) (k : ℕ) {before after after' : List ℕ} {r r' : Result ℕ Refusal}
    → FormulaPrinted (YieldsPart nodes k) before after r → FormulaPrinted (YieldsPart nodes k) before after' r' → (r ≡ r') × (after ≡ after')
part_printed_one nodes k = one_printed (YieldsPart nodes k) (yields_part_one nodes k)

-- printing an accepted formula's list gives back its text
pub prints_back : {f : Formula} {before after : List ℕ} {r : Result ℕ Refusal} → Accepted f → most_formula ≤ length before
    → FormulaPrinted (Yields (nodes_of f)) before after r → (r ≡ Ok (length (text_of f))) × (after ≡ fill (text_of f) before)
prints_back {f} {before} a h p =
    let due : FormulaPrinted (Yields (nodes_of f)) before (fill (text_of f) before) (Ok (length (text_of f))) = record {
      outcome = formula f;
      comes = prints h f (a, refl) refl;
      answer = refl;
      space = refl;
    } in
    formula_printed_one (nodes_of f) p due
