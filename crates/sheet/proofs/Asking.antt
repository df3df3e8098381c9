-- A formula asked of a model that was read: its nodes fit into their table, what was judged there is the model with them, and `judge_formula`
-- permits one answer.
use Prim.Native.Nat.{ℕ, ◌*◌}
use mathlib.Core.Path.{◌≡◌, refl, ap, sym, subst, ◌∙◌}
use mathlib.Core.List.{List}
use native.Mathlib.Omega.{arith}
use lib.ListN.{length, take}
use Rattle.values.specs.Limits.{most_node_numbers}
use Rattle.model.specs.Model.{Model}
use Rattle.formula.specs.Tree.{Formula}
use Rattle.formula.specs.Text.{text_of}
use Rattle.formula.specs.Nodes.{nodes_of}
use Rattle.formula.specs.Answers as formula
use Rattle.formula.proofs.Sizes.{nodes_length}
use Rattle.formula.proofs.ReadOnce.{accepts_texts, reads_as, outcome_once}
use Rattle.text.specs.Answers.{Outcome, text_outcome}
use Rattle.text.specs.Answers.Outcome.{model, refusal}
use Rattle.sheet.specs.declared.Sheet.{Sheet}
use Rattle.std.specs.Prelude.{Ok}
use Rattle.sheet.specs.declared.judging.Held.{Held}
use Rattle.sheet.specs.Inside.{model_of}
use Rattle.sheet.specs.Answers.{ModelJudged, Judges, with_nodes, asked_of, Asked, Asks, FormulaJudged}
use Rattle.sheet.proofs.Meaning.{refused_keeps}
use Rattle.sheet.proofs.Fronts.{found_there, judges_one}

-- what is held with the nodes of a formula in the table of nodes
abbrev pub with_formula : Held → List ℕ → ℕ → Held
with_formula h nodes n =
    record {
      counts = record { states = h.counts.states; atoms = h.counts.atoms; transitions = h.counts.transitions; nodes = n };
      labels = h.labels;
      initial = h.initial;
      transitions = h.transitions;
      nodes = nodes;
    }

module _ (h : Held) (text nodes' : List ℕ) (n : ℕ) (p : formula.FormulaRead text h.nodes nodes' (Ok n)) where
  as_read : formula.ReadAs text h.nodes nodes' n
  as_read = accepts_texts text h.nodes nodes' n p

  many : length (nodes_of as_read.tree) ≡ 3 * n
  many = nodes_length 0 as_read.tree ∙ ap (λ (x : ℕ). 3 * x) (sym as_read.count)

  -- what was judged is the model with the formula's nodes
  pub asked_nodes : (before after : List ℕ) (r : Sheet) → ModelJudged (model_of (with_formula h nodes' n)) before after r → Asked (model_of h) text before after r
  asked_nodes before after r j =
      let f = as_read.tree in
      let there : take (3 * n) nodes' ≡ nodes_of f = found_there (nodes_of f) h.nodes nodes' (3 * n) many as_read.filled in
      record {
        read = formula.Outcome.formula f;
        comes = reads_as text h.nodes nodes' n most_node_numbers (omega arith) as_read;
        judged = subst (λ (ns : List ℕ). ModelJudged (with_nodes (model_of h) ns) before after r) there j;
      }

-- any two permitted answers coincide, the verdict space too
asks_one : (o : Outcome) (text before after after' : List ℕ) (r r' : Sheet) → Asks o text before after r → Asks o text before after' r' → (r ≡ r') × (after ≡ after')
asks_one (model m) text before after after' r r' p q =
    let e = outcome_once text most_node_numbers p.read q.read p.comes q.comes in
    judges_one (asked_of m q.read) before after after' r r' (subst (λ (x : formula.Outcome). Judges (asked_of m x) before after r) e p.judged) q.judged
asks_one (refusal n) text before after after' r r' p q = (p.0 ∙ sym q.0, p.1 ∙ sym q.1)

pub formula_judged_one : (text formula before after after' : List ℕ) (r r' : Sheet) → FormulaJudged text formula before after r → FormulaJudged text formula before after' r' → (r ≡ r') × (after ≡ after')
formula_judged_one text = asks_one (text_outcome text)

-- the text of an accepted formula, asked of a model that was read, is the model with its nodes judged
pub asked_formula : (text asked before after : List ℕ) (r : Sheet) (m : Model) (f : Formula) → text_outcome text ≡ model m → formula.Accepted f → asked ≡ text_of f
    → FormulaJudged text asked before after r → ModelJudged (with_nodes m (nodes_of f)) before after r
asked_formula text asked before after r m f e a t j =
    let q : Asked m asked before after r = subst (λ (o : Outcome). Asks o asked before after r) e j in
    let s : formula.Spells asked f = record { named = a.named; spelt = t; short = (let l = ap length t in omega (arith, l, a.short)) } in
    let o = outcome_once asked most_node_numbers q.read (formula.Outcome.formula f) q.comes (formula.Reads.reads (omega arith) f s a.few refl) in
    subst (λ (x : formula.Outcome). Judges (asked_of m x) before after r) o q.judged

-- a refusal, of whatever, leaves the verdict space
asks_keep : (o : Outcome) (formula before after : List ℕ) (r : Sheet) → Asks o formula before after r → (r.number ≡ 0 → ⊥) → after ≡ before
asks_keep (model m) formula before after r p h = refused_keeps (asked_of m p.read) before after r p.judged h
asks_keep (refusal n) formula before after r p h = p.1

pub formula_keeps : (text formula before after : List ℕ) (r : Sheet) → FormulaJudged text formula before after r → (r.number ≡ 0 → ⊥) → after ≡ before
formula_keeps text = asks_keep (text_outcome text)
