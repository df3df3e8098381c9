-- What each way out of `read_formula` shows, and that the answer is settled.
use Prim.Native.Nat.{ℕ, ◌*◌, ◌<◌, ◌≤◌}
use mathlib.Core.Path.{◌≡◌, refl, ap, sym, ◌∙◌}
use mathlib.Core.List.{List, [], ◌++◌, append-nil}
use native.Mathlib.Omega.{arith}
use lib.ListN.{length, take, drop}
use Rattle.std.proofs.lemmas.List.{nil_from_length}
use lib.Seq.{take_at}
use Rattle.lists.specs.Rows.{fill}
use Rattle.lists.proofs.Placed.{put_front}
use Rattle.values.specs.Limits.{most_formula, most_nodes, most_node_numbers}
use Rattle.std.specs.Prelude.{Ok, Err}
use Rattle.values.specs.declared.refusal.Refusal.TheVariants.{NodeList, FormulaForm, TableSpace}
use Rattle.formula.specs.Tree.{Formula, size}
use Rattle.formula.specs.Text.{text_of}
use Rattle.formula.specs.Nodes.{nodes_of}
use Rattle.formula.specs.Answers.{formula, refusal, Spells, tight, unspelt, many, reads, FormulaRead}
use Rattle.formula.specs.Inside.{Begins, NoneOf, Any, Found}
use Rattle.formula.proofs.Sizes.{nodes_length}

-- a text that spells a formula begins with it, and nothing stands behind
pub spelt_begins : (text : List ℕ) (f : Formula) → Spells text f → Begins text f []
spelt_begins text f s = record { named = s.named; spelt = s.spelt ∙ sym (append-nil (text_of f)); stops = tt }

module _ (text before : List ℕ) where
  pub read_tight : length before < most_node_numbers → FormulaRead text before before (Err TableSpace)
  read_tight h = record { outcome = refusal TableSpace; comes = tight h refl; answer = refl; space = refl }

  module _ (roomy : most_node_numbers ≤ length before) where
    unread : ((f : Formula) → Spells text f → ⊥) → FormulaRead text before before (Err FormulaForm)
    unread h = record { outcome = refusal FormulaForm; comes = unspelt roomy h refl; answer = refl; space = refl }

    pub read_long : most_formula < length text → FormulaRead text before before (Err FormulaForm)
    read_long h = unread (λ f s. omega (arith, s.short, h))

    pub read_none : NoneOf Any text → FormulaRead text before before (Err FormulaForm)
    read_none h = unread (λ f s. h f [] tt (spelt_begins text f s))

    module _ (short : length text ≤ most_formula) (space after rest : List ℕ) (n : ℕ) (found : Found text 0 space after rest n) where
      pub read_rest : (length rest ≡ 0 → ⊥) → FormulaRead text before before (Err FormulaForm)
      read_rest h = unread (λ f s. h (sym (ap length (found.only f [] (spelt_begins text f s)).1)))

      spells : length rest ≡ 0 → Spells text found.tree
      spells h = record {
        named = found.named;
        spelt = found.spelt ∙ ap (λ (x : List ℕ). text_of found.tree ++ x) (nil_from_length rest h) ∙ append-nil (text_of found.tree);
        short = short;
      }

      pub read_many : length rest ≡ 0 → most_nodes < n → FormulaRead text before before (Err NodeList)
      read_many h k = record { outcome = refusal NodeList; comes = many roomy found.tree (spells h) (omega (arith, k, found.count)) refl; answer = refl; space = refl }

      pub read_done : length rest ≡ 0 → n ≤ most_nodes → (now : List ℕ) → now ≡ fill (take (3 * n) after) before → FormulaRead text before now (Ok n)
      read_done h k now e =
          let c : n ≡ size found.tree = omega (arith, found.count) in
          let f : after ≡ fill (nodes_of found.tree) space = put_front (found.put k) in
          let l : length (nodes_of found.tree) ≡ 3 * n = nodes_length 0 found.tree ∙ ap (λ (x : ℕ). 3 * x) (sym c) in
          record {
            outcome = formula found.tree;
            comes = reads roomy found.tree (spells h) (omega (arith, c, k)) refl;
            answer = ap Ok c;
            space = e ∙ ap (λ (x : List ℕ). fill x before) (ap (take (3 * n)) f ∙ take_at (nodes_of found.tree) (drop (length (nodes_of found.tree)) space) (3 * n) l);
          }
