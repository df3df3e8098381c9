-- Numbers that a formula is never refused with in a space for the largest model, 12 only where it names an atom that the model hasn't, and 22
-- only where it has lost one that the model has.
use mathlib.Core.Path.{◌≡◌, refl, sym, ap, ◌∙◌, subst}
use Prim.Native.Nat.{ℕ, ◌≤◌, ◌<◌}
use mathlib.Core.List.{List}
use mathlib.Core.Bool.{Bool, true, false, not, ◌||◌, true≢false}
use mathlib.Core.Logic.{inl, inr}
use native.Mathlib.Omega.{arith}
use lib.ListN.{length}
use lib.Dec.{eqb, ltb}
use borrow.Author.Tests.{le-ltb}
use Rattle.lists.specs.Entries.{any_below}
use Rattle.lists.proofs.Search.{any_same, any_never}
use Rattle.values.specs.Limits.{greatest_kind, most_nodes, most_node_numbers}
use Rattle.values.specs.Rows.{most_verdicts, row_begin}
use Rattle.values.proofs.StoredRows.{space_within}
use Rattle.model.specs.Model.{Model, node_count, kind_at}
use Rattle.model.specs.Refusals.{bad_operand, judge_refusal}
use Rattle.model.proofs.Labels.{fine_tests}
use Rattle.model.proofs.Fine.{judge_fine}
use Rattle.model.proofs.Lowest.{judge_among, refused_unnamed}
use Rattle.model.proofs.Named.{named_nowhere, named_there}
use Rattle.values.specs.Refusal.{number_of}
use Rattle.values.specs.declared.refusal.Refusal.{Refusal}
use Rattle.values.specs.declared.refusal.Refusal.TheVariants.{NodeList, FormulaForm, TableSpace}
use Rattle.formula.specs.Tree.{Formula, size, AtomsBelow, Names}
use Rattle.formula.specs.Text.{text_of}
use Rattle.formula.specs.Nodes.{nodes_of}
use Rattle.formula.specs.Answers as formula
use Rattle.formula.proofs.Sizes.{nodes_length}
use Rattle.formula.proofs.EachPart.{kind_fits, operands_fit}
use Rattle.formula.proofs.NamedAtoms.{named_node, node_named}
use Rattle.form.specs.Print.{Printable}
use Rattle.text.specs.Answers.{Outcome, text_outcome}
use Rattle.text.specs.Answers.Outcome.{model, refusal}
use Rattle.text.proofs.Promised.{outcome_printable}
use Rattle.sheet.specs.declared.Sheet.{Sheet}
use Rattle.sheet.specs.Answers.{Judges, asked_of, Asks, FormulaJudged, with_nodes}
use Rattle.sheet.proofs.Asking.{asked_formula}
use Rattle.sheet.proofs.Meaning.{model_number}
use Rattle.sheet.proofs.Numbers.{labels_fit, text_numbers}

-- neither 3 nor 4 nor 11 nor 13
spared : ℕ → Bool
spared n = not (eqb n 3 || (eqb n 4 || (eqb n 11 || eqb n 13)))

-- not 12
other : ℕ → Bool
other n = not (eqb n 12)

never : (p : ℕ → Bool) (n : ℕ) → ((i : ℕ) → i < n → p i ≡ false) → any_below p n ≡ false
never p n h = any_same p (λ (i : ℕ). false) n h ∙ any_never n

module _ (m : Model) (f : Formula) (room : ℕ) where
  abbrev asked : Model
  asked = with_nodes m (nodes_of f)

  count : node_count (nodes_of f) ≡ size f
  count = let l = nodes_length 0 f in omega (arith, l)

  judged_spared : Printable m → formula.Accepted f → most_verdicts ≤ room → spared (judge_refusal asked room) ≡ true
  unfolding spared
  judged_spared g a h =
      let fit = labels_fit m g in
      let tests = fine_tests asked (record { size = fit.size; small = fit.small }) in
      let few : node_count (nodes_of f) ≤ most_nodes = omega (arith, count, a.few) in
      let fits = le-ltb room (row_begin m.states (node_count (nodes_of f))) (omega (arith, space_within m.states (node_count (nodes_of f)) g.states.most few)) in
      let known = never (λ (i : ℕ). ltb greatest_kind (kind_at (nodes_of f) i)) (node_count (nodes_of f)) (λ i l. kind_fits f i (omega (arith, count, l))) in
      judge_among spared refl asked room (inl refl, (inl refl, (inr tests.0, (inr tests.1, (inl refl, (inl refl, (inl refl, (inl refl, (inl refl, (inl refl, (inr known, (inl refl, (inr fits, (inl refl, tt))))))))))))))

  judged_other : AtomsBelow m.atoms f → other (judge_refusal asked room) ≡ true
  unfolding other
  judged_other b =
      let fit = never (bad_operand m.atoms (nodes_of f)) (node_count (nodes_of f)) (λ i l. operands_fit f m.atoms i b (omega (arith, count, l))) in
      judge_among other refl asked room (inl refl, (inl refl, (inl refl, (inl refl, (inl refl, (inl refl, (inl refl, (inl refl, (inl refl, (inl refl, (inl refl, (inr fit, (inl refl, (inl refl, tt))))))))))))))

  -- not refused, it names every atom of the model; and with 22 only where it has lost one
  judged_names : judge_refusal asked room ≡ 0 → (a : ℕ) → a < m.atoms → Names f a
  judged_names z a h =
      let found = named_there (nodes_of f) a ((judge_fine asked room z).named a h) in
      node_named f a found.0 (omega (arith, count, found.1)) found.2 found.3

  judged_lost : judge_refusal asked room ≡ 22 → (a : ℕ) × (a < m.atoms) × (Names f a → ⊥)
  judged_lost e =
      let lost = refused_unnamed asked room e in
      (lost.0, lost.1, λ n. let found = named_node f lost.0 n in named_nowhere (nodes_of f) lost.0 lost.2 found.0 (omega (arith, count, found.1)) found.2 found.3)

-- what reading a formula comes to: an accepted one, or a number of its own
accepted : (text : List ℕ) (room : ℕ) (f : Formula) (o : formula.Outcome) → o ≡ formula.Outcome.formula f → formula.Reads text room o → formula.Accepted f
accepted text room f o e (formula.Reads.tight h c) = absurd (let z : ◌≡◌ {A = ℕ} 0 1 = cc in omega arith)
accepted text room f o e (formula.Reads.unspelt h n c) = absurd (let z : ◌≡◌ {A = ℕ} 0 1 = cc in omega arith)
accepted text room f o e (formula.Reads.many h g s k c) = absurd (let z : ◌≡◌ {A = ℕ} 0 1 = cc in omega arith)
accepted text room f o e (formula.Reads.reads h g s k c) =
    let q : g ≡ f = cc in
    let l = ap length s.spelt in
    subst formula.Accepted q (record { named = s.named; short = omega (arith, l, s.short); few = k })

numbered : (text : List ℕ) (room : ℕ) (x : Refusal) (o : formula.Outcome) → o ≡ formula.Outcome.refusal x → formula.Reads text room o → spared (number_of x) ≡ true
unfolding spared
numbered text room x o e (formula.Reads.tight h c) = let q : x ≡ TableSpace = cc in ap (λ (y : Refusal). spared (number_of y)) q
numbered text room x o e (formula.Reads.unspelt h k c) = let q : x ≡ FormulaForm = cc in ap (λ (y : Refusal). spared (number_of y)) q
numbered text room x o e (formula.Reads.many h g s k c) = let q : x ≡ NodeList = cc in ap (λ (y : Refusal). spared (number_of y)) q
numbered text room x o e (formula.Reads.reads h g s k c) = absurd (let z : ◌≡◌ {A = ℕ} 0 1 = cc in omega arith)

by_read : (m : Model) (text : List ℕ) (o : formula.Outcome) → Printable m → formula.Reads text most_node_numbers o → (before after : List ℕ) (r : Sheet) → most_verdicts ≤ length before
    → Judges (asked_of m o) before after r → spared r.number ≡ true
by_read m text (formula.Outcome.formula f) g c before after r h p = ap spared (model_number (with_nodes m (nodes_of f)) before after r p) ∙ judged_spared m f (length before) g (accepted text most_node_numbers f (formula.Outcome.formula f) refl c) h
by_read m text (formula.Outcome.refusal x) g c before after r h p = ap (λ (y : Sheet). spared y.number) p.0 ∙ numbered text most_node_numbers x (formula.Outcome.refusal x) refl c

by_text : (text formula : List ℕ) (o : Outcome) → text_outcome text ≡ o → (before after : List ℕ) (r : Sheet) → most_verdicts ≤ length before → Asks o formula before after r → spared r.number ≡ true
unfolding spared
by_text text formula (model m) e before after r h p = by_read m formula p.read (outcome_printable text m e) p.comes before after r h p.judged
by_text text formula (refusal n) e before after r h p = ap (λ (x : Sheet). spared x.number) p.0 ∙ text_numbers (λ (x : ℕ). spared x ≡ true) refl refl refl refl refl refl text n e

pub never_asked : (text formula before after : List ℕ) (r : Sheet) → most_verdicts ≤ length before → FormulaJudged text formula before after r
    → (r.number ≡ 3 → ⊥) × (r.number ≡ 4 → ⊥) × (r.number ≡ 11 → ⊥) × (r.number ≡ 13 → ⊥)
unfolding spared
never_asked text formula before after r h p =
    let s = by_text text formula (text_outcome text) refl before after r h p in
    (λ e. true≢false (sym s ∙ ap spared e), λ e. true≢false (sym s ∙ ap spared e), λ e. true≢false (sym s ∙ ap spared e), λ e. true≢false (sym s ∙ ap spared e))

pub atom_missing_lem : (text before after : List ℕ) (r : Sheet) (m : Model) (f : Formula) → text_outcome text ≡ model m → formula.Accepted f → FormulaJudged text (text_of f) before after r → r.number ≡ 12 → AtomsBelow m.atoms f → ⊥
unfolding other
atom_missing_lem text before after r m f e a p n b =
    let j = asked_formula text (text_of f) before after r m f e a refl p in
    true≢false (sym (judged_other m f (length before) b) ∙ ap other (sym (model_number (with_nodes m (nodes_of f)) before after r j) ∙ n))

pub atom_lost_lem : (text before after : List ℕ) (r : Sheet) (m : Model) (f : Formula) → text_outcome text ≡ model m → formula.Accepted f → FormulaJudged text (text_of f) before after r
    → (r.number ≡ 22 → (a : ℕ) × (a < m.atoms) × (Names f a → ⊥)) × (r.number ≡ 0 → (a : ℕ) → a < m.atoms → Names f a)
atom_lost_lem text before after r m f e a p =
    let j = asked_formula text (text_of f) before after r m f e a refl p in
    let number = model_number (with_nodes m (nodes_of f)) before after r j in
    (λ n. judged_lost m f (length before) (sym number ∙ n), λ n. judged_names m f (length before) (sym number ∙ n))
