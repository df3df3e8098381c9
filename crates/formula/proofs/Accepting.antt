-- From the formula that ends at a node to the promises of printing.
use Prim.Native.Nat.{ℕ, zero, suc, ◌+◌, ◌*◌, ◌<◌, ◌≤◌, ◌%◌}
use mathlib.Core.Path.{◌≡◌, refl, ap, sym, ◌∙◌, subst}
use mathlib.Core.List.{List}
use mathlib.Core.Bool.{false, true≢false}
use lib.Dec.{eqb}
use native.Mathlib.Omega.{arith}
use lib.ListN.{length}
use lib.Seq.{take_all}
use Rattle.lists.proofs.Placed.{put_front}
use Rattle.values.specs.Limits.{most_formula}
use Rattle.formula.specs.Tree.{Formula, size}
use Rattle.formula.specs.Text.{text_of}
use Rattle.formula.specs.Answers.{formula, refusal, Accepted, PartAt, Yields, YieldsPart, tight, unyielded, prints, FormulaPrinted}
use Rattle.std.specs.Prelude.{Ok, Err}
use Rattle.values.specs.declared.refusal.Refusal.TheVariants.{FormulaForm, TableSpace}
use Rattle.formula.specs.InsidePrinting.{Ended, NoneEnded, PartAccepted, Written}
use Rattle.formula.proofs.Sizes.{size_some, nodes_length}
use Rattle.formula.proofs.Standing.{stands_whole, part_stands, stands_part}
use Rattle.formula.proofs.OneTree.{stands_one, part_one}
use Rattle.formula.proofs.PrintingLaws.{whole_part}

-- ---- `accepted_part`

pub found_none : {nodes : List ℕ} {k : ℕ} → NoneEnded nodes k → (f : Formula) → YieldsPart nodes k f → ⊥
found_none {nodes} {k} p f y = p f y.2.0 y.0.named (part_stands nodes f k y.2.0 y.2.1)

pub found_long : {nodes : List ℕ} {k first bytes : ℕ} → Ended nodes k first bytes → most_formula < bytes → (f : Formula) → YieldsPart nodes k f → ⊥
found_long {nodes} {k} {first} x h f y =
    let same : f ≡ x.formula = (stands_one nodes k y.2.0 first f x.formula (part_stands nodes f k y.2.0 y.2.1) x.stands).0 in
    omega (arith, y.0.short, x.long, ap (λ (g : Formula). length (text_of g)) same)

-- ---- the promises

pub refused_tight : {IsOf : Formula → Type 0} {before : List ℕ} → length before < most_formula → FormulaPrinted IsOf before before (Err TableSpace)
refused_tight h = record { outcome = refusal TableSpace; comes = tight h refl; answer = refl; space = refl }

pub refused_none : {IsOf : Formula → Type 0} {before : List ℕ} → most_formula ≤ length before → ((f : Formula) → IsOf f → ⊥) → FormulaPrinted IsOf before before (Err FormulaForm)
refused_none h none = record { outcome = refusal FormulaForm; comes = unyielded h none refl; answer = refl; space = refl }

module _ {nodes : List ℕ} {k first bytes : ℕ} (p : PartAccepted nodes k first bytes) where
  accepted : Accepted p.found.formula
  accepted =
      let whole = stands_whole nodes p.found.formula k first p.found.stands in
      record {
        named = p.found.named;
        short = omega (arith, p.found.long, p.short);
        few = omega (arith, whole, p.inside.there, p.inside.few);
      }

  part : PartAt nodes k first p.found.formula
  part = stands_part nodes p.found.formula k first p.inside.there p.found.stands

  prints_it : {IsOf : Formula → Type 0} {before after : List ℕ} {end : ℕ} → IsOf p.found.formula → most_formula ≤ length before → Written nodes k before after 0 end
      → FormulaPrinted IsOf before after (Ok end)
  prints_it y h w =
      let put = w.puts p.found.formula first p.found.stands in
      record {
        outcome = formula p.found.formula;
        comes = prints h p.found.formula y refl;
        answer = ap Ok (omega (arith, put.ends));
        space = put_front put;
      }

  pub part_printed : {before after : List ℕ} {end : ℕ} → most_formula ≤ length before → Written nodes k before after 0 end → FormulaPrinted (YieldsPart nodes k) before after (Ok end)
  part_printed = prints_it (accepted, p.inside.few, (first, part))

  pub formula_printed : {before after : List ℕ} {end : ℕ} → 3 * (k + 1) ≡ length nodes → first ≡ 0 → most_formula ≤ length before → Written nodes k before after 0 end
      → FormulaPrinted (Yields nodes) before after (Ok end)
  formula_printed long e =
      let from_first : PartAt nodes k 0 p.found.formula = subst (λ (x : ℕ). PartAt nodes k x p.found.formula) e part in
      prints_it (accepted, sym (take_all (3 * (k + 1)) nodes (omega arith)) ∙ from_first.listed)

  -- a formula's own list begins with its first node
  pub begun_later : (first ≡ 0 → ⊥) → 3 * (k + 1) ≡ length nodes → (f : Formula) → Yields nodes f → ⊥
  begun_later h long f y =
      let whole : length nodes ≡ 3 * size f = ap length y.1 ∙ nodes_length 0 f in
      h (part_one part (whole_part nodes k f (omega arith) y.1)).1

pub whole_none : {nodes : List ℕ} {k : ℕ} → 3 * (k + 1) ≡ length nodes → ((f : Formula) → YieldsPart nodes k f → ⊥) → (f : Formula) → Yields nodes f → ⊥
whole_none {nodes} {k} long none f y =
    let whole : length nodes ≡ 3 * size f = ap length y.1 ∙ nodes_length 0 f in
    none f (y.0, omega (arith, y.0.few), (0, whole_part nodes k f (omega arith) y.1))

-- the length of a formula's own list is a positive multiple of three
pub empty_none : {nodes : List ℕ} → length nodes ≡ 0 → (f : Formula) → Yields nodes f → ⊥
empty_none {nodes} e f y = omega (arith, e, size_some f, ap length y.1, nodes_length 0 f)

pub odd_none : {nodes : List ℕ} → (length nodes % 3 ≡ 0 → ⊥) → (f : Formula) → Yields nodes f → ⊥
odd_none {nodes} h f y = let whole : length nodes ≡ 3 * size f = ap length y.1 ∙ nodes_length 0 f in h (omega arith)

pub some_left : (n : ℕ) → false ≡ eqb n 0 → 0 < n
some_left zero e = absurd (true≢false (sym e))
some_left (suc n) e = omega arith
