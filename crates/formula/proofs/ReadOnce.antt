-- Reading is settled: one text spells one formula at most, so any two permitted answers coincide; and which texts are accepted.
use Prim.Native.Nat.{ℕ, ◌≤◌}
use mathlib.Core.Path.{◌≡◌, refl, ap, sym, subst, ◌∙◌}
use mathlib.Core.List.{List}
use native.Mathlib.Omega.{arith}
use lib.ListN.{length}
use Rattle.lists.specs.Rows.{fill}
use Rattle.values.specs.Limits.{most_node_numbers}
use Rattle.std.specs.Prelude.{Result, Ok, Err}
use Rattle.values.specs.declared.refusal.Refusal.{Refusal}
use Rattle.values.specs.declared.refusal.Refusal.TheVariants.{NodeList, FormulaForm, TableSpace}
use Rattle.formula.specs.Tree.{Formula, size}
use Rattle.formula.specs.Text.{text_of}
use Rattle.formula.specs.Nodes.{nodes_of}
use Rattle.formula.specs.Answers.{Outcome, formula, refusal, Spells, Reads, tight, unspelt, many, reads, read_of, space_after, FormulaRead, Accepted, ReadAs}
use Rattle.formula.proofs.OneReading.{one_text}

pub spells_once : (text : List ℕ) (f g : Formula) → Spells text f → Spells text g → f ≡ g
spells_once text f g s t = one_text f g s.named t.named (sym s.spelt ∙ t.spelt)

pub outcome_once : (text : List ℕ) (room : ℕ) (o o' : Outcome) → Reads text room o → Reads text room o' → o ≡ o'
outcome_once text room o o' (tight h e) (tight h' e') = e ∙ sym e'
outcome_once text room o o' (tight h e) (unspelt h' n e') = absurd (omega (arith, h, h'))
outcome_once text room o o' (tight h e) (many h' g t l e') = absurd (omega (arith, h, h'))
outcome_once text room o o' (tight h e) (reads h' g t l e') = absurd (omega (arith, h, h'))
outcome_once text room o o' (unspelt h n e) (tight h' e') = absurd (omega (arith, h, h'))
outcome_once text room o o' (unspelt h n e) (unspelt h' n' e') = e ∙ sym e'
outcome_once text room o o' (unspelt h n e) (many h' g t l e') = absurd (n g t)
outcome_once text room o o' (unspelt h n e) (reads h' g t l e') = absurd (n g t)
outcome_once text room o o' (many h f s k e) (tight h' e') = absurd (omega (arith, h, h'))
outcome_once text room o o' (many h f s k e) (unspelt h' n' e') = absurd (n' f s)
outcome_once text room o o' (many h f s k e) (many h' g t l e') = e ∙ sym e'
outcome_once text room o o' (many h f s k e) (reads h' g t l e') = absurd (let z = ap size (spells_once text f g s t) in omega (arith, k, l, z))
outcome_once text room o o' (reads h f s k e) (tight h' e') = absurd (omega (arith, h, h'))
outcome_once text room o o' (reads h f s k e) (unspelt h' n' e') = absurd (n' f s)
outcome_once text room o o' (reads h f s k e) (many h' g t l e') = absurd (let z = ap size (spells_once text f g s t) in omega (arith, k, l, z))
outcome_once text room o o' (reads h f s k e) (reads h' g t l e') = e ∙ ap formula (spells_once text f g s t) ∙ sym e'

pub one_read : (text before after after' : List ℕ) (r r' : Result ℕ Refusal) → FormulaRead text before after r → FormulaRead text before after' r' → (r ≡ r') × (after ≡ after')
one_read text before after after' r r' p q =
    let o = outcome_once text (length before) p.outcome q.outcome p.comes q.comes in (
      p.answer ∙ ap read_of o ∙ sym q.answer,
      p.space ∙ ap (λ (x : Outcome). space_after nodes_of x before) o ∙ sym q.space,
    )

-- the text of an accepted formula is read as its node list
pub reads_text : (f : Formula) (before after : List ℕ) (r : Result ℕ Refusal) → Accepted f → most_node_numbers ≤ length before → FormulaRead (text_of f) before after r
    → (r ≡ Ok (size f)) × (after ≡ fill (nodes_of f) before)
reads_text f before after r a h p =
    let s : Spells (text_of f) f = record { named = a.named; spelt = refl; short = a.short } in
    let o = outcome_once (text_of f) (length before) p.outcome (formula f) p.comes (reads h f s a.few refl) in
    (p.answer ∙ ap read_of o, p.space ∙ ap (λ (x : Outcome). space_after nodes_of x before) o)

-- and what is read is the text of an accepted formula
read_as : (text before after : List ℕ) (n : ℕ) (o : Outcome) → Reads text (length before) o → Ok n ≡ read_of o → after ≡ space_after nodes_of o before → ReadAs text before after n
read_as text before after n o (tight h e) a s = let q : Ok n ≡ Err TableSpace = a ∙ ap read_of e in absurd (let z : ◌≡◌ {A = ℕ} 0 1 = cc in omega arith)
read_as text before after n o (unspelt h k e) a s = let q : Ok n ≡ Err FormulaForm = a ∙ ap read_of e in absurd (let z : ◌≡◌ {A = ℕ} 0 1 = cc in omega arith)
read_as text before after n o (many h f t k e) a s = let q : Ok n ≡ Err NodeList = a ∙ ap read_of e in absurd (let z : ◌≡◌ {A = ℕ} 0 1 = cc in omega arith)
read_as text before after n o (reads h f t k e) a s =
    let q : Ok n ≡ Ok (size f) = a ∙ ap read_of e in
    record {
      tree = f;
      accepted = record { named = t.named; short = (let l = ap length t.spelt in omega (arith, l, t.short)); few = k };
      spelt = t.spelt;
      count = (let z : n ≡ size f = cc in z);
      filled = s ∙ ap (λ (x : Outcome). space_after nodes_of x before) e;
    }

pub accepts_texts : (text before after : List ℕ) (n : ℕ) → FormulaRead text before after (Ok n) → ReadAs text before after n
accepts_texts text before after n p = read_as text before after n p.outcome p.comes p.answer p.space

-- what reading came to, by its answer
pub reads_as : (text before after : List ℕ) (n room : ℕ) → most_node_numbers ≤ room → (a : ReadAs text before after n) → Reads text room (formula a.tree)
reads_as text before after n room h a =
    reads h a.tree (record { named = a.accepted.named; spelt = a.spelt; short = (let l = ap length a.spelt in omega (arith, l, a.accepted.short)) }) a.accepted.few refl

refused_as : (text before after : List ℕ) (e : Refusal) (o : Outcome) → Reads text (length before) o → Err e ≡ read_of o → after ≡ space_after nodes_of o before → Reads text (length before) (refusal e) × (after ≡ before)
refused_as text before after e (refusal m) c a s = let q : e ≡ m = cc in (subst (λ (x : Refusal). Reads text (length before) (refusal x)) (sym q) c, s)
refused_as text before after e (formula f) c a s = absurd (let z : ◌≡◌ {A = ℕ} 0 1 = cc in omega arith)

pub refused_comes : (text before after : List ℕ) (e : Refusal) → FormulaRead text before after (Err e) → Reads text (length before) (refusal e) × (after ≡ before)
refused_comes text before after e p = refused_as text before after e p.outcome p.comes p.answer p.space
