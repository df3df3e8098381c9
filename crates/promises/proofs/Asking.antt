-- Formulas as people write them: each statement from its crate's own law, and the answer's lines from the meaning of the formula's parts.
use mathlib.Core.Path.{◌≡◌, refl, sym, ap, ap₂, subst, ◌∙◌}
use Prim.Native.Nat.{ℕ, suc, ◌*◌, ◌<◌, ◌≤◌, min, max}
use mathlib.Core.List.{List, [], ◌∷◌, ◌++◌, map}
use mathlib.Core.Bool.{true, false}
use mathlib.Core.Logic.{◌⊎◌, inl, inr}
use native.Mathlib.Omega.{arith}
use lib.ListN.{length, take, drop, get_or, length-append}
use lib.Seq.{take_at}
use Rattle.lists.specs.Rows.{fill}
use Rattle.values.specs.Limits.{most_formula}
use Rattle.lists.proofs.Rows.{tab_same}
use Rattle.values.specs.Values.{neg}
use Rattle.kripke.specs.Until.{everywhere, next, opposite, until}
use Rattle.model.specs.Model.{Model}
use Rattle.ctl.specs.Rows.{over_initial}
use Rattle.formula.specs.Tree.{AF, AG, AND, ATOM, AU, AX, EF, EG, EU, EX, Formula, IMPLIES, NOT, OR, TRUE, one, two, size}
use Rattle.formula.specs.Nodes.{nodes_of}
use Rattle.formula.specs.Text.{text_of}
use Rattle.formula.specs.Meaning.{value, value_row}
use Rattle.formula.specs.Answers as formula
use Rattle.formula.proofs.Sizes.{nodes_length}
use Rattle.std.specs.Prelude.{Ok, Err}
use Rattle.values.specs.declared.refusal.Refusal.{Refusal}
use Rattle.values.specs.declared.refusal.Refusal.TheVariants.{NodeList, FormulaForm, TableSpace}
use Rattle.formula.proofs.EachPart.{yields_each}
use Rattle.formula.proofs.OneReading.{one_text}
use Rattle.formula.proofs.PrintingLaws.{prints_back, yields_one, yields_part_one, formula_printed_one, part_printed_one}
use Rattle.formula.proofs.ReadOnce.{accepts_texts, reads_text, one_read, refused_comes}
use Rattle.answer.specs.Lines.{row_line, model_line}
use Rattle.answer.specs.Answers.{Due}
use Rattle.answer.specs.Answers.Due.{line}
use Rattle.sheet.specs.Answers.{with_nodes, ModelJudged}
use Rattle.sheet.specs.Output.{output, whole, line_at}
use Rattle.sheet.specs.Output.Place.{here}
use Rattle.sheet.specs.declared.Sheet.{Sheet}
use Rattle.sheet.proofs.AskedNumbers.{never_asked, atom_missing_lem, atom_lost_lem}
use Rattle.sheet.proofs.Asking.{asked_formula, formula_keeps, formula_judged_one}
use Rattle.sheet.proofs.Meaning.{output_shown, sheet_shown, refusal_shown}
use Rattle.promises.specs.Formulas.{part_rows}
use Rattle.promises.specs.Asking.{AcceptedIsText, TextIsAccepted, OneReadingEach, RefusedBecause, ReadingRefused, PrintedBack, PrintedOnce, PrintingRefused, OneFormulaPrinted, OnePartPrinted, OneFormulaRead, OneFormulaSheet, FormulaSheetRefusal, FormulaSheetNumbers, AtomMissing, AtomLost, EachPartPrints, FormulaSheetMeaning, AskedLines}
use Rattle.promises.proofs.Formulas.{parts_meaning, part_meaning, meaning_of_formula}
use Rattle.promises.proofs.Parts.{parts_count, parts_last}

pub accepted_is_text : AcceptedIsText
accepted_is_text = accepts_texts

pub text_is_accepted : TextIsAccepted
text_is_accepted = reads_text

pub one_reading_each : OneReadingEach
one_reading_each = one_text

because : (text : List ℕ) (room : ℕ) (e : Refusal) (o : formula.Outcome) → o ≡ formula.Outcome.refusal e → formula.Reads text room o → RefusedBecause text room e
because text room e o q (formula.Reads.tight h c) = inl ((let z : e ≡ TableSpace = cc in z), h)
because text room e o q (formula.Reads.unspelt h k c) = inr (inl ((let z : e ≡ FormulaForm = cc in z), h, k))
because text room e o q (formula.Reads.many h f s k c) = inr (inr ((let z : e ≡ NodeList = cc in z), h, (f, s, k)))
because text room e o q (formula.Reads.reads h f s k c) = absurd (let z : ◌≡◌ {A = ℕ} 0 1 = cc in omega arith)

pub reading_refused : ReadingRefused
reading_refused text before after e p =
    let c = refused_comes text before after e p in
    (because text (length before) e (formula.Outcome.refusal e) refl c.0, c.1)

pub printed_back : PrintedBack
printed_back text nodes nodes' n before after r p h q =
    let a = accepts_texts text nodes nodes' n p in
    let f = a.tree in
    let l : length (nodes_of f) ≡ 3 * n = nodes_length 0 f ∙ ap (λ (x : ℕ). 3 * x) (sym a.count) in
    let e : take (3 * n) nodes' ≡ nodes_of f = ap (take (3 * n)) a.filled ∙ take_at (nodes_of f) (drop (length (nodes_of f)) nodes) (3 * n) l in
    let w = prints_back a.accepted h (subst (λ (x : List ℕ). formula.FormulaPrinted (formula.Yields x) before after r) e q) in
    (w.0 ∙ ap (λ (x : List ℕ). Ok (length x)) (sym a.spelt), w.1 ∙ ap (λ (x : List ℕ). fill x before) (sym a.spelt))

printed_of_lem : (IsOf : Formula → Type 0) → ((f g : Formula) → IsOf f → IsOf g → f ≡ g) → (before after : List ℕ) (n : ℕ) (o : formula.Outcome) → formula.Prints IsOf (length before) o
    → Ok n ≡ formula.printed_of o → after ≡ formula.space_after text_of o before → formula.PrintedOf IsOf before after n
printed_of_lem IsOf single before after n o (formula.Prints.tight h e) a s = let q : Ok n ≡ Err TableSpace = a ∙ ap formula.printed_of e in absurd (let z : ◌≡◌ {A = ℕ} 0 1 = cc in omega arith)
printed_of_lem IsOf single before after n o (formula.Prints.unyielded h k e) a s = let q : Ok n ≡ Err FormulaForm = a ∙ ap formula.printed_of e in absurd (let z : ◌≡◌ {A = ℕ} 0 1 = cc in omega arith)
printed_of_lem IsOf single before after n o (formula.Prints.prints h f y e) a s =
    let q : Ok n ≡ Ok (length (text_of f)) = a ∙ ap formula.printed_of e in
    record { tree = f; listed = y; alone = λ g z. single g f z y; count = (let z : n ≡ length (text_of f) = cc in z); filled = s ∙ ap (λ (x : formula.Outcome). formula.space_after text_of x before) e }

pub printed_once : PrintedOnce
printed_once = (
  λ nodes before after n p. printed_of_lem (formula.Yields nodes) (yields_one nodes) before after n p.outcome p.comes p.answer p.space,
  λ nodes k before after n p. printed_of_lem (formula.YieldsPart nodes k) (yields_part_one nodes k) before after n p.outcome p.comes p.answer p.space,
)

unprinted : (IsOf : Formula → Type 0) (before after : List ℕ) (e : Refusal) (o : formula.Outcome) → formula.Prints IsOf (length before) o → Err e ≡ formula.printed_of o → after ≡ formula.space_after text_of o before
    → (((e ≡ TableSpace) × (length before < most_formula)) ⊎ ((e ≡ FormulaForm) × (most_formula ≤ length before) × ((f : Formula) → IsOf f → ⊥))) × (after ≡ before)
unprinted IsOf before after e o (formula.Prints.tight h c) a s = let q : Err e ≡ Err TableSpace = a ∙ ap formula.printed_of c in (inl ((let z : e ≡ TableSpace = cc in z), h), s ∙ ap (λ (x : formula.Outcome). formula.space_after text_of x before) c)
unprinted IsOf before after e o (formula.Prints.unyielded h k c) a s = let q : Err e ≡ Err FormulaForm = a ∙ ap formula.printed_of c in (inr ((let z : e ≡ FormulaForm = cc in z), h, k), s ∙ ap (λ (x : formula.Outcome). formula.space_after text_of x before) c)
unprinted IsOf before after e o (formula.Prints.prints h f y c) a s = let q : Err e ≡ Ok (length (text_of f)) = a ∙ ap formula.printed_of c in absurd (let z : ◌≡◌ {A = ℕ} 0 1 = cc in omega arith)

pub printing_refused : PrintingRefused
printing_refused IsOf before after e p = unprinted IsOf before after e p.outcome p.comes p.answer p.space

pub one_formula_printed : OneFormulaPrinted
one_formula_printed nodes before after after' r r' p q = formula_printed_one nodes p q

pub one_part_printed : OnePartPrinted
one_part_printed nodes k before after after' r r' p q = part_printed_one nodes k p q

pub one_formula_read : OneFormulaRead
one_formula_read text before after after' r r' p q = one_read text before after after' r r' p q

pub one_formula_sheet : OneFormulaSheet
one_formula_sheet text formula before after after' r r' p q = formula_judged_one text formula before after after' r r' p q

pub formula_sheet_refusal : FormulaSheetRefusal
formula_sheet_refusal text formula before after r p h = (formula_keeps text formula before after r p h, refusal_shown r after h)

pub formula_sheet_numbers : FormulaSheetNumbers
formula_sheet_numbers = never_asked

pub atom_missing : AtomMissing
atom_missing = atom_missing_lem

pub atom_lost : AtomLost
atom_lost = atom_lost_lem

-- a formula's meaning doesn't depend on the model's own nodes
row_same : (m : Model) (ns : List ℕ) (f : Formula) → ((s : ℕ) → value (with_nodes m ns) f s ≡ value m f s) → value_row (with_nodes m ns) f ≡ value_row m f
row_same m ns f h = tab_same (value (with_nodes m ns) f) (value m f) m.states (λ s l. h s)

value_same : (m : Model) (ns : List ℕ) (f : Formula) (s : ℕ) → value (with_nodes m ns) f s ≡ value m f s
unfolding value
value_same m ns TRUE s = refl
value_same m ns (ATOM a) s = refl
value_same m ns (one NOT f) s = ap neg (value_same m ns f s)
value_same m ns (one EX f) s = ap (λ (x : List ℕ). next false m.transitions x s) (row_same m ns f (value_same m ns f))
value_same m ns (one AX f) s = ap (λ (x : List ℕ). neg (next false m.transitions (opposite m.states x) s)) (row_same m ns f (value_same m ns f))
value_same m ns (one EF f) s = ap (λ (x : List ℕ). until false m.transitions (everywhere m.states) x m.states s) (row_same m ns f (value_same m ns f))
value_same m ns (one AF f) s = ap (λ (x : List ℕ). until true m.transitions (everywhere m.states) x m.states s) (row_same m ns f (value_same m ns f))
value_same m ns (one EG f) s = ap (λ (x : List ℕ). neg (until true m.transitions (everywhere m.states) (opposite m.states x) m.states s)) (row_same m ns f (value_same m ns f))
value_same m ns (one AG f) s = ap (λ (x : List ℕ). neg (until false m.transitions (everywhere m.states) (opposite m.states x) m.states s)) (row_same m ns f (value_same m ns f))
value_same m ns (two OR f g) s = ap₂ max (value_same m ns f s) (value_same m ns g s)
value_same m ns (two IMPLIES f g) s = ap₂ (λ (x y : ℕ). max (neg x) y) (value_same m ns f s) (value_same m ns g s)
value_same m ns (two AND f g) s = ap₂ min (value_same m ns f s) (value_same m ns g s)
value_same m ns (two EU f g) s = ap₂ (λ (x y : List ℕ). until false m.transitions x y m.states s) (row_same m ns f (value_same m ns f)) (row_same m ns g (value_same m ns g))
value_same m ns (two AU f g) s = ap₂ (λ (x y : List ℕ). until true m.transitions x y m.states s) (row_same m ns f (value_same m ns f)) (row_same m ns g (value_same m ns g))

rows_same : (m : Model) (ns : List ℕ) (f : Formula) → value_row (with_nodes m ns) f ≡ value_row m f
rows_same m ns f = row_same m ns f (value_same m ns f)

parts_same : (m : Model) (ns : List ℕ) (f : Formula) → part_rows (with_nodes m ns) f ≡ part_rows m f
unfolding part_rows
parts_same m ns TRUE = ap (λ (x : List ℕ). x ∷ []) (rows_same m ns TRUE)
parts_same m ns (ATOM a) = ap (λ (x : List ℕ). x ∷ []) (rows_same m ns (ATOM a))
parts_same m ns (one p f) = cc (parts_same m ns f, rows_same m ns (one p f))
parts_same m ns (two q f g) = cc (parts_same m ns f, parts_same m ns g, rows_same m ns (two q f g))

pub each_part_prints : EachPartPrints
each_part_prints m f k a h =
    let n = with_nodes m (nodes_of f) in
    let y = yields_each f k a h in
    let g = y.0 in
    let there = y.1.2 in
    (g, y.1, ap (λ (x : List (List ℕ)). get_or x k []) (sym (parts_meaning n f refl ∙ parts_same m (nodes_of f) f)) ∙ part_meaning n k there.0 g there.1 ∙ rows_same m (nodes_of f) g)

-- the model that is judged where f is asked
asked : (text before after : List ℕ) (r : Sheet) (m : Model) (f : Formula) → ModelJudged (with_nodes m (nodes_of f)) before after r → r.number ≡ 0
    → output r after ≡ whole (part_rows m f) (over_initial m.states m.initial (value_row m f))
asked text before after r m f j z =
    let n = with_nodes m (nodes_of f) in
    output_shown n before after r j z
    ∙ ap₂ whole (parts_meaning n f refl ∙ parts_same m (nodes_of f) f) ((meaning_of_formula n f refl).1 ∙ ap (over_initial m.states m.initial) (rows_same m (nodes_of f) f))

pub formula_sheet_meaning : FormulaSheetMeaning
formula_sheet_meaning text before after r m f e a j z = asked text before after r m f (asked_formula text (text_of f) before after r m f e a refl j) z

-- the lines behind some rows: the last row's, and the model's
line_behind : (rows : List (List ℕ)) (row : List ℕ) (d : Due) → line_at (map (λ (x : List ℕ). line (row_line x)) (rows ++ (row ∷ [])) ++ (d ∷ [])) (length rows) ≡ here (line (row_line row))
unfolding line_at
line_behind [] row d = refl
line_behind (x ∷ rows) row d = line_behind rows row d

line_last : (rows : List (List ℕ)) (d : Due) → line_at (map (λ (x : List ℕ). line (row_line x)) rows ++ (d ∷ [])) (length rows) ≡ here d
unfolding line_at
line_last [] d = refl
line_last (x ∷ rows) d = line_last rows d

pub asked_lines : AskedLines
unfolding whole line_at
asked_lines text before after r m f e a j z =
    let n = with_nodes m (nodes_of f) in
    let p = asked_formula text (text_of f) before after r m f e a refl j in
    let shown = asked text before after r m f p z in
    let rows = part_rows m f in
    let last = parts_last m f in
    let v = over_initial m.states m.initial (value_row m f) in
    let l = nodes_length 0 f in
    let c = parts_count m f in
    let many : r.nodes ≡ size f = ap (λ (x : Sheet). x.nodes) (sheet_shown n before after r p z) ∙ omega (arith, l) in
    let d = ap length last.1 ∙ length-append last.0 (value_row m f ∷ []) in
    let place : r.nodes ≡ suc (length last.0) = omega (arith, many, c, d) in
    let place' : r.nodes ≡ length rows = omega (arith, many, c) in (
      ap (λ (x : List Due). line_at x 0) shown,
      ap₂ line_at shown place ∙ ap (λ (x : List (List ℕ)). line_at (map (λ (y : List ℕ). line (row_line y)) x ++ (line (model_line v) ∷ [])) (length last.0)) last.1 ∙ line_behind last.0 (value_row m f) (line (model_line v)),
      ap₂ line_at shown (ap suc place') ∙ line_last rows (line (model_line v)),
    )
