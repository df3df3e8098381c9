-- Formulas as people write them: which texts are accepted and as what, and what an asked formula is answered.
use Rattle.std.specs.Prelude.{◌≡◌, ℕ, suc, ◌*◌, ◌<◌, ◌≤◌, List, [], ◌∷◌, ◌⊎◌, Result, Ok, Err, length, take, get_or}
use Rattle.lists.specs.Rows.{fill}
use Rattle.values.specs.Limits.{most_formula, most_nodes, most_node_numbers}
use Rattle.values.specs.Rows.{most_verdicts}
use Rattle.model.specs.Model.{Model}
use Rattle.ctl.specs.Rows.{over_initial}
use Rattle.formula.specs.Tree.{Formula, size, AtomsBelow, Named, Names}
use Rattle.formula.specs.Text.{text_of}
use Rattle.formula.specs.Nodes.{nodes_of}
use Rattle.formula.specs.Meaning.{value_row}
use Rattle.formula.specs.Answers.{Spells, Accepted, FormulaRead, ReadAs, Yields, YieldsPart, FormulaPrinted, PrintedOf}
use Rattle.values.specs.declared.refusal.Refusal.{Refusal}
use Rattle.values.specs.declared.refusal.Refusal.TheVariants.{NodeList, FormulaForm, TableSpace}
use Rattle.text.specs.Answers.{Outcome, text_outcome}
use Rattle.answer.specs.Lines.{answer_line, row_line, model_line}
use Rattle.answer.specs.Answers.Due.{line}
use Rattle.sheet.specs.Answers.{FormulaJudged}
use Rattle.sheet.specs.Output.{output, whole, line_at}
use Rattle.sheet.specs.Output.Place.{here}
use Rattle.sheet.specs.declared.Sheet.{Sheet}
use Rattle.promises.specs.One.{One}
use Rattle.promises.specs.Formulas.{part_rows}
use Rattle.promises.specs.Nights.{bytes_of, joined, input}

-- "The accepted texts are exactly the grammar's within those two limits": what is accepted is the text of a formula within them, with its size
-- in the answer and its nodes in the front of the space;
abbrev pub AcceptedIsText : Type 0
AcceptedIsText = (text before after : List ℕ) (n : ℕ) → FormulaRead text before after (Ok n) → ReadAs text before after n

-- and the text of each formula within them is accepted, as that.
abbrev pub TextIsAccepted : Type 0
TextIsAccepted =
    (f : Formula) (before after : List ℕ) (r : Result ℕ Refusal) → Accepted f → most_node_numbers ≤ length before → FormulaRead (text_of f) before after r
    → (r ≡ Ok (size f)) × (after ≡ fill (nodes_of f) before)

-- "With one reading each": two formulas with the same text are one.
abbrev pub OneReadingEach : Type 0
OneReadingEach = (f g : Formula) → Named f → Named g → text_of f ≡ text_of g → f ≡ g

-- why a text is refused: the short space comes first, then the form, and the count of nodes after the form
abbrev pub RefusedBecause : List ℕ → ℕ → Refusal → Type 0
RefusedBecause text room e =
    ((e ≡ TableSpace) × (room < most_node_numbers))
    ⊎ ((e ≡ FormulaForm) × (most_node_numbers ≤ room) × ((f : Formula) → Spells text f → ⊥))
    ⊎ ((e ≡ NodeList) × (most_node_numbers ≤ room) × ((f : Formula) × Spells text f × (most_nodes < size f)))

-- A refusal of reading has its cause, and leaves the node space.
abbrev pub ReadingRefused : Type 0
ReadingRefused = (text before after : List ℕ) (e : Refusal) → FormulaRead text before after (Err e) → RefusedBecause text (length before) e × (after ≡ before)

-- "Printing a list so made gives back the text": of whatever reading accepted, the list that it left prints as the text that was read.
abbrev pub PrintedBack : Type 0
PrintedBack =
    (text nodes nodes' : List ℕ) (n : ℕ) (before after : List ℕ) (r : Result ℕ Refusal) → FormulaRead text nodes nodes' (Ok n) → most_formula ≤ length before
    → FormulaPrinted (Yields (take (3 * n) nodes')) before after r → (r ≡ Ok (length text)) × (after ≡ fill text before)

-- What prints is the list of exactly one accepted formula, or its part,
abbrev pub PrintedOnce : Type 0
PrintedOnce =
    ((nodes before after : List ℕ) (n : ℕ) → FormulaPrinted (Yields nodes) before after (Ok n) → PrintedOf (Yields nodes) before after n)
    × ((nodes : List ℕ) (k : ℕ) (before after : List ℕ) (n : ℕ) → FormulaPrinted (YieldsPart nodes k) before after (Ok n) → PrintedOf (YieldsPart nodes k) before after n)

-- and what doesn't has its cause, the short space before the form, and the text space stays.
abbrev pub PrintingRefused : Type 1
PrintingRefused =
    (IsOf : Formula → Type 0) (before after : List ℕ) (e : Refusal) → FormulaPrinted IsOf before after (Err e)
    → (((e ≡ TableSpace) × (length before < most_formula)) ⊎ ((e ≡ FormulaForm) × (most_formula ≤ length before) × ((f : Formula) → IsOf f → ⊥))) × (after ≡ before)

-- Any two answers that printing may give coincide, of a list and of one of its nodes, and so does the space.
abbrev pub OneFormulaPrinted : Type 0
OneFormulaPrinted = (nodes before : List ℕ) → One (FormulaPrinted (Yields nodes) before)

abbrev pub OnePartPrinted : Type 0
OnePartPrinted = (nodes : List ℕ) (k : ℕ) (before : List ℕ) → One (FormulaPrinted (YieldsPart nodes k) before)

-- Any two answers that reading may give coincide, and so does the space.
abbrev pub OneFormulaRead : Type 0
OneFormulaRead = (text before : List ℕ) → One (FormulaRead text before)

-- The same of the call that asks a formula of a model's text, and the verdict space.
abbrev pub OneFormulaSheet : Type 0
OneFormulaSheet = (text formula before : List ℕ) → One (FormulaJudged text formula before)

-- Whatever is refused, model or formula, the verdict space stays, and the whole answer is one line.
abbrev pub FormulaSheetRefusal : Type 0
FormulaSheetRefusal =
    (text formula before after : List ℕ) (r : Sheet) → FormulaJudged text formula before after r → (r.number ≡ 0 → ⊥)
    → (after ≡ before) × (output r after ≡ line (answer_line r.number) ∷ [])

-- In a space for the largest model a formula is never refused with 3, 4, 11 or 13,
abbrev pub FormulaSheetNumbers : Type 0
FormulaSheetNumbers =
    (text formula before after : List ℕ) (r : Sheet) → most_verdicts ≤ length before → FormulaJudged text formula before after r
    → (r.number ≡ 3 → ⊥) × (r.number ≡ 4 → ⊥) × (r.number ≡ 11 → ⊥) × (r.number ≡ 13 → ⊥)

-- and with 12 only where it names an atom that the model hasn't.
abbrev pub AtomMissing : Type 0
AtomMissing =
    (text before after : List ℕ) (r : Sheet) (m : Model) (f : Formula) → text_outcome text ≡ Outcome.model m → Accepted f
    → FormulaJudged text (text_of f) before after r → r.number ≡ 12 → AtomsBelow m.atoms f → ⊥

-- "A formula that had lost an atom": it is refused with 22 only where it leaves out an atom of the model, and judged only where it names all.
abbrev pub AtomLost : Type 0
AtomLost =
    (text before after : List ℕ) (r : Sheet) (m : Model) (f : Formula) → text_outcome text ≡ Outcome.model m → Accepted f → FormulaJudged text (text_of f) before after r
    → (r.number ≡ 22 → (a : ℕ) × (a < m.atoms) × (Names f a → ⊥)) × (r.number ≡ 0 → (a : ℕ) → a < m.atoms → Names f a)

-- Each node of an accepted formula's list is the whole of an accepted formula, which `print_part` prints, and the row of that node is its meaning.
abbrev pub EachPartPrints : Type 0
EachPartPrints = (m : Model) (f : Formula) (k : ℕ) → Accepted f → k < size f → (g : Formula) × YieldsPart (nodes_of f) k g × (get_or (part_rows m f) k [] ≡ value_row m g)

-- what is written where the formula f, typed, is asked of the model m that a text holds, and is not refused
abbrev pub Answering : (Model → Formula → Sheet → List ℕ → Type 0) → Type 0
Answering Holds =
    (text before after : List ℕ) (r : Sheet) (m : Model) (f : Formula) → text_outcome text ≡ Outcome.model m → Accepted f
    → FormulaJudged text (text_of f) before after r → r.number ≡ 0 → Holds m f r after

-- The rows are the meanings of the formula's parts in the model, and the verdict is that of the whole.
abbrev pub FormulaSheetMeaning : Type 0
FormulaSheetMeaning = Answering (λ m f r after. output r after ≡ whole (part_rows m f) (over_initial m.states m.initial (value_row m f)))

-- So the three lines that are written without the parts are the number 0, the formula's own meaning at each state, and its verdict.
abbrev pub AskedLines : Type 0
AskedLines = Answering (λ m f r after.
    (line_at (output r after) 0 ≡ here (line (answer_line 0)))
    × (line_at (output r after) r.nodes ≡ here (line (row_line (value_row m f))))
    × (line_at (output r after) (suc r.nodes) ≡ here (line (model_line (over_initial m.states m.initial (value_row m f))))))

-- a question as it is typed: (EX p0&!p0)
abbrev pub typed : List ℕ
typed = 40 ∷ 69 ∷ 88 ∷ 32 ∷ 112 ∷ 48 ∷ 38 ∷ 33 ∷ 112 ∷ 48 ∷ 41 ∷ []

-- the rows of its parts p0, EX p0, p0, !p0 and of itself, asked of the model that the text of case 1 holds, and the model's verdict
abbrev pub answered : List ℕ
answered =
    joined
    ((97 ∷ 110 ∷ 115 ∷ 119 ∷ 101 ∷ 114 ∷ 61 ∷ 48 ∷ 10 ∷ [])
    ∷ (114 ∷ 111 ∷ 119 ∷ 61 ∷ 85 ∷ 84 ∷ 10 ∷ [])
    ∷ (114 ∷ 111 ∷ 119 ∷ 61 ∷ 84 ∷ 84 ∷ 10 ∷ [])
    ∷ (114 ∷ 111 ∷ 119 ∷ 61 ∷ 85 ∷ 84 ∷ 10 ∷ [])
    ∷ (114 ∷ 111 ∷ 119 ∷ 61 ∷ 85 ∷ 70 ∷ 10 ∷ [])
    ∷ (114 ∷ 111 ∷ 119 ∷ 61 ∷ 85 ∷ 70 ∷ 10 ∷ [])
    ∷ (109 ∷ 111 ∷ 100 ∷ 101 ∷ 108 ∷ 61 ∷ 85 ∷ 10 ∷ [])
    ∷ [])

-- Asked of the text of case 1, in a space for the largest model, it is accepted and gets this answer.
abbrev pub AskedNight : Type 0
AskedNight = (before after : List ℕ) (r : Sheet) → most_verdicts ≤ length before → FormulaJudged input typed before after r → bytes_of (output r after) ≡ answered
