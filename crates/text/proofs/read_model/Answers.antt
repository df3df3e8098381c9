-- `read_model` meets its contract. The tests of the tables and the text, then the whole text, read into tables of its own; a model is handed out from their fronts.
use native.Mathlib.Omega.{arith}
use mathlib.Core.Path.{ap, sym, ◌∙◌, subst}
use Rattle.values.specs.declared.refusal.Refusal.TheVariants.{TableSpace, TextSize}
use Rattle.values.proofs.Refusing.{is_refused}
use Rattle.text.specs.Answers.{Tables, tables, ModelRead}
use Rattle.text.specs.Inside.{outcome_in, TextRead}
use Rattle.text.proofs.Whole.{enough, outcome_short, outcome_long, outcome_text, promise_refused, promise_model, few}
use Rattle.text.proofs.read_model.Goals as goal
use Rattle.text.proofs.read_model.Goals.{Start}

-- the tables as they were lent
abbrev lent : Start → Tables
lent c = tables c.args.labels.now c.args.initial.now c.args.transitions.now c.args.nodes.now

pub returns-then-too_short : goal.returns-then-too_short
returns-then-too_short c =
    let s = c.args.text.now in
    let b = lent (goal.at.returns-then-too_short c).Start in
    promise_refused s b TableSpace (outcome_short b s (sym c.too_short.ensures ∙ c.if-too_short.true))

pub returns-then-text-gt-MOST_TEXT : goal.returns-then-text-gt-MOST_TEXT
returns-then-text-gt-MOST_TEXT c =
    let s = c.args.text.now in
    let b = lent (goal.at.returns-then-text-gt-MOST_TEXT c).Start in
    promise_refused s b TextSize (outcome_long b s (sym c.too_short.ensures ∙ c.if-too_short.false) c.if-text-gt-MOST_TEXT.true)

pub returns-in_err-counts : goal.returns-in_err-counts
returns-in_err-counts c =
    let s = c.args.text.now in
    let b = lent (goal.at.returns-in_err-counts c).Start in
    let r = c.read in
    let o = outcome_text b s (sym c.too_short.ensures ∙ c.if-too_short.false) c.if-text-gt-MOST_TEXT.false in
    subst (ModelRead s b b) (sym (is_refused _ _ c.from_residual.ensures.1))
    (promise_refused s b _ (o ∙ sym r.ensures.says ∙ ap (outcome_in r.new.self) c.in_err-counts.was))

pub hand_out-requires : goal.hand_out-requires
hand_out-requires c = record {
  few = few c.args.text.now _ _ (subst (TextRead c.args.text.now c.read.new.self) c.in_ok-counts.was c.read.ensures);
  room = enough _ _ _ _ (sym c.too_short.ensures ∙ c.if-too_short.false);
}

pub returns : goal.returns
returns c =
    let s = c.args.text.now in
    let b = lent (goal.at.returns c).Start in
    let r = c.read in
    let o = outcome_text b s (sym c.too_short.ensures ∙ c.if-too_short.false) c.if-text-gt-MOST_TEXT.false in
    let f = few s _ _ (subst (TextRead s r.new.self) c.in_ok-counts.was r.ensures) in
    promise_model s b _ r.new.self _ (o ∙ sym r.ensures.says ∙ ap (outcome_in r.new.self) c.in_ok-counts.was) (omega (arith, f.transitions, c.hand_out.ensures.sizes.0)) (omega (arith, f.nodes, c.hand_out.ensures.sizes.1)) c.hand_out.ensures.handed
