-- The nights: a case of judging by computing the refusal and the row, a text by computing what it holds and prints, a path case by the run that
-- is computed from the walks.
use Rattle.std.specs.Prelude.{Ok, Err}
use Rattle.values.specs.Refusal as refusal
use Rattle.values.specs.declared.refusal.Refusal.{Refusal}
use Rattle.values.specs.declared.refusal.Refusal.TheVariants.{Operand, UnnamedAtom}
use mathlib.Core.Path.{◌≡◌, refl, sym, ap, ◌∙◌, subst}
use Prim.Native.Nat.{ℕ, ◌≤◌, ◌<◌}
use mathlib.Core.List.{List, [], ◌∷◌}
use native.Mathlib.Omega.{arith}
use native.Mathlib.Nat.{le_trans}
use lib.ListN.{length, get_or}
use Rattle.lists.specs.Causes.{refusal_of}
use Rattle.values.specs.Answers.{verdict}
use Rattle.values.specs.Rows.{most_verdicts, row_begin}
use Rattle.model.specs.Model.{Model, as_model, node_count}
use Rattle.model.specs.Refusals.{judge_refusal}
use Rattle.ctl.specs.Answers.{Judged, Judging, number_due}
use Rattle.ctl.specs.Rows.{model_verdict, rows_of}
use Rattle.paths.specs.Questions.{Question}
use Rattle.paths.specs.Refusals.{first_causes}
use Rattle.paths.specs.Runs.{Roomy, Run}
use Rattle.text.specs.Answers.{Outcome, text_outcome}
use Rattle.sheet.specs.Answers.{Judges}
use Rattle.sheet.specs.Output.{whole}
use Rattle.promises.specs.Nights.{Beside, Case, Holds, Nights, bytes_of, diamond, doubted, fork, input, joined, labelled, last_node, after_first, printed, slanted, two_initial, waiting}
use Rattle.ctl.proofs.Held.{row_held}
use Rattle.model.proofs.Fine.{more_room}
use Rattle.paths.proofs.Gathering.{shortest_upto}
use Rattle.paths.proofs.Room.{shortest_few}
use Rattle.paths.proofs.Running.{computed_run}
use Rattle.promises.proofs.Accepted.{accepted_verdict, refused_answer, rows_stand}
use Rattle.sheet.proofs.Meaning.{answer_shown, model_number}
use Rattle.values.proofs.StoredRows.{space_within}
use Rattle.text.specs.Answers as reading
use Rattle.form.specs.Readers as readers
use Rattle.form.specs.Form as form
use Rattle.answer.specs.Lines as written
use Rattle.sheet.specs.Output as sheets
use Rattle.ctl.specs.Rows as rows
use Rattle.ctl.specs.Nodes as nodes
use Rattle.model.specs.Kinds as kinds
use Rattle.model.specs.Refusals as judging
use Rattle.values.specs.Rows as stored
use Rattle.values.specs.Signs as signs
use Rattle.kripke.specs.Until as untils
use Rattle.kripke.specs.Transitions as graphs
use Rattle.kripke.specs.Walks as walking
use Rattle.kripke.specs.Refusals as tables
use Rattle.lists.specs.Entries as entries
use Rattle.lists.specs.Rows as rowed
use Rattle.lists.specs.Choosing as choosing
use Rattle.lists.specs.Causes as causes
use Rattle.paths.specs.Refusals as asking
use Rattle.paths.specs.Inside as finding
use Rattle.paths.proofs.Gathering as gathered
use Rattle.paths.proofs.Listing as listing

-- how many bytes a model's rows take
abbrev pub size : Model → ℕ
size m = row_begin m.states (node_count m.nodes)

-- the number that the smallest space gets, 0 too, is that of every space with room for the rows
numbered : (m : Model) (before : List ℕ) (n : ℕ) → judge_refusal m (size m) ≡ n → size m ≤ length before → number_due m before ≡ n
numbered m before n e h = more_room m (length before) (size m) h (omega arith) ∙ e

pub taken : (m : Model) (before : List ℕ) → judge_refusal m (size m) ≡ 0 → size m ≤ length before → number_due m before ≡ 0
taken m before = numbered m before 0

pub row_holds : (m : Model) (k : ℕ) (values : List ℕ) → judge_refusal m (size m) ≡ 0 → k < node_count m.nodes → get_or (rows_of m) k [] ≡ values → Holds (Case.row m k values)
row_holds m k values z l e before after r h p =
    let none = taken m before z h in
    let v : r ≡ Ok (verdict (model_verdict m)) = accepted_verdict m before after r p none in
    let q : Judging m before after (Ok (verdict (model_verdict m))) = subst (Judging m before after) v p in
    (λ n w. differs n (sym v ∙ w), (row_held m before none after (rows_stand m before after (verdict (model_verdict m)) q) k l).1 ∙ e)
  where
    differs : (n : Refusal) → ◌≡◌ {A = Judged} (Ok (verdict (model_verdict m))) (Err n) → ⊥
    differs n w = cc

model_holds : (m : Model) (v : ℕ) → judge_refusal m (size m) ≡ 0 → model_verdict m ≡ v → Holds (Case.model m v)
model_holds m v z e before after r h p = accepted_verdict m before after r p (taken m before z h) ∙ ap (λ (x : ℕ). Ok (verdict x)) e

pub refused_holds : (m : Model) (e : Refusal) → judge_refusal m (size m) ≡ refusal.number_of e → Holds (Case.refused m e)
refused_holds m e q before after r h p = refused_answer m before after r e p (numbered m before (refusal.number_of e) q h)

text_holds : (text out : List ℕ) (m : Model) → text_outcome text ≡ Outcome.model m → judge_refusal m (size m) ≡ 0 → size m ≤ most_verdicts → bytes_of (whole (rows_of m) (model_verdict m)) ≡ out → Holds (Case.text text out)
text_holds text out m reads z fits prints before after r h p =
    let j = subst (λ (o : Outcome). Judges o before after r) reads p in
    let none = taken m before z (le_trans fits h) in
    ap bytes_of (answer_shown text m before after r reads p (model_number m before after r j ∙ none)) ∙ prints

-- a question that no cause refuses, in a space with as many entries as there are states
roomy : (q : Question) (start : ℕ) → refusal_of (first_causes q start) ≡ 0 → (space : List ℕ) → q.states ≤ length space → Roomy q start space
roomy q start z space h = record { taken = z; room = λ p s. le_trans (shortest_few q start p s) h }

path_holds : (q : Question) (start : ℕ) (ps : List (List ℕ)) → refusal_of (first_causes q start) ≡ 0 → shortest_upto q start q.states ≡ ps → Holds (Case.path q start ps)
path_holds q start ps z e space h = subst (Run q start space) e (computed_run q start space (roomy q start z space h))

-- the model that the text of case 1 holds
abbrev pub first : Model
first = as_model 2 1 (1 ∷ 2 ∷ []) (1 ∷ 0 ∷ []) (0 ∷ 1 ∷ 1 ∷ 1 ∷ []) (1 ∷ 0 ∷ 0 ∷ 4 ∷ 0 ∷ 0 ∷ 2 ∷ 0 ∷ 0 ∷ [])

first_night : Holds (Case.text input printed)
unfolding joined bytes_of entries.any_below rowed.tab rowed.each choosing.best choosing.lowest graphs.succs walking.walks untils.place_value untils.until_value untils.until untils.next kinds.kind_of nodes.node_value nodes.node_row rows.rows_from rows.rows_of rows.initial_states rows.over_initial rows.model_verdict judging.bad_initial judging.bad_nodes judging.names judging.judge_refusal stored.some_above stored.row_size stored.row_begin tables.bad_count tables.bad_list causes.refusal_of reading.text_outcome readers.exactly readers.place_of readers.may_grow readers.number_from readers.number readers.symbol readers.symbols readers.numbers readers.within readers.count_line readers.row_line readers.numbers_line readers.lines readers.end form.listed form.model_text written.letter_of signs.numeral written.answer_line written.row_line written.model_line sheets.whole
first_night = text_holds input printed first refl refl (space_within 2 3 (omega arith) (omega arith)) refl

pub nights : Nights
unfolding entries.any_below rowed.tab rowed.each choosing.best choosing.lowest graphs.succs walking.walks untils.place_value untils.until_value untils.until untils.next kinds.kind_of nodes.node_value nodes.node_row rows.rows_from rows.rows_of rows.initial_states rows.over_initial rows.model_verdict judging.bad_initial judging.bad_nodes judging.names judging.judge_refusal stored.some_above stored.row_size stored.row_begin tables.bad_count tables.bad_list causes.refusal_of tables.table_refusal stored.bad_row stored.value_at asking.bad_level finding.has finding.unjoined finding.at_fault finding.first_fit finding.at_once gathered.sound gathered.listed gathered.shortest_upto listing.keep
nights = (
  first_night,
  (
    row_holds (doubted 1) 3 _ refl (omega arith) refl,
    (
      row_holds (doubted 0) 3 _ refl (omega arith) refl,
      (
        row_holds (doubted 2) 3 _ refl (omega arith) refl,
        (
          row_holds (waiting 0) 2 _ refl (omega arith) refl,
          (
            row_holds (waiting 0) 3 _ refl (omega arith) refl,
            (
              row_holds (waiting 1) 2 _ refl (omega arith) refl,
              (
                row_holds (waiting 1) 3 _ refl (omega arith) refl,
                (
                  row_holds (labelled _ _) 2 _ refl (omega arith) refl,
                  (
                    row_holds (labelled _ _) 3 _ refl (omega arith) refl,
                    (
                      row_holds (labelled _ _) 2 _ refl (omega arith) refl,
                      (
                        path_holds (diamond 2 2 2) 0 _ refl refl,
                        (
                          path_holds (diamond 1 2 2) 0 _ refl refl,
                          (
                            path_holds (diamond 1 2 1) 0 _ refl refl,
                            (
                              path_holds (diamond 2 2 2) 3 _ refl refl,
                              (
                                path_holds (diamond 2 0 2) 0 _ refl refl,
                                (
                                  model_holds (two_initial _) 0 refl refl,
                                  (
                                    model_holds (two_initial _) 0 refl refl,
                                    tt,
                                  ),
                                ),
                              ),
                            ),
                          ),
                        ),
                      ),
                    ),
                  ),
                ),
              ),
            ),
          ),
        ),
      ),
    ),
  ),
)

pub besides : Beside
unfolding entries.any_below rowed.tab rowed.each choosing.best choosing.lowest graphs.succs walking.walks untils.place_value untils.until_value untils.until untils.next kinds.kind_of nodes.node_value nodes.node_row rows.rows_from rows.rows_of rows.initial_states rows.over_initial rows.model_verdict judging.bad_initial judging.bad_nodes judging.names judging.judge_refusal stored.some_above stored.row_size stored.row_begin tables.bad_count tables.bad_list causes.refusal_of
besides = (
  row_holds fork 1 _ refl (omega arith) refl,
  (
    row_holds slanted 0 _ refl (omega arith) refl,
    (
      row_holds slanted 1 _ refl (omega arith) refl,
      (
        model_holds (two_initial _) 1 refl refl,
        (
          model_holds (two_initial _) 1 refl refl,
          (
            model_holds (two_initial _) 0 refl refl,
            (
              model_holds (two_initial _) 0 refl refl,
              (
                model_holds (last_node _) 0 refl refl,
                (
                  refused_holds (last_node _) Operand refl,
                  (
                    refused_holds (last_node _) Operand refl,
                    (
                      refused_holds (last_node _) Operand refl,
                      (
                        refused_holds (last_node _) Operand refl,
                        (
                          refused_holds (after_first _) UnnamedAtom refl,
                          (
                            refused_holds (after_first _) UnnamedAtom refl,
                            (
                              model_holds (after_first _) 2 refl refl,
                              tt,
                            ),
                          ),
                        ),
                      ),
                    ),
                  ),
                ),
              ),
            ),
          ),
        ),
      ),
    ),
  ),
)
