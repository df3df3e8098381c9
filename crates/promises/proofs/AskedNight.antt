-- A typed formula asked of the text of case 1, by computing what the text holds, that judging refuses nothing, and what is printed.
use mathlib.Core.Path.{refl, ap, ◌∙◌}
use native.Mathlib.Omega.{arith}
use native.Mathlib.Nat.{le_trans}
use Rattle.model.specs.Model.{Model}
use Rattle.formula.specs.Tree as trees
use Rattle.formula.specs.Tree.{Formula, ATOM, EX, NOT, AND, one, two}
use Rattle.formula.specs.Text as texts
use Rattle.formula.specs.Nodes as lists
use Rattle.formula.specs.Nodes.{nodes_of}
use Rattle.formula.specs.Answers.{Accepted}
use Rattle.sheet.specs.Answers.{with_nodes}
use Rattle.sheet.proofs.Asking.{asked_formula}
use Rattle.sheet.proofs.Meaning.{model_number, output_shown}
use Rattle.values.proofs.StoredRows.{space_within}
use Rattle.promises.specs.Nights.{bytes_of, joined, input}
use Rattle.promises.specs.Asking.{AskedNight, typed}
use Rattle.promises.proofs.Nights.{first, taken}
use Rattle.text.specs.Answers as reading
use Rattle.form.specs.Readers as readers
use Rattle.form.specs.Form as form
use Rattle.answer.specs.Lines as written
use Rattle.sheet.specs.Output as sheets
use Rattle.ctl.specs.Rows as rows
use Rattle.ctl.specs.Nodes as nodes
use Rattle.model.specs.Kinds as kinds
use Rattle.model.specs.Refusals as judging
use Rattle.values.specs.Rows as stored
use Rattle.values.specs.Signs as signs
use Rattle.kripke.specs.Until as untils
use Rattle.kripke.specs.Transitions as graphs
use Rattle.kripke.specs.Walks as walking
use Rattle.kripke.specs.Refusals as tables
use Rattle.lists.specs.Entries as entries
use Rattle.lists.specs.Rows as rowed
use Rattle.lists.specs.Choosing as choosing
use Rattle.lists.specs.Causes as causes

abbrev tree : Formula
tree = two AND (one EX (ATOM 0)) (one NOT (ATOM 0))

accepted : Accepted tree
unfolding trees.AtomsBelow trees.size texts.text_of signs.numeral
accepted = record { named = (omega arith, omega arith); short = omega arith; few = omega arith }

-- the model that is judged
abbrev judged : Model
judged = with_nodes first (nodes_of tree)

pub asked_night : AskedNight
unfolding joined bytes_of entries.any_below rowed.tab rowed.each choosing.best choosing.lowest graphs.succs walking.walks untils.place_value untils.until_value untils.until untils.next kinds.kind_of nodes.node_value nodes.node_row rows.rows_from rows.rows_of rows.initial_states rows.over_initial rows.model_verdict judging.bad_initial judging.bad_nodes judging.names judging.judge_refusal stored.some_above stored.row_size stored.row_begin tables.bad_count tables.bad_list causes.refusal_of reading.text_outcome readers.exactly readers.place_of readers.may_grow readers.number_from readers.number readers.symbol readers.symbols readers.numbers readers.within readers.count_line readers.row_line readers.numbers_line readers.lines readers.end form.listed form.model_text written.letter_of signs.numeral written.answer_line written.row_line written.model_line sheets.whole trees.size texts.text_of lists.nodes_from
asked_night before after r h p =
    let j = asked_formula input typed before after r first tree refl accepted refl p in
    let none = taken judged before refl (le_trans (space_within 2 5 (omega arith) (omega arith)) h) in
    ap bytes_of (output_shown judged before after r j (model_number judged before after r j ∙ none))
