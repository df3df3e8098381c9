-- What judging may lean on once nothing is refused, and what it answers at each of its returns.
use mathlib.Core.Path.{◌≡◌, refl, sym, ap, ◌∙◌}
use Prim.Native.Nat.{ℕ, ◌-◌}
use mathlib.Core.List.{List, [], ◌∷◌, ◌++◌}
use native.Mathlib.Nat.{le_of_eq}
use lib.ListN.{length, get_or}
use borrow.Author.Tests.{ne_eqb}
use Rattle.lists.specs.Rows.{fill}
use Rattle.values.specs.Answers.{verdict}
use Rattle.kripke.specs.Answers.{beginnings}
use Rattle.model.specs.Kinds.{kind_of}
use Rattle.model.specs.declared.kinds.Kind.{Kind}
use Rattle.model.specs.declared.kinds.Kind.TheVariants.{Af, Ag, And, Atom, Au, Ax, Ef, Eg, Eu, Ex, Implies, Not, Or, True}
use Rattle.model.specs.Model.{Model, node_count}
use Rattle.ctl.specs.Answers.{Judging, number_due}
use Rattle.ctl.specs.Inside.{Judgeable, LastReady, RowsFit, RowsPut, RowsReady, last_row, operand_row, structure_of}
use Rattle.ctl.specs.Nodes.{node_row, node_value}
use Rattle.ctl.specs.Rows.{model_verdict, over_initial, rows_from, rows_of, stored_rows}
use Rattle.std.specs.Prelude.{Result, Ok, IsErrAnd}
use native.Mathlib.Omega.{arith}
use Rattle.values.specs.Refusal.{number_of}
use Rattle.values.specs.declared.refusal.Refusal.{Refusal}
use Rattle.values.specs.declared.verdict.Verdict.{Verdict}
use Rattle.values.proofs.Refusing.{handed_on, number_some}
use Rattle.ctl.proofs.FineRows.{rows_held}
use Rattle.ctl.proofs.OverInitial.{initial_some}
use Rattle.kripke.proofs.Read.{begun}
use Rattle.model.specs.Inside.{Fine}
use Rattle.model.specs.Refusals.{judge_refusal}
use Rattle.model.proofs.Fine.{judge_fine}

-- the part of a model that its rows go by
abbrev pub structure : Model → Model
structure m = structure_of m.states m.atoms m.labels m.transitions

-- neither the initial list nor the nodes to come have a part in a row
row_structure : (m : Model) (k : Kind) (a : ℕ) (L R : List ℕ) → node_row (structure m) k a L R ≡ node_row m k a L R
unfolding node_row node_value
row_structure m True a L R = refl
row_structure m Atom a L R = refl
row_structure m Not a L R = refl
row_structure m And a L R = refl
row_structure m Ex a L R = refl
row_structure m Eu a L R = refl
row_structure m Au a L R = refl
row_structure m Or a L R = refl
row_structure m Implies a L R = refl
row_structure m Ax a L R = refl
row_structure m Ef a L R = refl
row_structure m Af a L R = refl
row_structure m Eg a L R = refl
row_structure m Ag a L R = refl

rows_structure : (m : Model) (rows : List (List ℕ)) (ns : List ℕ) → rows_from (structure m) rows ns ≡ rows_from m rows ns
unfolding rows_from
rows_structure m rows [] = refl
rows_structure m rows (k ∷ []) = refl
rows_structure m rows (k ∷ a ∷ []) = refl
rows_structure m rows (k ∷ a ∷ b ∷ ns) = ap (λ (row : List ℕ). rows_from (structure m) (rows ++ (row ∷ [])) ns) (row_structure m (kind_of k) a (get_or rows a []) (get_or rows b [])) ∙ rows_structure m (rows ++ (node_row m (kind_of k) a (get_or rows a []) (get_or rows b []) ∷ [])) ns

pub rows_of_lem : (m : Model) → rows_from (structure m) [] m.nodes ≡ rows_of m
unfolding rows_of
rows_of_lem m = rows_structure m [] m.nodes

module _ (m : Model) where
  -- with what the model's examination answered, its rows can be judged
  pub lent_fine : (room : ℕ) (begins : List ℕ) → judge_refusal m room ≡ 0 → begins ≡ beginnings m.states m.transitions → Judgeable (structure m) begins
  lent_fine room begins z e = let f = judge_fine m room z in record { tables = begun m.states m.transitions begins f.table e; labelled = f.labelled; small = f.small }

  pub rows_ready : (before : List ℕ) → number_due m before ≡ 0 → RowsReady (structure m) m.nodes before
  rows_ready before z = let f = judge_fine m (length before) z in record { nodes = f.nodes; room = f.space }

  -- a refusal
  pub judged_refused : (before : List ℕ) (r : Result Verdict Refusal) (e : Refusal) → IsErrAnd r (λ y. y ≡ e) → number_due m before ≡ number_of e → Judging m before before r
  judged_refused before r e h q = record { answer = handed_on _ _ r e h q; space = rw (ne_eqb (number_due m before) 0 (λ z. omega (arith, number_some e, q))) }

  -- the rows, and the verdict of the last one
  pub judged_rows : (before after : List ℕ) (v : Verdict) → number_due m before ≡ 0 → after ≡ fill (stored_rows (rows_of m)) before → v ≡ verdict (model_verdict m) → Judging m before after (Ok v)
  judged_rows before after v z e q = record { answer = (z, q); space = e ∙ rw z }

  module _ (begins before after : List ℕ) (J : Judgeable (structure m) begins) (ready : RowsReady (structure m) m.nodes before) (put : RowsPut (structure m) m.nodes before after) where
    abbrev n : ℕ
    n = node_count m.nodes

    stand : RowsFit m.states n after × ((k : ℕ) → operand_row m.states after n k ≡ get_or (rows_from (structure m) [] m.nodes) k [])
    stand = rows_held (structure m) begins m.nodes before J ready.room ready.nodes.triples after put

    -- the last of the rows can be read, and some state is initial
    pub last_ready : (room : ℕ) → Fine m room → LastReady m.states n m.initial after
    last_ready room f = record { rows = stand.0; last = f.some; listed = le_of_eq (sym f.initials); some = initial_some m.initial m.states f.starts.0 f.starts.1 }

    -- what it gives over the initial states is the model's verdict
    pub last_verdict : over_initial m.states m.initial (last_row m.states n after) ≡ model_verdict m
    unfolding model_verdict
    last_verdict = ap (over_initial m.states m.initial) (stand.1 (n - 1) ∙ ap (λ (rows : List (List ℕ)). get_or rows (n - 1) []) (rows_of_lem m))
