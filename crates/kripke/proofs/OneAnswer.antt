-- Any two answers that the readers of tables may give coincide.
use mathlib.Core.Path.{◌≡◌, ap, ap₂, ◌∙◌}
use Prim.Native.Nat.{ℕ}
use mathlib.Core.List.{List}
use Rattle.std.specs.Prelude.{Result}
use Rattle.lists.specs.Causes.{refusal_of}
use Rattle.values.specs.Refusal.{Answers}
use Rattle.values.specs.declared.refusal.Refusal.{Refusal}
use Rattle.values.proofs.OneAnswer.{equation_one}
use Rattle.values.proofs.Refusing.{answers_one}
use Rattle.kripke.specs.declared.graph.Transitions.{Transitions}
use Rattle.kripke.specs.declared.tables.Tables.{Tables}
use Rattle.kripke.specs.Refusals.{question_causes, table_refusal}
use Rattle.kripke.specs.declared.lent.Ends.{Ends}
use Rattle.kripke.specs.Transitions.{succs}
use Rattle.kripke.specs.Answers.{TablesHold, beginnings, targets}

-- the beginnings are all that is handed out
pub begins_one : (begins : List ℕ) (t u : Transitions) → t.begins ≡ begins → u.begins ≡ begins → t ≡ u
begins_one begins t u p q = ap (λ (xs : List ℕ). record { begins = xs }) (equation_one begins t.begins u.begins p q)

pub transitions_one : (S : ℕ) (es : List ℕ) (r r' : Result Transitions Refusal) → Answers (table_refusal S es) r (λ t. t.begins ≡ beginnings S es) → Answers (table_refusal S es) r' (λ t. t.begins ≡ beginnings S es) → r ≡ r'
transitions_one S es r r' = answers_one _ _ (begins_one (beginnings S es)) r r'

tables_hold_one : (S : ℕ) (es left right : List ℕ) (t u : Tables) → TablesHold S es left right t → TablesHold S es left right u → t ≡ u
tables_hold_one S es left right t u p q =
    ap₂ (λ (b l : List ℕ). record { begins = b; left = l; right = t.right }) (equation_one _ t.begins u.begins p.graph q.graph) (equation_one _ t.left u.left p.left_row q.left_row)
    ∙ ap (λ (r : List ℕ). record { begins = u.begins; left = u.left; right = r }) (equation_one _ t.right u.right p.right_row q.right_row)

pub tables_one : (S : ℕ) (es left right : List ℕ) (r r' : Result Tables Refusal) → Answers (refusal_of (question_causes S es left right)) r (TablesHold S es left right) → Answers (refusal_of (question_causes S es left right)) r' (TablesHold S es left right) → r ≡ r'
tables_one S es left right r r' = answers_one _ _ (tables_hold_one S es left right) r r'

-- any two answers of `successors` lead to the same states, one after the other
pub successors_one : (es : List ℕ) (s : ℕ) (r r' : Ends) → targets r.pairs.now ≡ succs es s → targets r'.pairs.now ≡ succs es s → targets r.pairs.now ≡ targets r'.pairs.now
successors_one es s r r' = equation_one (succs es s) (targets r.pairs.now) (targets r'.pairs.now)
