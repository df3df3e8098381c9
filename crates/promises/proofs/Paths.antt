-- What is promised of paths, from the laws of the path calls and of judging.
use Rattle.std.specs.Prelude.{Some, None, Ok}
use mathlib.Core.Bool.{true, false}
use Rattle.paths.specs.Answers.{FirstAnswer}
use mathlib.Core.Path.{◌≡◌, refl, sym, ap, ap₂, subst, ◌∙◌}
use Prim.Native.Nat.{ℕ, ◌≤◌, ◌<◌}
use mathlib.Core.List.{List}
use mathlib.Core.Bool.{true, false}
use mathlib.Core.Logic.{◌⊎◌, ⊎_elim}
use native.Mathlib.Omega.{arith}
use native.Mathlib.Nat.{le_trans}
use lib.ListN.{length}
use Rattle.lists.specs.Entries.{at}
use Rattle.values.specs.Values.{top}
use Rattle.values.specs.Rows.{bad_row, row_in, row_values, stored_row}
use Rattle.values.specs.declared.verdict.Verdict.{Verdict}
use Rattle.kripke.specs.Answers.{opposite_row}
use Rattle.kripke.specs.Until.{everywhere, opposite, until}
use Rattle.kripke.proofs.Opposites.{opposite_valid, opposite_values}
use Rattle.model.specs.Model.{Model, left_at, node_count, right_at}
use Rattle.ctl.specs.Answers.{Judging}
use Rattle.paths.specs.Questions.{Question, asked}
use Rattle.paths.specs.Answers.{FirstPromise}
use Rattle.paths.specs.Runs.{RoomFor}
use Rattle.promises.specs.Paths.{BeginningIsChain, ChainIsBeginning, EndAgain, EventuallyExactly, EveryShortestPath, FewEnough, FirstExactly, NotAlwaysExactly, OneCheck, OneFirst, OneNext, PathRefusalKeeps, RoomEnough, RoomyThere}
use Rattle.ctl.proofs.Held.{always_held, eventually_held, row_held, until_held}
use Rattle.values.proofs.StoredRows.{stored_valid, stored_values}
use Rattle.lists.proofs.Numbers.{lt_or_le}
use Rattle.lists.proofs.Rows.{length_tab, tab_at, tab_past}
use Rattle.model.proofs.Fine.{judge_fine}
use Rattle.paths.proofs.Meetable.{beginning_chain, fine_question, path_or_none, roomy_there_lem}
use Rattle.paths.proofs.OneAnswer.{check_one, first_one, next_one}
use Rattle.paths.proofs.Room.{few_enough_lem, never_16, shortest_few}
use Rattle.paths.proofs.Running.{chain_beginning, end_again_lem, one_run, run_holds}
use Rattle.paths.proofs.UntilLink.{until_link}
use Rattle.promises.proofs.Accepted.{graph_there, number_none, rows_stand}

-- the row that is true everywhere, stored, is a row, and is read back
truth_length : (S : ℕ) → length (everywhere S) ≡ S
unfolding everywhere
truth_length S = length_tab (λ (s : ℕ). top) S

truth_small : (S s : ℕ) → at (everywhere S) s ≤ top
unfolding everywhere
truth_small S s = ⊎_elim (λ (l : s < S). rw (tab_at (λ (s : ℕ). top) S s l) (omega arith)) (λ (l : S ≤ s). rw (tab_past (λ (s : ℕ). top) S s l) (omega arith)) (lt_or_le s S)

pub truth_stands : (S : ℕ) → bad_row S (stored_row (everywhere S)) ≡ false
truth_stands S = subst (λ (n : ℕ). bad_row n (stored_row (everywhere S)) ≡ false) (truth_length S) (stored_valid (everywhere S) (truth_small S))

pub truth_read : (S : ℕ) → row_values S (stored_row (everywhere S)) ≡ everywhere S
truth_read S = subst (λ (n : ℕ). row_values n (stored_row (everywhere S)) ≡ everywhere S) (truth_length S) (stored_values (everywhere S))

pub every_shortest_path : EveryShortestPath
every_shortest_path q start space roomy =
    let one = one_run q start space roomy in
    let holds = run_holds q start space roomy one.0 one.1 in
    (one.0, one.1, one.2, holds.0, holds.1)

pub roomy_there : RoomyThere
roomy_there = roomy_there_lem

pub chain_is_beginning : ChainIsBeginning
chain_is_beginning = chain_beginning

pub beginning_is_chain : BeginningIsChain
beginning_is_chain = beginning_chain

pub end_again : EndAgain
end_again = end_again_lem

pub room_enough : RoomEnough
room_enough q start space h = (λ p s. le_trans (shortest_few q start p s) h, λ after f. never_16 q start space after h f)

pub few_enough : FewEnough
few_enough = few_enough_lem

pub path_refusal_keeps : PathRefusalKeeps
path_refusal_keeps = (λ q start before after n p. p.says.untouched, λ q before after n p. p.says.untouched)

pub one_first : OneFirst
one_first = first_one

pub one_next : OneNext
one_next = next_one

pub one_check : OneCheck
one_check = check_one

-- First on a question whose rows are rows, of a node whose value is their until
tells : (m : Model) (before after : List ℕ) (v : Verdict) → Judging m before after (Ok v) → (left right : List ℕ) (s level value : ℕ) → s < m.states → bad_row m.states left ≡ false → bad_row m.states right ≡ false
    → (level ≡ 1) ⊎ (level ≡ 2) → value ≡ until false m.transitions (row_values m.states left) (row_values m.states right) m.states s
    → (space space' : List ℕ) (a : FirstAnswer) → RoomFor (asked m.states m.transitions left right level) s space → FirstPromise (asked m.states m.transitions left right level) s space space' a
    → (level ≤ value → (n : ℕ) × (a ≡ Ok (Some n))) × (value < level → a ≡ (Ok None))
tells m before after v p left right s level value h l r lev e space space' a room f =
    let q : Question = asked m.states m.transitions left right level in
    let taken = fine_question m.states m.transitions left right level s (judge_fine m (length before) (number_none m before after v p)).table l r lev h in
    let d = path_or_none q s space space' a (record { taken = taken; room = room }) f in
    let link = until_link q s (graph_there m before after v p) h in
    (λ reached. d.0 (link.1 (subst (λ (x : ℕ). level ≤ x) e reached)), λ missed. d.1 (λ w. omega (arith, link.0 w, e)))

-- the row of a node stands in the space as one
pub stands : (m : Model) (before after : List ℕ) (v : Verdict) → Judging m before after (Ok v) → (k : ℕ) → k < node_count m.nodes → bad_row m.states (row_in m.states after k) ≡ false
stands m before after v p k h = (row_held m before (number_none m before after v p) after (rows_stand m before after v p) k h).0

pub first_exactly : FirstExactly
first_exactly m before after v p k s level t five lev =
    let u = until_held m before (number_none m before after v p) after (rows_stand m before after v p) false k s t.node t.state five in
    tells m before after v p _ _ s level _ t.state (stands m before after v p (left_at m.nodes k) (omega (arith, t.node))) (stands m before after v p (right_at m.nodes k) (omega (arith, t.node))) lev u.2

pub eventually_exactly : EventuallyExactly
eventually_exactly m before after v p k s level t ten lev =
    let S : ℕ = m.states in
    let u = eventually_held m before (number_none m before after v p) after (rows_stand m before after v p) false k s t.node t.state ten in
    tells m before after v p _ _ s level _ t.state (truth_stands S) (stands m before after v p (left_at m.nodes k) (omega (arith, t.node))) lev
    (u.1 ∙ ap (λ (row : List ℕ). until false m.transitions row (row_values S (row_in S after (left_at m.nodes k))) S s) (sym (truth_read S)))

pub not_always_exactly : NotAlwaysExactly
not_always_exactly m before after v p k s level t thirteen lev space space' a room f =
    let S : ℕ = m.states in
    let part : List ℕ = row_in S after (left_at m.nodes k) in
    let u = always_held m before (number_none m before after v p) after (rows_stand m before after v p) true k s t.node t.state thirteen in
    let d = tells m before after v p _ _ s level _ t.state (truth_stands S) (opposite_valid S part) lev refl space space' a room f in
    let e : until false m.transitions (row_values S (stored_row (everywhere S))) (row_values S (opposite_row S part)) S s ≡ until false m.transitions (everywhere S) (opposite S (row_values S part)) S s = ap₂ (λ (l r : List ℕ). until false m.transitions l r S s) (truth_read S) (opposite_values S part) in
    (λ reached. d.0 (omega (arith, u.1, e)), λ missed. d.1 (⊎_elim (λ (i : level ≡ 1). omega (arith, u.1, e)) (λ (i : level ≡ 2). omega (arith, u.1, e)) lev))
