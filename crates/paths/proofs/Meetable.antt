-- When the laws of runs can be used: accepted tables make a question that is taken; wherever First refuses nothing there is room, and there its answer tells whether there is a witness; every beginning of a run is a chain.
use Rattle.std.specs.Prelude.{Some, None, Ok, Err}
use Rattle.values.specs.Refusal.{answer_number, number_of}
use Rattle.values.specs.declared.refusal.Refusal.{Refusal}
use Rattle.paths.specs.Answers.{FirstAnswer}
use mathlib.Core.Path.{◌≡◌, refl}
use Prim.Native.Nat.{ℕ, ◌≤◌, ◌<◌}
use mathlib.Core.List.{List, [], ◌∷◌, ◌++◌}
use mathlib.Core.Bool.{false, ◌||◌}
use mathlib.Core.Logic.{◌⊎◌, inl, inr, ⊎_elim}
use native.Mathlib.Omega.{arith}
use lib.ListN.{length}
use lib.Dec.{leb}
use borrow.Author.Tests.{lt-leb}
use Rattle.lists.specs.Causes.{refusal_of}
use Rattle.lists.proofs.Numbers.{lt_or_le}
use Rattle.lists.proofs.Tests.{or_none}
use Rattle.values.specs.Rows.{bad_row}
use Rattle.kripke.specs.Refusals.{table_refusal}
use Rattle.kripke.proofs.Reading.{not_15, question_fine}
use Rattle.paths.specs.Questions.{Question, Witnessed, asked}
use Rattle.paths.specs.Refusals.{FirstApplies, TooShort, bad_level, first_causes}
use Rattle.paths.specs.Answers.{FirstPromise}
use Rattle.paths.specs.Runs.{Chain, Ends, Goes, Roomy, Run}
use Rattle.paths.proofs.Answering.{first_causes_rise}
use Rattle.lists.proofs.Late.{applies_none, only_late}

-- no cause applies to a question on accepted tables, of a level that is one and from a state
pub fine_question : (S : ℕ) (es left right : List ℕ) (level start : ℕ) → table_refusal S es ≡ 0 → bad_row S left ≡ false → bad_row S right ≡ false → (level ≡ 1) ⊎ (level ≡ 2) → start < S → refusal_of (first_causes (asked S es left right level) start) ≡ 0
unfolding bad_level
fine_question S es left right level start z l r lev h = not_15 S es left right (bad_level level || leb S start) (question_fine S es left right z l r) (or_none (bad_level level) (leb S start) (fine_level lev) (lt-leb S start h))
  where
    fine_level : (level ≡ 1) ⊎ (level ≡ 2) → bad_level level ≡ false
    fine_level (inl e) = rw e
    fine_level (inr e) = rw e

zero_number : (a : FirstAnswer) → ((e : Refusal) → a ≡ Err e → ⊥) → answer_number a ≡ 0
zero_number (Ok (Some n)) h = refl
zero_number (Ok None) h = refl
zero_number (Err n) h = absurd (h n refl)

-- wherever First refuses nothing, the question is taken and has room
pub roomy_there_lem : (q : Question) (start : ℕ) (space after : List ℕ) (a : FirstAnswer) → FirstPromise q start space after a → ((e : Refusal) → a ≡ Err e → ⊥) → Roomy q start space
roomy_there_lem q start space after a f h =
    record {
      taken = applies_none (first_causes q start) (first_causes_rise q start) (λ n x. none n (inl x));
      room = λ p s. ⊎_elim (λ (l : length space < length p). absurd (none 16 (inr (refl, record { path = p; shortest = s; longer = l })))) (λ (l : length p ≤ length space). l) (lt_or_le (length space) (length p));
    }
  where
    none : (n : ℕ) → FirstApplies q start (length space) n → ⊥
    none n x = omega (arith, (f.number.lowest n x).0, zero_number a h)

-- and where that is so, First refuses nothing
pub roomy_not_refused : (q : Question) (start : ℕ) (space after : List ℕ) (n : Refusal) → Roomy q start space → FirstPromise q start space after (Err n) → ⊥
roomy_not_refused q start space after n roomy f =
    let late = (only_late (first_causes q start) (first_causes_rise q start) (λ (k : ℕ). (k ≡ 16) × TooShort q start (length space)) (number_of n) roomy.taken f.says.numbered f.number).1 in
    omega (arith, roomy.room late.path late.shortest, late.longer)

-- there First answers with a path exactly if there is a witness
pub path_or_none : (q : Question) (start : ℕ) (space after : List ℕ) (a : FirstAnswer) → Roomy q start space → FirstPromise q start space after a → (Witnessed q start → (n : ℕ) × (a ≡ Ok (Some n))) × ((Witnessed q start → ⊥) → a ≡ (Ok None))
path_or_none q start space after (Ok (Some n)) roomy f = (λ w. (n, refl), λ none. absurd (none (let l = f.says.least.is in (f.says.path, l.begins, l.witness))))
path_or_none q start space after (Ok None) roomy f = (λ w. absurd (f.says.none w.0 w.1 w.2), λ none. refl)
path_or_none q start space after (Err n) roomy f = absurd (roomy_not_refused q start space after n roomy f)

-- every beginning of a run is a chain
ends_goes : (q : Question) (p : List ℕ) (ps rest : List (List ℕ)) → Ends q p (ps ++ rest) → Goes q p ps
ends_goes q p [] rest e = tt
ends_goes q p (r ∷ ps) rest e = (e.0, ends_goes q r ps rest e.1)

pub beginning_chain : (q : Question) (start : ℕ) (space : List ℕ) (ps rest : List (List ℕ)) → Run q start space (ps ++ rest) → Chain q start space ps
beginning_chain q start space [] rest r = tt
beginning_chain q start space (p ∷ ps) rest r = (r.0, ends_goes q p ps rest r.1)
