-- The front that a call is lent, that a path is told only where one is to be listed, and that `write_line` permits one answer.
use Rattle.std.specs.Prelude.{Some, None, Result, Ok, Err}
use Rattle.values.specs.declared.refusal.Refusal.{Refusal}
use Rattle.paths.specs.Answers.{FirstAnswer, NextAnswer}
use Prim.Native.Nat.{ℕ, zero, suc, ◌<◌, ◌≤◌}
use Rattle.paths.specs.declared.Further.TheVariants.{Path, End}
use mathlib.Core.Path.{◌≡◌, ap, ap₂, sym, ◌∙◌, subst₂, refl}
use mathlib.Core.List.{List, ◌++◌}
use native.Mathlib.Omega.{arith}
use lib.ListN.{take, drop, length, drop_of_length-le}
use Rattle.paths.specs.Questions.{Question}
use Rattle.paths.proofs.OneAnswer.{first_one, next_one}
use Rattle.answer.specs.Answers.{Due, LineWritten}
use Rattle.answer.specs.declared.Unwritten.{Unwritten}
use Rattle.answer.proofs.Promises.{written_one}
use Rattle.listing.specs.declared.Call.{Call}
use Rattle.listing.specs.declared.Call.TheVariants as call
use Rattle.listing.specs.declared.Told.{Told}
use Rattle.listing.specs.declared.Told.TheVariants as told
use Rattle.listing.specs.declared.Listed.{Listed}
use Rattle.listing.specs.Inside.{Front}
use Rattle.listing.specs.Answers.{first_told, next_told, told_due, Called, Calls, LineListed, path_told}
use lib.Seq.{take_all, take-length, drop-length}
use borrow.Author.Tests.{le-leb}
use Rattle.answer.specs.Answers.Due.{line}

-- a call that was lent the front
pub called : {A : Type 0} (promise : List ℕ → List ℕ → A → Type 0) {tells : A → Result Told Refusal} {n r : ℕ} {space part : List ℕ} {answer : A} {told : Result Told Refusal}
    → Front n space r → promise (take r space) part answer → told ≡ tells answer → Called promise tells n space (part ++ drop r space) told
called {A} promise {tells} {n} {r} {space} {part} {answer} f p e = record {
  answer = answer;
  part = part;
  promised = rw f.front at p;
  space = ap (λ (l : List ℕ). part ++ l) f.rest;
  says = e;
}

-- a path is told only where one is to be listed
first_more : (n : ℕ) (x : FirstAnswer) → first_told 0 x ≡ Ok (told.Path n) → ⊥
first_more n (Ok (Some m)) e = cc
first_more n (Ok None) e = cc
first_more n (Err m) e = cc

next_more : (lent n : ℕ) (x : NextAnswer) → next_told 0 lent x ≡ Ok (told.Path n) → ⊥
next_more lent n (Ok Path) e = cc
next_more lent n (Ok End) e = cc
next_more lent n (Err m) e = cc

pub path_listed : (q : Question) (most : ℕ) (c : Call) {space a buffer d : List ℕ} {r : Listed} {n : ℕ} → LineListed q most c space a buffer d r → r.told ≡ Ok (told.Path n) → 0 < most
path_listed q zero (call.First start room) {n = n} p e = absurd (first_more n p.called.answer (sym p.called.says ∙ e))
path_listed q zero (call.Next lent) {n = n} p e = absurd (next_more lent n p.called.answer (sym p.called.says ∙ e))
path_listed q (suc most) c p e = omega arith

-- any two permitted answers coincide, the space and the buffer too
called_one : {A : Type 0} {promise : List ℕ → List ℕ → A → Type 0} {tells : A → Result Told Refusal} {n : ℕ} {space a b : List ℕ} {s t : Result Told Refusal}
    → ((before after after' : List ℕ) (x y : A) → promise before after x → promise before after' y → (x ≡ y) × (after ≡ after'))
    → Called promise tells n space a s → Called promise tells n space b t → (s ≡ t) × (a ≡ b)
called_one {A} {promise} {tells} {n} {space} one p q =
    let same = one _ _ _ _ _ p.promised q.promised in
    (p.says ∙ ap tells same.0 ∙ sym q.says, p.space ∙ ap (λ (l : List ℕ). l ++ drop n space) same.1 ∙ sym q.space)

calls_one : (q : Question) (most : ℕ) (c : Call) (space a b : List ℕ) (s t : Result Told Refusal) → Calls q most c space a s → Calls q most c space b t → (s ≡ t) × (a ≡ b)
calls_one q most (call.First start room) space a b s t = called_one (first_one q start)
calls_one q most (call.Next n) space a b s t = called_one (next_one q)

pub listed_one : (q : Question) (most : ℕ) (c : Call) (space a b buffer d e : List ℕ) (r s : Listed)
    → LineListed q most c space a buffer d r → LineListed q most c space b buffer e s → (r ≡ s) × (a ≡ b) × (d ≡ e)
listed_one q most c space a b buffer d e r s p t =
    let same = calls_one q most c space a b r.told s.told p.called t.called in
    let due : Due = told_due s.told b in
    let line = written_one due buffer d e r.line s.line (subst₂ (λ (x : Result Told Refusal) (l : List ℕ). LineWritten (told_due x l) buffer d r.line) same.0 same.1 p.written) t.written in
    (ap₂ (λ (x : Result Told Refusal) (w : Result ℕ Unwritten). record { told = x; line = w }) same.0 line.0, same.1, line.1)
