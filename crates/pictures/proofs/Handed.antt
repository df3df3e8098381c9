-- What is handed out passes the check, and an answer that no cause refuses, with room enough, is a picture exactly if the verdict is false.
use mathlib.Core.Path.{◌≡◌, refl, sym, ap, ◌∙◌, subst}
use Prim.Native.Nat.{ℕ, ◌≤◌, ◌<◌}
use mathlib.Core.List.{List, [], ◌∷◌}
use mathlib.Core.Bool.{true, false}
use mathlib.Core.Logic.{inl, inr, ◌↔◌}
use native.Mathlib.Omega.{arith}
use lib.ListN.{length, take, drop}
use lib.Seq.{take_at}
use lib.Dec.{leb}
use Rattle.lists.specs.Causes.{cause, refusal_of}
use Rattle.lists.proofs.Late.{applies_left, none_applies}
use Rattle.pictures.specs.declared.Ending.{Ending}
use Rattle.paths.specs.Answers.{CheckAnswer}
use Rattle.std.specs.Prelude.{Some, None, Ok, Err}
use Rattle.values.specs.Refusal.{number_of}
use Rattle.pictures.specs.Pictures.{IsFalse, Picture, Question}
use Rattle.pictures.specs.Refusals.{PictureApplies, causes, start_causes}
use Rattle.pictures.specs.Answers.{CheckPromise, Handed, PictureAnswer, PicturePromise}
use Rattle.kripke.proofs.Reading.{question_rises}
use Rattle.pictures.proofs.Promising.{start_causes_rise}

no_is_not_yes : ◌≡◌ {A = CheckAnswer} (Ok false) (Ok true) → ⊥
no_is_not_yes e = cc

handed_front : (q : Question) (start : ℕ) (before after : List ℕ) (n : ℕ) (e : Ending) (h : Handed q start before after n e) → take n after ≡ h.path
handed_front q start before after n e h = ap (take n) h.space ∙ take_at h.path (drop (length h.path) before) n h.size

pub handed_passes_lem : (q : Question) (start : ℕ) (before after : List ℕ) (n : ℕ) (e : Ending) (answer : CheckAnswer) → PicturePromise q start before after (Ok (Some (n, e))) → CheckPromise q (take n after) e answer → answer ≡ (Ok true)
handed_passes_lem q start before after n e (Ok true) p c = refl
handed_passes_lem q start before after n e (Ok false) p c = absurd (c.says (subst (λ (p : List ℕ). Picture q p e) (sym (handed_front q start before after n e p.says)) p.says.drawn))
handed_passes_lem q start before after n e (Err m) p c = absurd (omega (arith, (p.number.lowest (number_of m) (inl (applies_left (causes q) (cause 15 (leb q.states start) ∷ []) (number_of m) (c.number.applies (λ z. omega (arith, c.says)))))).0))

pub passes_exactly_lem : (q : Question) (path : List ℕ) (e : Ending) (answer : CheckAnswer) → refusal_of (causes q) ≡ 0 → CheckPromise q path e answer → (answer ≡ (Ok true)) ↔ Picture q path e
passes_exactly_lem q path e (Ok true) fine c = (λ i. c.says, λ p. refl)
passes_exactly_lem q path e (Ok false) fine c = (λ i. absurd (no_is_not_yes i), λ p. absurd (c.says p))
passes_exactly_lem q path e (Err n) fine c = absurd (none_applies (causes q) (question_rises q.states q.transitions q.left q.right) fine (number_of n) (c.number.applies (λ z. omega (arith, c.says))))

pub picture_or_none : (q : Question) (start : ℕ) (space after : List ℕ) (answer : PictureAnswer) → refusal_of (start_causes q start) ≡ 0 → q.states ≤ length space → PicturePromise q start space after answer → (IsFalse q start → (n : ℕ) × (e : Ending) × (answer ≡ Ok (Some (n, e)))) × ((IsFalse q start → ⊥) → answer ≡ Ok None)
picture_or_none q start space after (Ok (Some (n, e))) fine room p = (λ f. (n, e, refl), λ not. absurd (not p.says.is_false))
picture_or_none q start space after (Ok None) fine room p = (λ f. absurd (p.says.not-false f), λ not. refl)
picture_or_none q start space after (Err n) fine room p = absurd (refused_not (number_of n) p.says.numbered (p.number.applies (λ z. omega (arith, p.says.numbered))))
  where
    refused_not : (n : ℕ) → 0 < n → PictureApplies q start (length space) n → ⊥
    refused_not n some (inl a) = none_applies (start_causes q start) (start_causes_rise q start) fine n a
    refused_not n some (inr t) = omega (arith, t.1.fewer)
