-- Reading gives no number but 1, 2, 6, 10, 18, 19 and 24.
use Prim.Native.Nat.{ℕ, zero, suc, ◌<◌}
use mathlib.Core.Path.{◌≡◌, refl, ap, sym, ◌∙◌, subst}
use mathlib.Core.List.{List, [], ◌∷◌, Memᴰ}
use mathlib.Core.Bool.{Bool, true, false, cond}
use native.Mathlib.Omega.{arith}
use lib.ListN.{length}
use lib.Dec.{ltb}
use Rattle.lists.specs.Entries.{at}
use Rattle.values.specs.Limits.{most_text}
use Rattle.model.specs.Model.{Model}
use Rattle.form.specs.Readers.{Reading}
use Rattle.form.specs.Readers.Reading.{found, ends, refused}
use Rattle.form.specs.Form.{model_text}
use Rattle.text.specs.Answers.{refusals, any_short, Tables, Outcome, settled, text_outcome, outcome, number_due, counts_due, ModelRead}
use Rattle.text.specs.Answers.Outcome.{refusal}
use Rattle.std.specs.Prelude.{Err}
use Rattle.values.specs.Refusal.{number_of}
use Rattle.values.specs.declared.refusal.Refusal.{Refusal}
use Rattle.form.proofs.Refusals.{Only, model_only}

-- a number of a list is one of its numbers
at_member : (xs : List ℕ) (i : ℕ) → i < length xs → Memᴰ (at xs i) xs
at_member [] i h = absurd (omega arith)
at_member (x ∷ xs) zero h = Memᴰ.head refl
at_member (x ∷ xs) (suc i) h = Memᴰ.tail (at_member xs i (omega arith))

pub only_these : (text : List ℕ) (before after : Tables) (e : Refusal) → ModelRead text before after (Err e) → Memᴰ (number_of e) refusals
unfolding outcome text_outcome
only_these text before after e p =
    by (any_short before) (ltb most_text (length text)) (outcome before text) refl p.number p.counts
  where
    n : ℕ
    n = number_of e

    there : (k : ℕ) → n ≡ k → Memᴰ k refusals → Memᴰ n refusals
    there k e m = subst (λ (x : ℕ). Memᴰ x refusals) (sym e) m

    numbered : Only (λ m. Memᴰ m refusals) (model_text text)
    numbered =
        model_only (λ m. Memᴰ m refusals) (at_member refusals 5 (omega arith)) (at_member refusals 0 (omega arith)) (at_member refusals 1 (omega arith)) (at_member refusals 2 (omega arith))
        (at_member refusals 3 (omega arith)) text

    all : (o : Reading Model) → Only (λ m. Memᴰ m refusals) o → n ≡ number_due (settled o) → [] ≡ counts_due (settled o) → Memᴰ n refusals
    all (found m s) h q c = absurd (let z : ◌≡◌ {A = ℕ} 0 1 = cc in omega arith)
    all ends h q c = there 19 q (at_member refusals 5 (omega arith))
    all (refused m) h q c = there m q h

    by : (x y : Bool) (o : Outcome) → o ≡ cond x (refusal 24) (cond y (refusal 18) (settled (model_text text))) → n ≡ number_due o → [] ≡ counts_due o → Memᴰ n refusals
    by true y o e q c = there 24 (q ∙ ap number_due e) (at_member refusals 6 (omega arith))
    by false true o e q c = there 18 (q ∙ ap number_due e) (at_member refusals 4 (omega arith))
    by false false o e q c = all (model_text text) numbered (q ∙ ap number_due e) (c ∙ ap counts_due e)
