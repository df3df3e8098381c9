-- The form in parts, as the functions read it, is the whole form.
use Prim.Native.Nat.{ℕ}
use mathlib.Core.Path.{◌≡◌, refl}
use mathlib.Core.List.{List}
use Rattle.values.specs.Limits.{most_states, most_atoms}
use Rattle.values.specs.Signs.{letters}
use Rattle.form.specs.Readers.{Reading, Reader, on, count_line, row_line, lines}
use Rattle.form.specs.Readers.Reading.{found, ends, refused}
use Rattle.form.specs.Form.{key_states, key_atoms, key_init, key_label, bits, model_text}
use Rattle.text.specs.Inside.{rows_text, labelled_text, lists_text}

-- two steps and then a third: the second with the third after it, by what the first found
in_turn : {A B C : Type 0} (o : Reading A) (k : A → Reader B) (l : B → Reader C) (j : A → Reader C) → ((a : A) (s : List ℕ) → on (k a s) l ≡ j a s) → on (on o k) l ≡ on o j
in_turn (found a s) k l j h = h a s
in_turn ends k l j h = refl
in_turn (refused n) k l j h = refl

pub model_parts : (s : List ℕ) → on (labelled_text s) lists_text ≡ model_text s
unfolding model_text labelled_text rows_text lists_text
model_parts s =
    in_turn (count_line key_states 1 most_states 1 s) _ lists_text _
    (λ S t. in_turn (count_line key_atoms 0 most_atoms 2 t) _ lists_text _
    (λ A u. in_turn (row_line key_init bits S u) _ lists_text _
    (λ I v. in_turn (lines (row_line key_label letters A) S v) _ lists_text _ (λ L w. refl))))
