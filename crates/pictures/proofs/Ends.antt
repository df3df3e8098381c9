-- Lists that grow at their end.
use mathlib.Core.Path.{◌≡◌, sym, ap, ◌∙◌}
use Prim.Native.Nat.{ℕ, suc, ◌+◌, ◌-◌, ◌<◌}
use mathlib.Core.List.{List, [], ◌∷◌, ◌++◌, append_assoc}
use native.Mathlib.Numerals.{add-one}
use native.Mathlib.Omega.{arith}
use lib.ListN.{length, get_or, set, drop, length-append, get_or-append}
use lib.Seq.{drop-cons, set_at, get_or_at}
use Rattle.lists.specs.Entries.{at, All}
use Rattle.kripke.specs.Transitions.{Edge}
use Rattle.kripke.specs.Walks.{Begins, Joined}
use Rattle.pictures.specs.Pictures.{last}

-- one entry more behind the entries that were put in
pub put_end : (w before now : List ℕ) (n s : ℕ) → length w ≡ n → n < length before → now ≡ w ++ drop n before → set now n s ≡ (w ++ (s ∷ [])) ++ drop (n + 1) before
put_end w before now n s e h is =
    ap (λ (l : List ℕ). set l n s) (is ∙ ap (λ (r : List ℕ). w ++ r) (drop-cons before n 0 h))
    ∙ set_at w (get_or before n 0) (drop (suc n) before) s n e
    ∙ sym (append_assoc w (s ∷ []) (drop (suc n) before))
    ∙ ap (λ (k : ℕ). (w ++ (s ∷ [])) ++ drop k before) (sym (add-one n))

pub length_end : (w : List ℕ) (s : ℕ) → length (w ++ (s ∷ [])) ≡ length w + 1
length_end w s = length-append w (s ∷ [])

pub last_end : (w : List ℕ) (s : ℕ) → last (w ++ (s ∷ [])) ≡ s
last_end w s = let e : length w ≡ length (w ++ (s ∷ [])) - 1 = omega (arith, length_end w s) in get_or_at w s [] 0 (length (w ++ (s ∷ [])) - 1) e

pub at_end : (w : List ℕ) (s i : ℕ) → i < length w → at (w ++ (s ∷ [])) i ≡ at w i
at_end w s i h = get_or-append w (s ∷ []) 0 i h

pub begins_more : (x : ℕ) (w v : List ℕ) → Begins x w → Begins x (w ++ v)
begins_more x [] v b = absurd b
begins_more x (y ∷ w) v b = b

pub joined_more : (es w : List ℕ) (s t : ℕ) → Joined es (w ++ (s ∷ [])) → Edge es s t → Joined es ((w ++ (s ∷ [])) ++ (t ∷ []))
joined_more es [] s t j e = (e, tt)
joined_more es (x ∷ []) s t j e = (j.0, (e, tt))
joined_more es (x ∷ y ∷ w) s t j e = (j.0, joined_more es (y ∷ w) s t j.1 e)

pub all_more : (P : ℕ → Type 0) (w : List ℕ) (s : ℕ) → All P w → P s → All P (w ++ (s ∷ []))
all_more P [] s a p = (p, tt)
all_more P (x ∷ w) s a p = (a.0, all_more P w s a.1 p)

pub all_last : (P : ℕ → Type 0) (w : List ℕ) (s : ℕ) → All P (w ++ (s ∷ [])) → P s
all_last P [] s a = a.0
all_last P (x ∷ w) s a = all_last P w s a.1
