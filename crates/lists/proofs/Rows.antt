-- Laws of `tab` and `Filled`: a row entry by entry, and a loop that fills one from the front.
use mathlib.Core.Path.{◌≡◌, refl, sym, ap, ◌∙◌}
use Prim.Native.Nat.{ℕ, zero, suc, ◌+◌, ◌-◌, ◌≤◌, ◌<◌}
use mathlib.Core.List.{List, [], ◌∷◌, ◌++◌, map, append_assoc, map-append}
use mathlib.Core.Logic.{⊎_elim}
use native.Mathlib.Omega.{arith}
use native.Mathlib.Numerals.{add-one}
use lib.ListN.{length, get_or, take, drop, set, replicate, length-append, length-drop, get_or-append, get_or-eq_default}
use lib.Seq.{drop-cons, set_at, take_at, drop_at, get_or_at, drop-nil}
use Rattle.lists.specs.Entries.{at}
use Rattle.lists.specs.Rows.{Filled, tab}
use Rattle.lists.proofs.Numbers.{last_or_before}

pub length_tab : (f : ℕ → ℕ) (n : ℕ) → length (tab f n) ≡ n
unfolding tab
length_tab f zero = refl
length_tab f (suc n) = length-append (tab f n) (f n ∷ []) ∙ omega (arith, length_tab f n)

pub tab_cons : (f : ℕ → ℕ) (n : ℕ) → tab f (suc n) ≡ f 0 ∷ tab (λ (i : ℕ). f (suc i)) n
unfolding tab
tab_cons f zero = refl
tab_cons f (suc n) = ap (λ (r : List ℕ). r ++ (f (suc n) ∷ [])) (tab_cons f n)

pub tab_map : (g f : ℕ → ℕ) (n : ℕ) → tab (λ (i : ℕ). g (f i)) n ≡ map g (tab f n)
unfolding tab
tab_map g f zero = refl
tab_map g f (suc n) = ap (λ (r : List ℕ). r ++ (g (f n) ∷ [])) (tab_map g f n) ∙ sym (map-append g (tab f n) (f n ∷ []))

pub tab_same : (f g : ℕ → ℕ) (n : ℕ) → ((s : ℕ) → s < n → f s ≡ g s) → tab f n ≡ tab g n
unfolding tab
tab_same f g zero h = refl
tab_same f g (suc n) h = cc (h n (omega arith), tab_same f g n (λ s l. h s (omega arith)))

pub tab_at : (f : ℕ → ℕ) (n s : ℕ) → s < n → at (tab f n) s ≡ f s
unfolding tab
tab_at f zero s h = absurd (omega arith)
tab_at f (suc n) s h =
    ⊎_elim
    (λ (e : s ≡ n). rw e (get_or_at (tab f n) (f n) [] 0 n (length_tab f n)))
    (λ (l : s < n). get_or-append (tab f n) (f n ∷ []) 0 s (rw (length_tab f n) l) ∙ tab_at f n s l)
    (last_or_before h)

-- and behind it nothing
pub tab_past : (f : ℕ → ℕ) (n s : ℕ) → n ≤ s → at (tab f n) s ≡ 0
tab_past f n s h = get_or-eq_default (tab f n) 0 {n = s} (rw (length_tab f n) h)

-- a list is the row of its entries
pub tab_own : (xs : List ℕ) → tab (at xs) (length xs) ≡ xs
unfolding tab
tab_own [] = refl
tab_own (x ∷ xs) = tab_cons (at (x ∷ xs)) (length xs) ∙ ap (λ (r : List ℕ). x ∷ r) (tab_own xs)

-- the filling loop: before the first entry, one entry more, and the last
pub filled_none : (f : ℕ → ℕ) (d : List ℕ) → Filled f 0 d d
unfolding tab
filled_none f d = refl

pub filled_more : (f : ℕ → ℕ) (s : ℕ) (d out : List ℕ) (v : ℕ) → Filled f s d out → s < length d → v ≡ f s → Filled f (s + 1) d (set out s v)
unfolding tab
filled_more f s d out v e h q =
    ap (λ (l : List ℕ). set l s v) (e ∙ ap (λ (r : List ℕ). tab f s ++ r) (drop-cons d s 0 h))
    ∙ set_at (tab f s) (get_or d s 0) (drop (suc s) d) v s (length_tab f s)
    ∙ ap (λ (x : ℕ). tab f s ++ x ∷ drop (suc s) d) q
    ∙ sym (append_assoc (tab f s) (f s ∷ []) (drop (suc s) d))
    ∙ ap (λ (k : ℕ). tab f k ++ drop k d) (sym (add-one s))

pub filled_end : (f : ℕ → ℕ) (s n : ℕ) (d out : List ℕ) → Filled f s d out → s ≤ n → n ≤ s → Filled f n d out
filled_end f s n d out e h k = let q : s ≡ n = omega arith in e ∙ ap (λ (m : ℕ). tab f m ++ drop m d) q

pub filled_length : (f : ℕ → ℕ) (s : ℕ) (d out : List ℕ) → Filled f s d out → s ≤ length d → length out ≡ length d
filled_length f s d out e h = ap length e ∙ length-append (tab f s) (drop s d) ∙ omega (arith, length_tab f s, length-drop s d)

-- what a filled list holds: its front, an entry of it, and what was there behind it
pub filled_front : (f : ℕ → ℕ) (n : ℕ) (d out : List ℕ) → Filled f n d out → take n out ≡ tab f n
filled_front f n d out e = ap (take n) e ∙ take_at (tab f n) (drop n d) n (length_tab f n)

pub filled_at : (f : ℕ → ℕ) (n : ℕ) (d out : List ℕ) → Filled f n d out → (s : ℕ) → s < n → at out s ≡ f s
filled_at f n d out e s h = ap (λ (l : List ℕ). at l s) e ∙ get_or-append (tab f n) (drop n d) 0 s (rw (length_tab f n) h) ∙ tab_at f n s h

pub filled_behind : (f : ℕ → ℕ) (n : ℕ) (d out : List ℕ) → Filled f n d out → drop n out ≡ drop n d
filled_behind f n d out e = ap (drop n) e ∙ drop_at (tab f n) (drop n d) n (length_tab f n)

-- filled once more: the later rule counts
pub filled_again : (f g : ℕ → ℕ) (n : ℕ) (d out out' : List ℕ) → Filled g n d out → Filled f n out out' → Filled f n d out'
filled_again f g n d out out' e e' = e' ∙ ap (λ (r : List ℕ). tab f n ++ r) (filled_behind g n d out e)

pub filled_self : (f : ℕ → ℕ) (n : ℕ) (d out : List ℕ) → Filled f n d out → Filled f n out out
filled_self f n d out e = e ∙ ap (λ (r : List ℕ). tab f n ++ r) (sym (filled_behind f n d out e))

pub filled_same : (f g : ℕ → ℕ) (n : ℕ) (d out : List ℕ) → ((s : ℕ) → s < n → f s ≡ g s) → Filled f n d out → Filled g n d out
filled_same f g n d out h e = e ∙ ap (λ (r : List ℕ). r ++ drop n d) (tab_same f g n h)

-- filled with the front of a list that was filled by a rule
pub filled_via : (f : ℕ → ℕ) (n : ℕ) (d source before after : List ℕ) → Filled f n d source → Filled (at source) n before after → Filled f n before after
filled_via f n d source before after e = filled_same (at source) f n before after (filled_at f n d source e)

-- a list of one value, from a place on
pub drop_replicate : (n m a : ℕ) → drop n (replicate m a) ≡ replicate (m - n) a
drop_replicate n zero a = let e : 0 - n ≡ 0 = omega arith in drop-nil n ∙ ap (λ (k : ℕ). replicate k a) (sym e)
drop_replicate zero (suc m) a = let e : suc m ≡ suc m - 0 = omega arith in ap (λ (k : ℕ). replicate k a) e
drop_replicate (suc n) (suc m) a = let e : m - n ≡ suc m - suc n = omega arith in drop_replicate n m a ∙ ap (λ (k : ℕ). replicate k a) e
