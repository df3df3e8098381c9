-- Laws of `best`: over joined lists, through a rule, against another list, and by its levels.
use mathlib.Core.Path.{◌≡◌, refl, sym, ap, ◌∙◌, subst}
use Prim.Native.Nat.{ℕ, min, max, ◌≤◌}
use native.Mathlib.Omega.{arith}
use mathlib.Core.List.{List, [], ◌∷◌, ◌++◌, map, map-append, append-nil, Memᴰ}
use mathlib.Core.Logic.{◌⊎◌, ⊎_elim}
use Rattle.lists.specs.Entries.{Some, All}
use Rattle.lists.specs.Rows.{each}
use Rattle.lists.specs.Choosing.{best}
use Rattle.lists.proofs.Entries.{some_map, some_append}

-- what a loop holds that takes one entry after the other
unfoldable pub run : (ℕ → ℕ → ℕ) → ℕ → List ℕ → ℕ
run op a [] = a
run op a (x ∷ xs) = run op (op a x) xs

pub best_cons : (op : ℕ → ℕ → ℕ) (x : ℕ) (xs : List ℕ) → Some xs → best op (x ∷ xs) ≡ op x (best op xs)
unfolding best
best_cons op x [] h = absurd h
best_cons op x (y ∷ ys) h = refl

-- the greatest needs no second entry
pub most_cons : (x : ℕ) (xs : List ℕ) → best max (x ∷ xs) ≡ max x (best max xs)
unfolding best
most_cons x [] = omega arith
most_cons x (y ∷ ys) = refl

-- a rule that takes op to another takes the best to that other's
pub best_map : (op op' : ℕ → ℕ → ℕ) (f : ℕ → ℕ) → ((a b : ℕ) → f (op a b) ≡ op' (f a) (f b)) → (xs : List ℕ) → Some xs → best op' (map f xs) ≡ f (best op xs)
unfolding best
best_map op op' f h [] s = absurd s
best_map op op' f h (x ∷ []) s = refl
best_map op op' f h (x ∷ y ∷ ys) s = ap (op' (f x)) (best_map op op' f h (y ∷ ys) tt) ∙ sym (h x (best op (y ∷ ys)))

module _ (op : ℕ → ℕ → ℕ) (assoc : (a b c : ℕ) → op (op a b) c ≡ op a (op b c)) where
  pub best_append : (xs ys : List ℕ) → Some xs → Some ys → best op (xs ++ ys) ≡ op (best op xs) (best op ys)
  unfolding best
  best_append [] ys s t = absurd s
  best_append (x ∷ []) ys s t = best_cons op x ys t
  best_append (x ∷ y ∷ xs) ys s t = ap (op x) (best_append (y ∷ xs) ys tt t) ∙ sym (assoc x (best op (y ∷ xs)) (best op ys))

  -- over joined lists, each with an entry: the best of the parts' bests
  pub best_each : (P : ℕ → Type 0) (u : List ℕ → ℕ) (g : ℕ → List (List ℕ)) → ((t : ℕ) → P t → Some (g t)) → (ts : List ℕ) → All P ts → Some ts
      → Some (each g ts) × (best op (map u (each g ts)) ≡ best op (map (λ (t : ℕ). best op (map u (g t))) ts))
  unfolding best each
  best_each P u g some [] a s = absurd s
  best_each P u g some (t ∷ []) a s = (some_append (g t) [] (some t a.0), ap (λ (ws : List (List ℕ)). best op (map u ws)) (append-nil (g t)))
  best_each P u g some (t ∷ t' ∷ ts) a s =
      let later = best_each P u g some (t' ∷ ts) a.1 tt in (
        some_append (g t) (each g (t' ∷ ts)) (some t a.0),
        ap (best op) (map-append u (g t) (each g (t' ∷ ts)))
            ∙ best_append (map u (g t)) (map u (each g (t' ∷ ts))) (some_map u (g t) (some t a.0)) (some_map u (each g (t' ∷ ts)) later.0)
            ∙ ap (op (best op (map u (g t)))) later.1,
      )

  -- a loop that keeps the best so far, begun with a value that changes nothing
  pub run_best : (x : ℕ) (xs : List ℕ) → run op x xs ≡ best op (x ∷ xs)
  unfolding run best
  run_best x [] = refl
  run_best x (y ∷ []) = refl
  run_best x (y ∷ z ∷ zs) = run_best (op x y) (z ∷ zs) ∙ assoc x y (best op (z ∷ zs))

module _ {A : Type 0} (op : ℕ → ℕ → ℕ) (f : A → ℕ) where
  -- the best is the value of an entry
  pub best_picked : ((a b : ℕ) → (op a b ≡ a) ⊎ (op a b ≡ b)) → (xs : List A) → Some xs → (x : A) × Memᴰ x xs × (best op (map f xs) ≡ f x)
  unfolding best
  best_picked h [] s = absurd s
  best_picked h (x ∷ []) s = (x, Memᴰ.head refl, refl)
  best_picked h (x ∷ y ∷ ys) s =
      let later = best_picked h (y ∷ ys) tt in
      ⊎_elim (λ e. (x, Memᴰ.head refl, e)) (λ e. (later.0, Memᴰ.tail later.1, e ∙ later.2)) (h (f x) (best op (map f (y ∷ ys))))

  -- and is no worse than any
  pub best_bounds : (No-worse : ℕ → ℕ → Type 0) → ((a : ℕ) → No-worse a a) → ((a b c : ℕ) → No-worse b c → No-worse (op a b) c) → ((a b : ℕ) → No-worse (op a b) a) → (xs : List A) (x : A) → Memᴰ x xs → No-worse (best op (map f xs)) (f x)
  unfolding best
  best_bounds R same right left [] x m = elim m [ ]
  best_bounds R same right left (y ∷ []) x (Memᴰ.head e) = subst (λ (z : A). R (f y) (f z)) (sym e) (same (f y))
  best_bounds R same right left (y ∷ []) x (Memᴰ.tail m) = elim m [ ]
  best_bounds R same right left (y ∷ z ∷ zs) x (Memᴰ.head e) = subst (λ (v : A). R (op (f y) (best op (map f (z ∷ zs)))) (f v)) (sym e) (left (f y) (best op (map f (z ∷ zs))))
  best_bounds R same right left (y ∷ z ∷ zs) x (Memᴰ.tail m) = right (f y) (best op (map f (z ∷ zs))) (f x) (best_bounds R same right left (z ∷ zs) x m)

  -- a relation that op keeps holds of two bests if it holds entry by entry
  pub best_related : (g : A → ℕ) (Rel : ℕ → ℕ → Type 0) → Rel 0 0 → ((a b x y : ℕ) → Rel a b → Rel x y → Rel (op a x) (op b y)) → (xs : List A) → All (λ (x : A). Rel (f x) (g x)) xs → Rel (best op (map f xs)) (best op (map g xs))
  unfolding best
  best_related g Rel none keeps [] a = none
  best_related g Rel none keeps (x ∷ []) a = a.0
  best_related g Rel none keeps (x ∷ y ∷ ys) a = keeps (f x) (g x) (best op (map f (y ∷ ys))) (best op (map g (y ∷ ys))) a.0 (best_related g Rel none keeps (y ∷ ys) a.1)

module _ {A : Type 0} (f : A → ℕ) where
  -- the least is at most any, the greatest at least any
  pub least_bounds : (xs : List A) (x : A) → Memᴰ x xs → best min (map f xs) ≤ f x
  least_bounds = best_bounds min f (λ (a b : ℕ). a ≤ b) (λ a. omega arith) (λ a b c l. omega arith) (λ a b. omega arith)

  pub greatest_bounds : (xs : List A) (x : A) → Memᴰ x xs → f x ≤ best max (map f xs)
  greatest_bounds = best_bounds max f (λ (a b : ℕ). b ≤ a) (λ a. omega arith) (λ a b c l. omega arith) (λ a b. omega arith)
