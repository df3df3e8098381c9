-- A relation between values that not, and, or keep holds of all rows and of the verdicts of two models if it holds of their labels.
use mathlib.Core.Path.{◌≡◌, refl, ap, ◌∙◌}
use Prim.Native.Nat.{ℕ, zero, suc, ◌+◌, ◌*◌, ◌-◌, ◌≤◌, ◌<◌}
use mathlib.Core.List.{List, [], ◌∷◌, ◌++◌}
use mathlib.Core.Bool.{Bool, true, false}
use mathlib.Core.Logic.{⊎_elim}
use native.Mathlib.Omega.{arith}
use lib.ListN.{length, get_or, length-append}
use Rattle.model.specs.Labels.{with_labels}
use Rattle.model.specs.Model.{Model, node_count}
use Rattle.model.specs.Kinds.{kind_of}
use Rattle.model.specs.declared.kinds.Kind.{Kind}
use Rattle.model.specs.declared.kinds.Kind.TheVariants.{Af, Ag, And, Atom, Au, Ax, Ef, Eg, Eu, Ex, Implies, Not, Or, True}
use Rattle.kripke.specs.Until.{everywhere, opposite, until}
use Rattle.ctl.specs.Nodes.{node_row, node_value}
use Rattle.ctl.specs.Rows.{model_verdict, rows_from, rows_of}
use Rattle.values.specs.Values.{neg, top}
use Rattle.lists.specs.Entries.{at}
use Rattle.lists.specs.Rows.{tab}
use Rattle.ctl.proofs.OverInitial.{initial_related}
use Rattle.kripke.proofs.Related.{Kept, RowRelated, equal_kept, next_related, small_kept, until_related}
use Rattle.lists.proofs.Numbers.{lt_or_le}
use Rattle.lists.proofs.Rows.{tab_at, tab_past}

pub record Kleene (Rel : ℕ → ℕ → Type 0) : Type 0 where
  pub kept : Kept Rel
  pub true_true : Rel top top
  pub turned : (a b : ℕ) → Rel a b → Rel (neg a) (neg b)

module _ (Rel : ℕ → ℕ → Type 0) (K : Kleene Rel) where
  -- two rows filled by related rules; past the end both have 0
  tab_related : (f g : ℕ → ℕ) (n : ℕ) → ((s : ℕ) → Rel (f s) (g s)) → RowRelated Rel K.kept (tab f n) (tab g n)
  tab_related f g n h s =
      ⊎_elim
      (λ (l : s < n). rw (tab_at f n s l, tab_at g n s l) (h s))
      (λ (l : n ≤ s). rw (tab_past f n s l, tab_past g n s l) K.kept.none)
      (lt_or_le s n)

  opposite_related : (n : ℕ) (L M : List ℕ) → RowRelated Rel K.kept L M → RowRelated Rel K.kept (opposite n L) (opposite n M)
  unfolding opposite
  opposite_related n L M l = tab_related (λ (s : ℕ). neg (at L s)) (λ (s : ℕ). neg (at M s)) n (λ s. K.turned (at L s) (at M s) (l s))

  -- an until whose left part is true everywhere
  eventually_related : (all : Bool) (es : List ℕ) (n : ℕ) (L M : List ℕ) → RowRelated Rel K.kept L M → (s : ℕ) → Rel (until all es (everywhere n) L n s) (until all es (everywhere n) M n s)
  unfolding everywhere
  eventually_related all es n L M l s = until_related Rel K.kept all es _ _ L M (tab_related (λ (t : ℕ). top) (λ (t : ℕ). top) n (λ t. K.true_true)) l n s

  -- two lists of as many rows, related at every node and state
  pub record RowsRelated (xs ys : List (List ℕ)) : Type 0 where
    pub count : length xs ≡ length ys
    pub here : (k s : ℕ) → Rel (at (get_or xs k []) s) (at (get_or ys k []) s)

  rows_more : (xs ys : List (List ℕ)) → RowsRelated xs ys → (x y : List ℕ) → RowRelated Rel K.kept x y → RowsRelated (xs ++ (x ∷ [])) (ys ++ (y ∷ []))
  rows_more xs ys r x y h = record { count = length-append xs (x ∷ []) ∙ omega (arith, length-append ys (y ∷ []), r.count); here = go xs ys r.count r.here }
    where
      go : (xs ys : List (List ℕ)) → length xs ≡ length ys → ((k s : ℕ) → Rel (at (get_or xs k []) s) (at (get_or ys k []) s)) → (k s : ℕ) → Rel (at (get_or (xs ++ (x ∷ [])) k []) s) (at (get_or (ys ++ (y ∷ [])) k []) s)
      go [] [] e r zero s = h s
      go [] [] e r (suc k) s = K.kept.none
      go [] (v ∷ ys) e r k s = absurd (omega arith)
      go (u ∷ xs) [] e r k s = absurd (omega arith)
      go (u ∷ xs) (v ∷ ys) e r zero s = r 0 s
      go (u ∷ xs) (v ∷ ys) e r (suc k) s = go xs ys (omega arith) (λ k s. r (suc k) s) k s

  module _ (m : Model) (labels' : List ℕ) (lab : (i : ℕ) → Rel (at m.labels i) (at labels' i)) where
    pub node_related : (k : Kind) (a : ℕ) (L M R Q : List ℕ) → RowRelated Rel K.kept L M → RowRelated Rel K.kept R Q → (s : ℕ) → Rel (node_value m k a L R s) (node_value (with_labels m labels') k a M Q s)
    unfolding node_value
    node_related True a L M R Q l r s = K.true_true
    node_related Atom a L M R Q l r s = lab (s * m.atoms + a)
    node_related Not a L M R Q l r s = K.turned (at L s) (at M s) (l s)
    node_related And a L M R Q l r s = K.kept.least (at L s) (at M s) (at R s) (at Q s) (l s) (r s)
    node_related Ex a L M R Q l r s = next_related Rel K.kept false m.transitions L M l s
    node_related Eu a L M R Q l r s = until_related Rel K.kept false m.transitions L M R Q l r m.states s
    node_related Au a L M R Q l r s = until_related Rel K.kept true m.transitions L M R Q l r m.states s
    node_related Or a L M R Q l r s = K.kept.greatest (at L s) (at M s) (at R s) (at Q s) (l s) (r s)
    node_related Implies a L M R Q l r s = K.kept.greatest (neg (at L s)) (neg (at M s)) (at R s) (at Q s) (K.turned (at L s) (at M s) (l s)) (r s)
    node_related Ax a L M R Q l r s = K.turned _ _ (next_related Rel K.kept false m.transitions _ _ (opposite_related m.states L M l) s)
    node_related Ef a L M R Q l r s = eventually_related false m.transitions m.states L M l s
    node_related Af a L M R Q l r s = eventually_related true m.transitions m.states L M l s
    node_related Eg a L M R Q l r s = K.turned _ _ (eventually_related true m.transitions m.states _ _ (opposite_related m.states L M l) s)
    node_related Ag a L M R Q l r s = K.turned _ _ (eventually_related false m.transitions m.states _ _ (opposite_related m.states L M l) s)

    rows_from_lem : (xs ys : List (List ℕ)) → RowsRelated xs ys → (ns : List ℕ) → RowsRelated (rows_from m xs ns) (rows_from (with_labels m labels') ys ns)
    unfolding rows_from node_row
    rows_from_lem xs ys h [] = h
    rows_from_lem xs ys h (k ∷ []) = h
    rows_from_lem xs ys h (k ∷ a ∷ []) = h
    rows_from_lem xs ys h (k ∷ a ∷ b ∷ ns) =
        rows_from_lem (xs ++ (_ ∷ [])) (ys ++ (_ ∷ []))
        (rows_more xs ys h _ _ (tab_related _ _ m.states (node_related (kind_of k) a (get_or xs a []) (get_or ys a []) (get_or xs b []) (get_or ys b []) (h.here a) (h.here b))))
        ns

    pub rows_related : (ns : List ℕ) → RowsRelated (rows_from m [] ns) (rows_from (with_labels m labels') [] ns)
    rows_related ns = rows_from_lem [] [] (record { count = refl; here = λ k s. K.kept.none }) ns

    -- and so of the smallest values of their last rows at the initial states
    pub verdict_related : Rel (model_verdict m) (model_verdict (with_labels m labels'))
    unfolding model_verdict rows_of
    verdict_related = initial_related Rel K.kept m.states m.initial _ _ ((rows_related m.nodes).here (node_count m.nodes - 1))

-- values stay within 0 to 2
pub small : Kleene (λ (a b : ℕ). a ≤ top)
small = record { kept = small_kept; true_true = omega arith; turned = λ a b h. omega arith }

-- equal values give equal values
pub equal : Kleene (λ (a b : ℕ). a ≡ b)
equal = record { kept = equal_kept; true_true = refl; turned = λ a b e. ap neg e }
