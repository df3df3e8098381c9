-- What each way out of the readers shows, from what the parts were.
use Prim.Native.Nat.{ℕ, ◌+◌, ◌-◌, ◌*◌, ◌≤◌}
use mathlib.Core.Path.{◌≡◌, refl, ap, sym, ◌∙◌, subst}
use mathlib.Core.List.{List, [], ◌∷◌, ◌++◌}
use native.Mathlib.Omega.{arith}
use lib.ListN.{drop, length-drop}
use Rattle.lists.specs.Rows.{Put}
use Rattle.lists.proofs.Placed.{put_then}
use Rattle.values.specs.Limits.{most_nodes}
use Rattle.values.specs.Signs.{decimal}
use Rattle.formula.specs.declared.signs.Sign.{Sign}
use Rattle.std.specs.Prelude.{Option, Some, None}
use Rattle.formula.specs.declared.place.Place.{Place}
use Rattle.model.specs.Kinds.{kind_number}
use Rattle.formula.specs.Tree.{TRUE, ATOM, one, size, AtomsBelow}
use Rattle.formula.specs.Text.{sign, text_of}
use Rattle.formula.specs.Nodes.{prefix_kind, nodes_from}
use Rattle.formula.specs.Inside.{opened, AtomFound, prefix_named, NoAtom, NoSign, Only, NoneOf, Any, Term, Leaf, NodePut, Found, Parses}
use Rattle.formula.proofs.Marks.{There, SignThere, prefix_some, from, rest_is}
use Rattle.formula.proofs.Shapes.{one_behind}
use Rattle.formula.proofs.Sorts.{prefix_number}
use Rattle.formula.proofs.OneReading.{only_true, only_atom, only_one, none_atom, none_term, none_any}

pub no_atom : {u w : List ℕ} → There (112 ∷ []) u w → NoAtom w → NoneOf Leaf u
no_atom {w = w} t h = subst (NoneOf Leaf) (sym t.text) (none_atom w h)

-- one node more behind those of the parts
put_last : (before mid after : List ℕ) (n m : ℕ) (xs node node' : List ℕ) → (m ≤ most_nodes → Put before mid (3 * n) (3 * m) xs) → NodePut m node mid after → node ≡ node'
    → m + 1 ≤ most_nodes → Put before after (3 * n) (3 * (m + 1)) (xs ++ node')
put_last before mid after n m xs node node' h k e l =
    subst (λ (x : List ℕ). Put before after (3 * n) (3 * (m + 1)) (xs ++ x)) e (put_then (h (omega arith)) (k (omega arith)))

pub found_true : {u w before after : List ℕ} {n : ℕ} → There (84 ∷ []) u w → NodePut n (0 ∷ 0 ∷ 0 ∷ []) before after
    → Found u n before after w (n + 1)
unfolding size text_of nodes_from AtomsBelow
found_true {w = w} t k = record {
  tree = TRUE;
  named = tt;
  spelt = t.text;
  only = subst (λ (x : List ℕ). Only x TRUE w) (sym t.text) (only_true w);
  count = refl;
  more = omega arith;
  ahead = omega (arith, t.size);
  put = λ l. k (omega arith);
}

pub found_atom : {u w before after : List ℕ} {n a size : ℕ} → There (112 ∷ []) u w → AtomFound w a size → NodePut n (1 ∷ a ∷ 0 ∷ []) before after
    → Found u n before after (from size w) (n + 1)
unfolding size text_of nodes_from AtomsBelow
found_atom {u} {w} {before} {after} {n} {a} {size} t f k = rw (rest_is size w) (
    let v = drop size w in
    let e : u ≡ 112 ∷ (decimal a ++ v) = t.text ∙ ap (λ (x : List ℕ). 112 ∷ x) f.spelt in
    record {
      tree = ATOM a;
      named = f.named;
      spelt = e;
      only = subst (λ (x : List ℕ). Only x (ATOM a) v) (sym e) (only_atom a v f.named f.stops);
      count = refl;
      more = omega arith;
      ahead = omega (arith, t.size, length-drop size w);
      put = λ l. k (omega arith);
    })

pub found_one : {u w v before mid after : List ℕ} {n m : ℕ} {r : Sign} → SignThere sign prefix_named u r w → Found w n before mid v m
    → NodePut m (kind_number r.kind ∷ (m - 1) ∷ 0 ∷ []) mid after → Found u n before after v (m + 1)
unfolding size text_of nodes_from AtomsBelow
found_one {u} {w} {v} {before} {mid} {after} {n} {m} {r} t f k =
    let p = t.which in
    let e : u ≡ sign p ++ w = t.there.text in
    let root : m - 1 ≡ n + size f.tree - 1 = ap (λ (x : ℕ). x - 1) f.count in
    record {
      tree = one p f.tree;
      named = f.named;
      spelt = e ∙ ap (λ (x : List ℕ). sign p ++ x) f.spelt ∙ sym (one_behind p f.tree v);
      only = subst (λ (x : List ℕ). Only x (one p f.tree) v) (sym e) (only_one p w f.tree v f.only);
      count = omega (arith, f.count);
      more = omega (arith, f.more);
      ahead = omega (arith, f.ahead, t.there.size, prefix_some p);
      put = put_last before mid after n m (nodes_from n f.tree) (kind_number r.kind ∷ (m - 1) ∷ 0 ∷ []) (prefix_kind p ∷ (n + size f.tree - 1) ∷ 0 ∷ []) f.put k (cc (t.kind, prefix_number p, root));
    }

-- a term is a formula where no prefix stands, a leaf is a term where no pair begins
pub parses_any : (place : Place) (before after : List ℕ) (to : Place) (r : Option (Unit {0})) → NoSign sign place.rest.now
    → Parses Term place before after to r → Parses Any place before after to r
parses_any place before after to (Some p) x h = h
parses_any place before after to None x h = none_any place.rest.now x h

pub parses_term : (place : Place) (before after : List ℕ) (to : Place) (r : Option (Unit {0})) → NoSign opened place.rest.now
    → Parses Leaf place before after to r → Parses Term place before after to r
parses_term place before after to (Some p) x h = h
parses_term place before after to None x h = none_term place.rest.now x h
