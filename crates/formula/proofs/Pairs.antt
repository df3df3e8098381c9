-- A pair read piece by piece, its bracket, the left part, its middle, the right part and its closing: what each way out of the reader shows.
use Prim.Native.Nat.{ℕ, ◌+◌, ◌-◌, ◌*◌, ◌<◌, ◌≤◌}
use mathlib.Core.Path.{◌≡◌, ap, sym, ◌∙◌, subst}
use mathlib.Core.List.{List, [], ◌∷◌, ◌++◌}
use mathlib.Core.Bool.{false}
use native.Mathlib.Omega.{arith}
use Rattle.lists.specs.Rows.{Put}
use Rattle.lists.proofs.Placed.{put_then}
use Rattle.values.specs.Limits.{most_nodes}
use Rattle.formula.specs.declared.signs.Sign.{Sign}
use Rattle.model.specs.Kinds.{kind_number}
use Rattle.formula.specs.Tree.{two, size, AtomsBelow}
use Rattle.formula.specs.Text.{closing, text_of}
use Rattle.formula.specs.Nodes.{pair_kind, nodes_from}
use Rattle.formula.specs.Inside.{begins, Bracket, opened, bracket_kind, PairIn, middle_in, kind_in, SignIs, NoSign, Only, NoneOf, Any, Term, NodePut, Found}
use Rattle.formula.proofs.Marks.{There, SignThere, sign_there, opened_some, middle_some, from}
use Rattle.formula.proofs.Shapes.{two_behind}
use Rattle.formula.proofs.Sorts.{pair_number}
use Rattle.formula.proofs.OneReading.{only_two, none_first, none_middle, none_second, none_closing}

-- the bracket and the left part, then the middle, then the right part: of a text u, with v behind the left part and z behind the right one
pub record LeftRead (u : List ℕ) (n : ℕ) (before mid : List ℕ) (r : Sign) (v : List ℕ) (m : ℕ) : Type 0 where
  pub within : List ℕ
  pub bracket : SignThere opened bracket_kind u r within
  pub left : Found within n before mid v m

pub record MiddleRead (u : List ℕ) (n : ℕ) (before mid : List ℕ) (r : Sign) (v : List ℕ) (m : ℕ) (s : Sign) (w : List ℕ) : Type 0 where
  pub front : LeftRead u n before mid r v m
  pub join : SignThere {A = PairIn front.bracket.which} middle_in kind_in v s w

pub record RightRead (u : List ℕ) (n : ℕ) (before mid late : List ℕ) (r : Sign) (v : List ℕ) (m : ℕ) (s : Sign) (w z : List ℕ) (k : ℕ) : Type 0 where
  pub front : MiddleRead u n before mid r v m s w
  pub right : Found w m mid late z k

pub left_read : {u before mid v : List ℕ} {n m : ℕ} {r : Sign} → SignIs opened bracket_kind u r
    → Found (from r.size u) n before mid v m → LeftRead u n before mid r v m
left_read {u} {r = r} a p = record { within = from r.size u; bracket = sign_there opened bracket_kind _ _ a; left = p }

pub middle_read : {u before mid v : List ℕ} {n m : ℕ} {r s : Sign} → LeftRead u n before mid r v m
    → ((b : Bracket) → r.kind ≡ bracket_kind b → SignIs {A = PairIn b} middle_in kind_in v s)
    → MiddleRead u n before mid r v m s (from s.size v)
middle_read x a = record { front = x; join = sign_there middle_in kind_in _ _ (a x.bracket.which x.bracket.kind) }

pub right_read : {u before mid late v z : List ℕ} {n m k : ℕ} {r s : Sign} → SignIs opened bracket_kind u r → Found (from r.size u) n before mid v m
    → ((b : Bracket) → r.kind ≡ bracket_kind b → SignIs {A = PairIn b} middle_in kind_in v s) → Found (from s.size v) m mid late z k
    → RightRead u n before mid late r v m s (from s.size v) z k
right_read a p j q = record { front = middle_read (left_read a p) j; right = q }

-- ---- a pair that breaks off

module _ {u : List ℕ} {r : Sign} where
  pub no_left : {w : List ℕ} → SignThere opened bracket_kind u r w → NoneOf Any w → NoneOf Term u
  no_left {w} t h = subst (NoneOf Term) (sym t.there.text) (none_first t.which w h)

  module _ {n m : ℕ} {before mid v : List ℕ} where
    pub no_middle : (x : LeftRead u n before mid r v m) → NoSign {A = PairIn x.bracket.which} middle_in v → NoneOf Term u
    no_middle x h = subst (NoneOf Term) (sym x.bracket.there.text) (none_middle x.bracket.which x.within x.left.tree v x.left.only h)

    module _ {s : Sign} {w : List ℕ} where
      -- the left part is the only formula there, also by what is read behind it
      left_only : (x : MiddleRead u n before mid r v m s w) → Only x.front.within x.front.left.tree (middle_in x.join.which ++ w)
      left_only x = subst (λ (l : List ℕ). Only x.front.within x.front.left.tree l) x.join.there.text x.front.left.only

      pub no_right : MiddleRead u n before mid r v m s w → NoneOf Any w → NoneOf Term u
      no_right x h =
          let t = x.front.bracket in
          subst (NoneOf Term) (sym t.there.text) (none_second t.which x.front.within x.front.left.tree x.join.which w (left_only x) h)

      pub no_close : {late z : List ℕ} {k : ℕ} → RightRead u n before mid late r v m s w z k → begins closing z ≡ false → NoneOf Term u
      no_close {z = z} y h =
          let x = y.front in
          let t = x.front.bracket in
          subst (NoneOf Term) (sym t.there.text)
          (none_closing t.which x.front.within x.front.left.tree x.join.which w (left_only x) y.right.tree z y.right.only h)

-- ---- and a whole one

-- the node space after a pair: the left part's nodes, the right part's, and its own
put_two : (before mid late after : List ℕ) (n m k : ℕ) (xs ys node node' : List ℕ) → (m ≤ most_nodes → Put before mid (3 * n) (3 * m) xs)
    → (k ≤ most_nodes → Put mid late (3 * m) (3 * k) ys) → m < k → NodePut k node late after → node ≡ node'
    → k + 1 ≤ most_nodes → Put before after (3 * n) (3 * (k + 1)) (xs ++ (ys ++ node'))
put_two before mid late after n m k xs ys node node' g h o p e l =
    put_then (g (omega arith)) (subst (λ (x : List ℕ). Put mid after (3 * m) (3 * (k + 1)) (ys ++ x)) e (put_then (h (omega arith)) (p (omega arith))))

pub found_two : {u before mid late after v w z end : List ℕ} {n m k : ℕ} {r s : Sign} → RightRead u n before mid late r v m s w z k
    → There closing z end → NodePut k (kind_number s.kind ∷ (m - 1) ∷ (k - 1) ∷ []) late after → Found u n before after end (k + 1)
unfolding size text_of nodes_from AtomsBelow
found_two {u} {before} {mid} {late} {after} {v} {w} {z} {end} {n} {m} {k} {r} {s} y c p =
    let x = y.front in
    let f = x.front.left in
    let g = y.right in
    let b = x.front.bracket.which in
    let j = x.join.which in
    let q = j.pair in
    let l = x.front.within in
    let e : u ≡ opened b ++ l = x.front.bracket.there.text in
    let right : w ≡ text_of g.tree ++ (closing ++ end) = g.spelt ∙ ap (λ (x : List ℕ). text_of g.tree ++ x) c.text in
    let left : l ≡ text_of f.tree ++ (middle_in j ++ w) = f.spelt ∙ ap (λ (x : List ℕ). text_of f.tree ++ x) x.join.there.text in
    let whole : l ≡ text_of f.tree ++ (middle_in j ++ (text_of g.tree ++ (closing ++ end))) = left ∙ ap (λ (x : List ℕ). text_of f.tree ++ (middle_in j ++ x)) right in
    let second : Only w g.tree (closing ++ end) = subst (λ (x : List ℕ). Only w g.tree x) c.text g.only in
    let root : m - 1 ≡ n + size f.tree - 1 = ap (λ (x : ℕ). x - 1) f.count in
    let last : k - 1 ≡ n + size f.tree + size g.tree - 1 = ap (λ (x : ℕ). x - 1) (g.count ∙ ap (λ (x : ℕ). x + size g.tree) f.count) in
    record {
      tree = two q f.tree g.tree;
      named = (f.named, g.named);
      spelt = e ∙ ap (λ (x : List ℕ). opened b ++ x) whole
          ∙ ap (λ (c : Bracket). opened c ++ (text_of f.tree ++ (middle_in j ++ (text_of g.tree ++ (closing ++ end))))) (sym j.within)
          ∙ sym (two_behind q f.tree g.tree end);
      only = subst (λ (x : List ℕ). Only x (two q f.tree g.tree) end) (sym e) (only_two b l f.tree j w (left_only x) g.tree end second);
      count = omega (arith, f.count, g.count);
      more = omega (arith, f.more, g.more);
      ahead = omega (arith, f.ahead, g.ahead, x.front.bracket.there.size, x.join.there.size, c.size, opened_some b, middle_some q);
      put = put_two before mid late after n m k (nodes_from n f.tree) (nodes_from (n + size f.tree) g.tree) (kind_number s.kind ∷ (m - 1) ∷ (k - 1) ∷ [])
          (pair_kind q ∷ (n + size f.tree - 1) ∷ (n + size f.tree + size g.tree - 1) ∷ []) f.put
          (subst (λ (x : ℕ). k ≤ most_nodes → Put mid late (3 * m) (3 * k) (nodes_from x g.tree)) f.count g.put) g.more p (cc (x.join.kind, pair_number q, root, last));
    }
