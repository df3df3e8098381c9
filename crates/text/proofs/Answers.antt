-- An answer that is no line is handed on as it is, and after one that is a line the next reader goes on from its place.
use Prim.Native.Nat.{ℕ}
use mathlib.Core.Path.{◌≡◌, refl, ap, sym, ◌∙◌, subst}
use mathlib.Core.List.{List, map}
use native.Mathlib.Omega.{arith}
use lib.ListN.{take, drop}
use Rattle.std.specs.Prelude.{Result, Ok, Err, IsErrAnd}
use Rattle.lists.specs.Entries.{at}
use Rattle.lists.specs.Rows.{laid}
use Rattle.model.specs.Model.{Model}
use Rattle.values.specs.Refusal.{number_of}
use Rattle.values.specs.declared.refusal.Refusal.{Refusal}
use Rattle.values.specs.declared.refusal.Refusal.TheVariants.{TextForm}
use Rattle.values.proofs.Refusing.{is_refused}
use Rattle.form.specs.Form.{model_text}
use Rattle.text.specs.declared.Counts.{Counts}
use Rattle.text.specs.declared.tables.Held.{Held}
use Rattle.text.specs.declared.cursor.Cursor.{Cursor}
use Rattle.text.specs.declared.cursor.Line.{Line}
use Rattle.text.specs.declared.cursor.Line.TheVariants.{Read, Ends, Refused}
use Rattle.form.specs.Readers.{Reading, Reader, on, place_of, symbols, count_line}
use Rattle.form.specs.Readers.Reading.{found, ends, refused}
use Rattle.text.specs.Answers.{settled}
use Rattle.text.specs.Answers.Outcome.{refusal}
use Rattle.form.specs.Print.{Count}
use Rattle.text.specs.Inside.{told, carried, nothing, first, bare, after, LineRead, taken, TextRead}
use Rattle.form.proofs.Readings.{found_same, ends_found, refused_found, symbols_found}
use Rattle.form.proofs.Inverse.{count_inverse}

-- the answer is no line
abbrev pub Stops : Line → Type 0
Stops l = (x y : ℕ) (c : Cursor) → l ≡ Read x y c → ⊥

no_stop : (x y : ℕ) (c : Cursor) → Stops (Read x y c) → ⊥
no_stop x y c t = t x y c refl

pub stopped : {A B : Type 0} (f : ℕ → ℕ → A) (g : ℕ → ℕ → B) (k : A → Reader B) (text : List ℕ) (l : Line) (o : Reading A)
    → told f text l ≡ o → Stops l → told g text l ≡ on o k
stopped f g k text (Read x y c) o e t = absurd (no_stop x y c t)
stopped f g k text Ends o e t = ap (λ r. on r k) e
stopped f g k text (Refused n) o e t = ap (λ r. on r k) e

pub handed : {A : Type 0} (f g : ℕ → ℕ → A) (text : List ℕ) (l : Line) (o : Reading A) → told f text l ≡ o → Stops l → told g text l ≡ o
handed f g text (Read x y c) o e t = absurd (no_stop x y c t)
handed f g text Ends o e t = e
handed f g text (Refused n) o e t = e

pub went : {A B : Type 0} (f : ℕ → ℕ → A) (k : A → Reader B) (text : List ℕ) (l : Line) (o : Reading A) {x y : ℕ} {c : Cursor}
    → told f text l ≡ o → l ≡ Read x y c → on o k ≡ k (f x y) (drop c.at text)
went f k text l o e q = ap (λ r. on r k) (sym e ∙ ap (told f text) q)

pub carries_none : (l : Line) (i : ℕ) → Stops l → at (carried l) i ≡ 0
carries_none (Read x y c) i t = absurd (no_stop x y c t)
carries_none Ends i t = refl
carries_none (Refused n) i t = refl

-- a line that was not read leaves its table, one that was is laid into it
pub unread : (g : ℕ → ℕ → List ℕ) (text : List ℕ) (l : Line) (o : Reading (List ℕ)) (to : ℕ) (before : List ℕ)
    → told g text l ≡ o → Stops l → LineRead o text to before before l
unread g text (Read x y c) o to before e t = absurd (no_stop x y c t)
unread g text Ends o to before e t = record { says = ap bare e; table = ap (λ r. after r to before) e }
unread g text (Refused n) o to before e t = record { says = ap bare e; table = ap (λ r. after r to before) e }

pub line_read : (text : List ℕ) (o : Reading (List ℕ)) (to : ℕ) (before now xs : List ℕ) (c : Cursor)
    → o ≡ found xs (drop c.at text) → now ≡ laid to xs before → LineRead o text to before now (Read 0 0 c)
line_read text o to before now xs c e q = record { says = sym (ap bare e); table = q ∙ sym (ap (λ r. after r to before) e) }

-- the value that a reading must have if it has one
pub whole : {A : Type 0} (v : A) (text : List ℕ) (l : Line) (o : Reading A) → ((a : A) (rest : List ℕ) → o ≡ found a rest → a ≡ v)
    → told nothing text l ≡ bare o → told (λ x y. v) text l ≡ o
whole v text (Read x y c) (found a s) h e = cc (h a s refl, (found_same e).1)
whole v text Ends ends h e = refl
whole v text (Refused n) (refused m) h e = cc
whole v text (Read x y c) ends h e = absurd (let z : ◌≡◌ {A = ℕ} 0 1 = cc in omega arith)
whole v text (Read x y c) (refused m) h e = absurd (let z : ◌≡◌ {A = ℕ} 0 1 = cc in omega arith)
whole v text Ends (found a s) h e = absurd (let z : ◌≡◌ {A = ℕ} 0 1 = cc in omega arith)
whole v text Ends (refused m) h e = absurd (let z : ◌≡◌ {A = ℕ} 0 1 = cc in omega arith)
whole v text (Refused n) (found a s) h e = absurd (let z : ◌≡◌ {A = ℕ} 0 1 = cc in omega arith)
whole v text (Refused n) ends h e = absurd (let z : ◌≡◌ {A = ℕ} 0 1 = cc in omega arith)

pub row_told : (signs : List ℕ) (n : ℕ) (text s : List ℕ) (l : Line) → told nothing text l ≡ bare (symbols signs n s)
    → told (λ x y. map (place_of signs) (take n s)) text l ≡ symbols signs n s
row_told signs n text s l e =
    whole (map (place_of signs) (take n s)) text l (symbols signs n s) (λ vs rest f. (symbols_found signs n s vs rest f).row) e

-- what a line that was read found, and the table with it
pub record Took (o : Reading (List ℕ)) (rest : List ℕ) (to : ℕ) (before now : List ℕ) : Type 0 where
  pub values : List ℕ
  pub line : o ≡ found values rest
  pub table : now ≡ laid to values before

pub took : (text : List ℕ) (to : ℕ) (before now : List ℕ) (o : Reading (List ℕ)) (l : Line) {x y : ℕ} {c : Cursor}
    → LineRead o text to before now l → l ≡ Read x y c → Took o (drop c.at text) to before now
took text to before now (found xs s) l r q =
    let e = found_same (sym (ap (told nothing text) q) ∙ r.says) in
    record { values = xs; line = ap (found xs) (sym e.1); table = r.table }
took text to before now ends l r q = absurd (let e = sym (ap (told nothing text) q) ∙ r.says in let z : ◌≡◌ {A = ℕ} 0 1 = cc in omega arith)
took text to before now (refused m) l r q = absurd (let e = sym (ap (told nothing text) q) ∙ r.says in let z : ◌≡◌ {A = ℕ} 0 1 = cc in omega arith)

-- where the line was not read, the reading is no more than the answer
pub missed : {A : Type 0} (g : ℕ → ℕ → A) (k : List ℕ → Reader A) (text : List ℕ) (o : Reading (List ℕ)) (l : Line)
    → told nothing text l ≡ bare o → Stops l → told g text l ≡ on o k
missed g k text o (Read x y c) e t = absurd (no_stop x y c t)
missed g k text (found a s) Ends e t = absurd (let z : ◌≡◌ {A = ℕ} 0 1 = cc in omega arith)
missed g k text ends Ends e t = refl
missed g k text (refused m) Ends e t = absurd (let z : ◌≡◌ {A = ℕ} 0 1 = cc in omega arith)
missed g k text (found a s) (Refused n) e t = absurd (let z : ◌≡◌ {A = ℕ} 0 1 = cc in omega arith)
missed g k text ends (Refused n) e t = absurd (let z : ◌≡◌ {A = ℕ} 0 1 = cc in omega arith)
missed g k text (refused m) (Refused n) e t = let q : number_of n ≡ m = cc in ap refused q

pub missed_table : (text : List ℕ) (to : ℕ) (before now : List ℕ) (o : Reading (List ℕ)) (l : Line) → LineRead o text to before now l → Stops l → now ≡ before
missed_table text to before now (found a s) (Read x y c) r t = absurd (no_stop x y c t)
missed_table text to before now (found a s) Ends r t = absurd (ends_found r.says)
missed_table text to before now (found a s) (Refused n) r t = absurd (refused_found r.says)
missed_table text to before now ends l r t = r.table
missed_table text to before now (refused m) l r t = r.table

-- what an answer carries is what its line carries, and no line was read where it has a refusal
pub taken_read : (l : Line) (x y : ℕ) (c : Cursor) → taken l ≡ Ok (x, y, c) → l ≡ Read x y c
taken_read (Read x' y' c') x y c q =
    let p : ◌≡◌ {A = ℕ × ℕ × Cursor} (x', y', c') (x, y, c) = cc in
    ap (λ (r : ℕ × ℕ × Cursor). Read r.0 r.1 r.2) p
taken_read Ends x y c q = absurd (let z : ◌≡◌ {A = ℕ} 0 1 = cc in omega arith)
taken_read (Refused e) x y c q = absurd (let z : ◌≡◌ {A = ℕ} 0 1 = cc in omega arith)

pub taken_stops : (l : Line) (e : Refusal) → taken l ≡ Err e → Stops l
taken_stops l e q x y c p = let z : ◌≡◌ {A = ℕ} 0 1 = cc (ap taken p) in absurd (omega arith)

-- a part that was not read ends the reading
pub outcome_refused : (f : ℕ → ℕ → Model) (text : List ℕ) (l : Line) (o : Reading Model) (e : Refusal) → taken l ≡ Err e → told f text l ≡ o → refusal (number_of e) ≡ settled o
outcome_refused f text (Read x y c) o e q t = absurd (let z : ◌≡◌ {A = ℕ} 0 1 = cc in omega arith)
outcome_refused f text Ends o e q t = let p : e ≡ TextForm = cc in ap (λ (k : Refusal). refusal (number_of k)) p ∙ ap settled t
outcome_refused f text (Refused m) o e q t = let p : e ≡ m = cc in ap (λ (k : Refusal). refusal (number_of k)) p ∙ ap settled t

-- the exit of a `?`: what was met is what the text comes to
pub text_refused : (text : List ℕ) (h : Held) (r : Result Counts Refusal) (e : Refusal) → IsErrAnd r (λ y. y ≡ e) → refusal (number_of e) ≡ settled (model_text text) → TextRead text h r
text_refused text h r e q o = subst (TextRead text h) (sym (is_refused r e q)) (record { says = o; edges = omega arith; nodes = omega arith })

-- a count that was read is in its range
pub counted : (k : List ℕ) (least most n : ℕ) (text left : List ℕ) (l : Line) {x y : ℕ} {c : Cursor} → told first text l ≡ count_line k least most n left → l ≡ Read x y c → Count least most x
counted k least most n text left l e q = ((count_inverse k least most n).back left _ _ (sym e ∙ ap (told first text) q)).1
