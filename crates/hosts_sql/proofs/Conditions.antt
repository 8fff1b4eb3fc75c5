-- What the conditions on a watch's row mean, whatever other tables there are.
use Rattle.std.proofs.Common.{◌≡◌, ℕ, suc, ◌-◌, codes, slice_get, Some, None, Option, Ok, List, [], ◌∷◌, true, refl}
use Rattle.std.specs.Prelude.{nat_lt}
use Rattle.sqlite_sql.specs.Term.{Term, col, op2}
use Rattle.sqlite_sql.specs.declared.ops.BinaryOp.TheVariants as by
use Rattle.sqlite_ast.specs.declared.Binary.TheVariants as binary
use Rattle.sqlite_ast.specs.declared.Expr.{Expr, out-Expr}
use Rattle.sqlite_ast.specs.declared.Expr.TheOpen.{Expr-F}
use Rattle.sqlite_ast.specs.Layer.{Layer}
use Rattle.sqlite_draft.specs.declared.join.Step.TheVariants.{Inner}
use Rattle.sqlite_schema.specs.declared.schema.Schema.{Schema}
use Rattle.sqlite_resolve.specs.Lowering.{fresh, max_budget, spend, begin, finish}
use Rattle.sqlite_resolve.specs.Scope.{Context}
use Rattle.sqlite_resolve.specs.Terms.{conjuncts}
use Rattle.sqlite_resolve.specs.Body.{tests}
use Rattle.sqlite_resolve.specs.Expr.{lower, lower_to, node, opened, passes, operation, both, combine, wanted_truth, tests_truth, tests_alias}
use Rattle.sqlite_resolve.specs.Write.{deleted, picked, over, simple}
use Rattle.sqlite_tied.specs.Compute.{everything}
use Rattle.hosts_sql.specs.Tables.{watches_table}
use Rattle.hosts_sql.proofs.Texts.{is_given, watch_tests, watches_tests}

-- a column is a parameter
abbrev pub Compares : List ℕ → ℕ → Layer → Type 0
Compares name n (Expr-F.Binary binary.Eq l r) = (out-Expr l ≡ Expr-F.Column None name) × (out-Expr r ≡ Expr-F.Parameter n)
Compares name n _ = ⊥

-- there is room in the budget for three nodes
abbrev Room : ℕ → Type 0
Room b = (nat_lt 1 b ≡ true) × (nat_lt 1 (b - 1) ≡ true) × (nat_lt 1 (b - 1 - 1) ≡ true)

and_is : (cx : Context) (d b one two : ℕ) (e a c : Expr) (x y : Term) → out-Expr e ≡ Expr-F.Binary binary.And a c → nat_lt 1 b ≡ true → lower_to d cx a (fresh 2 (b - 1)) ≡ Ok (x, fresh 2 one) → lower_to d cx c (fresh 2 one) ≡ Ok (y, fresh 2 two)
    → lower_to (suc d) cx e (fresh 2 b) ≡ Ok (op2 by.And x y, fresh 2 two)
unfolding lower_to node opened passes operation both combine wanted_truth tests_truth tests_alias spend begin finish
and_is cx d b one two e a c x y is room first second = rw (is, room, first, second)

module _ (schema : Schema) (at tree : ℕ) (got : slice_get schema.tables at ≡ Some (watches_table tree)) where
  abbrev pub cx : Context
  cx = over schema at (codes "watches")

  -- a comparison of this column with this parameter, as it is written, and as its term
  abbrev Reads : List ℕ → ℕ → ℕ → Type 0
  Reads name place p = (d b : ℕ) (e l r : Expr) → out-Expr e ≡ Expr-F.Binary binary.Eq l r → out-Expr l ≡ Expr-F.Column None name → out-Expr r ≡ Expr-F.Parameter p → Room b
      → lower_to (suc (suc d)) cx e (fresh 2 b) ≡ Ok (is_given place (p - 1), fresh 2 (b - 1 - 1 - 1))

  mon_1 : Reads (codes "mon") 1 1
  unfolding everything
  mon_1 d b e l r is left right room = rw (is, left, right, room.0, room.1, got, got, room.2, got)

  my_2 : Reads (codes "my") 2 2
  unfolding everything
  my_2 d b e l r is left right room = rw (is, left, right, room.0, room.1, got, got, room.2, got)

  my_1 : Reads (codes "my") 2 1
  unfolding everything
  my_1 d b e l r is left right room = rw (is, left, right, room.0, room.1, got, got, room.2, got)

  prog_3 : Reads (codes "prog") 3 3
  unfolding everything
  prog_3 d b e l r is left right room = rw (is, left, right, room.0, room.1, got, got, room.2, got)

  prog_2 : Reads (codes "prog") 3 2
  unfolding everything
  prog_2 d b e l r is left right room = rw (is, left, right, room.0, room.1, got, got, room.2, got)

  vers_4 : Reads (codes "vers") 4 4
  unfolding everything
  vers_4 d b e l r is left right room = rw (is, left, right, room.0, room.1, got, got, room.2, got)

  vers_3 : Reads (codes "vers") 4 3
  unfolding everything
  vers_3 d b e l r is left right room = rw (is, left, right, room.0, room.1, got, got, room.2, got)

  proc_5 : Reads (codes "proc") 5 5
  unfolding everything
  proc_5 d b e l r is left right room = rw (is, left, right, room.0, room.1, got, got, room.2, got)

  proc_4 : Reads (codes "proc") 5 4
  unfolding everything
  proc_4 d b e l r is left right room = rw (is, left, right, room.0, room.1, got, got, room.2, got)

  leaf : (name : List ℕ) (place p : ℕ) → Reads name place p → (d b : ℕ) (e : Expr) → Room b → Compares name p (out-Expr e) → lower_to (suc (suc d)) cx e (fresh 2 b) ≡ Ok (is_given place (p - 1), fresh 2 (b - 1 - 1 - 1))
  leaf name place p it d b e room h = go (out-Expr e) refl h
    where
      go : (layer : Layer) → out-Expr e ≡ layer → Compares name p layer → lower_to (suc (suc d)) cx e (fresh 2 b) ≡ Ok (is_given place (p - 1), fresh 2 (b - 1 - 1 - 1))
      go (Expr-F.Binary binary.Eq l r) is h = it d b e l r is h.0 h.1 room
      go _ is h = absurd h

  deleted_is : (e : Expr) (x : Term) (b : ℕ) → lower cx e (fresh 2 max_budget) ≡ Ok (x, fresh 2 b) → deleted schema at (watches_table tree) (Some e) ≡ Ok (simple (Inner tree ∷ []) (conjuncts x) (col 1 0 ∷ []))
  unfolding deleted picked tests
  deleted_is e x b is = rw is

-- the columns in turn, each with its parameter, the last first, under AND
abbrev pub Ands : List (List ℕ × ℕ) → List ℕ × ℕ → Expr → Layer → Type 0
Ands [] last e layer = Compares last.0 last.1 layer
Ands (key ∷ keys) last e (Expr-F.Binary binary.And a c) = Ands keys key a (out-Expr a) × Compares last.0 last.1 (out-Expr c)
Ands (key ∷ keys) last e _ = ⊥

module _ (schema : Schema) (at tree : ℕ) (got : slice_get schema.tables at ≡ Some (watches_table tree)) where
  -- one more comparison
  and_more : (d b left : ℕ) (keys : List (List ℕ × ℕ)) (key last : List ℕ × ℕ) (place : ℕ) (x : Term) (e : Expr)
      → ((a : Expr) → Ands keys key a (out-Expr a) → lower_to (suc (suc d)) (cx schema at tree got) a (fresh 2 (b - 1)) ≡ Ok (x, fresh 2 left)) → Reads schema at tree got last.0 place last.1
      → nat_lt 1 b ≡ true → Room left → Ands (key ∷ keys) last e (out-Expr e) → lower_to (suc (suc (suc d))) (cx schema at tree got) e (fresh 2 b) ≡ Ok (op2 by.And x (is_given place (last.1 - 1)), fresh 2 (left - 1 - 1 - 1))
  and_more d b left keys key last place x e others reads room rooms h = go (out-Expr e) refl h
    where
      go : (layer : Layer) → out-Expr e ≡ layer → Ands (key ∷ keys) last e layer → lower_to (suc (suc (suc d))) (cx schema at tree got) e (fresh 2 b) ≡ Ok (op2 by.And x (is_given place (last.1 - 1)), fresh 2 (left - 1 - 1 - 1))
      go (Expr-F.Binary binary.And a c) is h = and_is (cx schema at tree got) (suc (suc d)) b left (left - 1 - 1 - 1) e a c x _ is room (others a h.0) (leaf schema at tree got last.0 place last.1 reads d left c rooms h.1)
      go _ is h = absurd h

  abbrev pub watcher_keys : List (List ℕ × ℕ)
  watcher_keys = (codes "vers", 3) ∷ (codes "prog", 2) ∷ (codes "my", 1) ∷ []

  watcher_three : (e : Expr) → Ands ((codes "prog", 2) ∷ (codes "my", 1) ∷ []) (codes "vers", 3) e (out-Expr e) → lower_to 699 (cx schema at tree got) e (fresh 2 99999) ≡ Ok (op2 by.And (op2 by.And (is_given 2 0) (is_given 3 1)) (is_given 4 2), fresh 2 99988)
  watcher_three e h =
      and_more 696 99999 99991 ((codes "my", 1) ∷ []) (codes "prog", 2) (codes "vers", 3) 4 _ e
      (λ a. and_more 695 99998 99994 [] (codes "my", 1) (codes "prog", 2) 3 _ a (λ c. leaf schema at tree got (codes "my") 2 1 (my_1 schema at tree got) 695 99997 c (refl, refl, refl)) (prog_2 schema at tree got) refl (refl, refl, refl))
      (vers_3 schema at tree got) refl (refl, refl, refl) h

  pub watcher_deleted : (e : Expr) → Ands watcher_keys (codes "proc", 4) e (out-Expr e) → deleted schema at (watches_table tree) (Some e) ≡ Ok (simple (Inner tree ∷ []) watches_tests (col 1 0 ∷ []))
  watcher_deleted e h = deleted_is schema at tree got e _ 99985 (and_more 697 100000 99988 ((codes "prog", 2) ∷ (codes "my", 1) ∷ []) (codes "vers", 3) (codes "proc", 4) 5 _ e watcher_three (proc_4 schema at tree got) refl (refl, refl, refl) h)

  abbrev pub watch_keys : List (List ℕ × ℕ)
  watch_keys = (codes "vers", 4) ∷ (codes "prog", 3) ∷ (codes "my", 2) ∷ (codes "mon", 1) ∷ []

  watch_three : (e : Expr) → Ands ((codes "my", 2) ∷ (codes "mon", 1) ∷ []) (codes "prog", 3) e (out-Expr e) → lower_to 698 (cx schema at tree got) e (fresh 2 99998) ≡ Ok (op2 by.And (op2 by.And (is_given 1 0) (is_given 2 1)) (is_given 3 2), fresh 2 99987)
  watch_three e h =
      and_more 695 99998 99990 ((codes "mon", 1) ∷ []) (codes "my", 2) (codes "prog", 3) 3 _ e
      (λ a. and_more 694 99997 99993 [] (codes "mon", 1) (codes "my", 2) 2 _ a (λ c. leaf schema at tree got (codes "mon") 1 1 (mon_1 schema at tree got) 694 99996 c (refl, refl, refl)) (my_2 schema at tree got) refl (refl, refl, refl))
      (prog_3 schema at tree got) refl (refl, refl, refl) h

  pub watch_deleted : (e : Expr) → Ands watch_keys (codes "proc", 5) e (out-Expr e) → deleted schema at (watches_table tree) (Some e) ≡ Ok (simple (Inner tree ∷ []) watch_tests (col 1 0 ∷ []))
  watch_deleted e h =
      deleted_is schema at tree got e _ 99981 (and_more 697 100000 99984 ((codes "prog", 3) ∷ (codes "my", 2) ∷ (codes "mon", 1) ∷ []) (codes "vers", 4) (codes "proc", 5) 5 _ e
      (λ a. and_more 696 99999 99987 ((codes "my", 2) ∷ (codes "mon", 1) ∷ []) (codes "prog", 3) (codes "vers", 4) 4 _ a watch_three (vers_4 schema at tree got) refl (refl, refl, refl)) (proc_5 schema at tree got) refl (refl, refl, refl) h)

  -- the same of what a text may have as its condition
  abbrev pub IfAnds : List (List ℕ × ℕ) → List ℕ × ℕ → Option Expr → Type 0
  IfAnds keys last None = ⊥
  IfAnds keys last (Some e) = Ands keys last e (out-Expr e)

  pub watcher_test : (test : Option Expr) → IfAnds watcher_keys (codes "proc", 4) test → deleted schema at (watches_table tree) test ≡ Ok (simple (Inner tree ∷ []) watches_tests (col 1 0 ∷ []))
  watcher_test None h = absurd h
  watcher_test (Some e) h = watcher_deleted e h

  pub watch_test : (test : Option Expr) → IfAnds watch_keys (codes "proc", 5) test → deleted schema at (watches_table tree) test ≡ Ok (simple (Inner tree ∷ []) watch_tests (col 1 0 ∷ []))
  watch_test None h = absurd h
  watch_test (Some e) h = watch_deleted e h
