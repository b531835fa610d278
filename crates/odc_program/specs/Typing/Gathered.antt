-- Numbers that a tree names, in the order of its text: `f` says which an expression names by itself, `g` which a statement.
use Rattle.std.specs.Prelude.{ℕ, List, [], ◌∷◌, ◌++◌, Option, Some, None}
use Rattle.odc_program.specs.Trees.Tree
use Rattle.odc_program.specs.Trees.Tree.{Expr, expr, Kind, Exprs, none, more, Maybe, absent, present, Parts, no_parts, part, Lefts, no_lefts, left_, dropped, Rights, nothing, each, parted, Items, no_items, item, span, Over, from_to, through, Stmt, stmt, Form, MaybeStmt, no_stmt, some_stmt, Stmts, finish, follow, Cases, no_cases, one_case, default_case, TypeCases, no_types, type_case, default_type}

module _ (f : Kind → List ℕ) (g : Form → List ℕ) where
  abbrev mutual
    pub in_expr : Expr → List ℕ
    in_expr (expr t at k) = f k ++ in_kind k

    pub in_kind : Kind → List ℕ
    in_kind (Tree.field e n) = in_expr e
    in_kind (Tree.deref e) = in_expr e
    in_kind (Tree.index e i) = in_expr e ++ in_expr i
    in_kind (Tree.cut e low high) = in_expr e ++ (in_maybe low ++ in_maybe high)
    in_kind (Tree.column e n) = in_expr e
    in_kind (Tree.call n order es) = in_exprs es
    in_kind (Tree.call_value marked e es) = in_expr e ++ in_exprs es
    in_kind (Tree.builtin which order es) = in_exprs es
    in_kind (Tree.or_return e variant) = in_expr e
    in_kind (Tree.build home ps) = in_parts ps
    in_kind (Tree.unary o e) = in_expr e
    in_kind (Tree.binary o e i) = in_expr e ++ in_expr i
    in_kind (Tree.convert e) = in_expr e
    in_kind (Tree.inject n e) = in_expr e
    in_kind (Tree.assert_ n e) = in_expr e
    in_kind (Tree.test_ n e) = in_expr e
    in_kind (Tree.address_ e) = in_expr e
    in_kind (Tree.help h es) = in_exprs es
    in_kind _ = []

    pub in_exprs : Exprs → List ℕ
    in_exprs none = []
    in_exprs (more e es) = in_expr e ++ in_exprs es

    pub in_maybe : Maybe → List ℕ
    in_maybe absent = []
    in_maybe (present e) = in_expr e

    pub in_parts : Parts → List ℕ
    in_parts no_parts = []
    in_parts (part d e ps) = in_expr e ++ in_parts ps

  abbrev pub in_lefts : Lefts → List ℕ
  in_lefts no_lefts = []
  in_lefts (left_ e es) = in_expr e ++ in_lefts es
  in_lefts (dropped es) = in_lefts es

  abbrev pub in_rights : Rights → List ℕ
  in_rights nothing = []
  in_rights (each es) = in_exprs es
  in_rights (parted ts e) = in_expr e

  abbrev pub in_items : Items → List ℕ
  in_items no_items = []
  in_items (item e is) = in_expr e ++ in_items is
  in_items (span e i closed is) = in_expr e ++ (in_expr i ++ in_items is)

  abbrev pub in_over : Over → List ℕ
  in_over (from_to e i closed) = in_expr e ++ in_expr i
  in_over (through e by_place) = in_expr e

  abbrev mutual
    pub in_stmt : Stmt → List ℕ
    in_stmt (stmt at k) = g k ++ in_form k

    pub in_form : Form → List ℕ
    in_form (Tree.declare xs values) = in_rights values
    in_form (Tree.assign lefts values) = in_lefts lefts ++ in_rights values
    in_form (Tree.change o e i) = in_expr e ++ in_expr i
    in_form (Tree.eval e) = in_expr e
    in_form (Tree.block l body) = in_stmts body
    in_form (Tree.if_ init e body other) = in_maybe_stmt init ++ (in_expr e ++ (in_stmts body ++ in_stmts other))
    in_form (Tree.loop l init e post body) = in_maybe_stmt init ++ (in_maybe e ++ (in_maybe_stmt post ++ in_stmts body))
    in_form (Tree.range l over x k body) = in_over over ++ in_stmts body
    in_form (Tree.switch l init e cs) = in_maybe_stmt init ++ (in_maybe e ++ in_cases cs)
    in_form (Tree.type_switch l e cs) = in_expr e ++ in_types cs
    in_form (Tree.defer s) = in_stmt s
    in_form (Tree.return values) = in_rights values
    in_form (Tree.counted n l e body) = in_expr e ++ in_stmts body
    in_form _ = []

    pub in_maybe_stmt : MaybeStmt → List ℕ
    in_maybe_stmt no_stmt = []
    in_maybe_stmt (some_stmt s) = in_stmt s

    pub in_stmts : Stmts → List ℕ
    in_stmts finish = []
    in_stmts (follow s ss) = in_stmt s ++ in_stmts ss

    pub in_cases : Cases → List ℕ
    in_cases no_cases = []
    in_cases (one_case is body rest) = in_items is ++ (in_stmts body ++ in_cases rest)
    in_cases (default_case body rest) = in_stmts body ++ in_cases rest

    pub in_types : TypeCases → List ℕ
    in_types no_types = []
    in_types (type_case vs x body rest) = in_stmts body ++ in_types rest
    in_types (default_type x body rest) = in_stmts body ++ in_types rest

-- ---- the variables that a body begins, and the helpers that it calls
abbrev pub somes : List (Option ℕ) → List ℕ
somes [] = []
somes (Some x ∷ xs) = x ∷ somes xs
somes (None ∷ xs) = somes xs

abbrev pub homes : Kind → List ℕ
homes (Tree.build (Some x) ps) = x ∷ []
homes _ = []

abbrev pub names_of_cases : TypeCases → List (Option ℕ)
names_of_cases no_types = []
names_of_cases (type_case vs x body rest) = x ∷ names_of_cases rest
names_of_cases (default_type x body rest) = x ∷ names_of_cases rest

abbrev pub begins : Form → List ℕ
begins (Tree.declare xs values) = somes xs
begins (Tree.range l over x k body) = somes (x ∷ k ∷ [])
begins (Tree.type_switch l e cs) = somes (names_of_cases cs)
begins _ = []

abbrev pub begun_in : Stmts → List ℕ
begun_in body = in_stmts homes begins body

abbrev pub helps : Kind → List ℕ
helps (Tree.help h es) = h ∷ []
helps _ = []

abbrev pub no_numbers : Form → List ℕ
no_numbers k = []

abbrev pub helped_in : Stmts → List ℕ
helped_in body = in_stmts helps no_numbers body
