-- Weights that are equal node by node are equal.
use Rattle.std.proofs.Common.{◌≡◌, ℕ, ◌&&◌, Bool, true, false, refl, sym, ◌∙◌, arith}
use Rattle.odc_program.specs.declared.ops.Builtin.{Builtin}
use Rattle.odc_program.specs.Trees.Tree
use Rattle.odc_program.specs.Trees.Tree.{Expr, expr, Kind, Exprs, none, more, Maybe, absent, present, Parts, no_parts, part, Lefts, no_lefts, left_, dropped, Rights, nothing, each, parted, Items, no_items, item, span, Over, from_to, through, Stmt, stmt, Form, MaybeStmt, no_stmt, some_stmt, Stmts, finish, follow, Cases, no_cases, one_case, default_case, TypeCases, no_types, type_case, default_type}
use Rattle.odc_program.specs.Typing.Frames.{is_place_kind, expr_weight, kind_weight, exprs_weight, arguments_weight, maybe_weight, parts_weight, lefts_weight, rights_weight, items_weight, over_weight, stmt_weight, form_weight, maybe_stmt_weight, stmts_weight, cases_weight, types_weight}
use Rattle.odc_limits.proofs.Arguments.{takes_place, nothing_weighs, first_weighs}

module _ (w v : Bool → ℕ → ℕ) (s : ℕ) (same : (place : Bool) (t : ℕ) → w place t ≡ v place t) where
  mutual
    same_expr : (taken : Bool) (x : Expr) → expr_weight w s taken x ≡ expr_weight v s taken x
    same_expr taken (expr t at k) = omega (arith, same (taken && is_place_kind k) t, same_kind k)

    same_kind : (x : Kind) → kind_weight w s x ≡ kind_weight v s x
    same_kind (Tree.field e n) = omega (arith, same_expr true e)
    same_kind (Tree.deref e) = omega (arith, same_expr false e)
    same_kind (Tree.index e i) = omega (arith, same_expr true e, same_expr false i)
    same_kind (Tree.cut e low high) = omega (arith, same_expr true e, same_maybe low, same_maybe high)
    same_kind (Tree.column e n) = omega (arith, same_expr true e)
    same_kind (Tree.call n order es) = omega (arith, same_exprs es)
    same_kind (Tree.call_value marked e es) = omega (arith, same_expr false e, same_exprs es)
    same_kind (Tree.builtin which order es) = omega (arith, same_arguments which es)
    same_kind (Tree.or_return e variant) = omega (arith, same_expr false e)
    same_kind (Tree.build home ps) = omega (arith, same_parts ps)
    same_kind (Tree.unary o e) = omega (arith, same_expr false e)
    same_kind (Tree.binary o e f) = omega (arith, same_expr false e, same_expr false f)
    same_kind (Tree.convert e) = omega (arith, same_expr false e)
    same_kind (Tree.inject n e) = omega (arith, same_expr false e)
    same_kind (Tree.assert_ n e) = omega (arith, same_expr false e)
    same_kind (Tree.test_ n e) = omega (arith, same_expr false e)
    same_kind (Tree.address_ e) = omega (arith, same_expr true e)
    same_kind (Tree.help h es) = omega (arith, same_exprs es)
    same_kind (Tree.const c) = refl
    same_kind (Tree.local x) = refl
    same_kind (Tree.global_ g) = refl
    same_kind (Tree.proc_value n) = refl
    same_kind Tree.context = refl
    same_kind Tree.location = refl

    same_exprs : (x : Exprs) → exprs_weight w s x ≡ exprs_weight v s x
    same_exprs none = refl
    same_exprs (more e es) = omega (arith, same_expr false e, same_exprs es)

    same_arguments : (which : Builtin) (x : Exprs) → arguments_weight w s which x ≡ arguments_weight v s which x
    same_arguments which none = nothing_weighs w s which ∙ sym (nothing_weighs v s which)
    same_arguments which (more e es) = omega (arith, first_weighs w s which e es, first_weighs v s which e es, same_expr (takes_place which) e, same_exprs es)

    same_maybe : (x : Maybe) → maybe_weight w s x ≡ maybe_weight v s x
    same_maybe absent = refl
    same_maybe (present e) = omega (arith, same_expr false e)

    same_parts : (x : Parts) → parts_weight w s x ≡ parts_weight v s x
    same_parts no_parts = refl
    same_parts (part d e ps) = omega (arith, same_expr false e, same_parts ps)

  same_lefts : (x : Lefts) → lefts_weight w s x ≡ lefts_weight v s x
  same_lefts no_lefts = refl
  same_lefts (left_ e es) = omega (arith, same_expr true e, same_lefts es)
  same_lefts (dropped es) = omega (arith, same_lefts es)

  same_rights : (x : Rights) → rights_weight w s x ≡ rights_weight v s x
  same_rights nothing = refl
  same_rights (each es) = omega (arith, same_exprs es)
  same_rights (parted ts e) = omega (arith, same_expr false e)

  same_items : (x : Items) → items_weight w s x ≡ items_weight v s x
  same_items no_items = refl
  same_items (item e is) = omega (arith, same_expr false e, same_items is)
  same_items (span e f closed is) = omega (arith, same_expr false e, same_expr false f, same_items is)

  same_over : (x : Over) → over_weight w s x ≡ over_weight v s x
  same_over (from_to e f closed) = omega (arith, same_expr false e, same_expr false f)
  same_over (through e by_place) = omega (arith, same_expr false e)

  mutual
    same_stmt : (x : Stmt) → stmt_weight w s x ≡ stmt_weight v s x
    same_stmt (stmt at k) = omega (arith, same_form k)

    same_form : (x : Form) → form_weight w s x ≡ form_weight v s x
    same_form (Tree.declare xs values) = omega (arith, same_rights values)
    same_form (Tree.assign lefts values) = omega (arith, same_lefts lefts, same_rights values)
    same_form (Tree.change o e f) = omega (arith, same_expr true e, same_expr false f)
    same_form (Tree.eval e) = omega (arith, same_expr false e)
    same_form (Tree.block l body) = omega (arith, same_stmts body)
    same_form (Tree.if_ init e body other) = omega (arith, same_maybe_stmt init, same_expr false e, same_stmts body, same_stmts other)
    same_form (Tree.loop l init e post body) = omega (arith, same_maybe_stmt init, same_maybe e, same_maybe_stmt post, same_stmts body)
    same_form (Tree.range l over x k body) = omega (arith, same_over over, same_stmts body)
    same_form (Tree.switch l init e cs) = omega (arith, same_maybe_stmt init, same_maybe e, same_cases cs)
    same_form (Tree.type_switch l e cs) = omega (arith, same_expr false e, same_types cs)
    same_form (Tree.defer i) = omega (arith, same_stmt i)
    same_form (Tree.return values) = omega (arith, same_rights values)
    same_form (Tree.counted n l e body) = omega (arith, same_expr false e, same_stmts body)
    same_form (Tree.break_ l) = refl
    same_form (Tree.continue_ l) = refl
    same_form Tree.fallthrough = refl

    same_maybe_stmt : (x : MaybeStmt) → maybe_stmt_weight w s x ≡ maybe_stmt_weight v s x
    same_maybe_stmt no_stmt = refl
    same_maybe_stmt (some_stmt i) = omega (arith, same_stmt i)

    pub same_stmts : (x : Stmts) → stmts_weight w s x ≡ stmts_weight v s x
    same_stmts finish = refl
    same_stmts (follow i is) = omega (arith, same_stmt i, same_stmts is)

    same_cases : (x : Cases) → cases_weight w s x ≡ cases_weight v s x
    same_cases no_cases = refl
    same_cases (one_case is body rest) = omega (arith, same_items is, same_stmts body, same_cases rest)
    same_cases (default_case body rest) = omega (arith, same_stmts body, same_cases rest)

    same_types : (x : TypeCases) → types_weight w s x ≡ types_weight v s x
    same_types no_types = refl
    same_types (type_case vs x body rest) = omega (arith, same_stmts body, same_types rest)
    same_types (default_type x body rest) = omega (arith, same_stmts body, same_types rest)
