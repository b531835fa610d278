-- Each measure is a multiple of the size of what is shown, so that a function that hands the same tree on may rank above it.
use Rattle.std.specs.Prelude.{◌+◌, ◌*◌}
use Rattle.odc_syntax.specs.Sizes.{expr_size, expr_kind_size, maybe_expr_size, exprs_size, args_size, type_size, type_kind_size, maybe_type_size, types_size, length_size, fields_size, enumerators_size, signature_size, results_size, params_size, param_size, param_type_size, stmt_size, stmt_kind_size, maybe_stmt_size, stmts_size, header_size, else_size, span_size, span_end_size, spans_size, cases_size, decl_size, decl_kind_size, initial_size}
use Rattle.odc_syntax.specs.View.{maybe_expr, maybe_type, maybe_stmt, exprs, types, stmts, args, fields, enumerators, params, spans, cases, length, param_kind, param, result_kind, signature, expr_kind, type_kind, end_kind, span_of, header_of, else_of, initial_kind, decl_kind, stmt_kind}
use Rattle.parse_trees.proofs.+shows.Given as goal

abbrev pub decreases-exprs::expr : goal.decreases-exprs::expr
decreases-exprs::expr l = 8 * expr_size l.e.now

abbrev pub decreases-exprs::parts : goal.decreases-exprs::parts
decreases-exprs::parts l = 8 * expr_kind_size (expr_kind l.kind.now) + 7

abbrev pub decreases-exprs::optional_expr : goal.decreases-exprs::optional_expr
decreases-exprs::optional_expr l = 8 * maybe_expr_size (maybe_expr l.e.now) + 1

abbrev pub decreases-exprs::exprs : goal.decreases-exprs::exprs
decreases-exprs::exprs l = 8 * exprs_size (exprs l.list.now) + 1

abbrev pub decreases-exprs::exprs_on : goal.decreases-exprs::exprs_on
decreases-exprs::exprs_on l = 8 * exprs_size (exprs l.list.now)

abbrev pub decreases-exprs::args : goal.decreases-exprs::args
decreases-exprs::args l = 8 * args_size (args l.list.now) + 1

abbrev pub decreases-exprs::args_on : goal.decreases-exprs::args_on
decreases-exprs::args_on l = 8 * args_size (args l.list.now)

abbrev pub decreases-types::ty : goal.decreases-types::ty
decreases-types::ty l = 8 * type_size l.t.now

abbrev pub decreases-types::parts : goal.decreases-types::parts
decreases-types::parts l = 8 * type_kind_size (type_kind l.kind.now) + 7

abbrev pub decreases-types::optional_type : goal.decreases-types::optional_type
decreases-types::optional_type l = 8 * maybe_type_size (maybe_type l.t.now) + 1

abbrev pub decreases-types::length : goal.decreases-types::length
decreases-types::length l = 8 * length_size (length l.count.now) + 1

abbrev pub decreases-types::types : goal.decreases-types::types
decreases-types::types l = 8 * types_size (types l.list.now) + 1

abbrev pub decreases-types::types_on : goal.decreases-types::types_on
decreases-types::types_on l = 8 * types_size (types l.list.now)

abbrev pub decreases-types::fields : goal.decreases-types::fields
decreases-types::fields l = 8 * fields_size (fields l.list.now) + 1

abbrev pub decreases-types::fields_on : goal.decreases-types::fields_on
decreases-types::fields_on l = 8 * fields_size (fields l.list.now)

abbrev pub decreases-types::enumerators : goal.decreases-types::enumerators
decreases-types::enumerators l = 8 * enumerators_size (enumerators l.list.now) + 1

abbrev pub decreases-types::enumerators_on : goal.decreases-types::enumerators_on
decreases-types::enumerators_on l = 8 * enumerators_size (enumerators l.list.now)

abbrev pub decreases-types::params : goal.decreases-types::params
decreases-types::params l = 8 * params_size (params l.list.now) + 1

abbrev pub decreases-types::params_on : goal.decreases-types::params_on
decreases-types::params_on l = 8 * params_size (params l.list.now)

abbrev pub decreases-types::signature : goal.decreases-types::signature
decreases-types::signature l = 8 * signature_size (signature l.s.now) + 3

abbrev pub decreases-types::results : goal.decreases-types::results
decreases-types::results l = 8 * results_size (result_kind l.given.now) + 2

abbrev pub decreases-types::param : goal.decreases-types::param
decreases-types::param l = 8 * param_size (param l.p.now) + 2

abbrev pub decreases-types::param_type : goal.decreases-types::param_type
decreases-types::param_type l = 8 * param_type_size (param_kind l.t.now) + 1

abbrev pub decreases-stmts::stmts : goal.decreases-stmts::stmts
decreases-stmts::stmts l = 8 * stmts_size (stmts l.list.now) + 1

abbrev pub decreases-stmts::stmts_on : goal.decreases-stmts::stmts_on
decreases-stmts::stmts_on l = 8 * stmts_size (stmts l.list.now)

abbrev pub decreases-stmts::stmt : goal.decreases-stmts::stmt
decreases-stmts::stmt l = 8 * stmt_size l.s.now

abbrev pub decreases-stmts::parts : goal.decreases-stmts::parts
decreases-stmts::parts l = 8 * stmt_kind_size (stmt_kind l.kind.now) + 7

abbrev pub decreases-stmts::optional_stmt : goal.decreases-stmts::optional_stmt
decreases-stmts::optional_stmt l = 8 * maybe_stmt_size (maybe_stmt l.s.now) + 1

abbrev pub decreases-stmts::header : goal.decreases-stmts::header
decreases-stmts::header l = 8 * header_size (header_of l.before.now) + 1

abbrev pub decreases-stmts::otherwise : goal.decreases-stmts::otherwise
decreases-stmts::otherwise l = 8 * else_size (else_of l.other.now) + 2

abbrev pub decreases-stmts::span : goal.decreases-stmts::span
decreases-stmts::span l = 8 * span_size (span_of l.s.now) + 2

abbrev pub decreases-stmts::span_end : goal.decreases-stmts::span_end
decreases-stmts::span_end l = 8 * span_end_size (end_kind l.to.now) + 1

abbrev pub decreases-stmts::spans : goal.decreases-stmts::spans
decreases-stmts::spans l = 8 * spans_size (spans l.list.now) + 1

abbrev pub decreases-stmts::spans_on : goal.decreases-stmts::spans_on
decreases-stmts::spans_on l = 8 * spans_size (spans l.list.now)

abbrev pub decreases-stmts::cases : goal.decreases-stmts::cases
decreases-stmts::cases l = 8 * cases_size (cases l.list.now)

abbrev pub decreases-stmts::case : goal.decreases-stmts::case
decreases-stmts::case l = 8 * (spans_size (spans l.c.now.items.items) + stmts_size (stmts l.c.now.body.items)) + 3

abbrev pub decreases-stmts::decl : goal.decreases-stmts::decl
decreases-stmts::decl l = 8 * decl_size l.d.now

abbrev pub decreases-stmts::decl_parts : goal.decreases-stmts::decl_parts
decreases-stmts::decl_parts l = 8 * decl_kind_size (decl_kind l.kind.now) + 7

abbrev pub decreases-stmts::initial : goal.decreases-stmts::initial
decreases-stmts::initial l = 8 * initial_size (initial_kind l.value.now) + 2

abbrev pub decreases-types::given_value : goal.decreases-types::given_value
decreases-types::given_value l = 8 * maybe_expr_size (maybe_expr l.e.now) + 1
