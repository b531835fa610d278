use Rattle.std.proofs.Common.{◌≡◌, ◌<◌, ◌≤◌, ◌+◌, length, true, suc, ◌*◌, max, List}
use Rattle.odc_syntax.specs.Grammar.{chains, inside}
use Rattle.odc_syntax.specs.View.{expr, span_of}
use Rattle.odc_lookahead.specs.Parts.{ClosesArguments}
use Rattle.odc_lookahead.specs.Sets.{weight, continues}
use Rattle.odc_lookahead.proofs.expr.ChainLemmas.{ChainAt, Operators}
use Rattle.odc_lookahead.proofs.expr.PostfixEnds.{PostfixTo}
use Rattle.odc_lookahead.proofs.expr.ArgumentAnswers.{ArgumentsAt}
use Rattle.odc_syntax.specs.Derives.{StartsWithout}
use Rattle.odc_syntax.specs.declared.token.TokenKind.TheVariants as kind
use Rattle.odc_lookahead.specs.TypeParts.{fields_line, types_line, enumerators_line, named_line, bare_line}
use Rattle.odc_lookahead.proofs.separated.ListAnswers.{ListAt}
use Rattle.odc_lookahead.proofs.types.TypeLists.{field_list, type_list, enumerator_list, named_list, bare_list}
use Rattle.odc_syntax.specs.declared.token.Token.{Token}
use Rattle.odc_syntax.specs.declared.grammar.Level.TheVariants.{Or}
use Rattle.odc_syntax.specs.Grammar as g
use Rattle.odc_lookahead.specs.Exact.{Found, one}
use Rattle.odc_lookahead.specs.stmts.Statements.{BeginsWith}
use Rattle.odc_lookahead.proofs.expr.ExprsLemmas.{ExprsAt}
use Rattle.odc_lookahead.proofs.stmts.StmtsLemmas.{StmtsAt}
use Rattle.odc_syntax.specs.declared.grammar.Mode.TheVariants.{Free}
use Rattle.odc_lookahead.specs.stmts.SwitchSets.{continues_span}
use Rattle.odc_lookahead.proofs.switches.CasesLemmas.{CasesAt}
use Rattle.odc_lookahead.proofs.switches.ItemLemmas.{ItemsAt}
use Rattle.odc_parse_expr.proofs.+parser.Given as goal

abbrev pub decreases-binary::level : goal.decreases-binary::level
decreases-binary::level l = 32 * length l.tokens.now + (weight l.level + 12)

abbrev pub decreases-binary::chained : goal.decreases-binary::chained
decreases-binary::chained l = 32 * length l.tokens.now + (weight l.of + 11)

abbrev pub decreases-binary::comparison : goal.decreases-binary::comparison
decreases-binary::comparison l = 32 * length l.tokens.now + 20

abbrev pub decreases-binary::item : goal.decreases-binary::item
decreases-binary::item l = 32 * length l.tokens.now + (weight l.of + 10)

abbrev pub decreases-unary::unary : goal.decreases-unary::unary
decreases-unary::unary l = 32 * length l.tokens.now + 9

abbrev pub decreases-unary::cast : goal.decreases-unary::cast
decreases-unary::cast l = 32 * length l.behind.now + 30

abbrev pub decreases-postfix::postfix : goal.decreases-postfix::postfix
decreases-postfix::postfix l = 32 * length l.tokens.now + 8

abbrev pub decreases-postfix::read_suffix : goal.decreases-postfix::read_suffix
decreases-postfix::read_suffix l = 32 * length l.behind.now + 31

abbrev pub decreases-postfix::bracket : goal.decreases-postfix::bracket
decreases-postfix::bracket l = 32 * length l.behind.now + 30

abbrev pub decreases-postfix::high : goal.decreases-postfix::high
decreases-postfix::high l = 32 * length l.tokens.now + 29

abbrev pub decreases-arguments::arguments : goal.decreases-arguments::arguments
decreases-arguments::arguments l = 32 * length l.tokens.now + 30

abbrev pub decreases-arguments::argument : goal.decreases-arguments::argument
decreases-arguments::argument l = 32 * length l.tokens.now + 29

abbrev pub decreases-operand::operand : goal.decreases-operand::operand
decreases-operand::operand l = 32 * length l.tokens.now + 7

abbrev pub decreases-operand::compound : goal.decreases-operand::compound
decreases-operand::compound l = 32 * max (length l.tokens.now) (suc (length l.behind.now)) + 5

abbrev pub decreases-operand::group : goal.decreases-operand::group
decreases-operand::group l = 32 * length l.behind.now + 31

abbrev pub invariant-binary::chained-loop-op : goal.invariant-binary::chained-loop-op
invariant-binary::chained-loop-op l = record {
  led : chains l.of ≡ true → ChainAt l.of l.mode (Operators l.of l.mode) l.depth l.tokens (expr l.e) l.height l.rest;
  short : length l.rest < length l.tokens;
  low : l.height ≤ l.depth + 1;
}

abbrev pub decreases-binary::chained-loop-op : goal.decreases-binary::chained-loop-op
decreases-binary::chained-loop-op l = length l.rest

abbrev pub invariant-postfix::postfix-loop-form : goal.invariant-postfix::postfix-loop-form
invariant-postfix::postfix-loop-form l = record {
  led : PostfixTo l.mode l.depth l.tokens (expr l.e) l.height l.rest l.end;
  short : length l.rest < length l.tokens;
  low : l.height ≤ l.depth + 1;
}

abbrev pub decreases-postfix::postfix-loop-form : goal.decreases-postfix::postfix-loop-form
decreases-postfix::postfix-loop-form l = length l.rest

abbrev pub invariant-arguments::arguments-items : goal.invariant-arguments::arguments-items
invariant-arguments::arguments-items l = record {
  led : ClosesArguments l.close → ArgumentsAt l.close l.depth l.tokens l.args.items l.height l.rest;
  short : length l.rest ≤ length l.tokens;
  low : l.height ≤ l.depth;
}

abbrev pub decreases-arguments::arguments-items : goal.decreases-arguments::arguments-items
decreases-arguments::arguments-items l = length l.rest

abbrev pub decreases-postfix::member : goal.decreases-postfix::member
decreases-postfix::member l = 32 * length l.behind.now + 30

abbrev pub decreases-types::ty : goal.decreases-types::ty
decreases-types::ty l = 32 * length l.tokens.now + 6

abbrev pub decreases-types::type_to : goal.decreases-types::type_to
decreases-types::type_to l = 32 * length l.tokens.now + 5

abbrev pub decreases-types::own : goal.decreases-types::own
decreases-types::own l = 32 * length l.behind.now + 36

abbrev pub decreases-types::group : goal.decreases-types::group
decreases-types::group l = 32 * length l.behind.now + 35

abbrev pub decreases-types::constructed : goal.decreases-types::constructed
decreases-types::constructed l = 32 * length l.tokens.now + 4

abbrev pub decreases-types::build : goal.decreases-types::build
decreases-types::build l = 32 * length l.behind.now + 35

abbrev pub decreases-types::pointer : goal.decreases-types::pointer
decreases-types::pointer l = 32 * length l.behind.now + 34

abbrev pub decreases-types::distinct : goal.decreases-types::distinct
decreases-types::distinct l = 32 * length l.behind.now + 34

abbrev pub decreases-types::word_proc : goal.decreases-types::word_proc
decreases-types::word_proc l = 32 * length l.behind.now + 34

abbrev pub decreases-types::soa : goal.decreases-types::soa
decreases-types::soa l = 32 * length l.behind.now + 34

abbrev pub decreases-arrays::array : goal.decreases-arrays::array
decreases-arrays::array l = 32 * length l.tokens.now + 33

abbrev pub decreases-arrays::sized : goal.decreases-arrays::sized
decreases-arrays::sized l = 32 * length l.tokens.now + 30

abbrev pub decreases-arrays::counted : goal.decreases-arrays::counted
decreases-arrays::counted l = 32 * length l.tokens.now + 30

abbrev pub decreases-arrays::length : goal.decreases-arrays::length
decreases-arrays::length l = 32 * length l.tokens.now + 29

abbrev pub decreases-arrays::fixed : goal.decreases-arrays::fixed
decreases-arrays::fixed l = 32 * length l.tokens.now + 28

abbrev pub decreases-fields::struct_type : goal.decreases-fields::struct_type
decreases-fields::struct_type l = 32 * length l.behind.now + 34

abbrev pub decreases-fields::union_type : goal.decreases-fields::union_type
decreases-fields::union_type l = 32 * length l.behind.now + 34

abbrev pub decreases-fields::enum_type : goal.decreases-fields::enum_type
decreases-fields::enum_type l = 32 * length l.behind.now + 34

abbrev pub decreases-fields::base_type : goal.decreases-fields::base_type
decreases-fields::base_type l = 32 * length l.tokens.now + 33

abbrev pub decreases-fields::base : goal.decreases-fields::base
decreases-fields::base l = 32 * length l.tokens.now + 32

abbrev pub decreases-fields::field_list : goal.decreases-fields::field_list
decreases-fields::field_list l = 32 * length l.tokens.now + 33

abbrev pub decreases-fields::field : goal.decreases-fields::field
decreases-fields::field l = 32 * length l.tokens.now + 32

abbrev pub decreases-fields::type_list : goal.decreases-fields::type_list
decreases-fields::type_list l = 32 * length l.tokens.now + 33

abbrev pub decreases-fields::enumerator_list : goal.decreases-fields::enumerator_list
decreases-fields::enumerator_list l = 32 * length l.tokens.now + 33

abbrev pub decreases-fields::enumerator : goal.decreases-fields::enumerator
decreases-fields::enumerator l = 32 * length l.tokens.now + 32

abbrev pub decreases-fields::given : goal.decreases-fields::given
decreases-fields::given l = 32 * length l.tokens.now + 31

abbrev pub decreases-signatures::signature : goal.decreases-signatures::signature
decreases-signatures::signature l = 32 * length l.behind.now + 34

abbrev pub decreases-signatures::results : goal.decreases-signatures::results
decreases-signatures::results l = 32 * length l.tokens.now + 31

abbrev pub decreases-params::params : goal.decreases-params::params
decreases-params::params l = 32 * length l.tokens.now + 33

abbrev pub decreases-params::crossed : goal.decreases-params::crossed
decreases-params::crossed l = 32 * length l.tokens.now + 32

abbrev pub decreases-params::named_list : goal.decreases-params::named_list
decreases-params::named_list l = 32 * length l.tokens.now + 31

abbrev pub decreases-params::bare_list : goal.decreases-params::bare_list
decreases-params::bare_list l = 32 * length l.tokens.now + 31

abbrev pub decreases-params::named : goal.decreases-params::named
decreases-params::named l = 32 * length l.tokens.now + 30

abbrev pub decreases-params::bare : goal.decreases-params::bare
decreases-params::bare l = 32 * length l.tokens.now + 30

abbrev pub decreases-params::plain : goal.decreases-params::plain
decreases-params::plain l = 32 * length l.tokens.now + 29

abbrev pub decreases-params::typed : goal.decreases-params::typed
decreases-params::typed l = 32 * length l.tokens.now + 7

abbrev pub decreases-params::parametric : goal.decreases-params::parametric
decreases-params::parametric l = 32 * length l.behind.now + 29

abbrev pub decreases-procedure::procedure : goal.decreases-procedure::procedure
decreases-procedure::procedure l = 32 * length l.tokens.now + 4

abbrev pub decreases-procedure::lambda : goal.decreases-procedure::lambda
decreases-procedure::lambda l = 32 * length l.behind.now + 35

abbrev pub decreases-procedure::with_body : goal.decreases-procedure::with_body
decreases-procedure::with_body l = 32 * length l.tokens.now + 34

abbrev pub invariant-fields::field_list-items : goal.invariant-fields::field_list-items
invariant-fields::field_list-items l = record {
  led : ListAt (field_list (inside l.used)) (fields_line (inside l.used)) l.depth l.tokens l.list.items l.height l.rest;
  short : length l.rest ≤ length l.tokens;
  low : l.height ≤ l.depth;
}

abbrev pub decreases-fields::field_list-items : goal.decreases-fields::field_list-items
decreases-fields::field_list-items l = length l.rest

abbrev pub invariant-fields::type_list-items : goal.invariant-fields::type_list-items
invariant-fields::type_list-items l = record {
  led : ListAt (type_list (inside l.used)) (types_line (inside l.used)) l.depth l.tokens l.list.items l.height l.rest;
  short : length l.rest ≤ length l.tokens;
  low : l.height ≤ l.depth;
}

abbrev pub decreases-fields::type_list-items : goal.decreases-fields::type_list-items
decreases-fields::type_list-items l = length l.rest

abbrev pub invariant-fields::enumerator_list-items : goal.invariant-fields::enumerator_list-items
invariant-fields::enumerator_list-items l = record {
  led : ListAt enumerator_list enumerators_line l.depth l.tokens l.list.items l.height l.rest;
  short : length l.rest ≤ length l.tokens;
  low : l.height ≤ l.depth;
}

abbrev pub decreases-fields::enumerator_list-items : goal.decreases-fields::enumerator_list-items
decreases-fields::enumerator_list-items l = length l.rest

abbrev pub invariant-params::named_list-items : goal.invariant-params::named_list-items
invariant-params::named_list-items l = record {
  led : StartsWithout kind.CloseParen l.tokens → ListAt (named_list (inside l.used)) (named_line (inside l.used)) l.depth l.tokens l.list.items l.height l.rest;
  short : length l.rest ≤ length l.tokens;
  low : l.height ≤ l.depth;
}

abbrev pub decreases-params::named_list-items : goal.decreases-params::named_list-items
decreases-params::named_list-items l = length l.rest

abbrev pub invariant-params::bare_list-items : goal.invariant-params::bare_list-items
invariant-params::bare_list-items l = record {
  led : ListAt (bare_list (inside l.used)) (bare_line (inside l.used)) l.depth l.tokens l.list.items l.height l.rest;
  short : length l.rest ≤ length l.tokens;
  low : l.height ≤ l.depth;
}

abbrev pub decreases-params::bare_list-items : goal.decreases-params::bare_list-items
decreases-params::bare_list-items l = length l.rest

abbrev pub decreases-exprs::exprs : goal.decreases-exprs::exprs
decreases-exprs::exprs l = 32 * length l.tokens.now + 28

abbrev pub decreases-exprs::exprs_from : goal.decreases-exprs::exprs_from
decreases-exprs::exprs_from l = 32 * length l.tokens.now + 28

abbrev pub decreases-simple::nothing_fits : goal.decreases-simple::nothing_fits
decreases-simple::nothing_fits l = 32 * length l.tokens.now + 28

abbrev pub decreases-simple::simple : goal.decreases-simple::simple
decreases-simple::simple l = 32 * length l.tokens.now + 29

abbrev pub decreases-simple::simple_from : goal.decreases-simple::simple_from
decreases-simple::simple_from l = 32 * length l.tokens.now + 29

abbrev pub decreases-declaration::declaration : goal.decreases-declaration::declaration
decreases-declaration::declaration l = 32 * length l.tokens.now + 30

abbrev pub decreases-declaration::behind_colon : goal.decreases-declaration::behind_colon
decreases-declaration::behind_colon l = 32 * length l.tokens.now + 34

abbrev pub decreases-declaration::behind_type : goal.decreases-declaration::behind_type
decreases-declaration::behind_type l = 32 * length l.tokens.now + 28

abbrev pub decreases-statement::statement : goal.decreases-statement::statement
decreases-statement::statement l = 32 * length l.tokens.now + 37

abbrev pub decreases-statement::named : goal.decreases-statement::named
decreases-statement::named l = 32 * max (length l.tokens.now) (suc (length l.behind.now)) + 36

abbrev pub decreases-statement::last_level : goal.decreases-statement::last_level
decreases-statement::last_level l = 32 * length l.behind.now + 34

abbrev pub decreases-statement::declared_too_deep : goal.decreases-statement::declared_too_deep
decreases-statement::declared_too_deep l = 32 * length l.tokens.now + 33

abbrev pub decreases-statement::bare : goal.decreases-statement::bare
decreases-statement::bare l = 32 * length l.tokens.now + 34

abbrev pub decreases-statement::defer : goal.decreases-statement::defer
decreases-statement::defer l = 32 * length l.behind.now + 38

abbrev pub decreases-statement::returns : goal.decreases-statement::returns
decreases-statement::returns l = 32 * length l.behind.now + 38

abbrev pub decreases-statement::labelled : goal.decreases-statement::labelled
decreases-statement::labelled l = 32 * length l.tokens.now + 33

abbrev pub decreases-block::stmts : goal.decreases-block::stmts
decreases-block::stmts l = 32 * length l.tokens.now + 38

abbrev pub decreases-block::braces : goal.decreases-block::braces
decreases-block::braces l = 32 * length l.tokens.now + 39

abbrev pub decreases-block::body : goal.decreases-block::body
decreases-block::body l = 32 * length l.tokens.now + 33

abbrev pub decreases-block::block : goal.decreases-block::block
decreases-block::block l = 32 * length l.tokens.now + 33

abbrev pub decreases-conditional::if_statement : goal.decreases-conditional::if_statement
decreases-conditional::if_statement l = 32 * length l.tokens.now + 36

abbrev pub decreases-conditional::otherwise : goal.decreases-conditional::otherwise
decreases-conditional::otherwise l = 32 * length l.tokens.now + 36

abbrev pub decreases-conditional::before_body : goal.decreases-conditional::before_body
decreases-conditional::before_body l = 32 * length l.tokens.now + 31

abbrev pub decreases-conditional::behind_expression : goal.decreases-conditional::behind_expression
decreases-conditional::behind_expression l = 32 * length l.tokens.now + 31

abbrev pub decreases-conditional::closed : goal.decreases-conditional::closed
decreases-conditional::closed l = 32 * length l.tokens.now + 30

abbrev pub decreases-conditional::condition : goal.decreases-conditional::condition
decreases-conditional::condition l = 32 * length l.tokens.now + 28

abbrev pub invariant-exprs::exprs_from-items : goal.invariant-exprs::exprs_from-items
invariant-exprs::exprs_from-items l = record {
  led : (ts : List Token) → Found (one (g.expression l.mode)) (continues Or l.mode) l.depth ts (expr l.fn.first) l.height l.tokens → ExprsAt l.mode l.depth ts l.list.items l.top l.rest;
  begins : BeginsWith (expr l.fn.first) l.list.items;
  short : length l.rest ≤ length l.tokens;
  low : l.height ≤ l.depth + 1 → l.top ≤ l.depth + 1;
}

abbrev pub decreases-exprs::exprs_from-items : goal.decreases-exprs::exprs_from-items
decreases-exprs::exprs_from-items l = length l.rest

abbrev pub invariant-block::stmts-statements : goal.invariant-block::stmts-statements
invariant-block::stmts-statements l = record {
  led : StmtsAt l.depth l.tokens l.list.items l.height l.rest;
  short : length l.rest ≤ length l.tokens;
  low : l.height ≤ l.depth;
}

abbrev pub decreases-block::stmts-statements : goal.decreases-block::stmts-statements
decreases-block::stmts-statements l = length l.rest

-- switches
abbrev pub decreases-spans::span : goal.decreases-spans::span
decreases-spans::span l = 32 * length l.tokens.now + 28

abbrev pub decreases-spans::span_from : goal.decreases-spans::span_from
decreases-spans::span_from l = 32 * length l.tokens.now + 28

abbrev pub decreases-spans::items : goal.decreases-spans::items
decreases-spans::items l = 32 * length l.tokens.now + 29

abbrev pub decreases-spans::items_from : goal.decreases-spans::items_from
decreases-spans::items_from l = 32 * length l.tokens.now + 30

abbrev pub decreases-cases::cases : goal.decreases-cases::cases
decreases-cases::cases l = 32 * length l.tokens.now + 40

abbrev pub decreases-switches::switch_statement : goal.decreases-switches::switch_statement
decreases-switches::switch_statement l = 32 * length l.tokens.now + 32

abbrev pub decreases-switches::before_cases : goal.decreases-switches::before_cases
decreases-switches::before_cases l = 32 * length l.tokens.now + 35

abbrev pub decreases-switches::no_level : goal.decreases-switches::no_level
decreases-switches::no_level l = 32 * length l.tokens.now + 34

abbrev pub decreases-switches::listed : goal.decreases-switches::listed
decreases-switches::listed l = 32 * length l.tokens.now + 34

abbrev pub decreases-switches::behind_value : goal.decreases-switches::behind_value
decreases-switches::behind_value l = 32 * length l.tokens.now + 41

abbrev pub decreases-switches::closed : goal.decreases-switches::closed
decreases-switches::closed l = 32 * length l.tokens.now + 39

abbrev pub decreases-switches::value : goal.decreases-switches::value
decreases-switches::value l = 32 * length l.tokens.now + 30

abbrev pub invariant-spans::items_from-items : goal.invariant-spans::items_from-items
invariant-spans::items_from-items l = record {
  led : (ts : List Token) → length l.tokens < length ts → Found (one (g.span_ Free)) (continues_span Free) l.depth ts (span_of l.fn.first) l.height l.tokens → ItemsAt l.depth ts l.list.items l.top l.rest;
  short : length l.rest ≤ length l.tokens;
  low : l.height ≤ l.depth + 1 → l.top ≤ l.depth + 1;
}

abbrev pub decreases-spans::items_from-items : goal.decreases-spans::items_from-items
decreases-spans::items_from-items l = length l.rest

abbrev pub invariant-cases::cases-cases : goal.invariant-cases::cases-cases
invariant-cases::cases-cases l = record {
  led : CasesAt l.depth l.tokens l.list.items l.height l.rest;
  short : length l.rest ≤ length l.tokens;
  low : l.height ≤ l.depth + 1;
}

abbrev pub decreases-cases::cases-cases : goal.decreases-cases::cases-cases
decreases-cases::cases-cases l = length l.rest

abbrev pub decreases-run_bounds::run_over : goal.decreases-run_bounds::run_over
decreases-run_bounds::run_over l = 32 * length l.tokens.now + 30

abbrev pub decreases-run_bounds::last_over : goal.decreases-run_bounds::last_over
decreases-run_bounds::last_over l = 32 * length l.tokens.now + 29

abbrev pub decreases-loops::loop_statement : goal.decreases-loops::loop_statement
decreases-loops::loop_statement l = 32 * length l.behind.now + 64

abbrev pub decreases-loops::looped : goal.decreases-loops::looped
decreases-loops::looped l = 32 * length l.tokens.now + 63

abbrev pub decreases-loops::clauses : goal.decreases-loops::clauses
decreases-loops::clauses l = 32 * length l.tokens.now + 62

abbrev pub decreases-loops::more_over : goal.decreases-loops::more_over
decreases-loops::more_over l = 32 * length l.tokens.now + 30

abbrev pub decreases-loops::no_operand : goal.decreases-loops::no_operand
decreases-loops::no_operand l = 32 * length l.tokens.now + 10

abbrev pub decreases-loops::over : goal.decreases-loops::over
decreases-loops::over l = 32 * length l.tokens.now + 61

abbrev pub decreases-loops::clause : goal.decreases-loops::clause
decreases-loops::clause l = 32 * length l.tokens.now + 61

abbrev pub decreases-loops::list : goal.decreases-loops::list
decreases-loops::list l = 32 * length l.tokens.now + 61

abbrev pub decreases-loops::behind_expression : goal.decreases-loops::behind_expression
decreases-loops::behind_expression l = 32 * length l.tokens.now + 60

abbrev pub decreases-loops::with_condition : goal.decreases-loops::with_condition
decreases-loops::with_condition l = 32 * length l.tokens.now + 59

abbrev pub decreases-loops::closed : goal.decreases-loops::closed
decreases-loops::closed l = 32 * length l.tokens.now + 50

abbrev pub decreases-loops::stepped : goal.decreases-loops::stepped
decreases-loops::stepped l = 32 * length l.tokens.now + 49

abbrev pub decreases-loops::steps : goal.decreases-loops::steps
decreases-loops::steps l = 32 * length l.tokens.now + 48

abbrev pub decreases-loops::behind_condition : goal.decreases-loops::behind_condition
decreases-loops::behind_condition l = 32 * length l.tokens.now + 47

abbrev pub decreases-loops::ending : goal.decreases-loops::ending
decreases-loops::ending l = 32 * length l.tokens.now + 40

abbrev pub decreases-loops::behind_step : goal.decreases-loops::behind_step
decreases-loops::behind_step l = 32 * length l.tokens.now + 39
