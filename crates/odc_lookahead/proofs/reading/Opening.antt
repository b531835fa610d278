-- What a part of the grammar may begin with. A part that cannot begin with the next token reads nothing.
use Rattle.std.proofs.Common.{◌≡◌, ℕ, ◌*◌, ◌≤◌, Bool, true, false, ◌||◌, List, [], ◌∷◌, ◌++◌, length, refl, sym, ◌∙◌, ap, arith, Some}
use Rattle.odc_syntax.specs.declared.token.Token.{Token}
use Rattle.odc_syntax.specs.declared.token.TokenKind.{TokenKind}
use Rattle.odc_syntax.specs.declared.token.TokenKind.TheVariants as kind
use Rattle.odc_syntax.specs.declared.grammar.Mode.{Mode}
use Rattle.odc_syntax.specs.declared.grammar.Mode.TheVariants.{Free, Header, Start}
use Rattle.odc_syntax.specs.declared.grammar.Use.{Use}
use Rattle.odc_syntax.specs.declared.grammar.Use.TheVariants.{Operand}
use Rattle.odc_syntax.specs.declared.grammar.Level.{Level}
use Rattle.odc_syntax.specs.declared.grammar.Level.TheVariants as level
use Rattle.odc_syntax.specs.declared.tree.BinaryOp.{BinaryOp}
use Rattle.odc_syntax.specs.declared.tree.UnaryOp.{UnaryOp}
use Rattle.odc_syntax.specs.Tree.{Expr}
use Rattle.odc_syntax.specs.Operators.{prefix_of, operator_of, level_of}
use Rattle.odc_syntax.specs.Grammar.{Sym, Rule, tok, said, next, not_next, not_member, nothing}
use Rattle.odc_syntax.specs.Grammar as g
use Rattle.odc_syntax.specs.Derives.{Reach, here, read, read_said, see, see_not, see_no_member, write}
use Rattle.odc_lookahead.specs.Exact.{size}
use Rattle.odc_lookahead.specs.Sets.{rank, has_rank, is_free, is_parameter, is_prefix, takes_braces, starts_constructed, starts_type, starts_operand, is_cast, starts_expression, starts_suffix, starts_labelled, starts_statement, starts_variables, starts_named}

-- there is a first token, and its kind is among these
abbrev pub First : (TokenKind → Bool) → List Token → Type 0
First among [] = ⊥
First among (t ∷ ts) = among t.kind ≡ true

abbrev pub StartsWith : TokenKind → List Token → Type 0
StartsWith k [] = ⊥
StartsWith k (t ∷ ts) = t.kind ≡ k

abbrev pub is_brace : Bool → TokenKind → Bool
is_brace b kind.OpenBrace = b
is_brace b _ = false

abbrev pub is_body : TokenKind → Bool
is_body kind.OpenBrace = true
is_body kind.Do = true
is_body _ = false

abbrev pub is_switch : TokenKind → Bool
is_switch kind.Switch = true
is_switch kind.Directive = true
is_switch _ = false

abbrev pub Opens : Sym → List Token → Type 0
Opens (tok k t) ts = StartsWith k ts
Opens (said k w t) ts = StartsWith k ts
Opens nothing ts = ⊥
Opens (g.names ns) ts = StartsWith kind.Name ts
Opens (g.chain l m b e) ts = First (starts_expression m) ts
Opens (g.operation l m b o) ts = First (λ k. has_rank (rank l) (operator_of k)) ts
Opens (g.unary m b e) ts = First (starts_expression m) ts
Opens (g.postfix m b e) ts = First (starts_operand m) ts
Opens (g.suffix m b s) ts = First (starts_suffix m) ts
Opens (g.operand m b e) ts = First (starts_operand m) ts
Opens (g.exprs m b es) ts = First (starts_expression m) ts
Opens (g.arg b n e) ts = First (starts_expression Free) ts
Opens (g.braces m b xs) ts = First (is_brace (is_free m)) ts
Opens (g.type_ u b t) ts = First (starts_type u) ts
Opens (g.constructed u b t) ts = First (starts_constructed u) ts
Opens (g.sig u b s) ts = StartsWith kind.Proc ts
Opens (g.named_param u b p) ts = First (starts_named u) ts
Opens (g.bare_param u b p) ts = First (starts_type u) ts
Opens (g.block_ m b ss) ts = First (is_brace (is_free m)) ts
Opens (g.body b ss) ts = First is_body ts
Opens (g.statement b s) ts = First starts_statement ts
Opens (g.simple m b s) ts = First (starts_expression m) ts
Opens (g.if_statement b s) ts = StartsWith kind.If ts
Opens (g.labelled_ b at s) ts = First starts_labelled ts
Opens (g.variables vs) ts = First starts_variables ts
Opens (g.switch_word at w) ts = First is_switch ts
Opens (g.span_ m b s) ts = First (starts_expression m) ts
Opens (g.declaration m b d) ts = StartsWith kind.Name ts
Opens (g.import_ b d) ts = StartsWith kind.Import ts
Opens (g.file b n ds) ts = StartsWith kind.Package ts
Opens _ ts = Unit {0}

abbrev pub OpensAll : List Sym → List Token → Type 0
OpensAll [] ts = Unit {0}
OpensAll (x ∷ s) ts = Opens x ts

-- a kind that is among these
kind_first : (among : TokenKind → Bool) (k : TokenKind) (ts : List Token) → among k ≡ true → StartsWith k ts → First among ts
kind_first among k [] e h = h
kind_first among k (t ∷ ts) e h = ap among h ∙ e

wider : (a b : TokenKind → Bool) (ts : List Token) → ((k : TokenKind) → a k ≡ true → b k ≡ true) → First a ts → First b ts
wider a b [] f h = h
wider a b (t ∷ ts) f h = f t.kind h

left_or : (a b : Bool) → a ≡ true → (a || b) ≡ true
left_or true b e = refl
left_or false b e = cc

right_or : (a b : Bool) → b ≡ true → (a || b) ≡ true
right_or true b e = refl
right_or false b e = e

level_has_rank : (k : TokenKind) (op : BinaryOp) (l : Level) → operator_of k ≡ Some op → level_of op ≡ l → has_rank (rank l) (operator_of k) ≡ true
level_has_rank k op l e f = rw (e, f) (grind (arith))

item_opens : (l : Level) (m : Mode) (b : ℕ) (e : Expr) (ts : List Token) → Opens (g.item l m b e) ts → First (starts_expression m) ts
item_opens level.Or m b e ts o = o
item_opens level.And m b e ts o = o
item_opens level.Comparison m b e ts o = o
item_opens level.Sum m b e ts o = o
item_opens level.Product m b e ts o = o

prefix_starts : (m : Mode) (k : TokenKind) (op : UnaryOp) → prefix_of k ≡ Some op → starts_expression m k ≡ true
prefix_starts m k op e = right_or (starts_operand m k) _ (right_or (is_cast k) _ (ap is_prefix e))

brace_free : (b : Bool) (k : TokenKind) (m : Mode) → b ≡ takes_braces m → is_brace b k ≡ true → starts_suffix m k ≡ true
brace_free b kind.OpenBrace m e h = sym e ∙ h
brace_free b _ m e h = cc

free_takes : (m : Mode) → is_free (g.later m) ≡ takes_braces m
free_takes Free = refl
free_takes Header = refl
free_takes Start = refl

brace_suffix : (m : Mode) (k : TokenKind) → is_brace (is_free (g.later m)) k ≡ true → starts_suffix m k ≡ true
brace_suffix m k h = brace_free (is_free (g.later m)) k m (free_takes m) h

switch_labelled : (k : TokenKind) → is_switch k ≡ true → starts_labelled k ≡ true
switch_labelled kind.Switch h = refl
switch_labelled kind.Directive h = refl
switch_labelled _ h = cc

-- a type that is an operand begins with no `$`
pub not_parameter : (m : Mode) → is_parameter (g.operand_use m) ≡ false
not_parameter Free = refl
not_parameter Header = refl
not_parameter Start = refl

starts_so : (u : Use) → is_parameter u ≡ false → (k : TokenKind) → starts_constructed u k ≡ true → starts_constructed Operand k ≡ true
starts_so u e kind.Dollar h = sym e ∙ h
starts_so u e _ h = h

pub rule_opens : {x : Sym} {p : List Sym} (s : List Sym) (ts : List Token) → Rule x p → OpensAll (p ++ s) ts → Opens x ts
rule_opens s ts g.names_one o = o
rule_opens s ts g.names_more o = o
rule_opens s ts g.no_token o = tt
rule_opens s ts g.a_token o = tt
rule_opens s ts (g.chain_one {l = l}) o = item_opens l _ _ _ ts o
rule_opens s ts (g.chain_more e) o = o
rule_opens s ts g.chain_twice o = o
rule_opens s ts (g.operation_ {l = l} {k = k} e f) o = kind_first (λ k. has_rank (rank l) (operator_of k)) k ts (level_has_rank k _ l e f) o
rule_opens s ts (g.unary_one {m = m}) o = wider _ (starts_expression m) ts (λ k h. left_or _ _ h) o
rule_opens s ts (g.unary_sign {m = m} {k = k} e) o = kind_first (starts_expression m) k ts (prefix_starts m k _ e) o
rule_opens s ts g.unary_cast o = kind_first _ kind.Cast ts refl o
rule_opens s ts g.postfix_one o = o
rule_opens s ts g.postfix_more o = o
rule_opens s ts g.suffix_select o = kind_first _ kind.Dot ts refl o
rule_opens s ts g.suffix_assert o = kind_first _ kind.Dot ts refl o
rule_opens s ts g.suffix_deref o = kind_first _ kind.Caret ts refl o
rule_opens s ts g.suffix_index o = kind_first _ kind.OpenBracket ts refl o
rule_opens s ts g.suffix_cut o = kind_first _ kind.OpenBracket ts refl o
rule_opens s ts g.suffix_call o = kind_first _ kind.OpenParen ts refl o
rule_opens s ts g.suffix_or_return o = kind_first _ kind.OrReturn ts refl o
rule_opens s ts (g.suffix_literal {m = m}) o = wider _ (starts_suffix m) ts (brace_suffix m) o
rule_opens s ts g.braces_ o = kind_first _ kind.OpenBrace ts refl o
rule_opens s ts g.operand_name o = kind_first _ kind.Name ts refl o
rule_opens s ts g.operand_int o = kind_first _ kind.Int ts refl o
rule_opens s ts g.operand_rune o = kind_first _ kind.Rune ts refl o
rule_opens s ts g.operand_text o = kind_first _ kind.Text ts refl o
rule_opens s ts g.operand_context o = kind_first _ kind.Context ts refl o
rule_opens s ts g.operand_location o = kind_first _ kind.Directive ts refl o
rule_opens s ts g.operand_dot o = kind_first _ kind.Dot ts refl o
rule_opens s ts g.operand_literal o = kind_first _ kind.OpenBrace ts refl o
rule_opens s ts g.operand_group o = kind_first _ kind.OpenParen ts refl o
rule_opens s ts (g.operand_type {m = m}) o = wider _ (starts_operand m) ts (λ k h. right_or _ _ (starts_so _ (not_parameter m) k h)) o
rule_opens s ts g.operand_proc_type o = kind_first _ kind.Proc ts refl o
rule_opens s ts g.operand_proc o = kind_first _ kind.Proc ts refl o
rule_opens s ts g.no_expr o = tt
rule_opens s ts g.an_expr o = tt
rule_opens s ts g.exprs_ o = o
rule_opens s ts g.exprs_end o = tt
rule_opens s ts g.exprs_more o = tt
rule_opens s ts g.args_none o = tt
rule_opens s ts g.args_some o = tt
rule_opens s ts g.args_end o = tt
rule_opens s ts g.args_comma o = tt
rule_opens s ts g.args_more o = tt
rule_opens s ts g.arg_value o = o
rule_opens s ts g.arg_named o = kind_first _ kind.Name ts refl o
rule_opens s ts g.type_named o = kind_first _ kind.Name ts refl o
rule_opens s ts g.type_member o = kind_first _ kind.Name ts refl o
rule_opens s ts g.type_group o = kind_first _ kind.OpenParen ts refl o
rule_opens s ts g.type_proc o = kind_first _ kind.Proc ts refl o
rule_opens s ts (g.type_constructed {u = u}) o = wider _ (starts_type u) ts (λ k h. left_or _ _ h) o
rule_opens s ts g.type_pointer o = kind_first _ kind.Caret ts refl o
rule_opens s ts g.type_distinct o = kind_first _ kind.Distinct ts refl o
rule_opens s ts g.type_dollar o = kind_first _ kind.Dollar ts refl o
rule_opens s ts g.type_word_proc o = kind_first _ kind.Directive ts refl o
rule_opens s ts g.type_array o = kind_first _ kind.OpenBracket ts refl o
rule_opens s ts g.type_counted o = kind_first _ kind.OpenBracket ts refl o
rule_opens s ts g.type_soa o = kind_first _ kind.Directive ts refl o
rule_opens s ts g.type_soa_counted o = kind_first _ kind.Directive ts refl o
rule_opens s ts g.type_struct o = kind_first _ kind.Struct ts refl o
rule_opens s ts g.type_union o = kind_first _ kind.Union ts refl o
rule_opens s ts g.type_enum o = kind_first _ kind.Enum ts refl o
rule_opens s ts g.no_type o = tt
rule_opens s ts g.a_type o = tt
rule_opens s ts g.length_slice o = tt
rule_opens s ts g.length_dynamic o = tt
rule_opens s ts g.length_dollar o = tt
rule_opens s ts g.length_fixed o = tt
rule_opens s ts g.fields_none o = tt
rule_opens s ts g.fields_some o = tt
rule_opens s ts g.fields_end o = tt
rule_opens s ts g.fields_comma o = tt
rule_opens s ts g.fields_more o = tt
rule_opens s ts g.types_none o = tt
rule_opens s ts g.types_some o = tt
rule_opens s ts g.types_end o = tt
rule_opens s ts g.types_comma o = tt
rule_opens s ts g.types_more o = tt
rule_opens s ts g.enumerators_none o = tt
rule_opens s ts g.enumerators_some o = tt
rule_opens s ts g.enumerators_end o = tt
rule_opens s ts g.enumerators_comma o = tt
rule_opens s ts g.enumerators_more o = tt
rule_opens s ts g.not_given o = tt
rule_opens s ts g.is_given o = tt
rule_opens s ts g.sig_ o = o
rule_opens s ts g.results_none o = tt
rule_opens s ts g.results_one o = tt
rule_opens s ts g.results_list o = tt
rule_opens s ts g.params_none o = tt
rule_opens s ts g.params_named o = tt
rule_opens s ts g.params_bare o = tt
rule_opens s ts g.named_end o = tt
rule_opens s ts g.named_comma o = tt
rule_opens s ts g.named_more o = tt
rule_opens s ts g.bare_end o = tt
rule_opens s ts g.bare_comma o = tt
rule_opens s ts g.bare_more o = tt
rule_opens s ts g.bare_type o = o
rule_opens s ts g.named_typed o = kind_first _ kind.Name ts refl o
rule_opens s ts g.named_typeid o = kind_first _ kind.Name ts refl o
rule_opens s ts g.named_inferred o = kind_first _ kind.Name ts refl o
rule_opens s ts g.dollar_typeid o = kind_first _ kind.Dollar ts refl o
rule_opens s ts g.dollar_int o = kind_first _ kind.Dollar ts refl o
rule_opens s ts g.stmts_none o = tt
rule_opens s ts g.stmts_skip o = tt
rule_opens s ts g.stmts_last o = tt
rule_opens s ts g.stmts_more o = tt
rule_opens s ts g.block_braces o = kind_first _ kind.OpenBrace ts refl o
rule_opens s ts g.body_braces o = kind_first _ kind.OpenBrace ts refl o
rule_opens s ts g.body_do o = kind_first _ kind.Do ts refl o
rule_opens s ts g.statement_declare o = kind_first _ kind.Name ts refl o
rule_opens s ts g.statement_simple o = wider _ starts_statement ts (λ k h. left_or _ _ h) o
rule_opens s ts g.statement_if o = kind_first _ kind.If ts refl o
rule_opens s ts g.statement_bare o = wider _ starts_statement ts (λ k h. right_or (starts_expression Start k) _ (left_or _ _ h)) o
rule_opens s ts g.statement_labelled o = kind_first _ kind.Name ts refl o
rule_opens s ts g.statement_defer o = kind_first _ kind.Defer ts refl o
rule_opens s ts g.statement_return o = kind_first _ kind.Return ts refl o
rule_opens s ts g.statement_return_values o = kind_first _ kind.Return ts refl o
rule_opens s ts g.statement_break o = kind_first _ kind.Break ts refl o
rule_opens s ts g.statement_continue o = kind_first _ kind.Continue ts refl o
rule_opens s ts g.statement_fallthrough o = kind_first _ kind.Fallthrough ts refl o
rule_opens s ts g.simple_eval o = o
rule_opens s ts (g.simple_assign e) o = o
rule_opens s ts g.no_simple o = tt
rule_opens s ts g.a_simple o = tt
rule_opens s ts g.if_ o = o
rule_opens s ts g.else_none o = tt
rule_opens s ts g.else_if o = tt
rule_opens s ts g.else_body o = tt
rule_opens s ts g.header_none o = tt
rule_opens s ts g.header_decl o = tt
rule_opens s ts g.header_simple o = tt
rule_opens s ts g.steps_none o = tt
rule_opens s ts g.steps_decl o = tt
rule_opens s ts g.steps_simple o = tt
rule_opens s ts g.block_alone o = kind_first _ kind.OpenBrace ts refl o
rule_opens s ts g.for_ever o = kind_first _ kind.For ts refl o
rule_opens s ts g.for_while o = kind_first _ kind.For ts refl o
rule_opens s ts g.for_steps o = kind_first _ kind.For ts refl o
rule_opens s ts g.for_range o = kind_first _ kind.For ts refl o
rule_opens s ts g.variables_one o = kind_first _ kind.Name ts refl o
rule_opens s ts g.variables_two o = kind_first _ kind.Name ts refl o
rule_opens s ts g.references_one o = kind_first _ kind.Ampersand ts refl o
rule_opens s ts g.references_two o = kind_first _ kind.Ampersand ts refl o
rule_opens s ts g.span_from o = o
rule_opens s ts g.span_alone o = tt
rule_opens s ts g.span_through o = tt
rule_opens s ts g.span_below o = tt
rule_opens s ts g.switch_plain o = kind_first _ kind.Switch ts refl o
rule_opens s ts g.switch_partial o = kind_first _ kind.Directive ts refl o
rule_opens s ts g.switch_value o = wider _ starts_labelled ts switch_labelled o
rule_opens s ts g.switch_type o = wider _ starts_labelled ts switch_labelled o
rule_opens s ts g.cases_none o = tt
rule_opens s ts g.cases_more o = tt
rule_opens s ts g.items_none o = tt
rule_opens s ts g.items_some o = tt
rule_opens s ts g.items_end o = tt
rule_opens s ts g.items_more o = tt
rule_opens s ts g.declare_constant o = o
rule_opens s ts g.declare_inferred o = o
rule_opens s ts g.declare_typed o = o
rule_opens s ts g.initial_zeros o = tt
rule_opens s ts g.initial_dashes o = tt
rule_opens s ts g.initial_values o = tt
rule_opens s ts g.import_path o = o
rule_opens s ts g.decls_none o = tt
rule_opens s ts g.decls_import o = tt
rule_opens s ts g.decls_more o = tt
rule_opens s ts g.file_ o = o

not_near : (s : List Sym) (ts : List Token) (n : ℕ) → size s ts ≤ n → n ≤ 2 * length ts → OpensAll s ts
not_near [] ts n h k = tt
not_near (x ∷ s) ts n h k = absurd (omega (arith, h, k))

pub reach_opens : {s' : List Sym} {ts' : List Token} {s : List Sym} {ts : List Token} → Reach s' ts' s ts → size s' ts' ≤ 2 * length ts → OpensAll s ts
reach_opens {s'} {ts'} here h = not_near s' ts' (2 * length ts') h (omega arith)
reach_opens (read e r) h = e
reach_opens (read_said e f r) h = e
reach_opens (see e r) h = tt
reach_opens (see_not e r) h = tt
reach_opens (see_no_member e r) h = tt
reach_opens (write {s = s} {ts = ts} p rule r) h = rule_opens s ts rule (reach_opens r h)
