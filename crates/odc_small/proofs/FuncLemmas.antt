-- Procedures at the front of a text: each text begins with one at most, and what the reader finds is that
-- one.
use Rattle.std.proofs.Common.{◌⊎◌, inl, inr, ◌≡◌, ◌≢◌, ◌<◌, ◌≤◌, ◌+◌, ◌-◌, ℕ, zero, suc, List, [], ◌∷◌, ◌++◌, length, refl, sym, ◌∙◌, ap, subst, append_assoc, arith, codes, length-append, lit≤}
use Rattle.std.specs.List.{AllByRecursion}
use Rattle.std.proofs.lemmas.List.{append_cancel_left}
use Rattle.odc_text.specs.declared.place.Place.{Place}
use Rattle.odc_typed.specs.declared.tree.Local.{Local}
use Rattle.odc_typed.specs.Tree.{Expr, Exprs, Stmts, Proc, answer}
use Rattle.odc_small.specs.declared.scope.Signature.{Signature}
use Rattle.odc_small.specs.declared.grammar.Keyword.TheVariants.{If, For}
use Rattle.odc_small.specs.Forms.{Form, FoundAt, NoneAt, spellings, many, both, mark}
use Rattle.odc_small.specs.Grammar.{Value, SumAt, Line, declare, assign, print, nest, LineAt, Func, IsFunc, BodyAt, bodies, lines, newline, atoms, parameter_spelling, func_spelling, list_spelling, inner_spelling}
use Rattle.odc_small.specs.Names.{Around, Callable, Names, AreDifferent, KnowsFunc, KnowsBody, KnowsValue, sum_of, parameter_names, body_variables, names_after}
use Rattle.odc_small.specs.Reading.{uppers, closed_by, nexts_of, known_atoms, column_at, ReadsAt}
use Rattle.odc_small.specs.Progress.{known_values, Reached, after_all, NoBody, ReadsBody, OuterAt}
use Rattle.odc_small.specs.Text.{parameters, parameters_close, Heading, headings, Footing, footings, footing_told, known_funcs, started, ReadsFunc}
use Rattle.odc_small.specs.Typing.{at, value_at, body_height, body_locals, all_locals, body_stmts, parameters_at, ending_with}
use Rattle.odc_small.proofs.FormLemmas.{Unique, Meets, SoFar, all_found, mark_found, mark_none, mark_unique, both_found, both_unique, none_first, none_second}
use Rattle.odc_small.proofs.PieceLemmas.{heads, tails, uppers_unique}
use Rattle.odc_small.proofs.SumLemmas.{ends_sum}
use Rattle.odc_small.proofs.AtomLemmas.{known_sums_unique, closed_unique, closed_found, closed_empty, closed_none_list, closed_none_mark, list_none}
use Rattle.odc_small.proofs.KnownLemmas.{value_split, value_join}
use Rattle.odc_small.proofs.BodyLemmas.{body_unique}
use Rattle.odc_small.proofs.BlockLemmas.{after_names_are, after_locals_are, after_line_is}

-- ---- parameters

pub parameters_unique : Unique parameters
parameters_unique bytes c d r s f g =
    let e = sym f.whole ∙ g.whole in
    (heads c d _ _ e, append_cancel_left (codes ": int") r s (tails c d _ _ e))

pub any_end : (r : List ℕ) → Unit {0}
any_end r = tt

abbrev pub close_more : List ℕ
close_more = codes " -> int {" ++ newline

pub no_parameter : (r : List ℕ) → NoneAt parameters (41 ∷ r)
no_parameter r c rest f = omega (arith, heads 41 c _ _ f.whole, f.is.0)

abbrev closed : Form (List ℕ)
closed = closed_by parameters_close parameters

pub closed_parameters_unique : Unique closed
closed_parameters_unique = closed_unique parameters parameters_unique any_end close_more any_end no_parameter

-- ---- first lines

abbrev opened : Form (Unit {0} × List ℕ)
opened = both (mark (codes " :: proc(")) closed

opened_unique : Unique opened
opened_unique = both_unique (mark (codes " :: proc(")) closed (λ _ _ _ _. tt) (mark_unique (codes " :: proc(")) closed_parameters_unique

pub headings_unique : Unique headings
headings_unique = both_unique uppers opened (λ _ _ _ _. tt) uppers_unique opened_unique

pub heading_none_name : (bytes : List ℕ) → NoneAt uppers bytes → NoneAt headings bytes
heading_none_name bytes off = none_first uppers opened (λ _ _ _ _. tt) bytes off

pub heading_none_mark : (bytes b1 : List ℕ) (c : ℕ) → FoundAt uppers bytes c b1 → ((rest : List ℕ) → b1 ≢ codes " :: proc(" ++ rest) → NoneAt headings bytes
heading_none_mark bytes b1 c f off =
    none_second uppers opened (λ _ _ _ _. tt) uppers_unique bytes b1 c f (none_first (mark (codes " :: proc(")) closed (λ _ _ _ _. tt) b1 (mark_none (codes " :: proc(") b1 off))

pub heading_none_close : (bytes b1 b2 : List ℕ) (c : ℕ) → FoundAt uppers bytes c b1 → b1 ≡ codes " :: proc(" ++ b2 → NoneAt closed b2 → NoneAt headings bytes
heading_none_close bytes b1 b2 c f e off =
    none_second uppers opened (λ _ _ _ _. tt) uppers_unique bytes b1 c f
    (none_second (mark (codes " :: proc(")) closed (λ _ _ _ _. tt) (mark_unique (codes " :: proc(")) b1 b2 tt (mark_found (codes " :: proc(") b1 b2 e) off)

pub heading_found : (bytes b1 b2 rest : List ℕ) (c : ℕ) (ps : List ℕ) → FoundAt uppers bytes c b1 → b1 ≡ codes " :: proc(" ++ b2 → FoundAt closed b2 ps rest → FoundAt headings bytes (c, (tt, ps)) rest
heading_found bytes b1 b2 rest c ps f e g =
    both_found uppers opened bytes b1 rest c (tt, ps) f (both_found (mark (codes " :: proc(")) closed b1 b2 rest tt ps (mark_found (codes " :: proc(") b1 b2 e) g)

-- ---- last lines

module _ (callable : Callable) (bindings : Names) where
  abbrev here : Form (SumAt 4)
  here = known_values callable bindings

  abbrev pub last : List ℕ
  last = newline ++ (codes "}" ++ newline)

  abbrev pub answered : Form (Value × Unit {0})
  answered = both here (mark last)

  abbrev returning : List ℕ
  returning = 9 ∷ codes "return "

  pub answered_meets : Meets here (mark last)
  answered_meets t rest is ends =
      ends_sum (atoms 4).spelling (known_atoms callable bindings 4).Is 10 (codes "}" ++ newline ++ rest) (λ e. omega (arith, e)) (λ digit. omega (arith, digit.0))

  answered_unique : Unique answered
  answered_unique = both_unique here (mark last) answered_meets (known_sums_unique callable bindings 4) (mark_unique last)

  pub footings_unique : Unique (footings callable bindings)
  footings_unique = both_unique (mark returning) answered (λ _ _ _ _. tt) (mark_unique returning) answered_unique

-- a procedure's last lines are no line of its body
no_return : (around : Around) (old : Reached) (y : List ℕ) (l : LineAt 7) (rest : List ℕ) → 114 ∷ 101 ∷ y ≡ inner_spelling 1 (bodies 7).spelling l ++ rest → ⊥
no_return around old y (declare c v) rest e = omega (arith, heads 101 32 _ _ (tails 114 c _ _ e))
no_return around old y (assign c v) rest e = omega (arith, heads 101 32 _ _ (tails 114 c _ _ e))
no_return around old y (print v vs) rest e = omega (arith, heads 114 102 _ _ e)
no_return around old y (nest If left x right body) rest e = omega (arith, heads 114 105 _ _ e)
no_return around old y (nest For left x right body) rest e = omega (arith, heads 114 102 _ _ e)

pub no_body_return : (around : Around) (old : Reached) (y : List ℕ) → NoBody around 8 old (9 ∷ codes "return " ++ y)
no_body_return around old y l rest f = no_return around old (codes "turn " ++ y) l rest (tails 9 9 _ _ f.whole)

-- ---- procedures

abbrev pub around_of : Callable → List ℕ → Around
around_of callable names = record { callable = callable; parameters = length names }

abbrev made : ℕ → List ℕ → List (LineAt 7) → Value → Func
made c ps body v = record { name = c; parameters = ps; body = body; answer = v }

module _ (callable : Callable) where
  abbrev foot_of : Value → List ℕ
  foot_of v = (footings callable []).spelling (tt, (v, tt))

  as_heading : (bytes rest : List ℕ) (f : Func) → FoundAt (known_funcs callable) bytes f rest
      → FoundAt headings bytes (f.name, (tt, f.parameters)) (spellings (lines 7).spelling f.body ++ (foot_of f.answer ++ rest))
  as_heading bytes rest f found =
      let H = headings.spelling (f.name, (tt, f.parameters)) in
      let B = spellings (lines 7).spelling f.body in
      record {
        is = (found.is.0.name, (tt, found.is.0.parameters));
        ends = tt;
        whole = found.whole ∙ append_assoc H (B ++ foot_of f.answer) rest ∙ ap (λ z. H ++ z) (append_assoc B (foot_of f.answer) rest);
      }

  -- the names behind a body
  abbrev names_of : List ℕ → List (LineAt 7) → Names
  names_of ps ls = names_after (body_variables 8) (length ps + 1) (parameter_names 0 ps) ls

  as_footing : (rest : List ℕ) (f : Func) → IsFunc f → KnowsFunc callable f → FoundAt (footings callable (names_of f.parameters f.body)) (foot_of f.answer ++ rest) (tt, (f.answer, tt)) rest
  as_footing rest f is knows = record {
    is = (tt, (value_join (around_of callable f.parameters) (names_of f.parameters f.body) f.answer is.answer knows.answer, tt));
    ends = tt;
    whole = refl;
  }

  no_foot_body : (ps : List ℕ) (there : Reached) (v : Value) (rest : List ℕ) → NoBody (around_of callable ps) 8 there (foot_of v ++ rest)
  no_foot_body ps there v rest = no_body_return (around_of callable ps) there ((known_values callable []).spelling v ++ (newline ++ (codes "}" ++ newline)) ++ rest)

  pub func_none_heading : (bytes : List ℕ) → NoneAt headings bytes → NoneAt (known_funcs callable) bytes
  func_none_heading bytes off f rest found = off _ _ (as_heading bytes rest f found)

  pub func_none_different : (bytes b1 : List ℕ) (c : ℕ) (ps : List ℕ) → FoundAt headings bytes (c, (tt, ps)) b1 → ¬ AreDifferent ps → NoneAt (known_funcs callable) bytes
  func_none_different bytes b1 c ps h off f rest found =
      let same = headings_unique bytes (c, (tt, ps)) (f.name, (tt, f.parameters)) b1 _ h (as_heading bytes rest f found) in
      off (subst (λ (p : Heading). AreDifferent p.1.1) (sym same.0) found.is.1.different)

  pub func_none_footing : (bytes b1 b2 : List ℕ) (c line : ℕ) (ps : List ℕ) (mid : Reached) (ss : Stmts) → FoundAt headings bytes (c, (tt, ps)) b1
      → ReadsBody (around_of callable ps) 8 (started ps line) mid b1 b2 ss → NoneAt (footings callable mid.names) b2 → NoneAt (known_funcs callable) bytes
  func_none_footing bytes b1 b2 c line ps mid ss h body off f rest found =
      let same = headings_unique bytes (c, (tt, ps)) (f.name, (tt, f.parameters)) b1 (spellings (lines 7).spelling f.body ++ (foot_of f.answer ++ rest)) h (as_heading bytes rest f found) in
      let qs : f.parameters ≡ ps = ap (λ (p : Heading). p.1.1) (sym same.0) in
      let K : List ℕ → Type 0 = λ z. KnowsBody (around_of callable z) 8 (started z line).next (started z line).names f.body in
      let inside = body_unique (around_of callable ps) 8 (lit≤ tt) (started ps line) body.trees f.body b2 (foot_of f.answer ++ rest) body.is body.knows found.is.0.body (subst K qs found.is.1.body)
      (sym body.whole ∙ same.1) (subst (λ (z : Reached). NoBody (around_of callable ps) 8 z b2) body.after body.off) (no_foot_body ps _ f.answer rest) in
      let names : names_of f.parameters f.body ≡ mid.names =
      ap (λ z. names_of z f.body) qs ∙ ap (names_of ps) (sym inside.0) ∙ sym (ap (λ (z : Reached). z.names) body.after ∙ after_names_are 7 (started ps line) body.trees) in
      let P : Names → Type 0 = λ ns. FoundAt (footings callable ns) (foot_of f.answer ++ rest) (tt, (f.answer, tt)) rest in
      let foot = subst P names (as_footing rest f found.is.0 found.is.1) in
      off (tt, (f.answer, tt)) rest (subst (λ z. FoundAt (footings callable mid.names) z (tt, (f.answer, tt)) rest) (sym inside.1) foot)

  pub funcs_unique : Unique (known_funcs callable)
  funcs_unique bytes f g r s p q =
      let same = headings_unique bytes (f.name, (tt, f.parameters)) (g.name, (tt, g.parameters)) (spellings (lines 7).spelling f.body ++ (foot_of f.answer ++ r))
      (spellings (lines 7).spelling g.body ++ (foot_of g.answer ++ s)) (as_heading bytes r f p) (as_heading bytes s g q) in
      let ps = f.parameters in
      let qs : g.parameters ≡ ps = ap (λ (p : Heading). p.1.1) (sym same.0) in
      let K : List ℕ → Type 0 = λ z. KnowsBody (around_of callable z) 8 (started z 0).next (started z 0).names g.body in
      let inside = body_unique (around_of callable ps) 8 (lit≤ tt) (started ps 0) f.body g.body (foot_of f.answer ++ r) (foot_of g.answer ++ s) p.is.0.body p.is.1.body q.is.0.body (subst K qs q.is.1.body)
      same.1 (no_foot_body ps _ f.answer r) (no_foot_body ps _ g.answer s) in
      let names : names_of g.parameters g.body ≡ names_of ps f.body = ap (λ z. names_of z g.body) qs ∙ ap (names_of ps) (sym inside.0) in
      let P : Names → Type 0 = λ ns. FoundAt (footings callable ns) (foot_of g.answer ++ s) (tt, (g.answer, tt)) s in
      let last = subst P names (as_footing s g q.is.0 q.is.1) in
      let ends = footings_unique callable (names_of ps f.body) (foot_of f.answer ++ r) (tt, (f.answer, tt)) (tt, (g.answer, tt)) r s (as_footing r f p.is.0 p.is.1)
      (subst (λ z. FoundAt (footings callable (names_of ps f.body)) z (tt, (g.answer, tt)) s) (sym inside.1) last) in
      (ap (λ (h : Heading). made h.0 h.1.1 f.body f.answer) same.0 ∙ ap (λ b. made g.name g.parameters b f.answer) inside.0 ∙ ap (λ (t : Footing). made g.name g.parameters g.body t.1.0) ends.0, ends.1)

  abbrev pub proc_of : ℕ → ℕ → List ℕ → List Local → Stmts → ℕ → Expr → Proc
  proc_of line c ps vs ss last e = record {
    name = codes "main." ++ c ∷ [];
    at = at line 6;
    parameters = parameters_at line 11 ps;
    results = record { at = at line (16 + length (list_spelling parameter_spelling ps)) } ∷ [];
    locals = vs;
    body = ending_with ss (answer (at last 2) e);
  }

  pub func_read : (bytes b1 b2 rest : List ℕ) (c line origin next : ℕ) (ps : List ℕ) (mid : Reached) (ss : Stmts) (e : Expr) (p : Proc) (s : Signature) → FoundAt headings bytes (c, (tt, ps)) b1
      → AreDifferent ps → ReadsBody (around_of callable ps) 8 (started ps line) mid b1 b2 ss
      → ReadsAt (footings callable mid.names) (footing_told callable mid.names mid.line) origin b2 rest e → column_at origin b2 ≡ 1
      → p ≡ proc_of line c ps mid.locals ss mid.line e → s ≡ record { name = c; parameters = length ps } → next ≡ mid.line + 2 → ReadsFunc callable line next bytes rest p s
  func_read bytes b1 b2 rest c line origin next ps mid ss e p s h different body foot column is signed after =
      let v = foot.tree.1.0 in
      let names = ap (λ (z : Reached). z.names) body.after ∙ after_names_are 7 (started ps line) body.trees in
      let vars = ap (λ (z : Reached). z.locals) body.after ∙ after_locals_are 8 (started ps line) body.trees in
      let line_is = ap (λ (z : Reached). z.line) body.after ∙ after_line_is 8 (started ps line) body.trees in
      let split = value_split (around_of callable ps) mid.names v foot.found.is.1.0 in
      let H = headings.spelling (c, (tt, ps)) in
      let B = spellings (lines 7).spelling body.trees in
      let F = foot_of v in
      let nine : column_at origin b2 + 8 ≡ 9 = omega (arith, column) in
      let last = line + 1 + sum_of (body_height 8) body.trees in
      let total : bytes ≡ H ++ (B ++ (F ++ rest)) = h.whole ∙ ap (λ z. H ++ z) (body.whole ∙ ap (λ z. B ++ z) foot.found.whole) in
      record {
        tree = made c ps body.trees v;
        found = record {
          is = (
            record { name = h.is.0; parameters = h.is.1.1; body = body.is; answer = split.0 },
            record { different = different; body = body.knows; answer = subst (λ ns. KnowsValue (around_of callable ps) ns v) names split.1 },
          );
          ends = tt;
          whole = total ∙ ap (λ z. H ++ z) (sym (append_assoc B F rest)) ∙ sym (append_assoc H (B ++ F) rest);
        };
        gives = is
            ∙ ap (λ vs. proc_of line c ps vs ss mid.line e) vars
            ∙ ap (λ ss. proc_of line c ps (all_locals (body_height 8) (body_locals 8) (line + 1) body.trees) ss mid.line e) body.gives
            ∙ ap (proc_of line c ps (all_locals (body_height 8) (body_locals 8) (line + 1) body.trees) (body_stmts callable 8 (length ps + 1) (parameter_names 0 ps) (line + 1) body.trees) mid.line)
            (foot.gives ∙ ap (λ (k : ℕ). value_at callable mid.names mid.line k v) nine ∙ ap (λ (ns : Names). value_at callable ns mid.line 9 v) names)
            ∙ ap (λ (k : ℕ). proc_of line c ps (all_locals (body_height 8) (body_locals 8) (line + 1) body.trees) (body_stmts callable 8 (length ps + 1) (parameter_names 0 ps) (line + 1) body.trees) k
            (value_at callable (names_of ps body.trees) k 9 v)) line_is;
        signature = signed;
        after = omega (arith, after, line_is);
        moves = omega (arith, after, body.moves.line, ap length h.whole, length-append H b1, ap length foot.found.whole, length-append F rest);
        consumed = omega (arith, body.moves.shorter, ap length h.whole, length-append H b1, ap length foot.found.whole, length-append F rest);
      }

-- two procedures with the same parts
abbrev pub proc_with : List ℕ → Place → List Local → List Local → List Local → Stmts → Proc
proc_with name place parameters results locals body = record { name = name; at = place; parameters = parameters; results = results; locals = locals; body = body }

pub proc_same : (n n' : List ℕ) (a a' : Place) (ps ps' rs rs' ls : List Local) (b b' : Stmts) → n ≡ n' → a ≡ a' → ps ≡ ps' → rs ≡ rs' → b ≡ b' → proc_with n a ps rs ls b ≡ proc_with n' a' ps' rs' ls b'
proc_same n n' a a' ps ps' rs rs' ls b b' e f g h i =
    ap (λ z. proc_with z a ps rs ls b) e ∙ ap (λ z. proc_with n' z ps rs ls b) f ∙ ap (λ z. proc_with n' a' z rs ls b) g ∙ ap (λ z. proc_with n' a' ps' z ls b) h
    ∙ ap (λ z. proc_with n' a' ps' rs' ls z) i
