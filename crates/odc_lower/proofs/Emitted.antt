-- The lists of steps as the emitting functions append them.
use Rattle.std.proofs.Common.{◌≡◌, ℕ, zero, suc, ◌+◌, ◌*◌, ◌<◌, List, [], ◌∷◌, ◌++◌, length, map, drop, get_or, ap, ◌∙◌, sym, refl, arith, subst, append_assoc, length-append}
use Rattle.std.specs.Prelude.{Bool}
use Rattle.odc_core.specs.declared.tree.CoreExpr.{CoreExpr}
use Rattle.odc_core.specs.declared.tree.CoreStmt.{CoreStmt}
use Rattle.odc_core.specs.declared.tree.CoreProcedure.{CoreProcedure}
use Rattle.std.proofs.lemmas.List.{length-map}
use Rattle.odc_core.specs.Tree.{Expr, Exprs, call, call_value, Stmt, copy, zero_bytes, choose, repeat, Stmts, Proc}
use Rattle.odc_core.specs.declared.tree.Width.TheVariants.{Double}
use Rattle.odc_mid.specs.declared.tree.Named.TheVariants.{Variable}
use Rattle.odc_mid.specs.declared.tree.MidStep.{MidStep}
use Rattle.odc_core.specs.View.{expr, exprs, stmt, stmts, proc}
use Rattle.odc_core.specs.Well.{count}
use Rattle.odc_lower.specs.Plain.{Step, plain, const_step, return_step, address_step, store_step, jump_step, branch_step, call_step, call_value_step}
use Rattle.odc_lower.specs.Size.{expr_nodes, stmt_size, stmts_size, IsCountable, AreCountable}
use Rattle.odc_lower.specs.Code.{temps_from, expr_code, exprs_code, stmt_code, stmts_code, copy_code, zero_code, parameters_code, procedure_code}
use Rattle.odc_lower.proofs.Lengths.{join_two, join_three, expr_length, stmt_length, stmts_length, parameters_length}
use Rattle.odc_lower.proofs.Lists.{exprs_here, stmts_here}

pub temps_more : (d i : ℕ) → temps_from d (i + 1) ≡ temps_from d i ++ ((d + i) ∷ [])
temps_more d zero = let same : d ≡ d + 0 = omega arith in ap (λ (x : ℕ). x ∷ []) same
temps_more d (suc i) =
    let next : suc i + 1 ≡ suc (i + 1) = omega arith in
    let last : d + 1 + i ≡ d + suc i = omega arith in
    ap (temps_from d) next ∙ ap (λ (xs : List ℕ). d ∷ xs) (temps_more (d + 1) i ∙ ap (λ (x : ℕ). temps_from (d + 1) i ++ (x ∷ [])) last)

pub count_is : (xs : List CoreExpr) → count (exprs xs) ≡ length xs
count_is [] = refl
count_is (x ∷ xs) = ap suc (count_is xs)

-- two parts that were appended one after the other
pub two_parts : (before one two a b : List Step) → one ≡ before ++ a → two ≡ one ++ b → two ≡ before ++ (a ++ b)
two_parts before one two a b p q = q ∙ ap (λ (xs : List Step). xs ++ b) p ∙ append_assoc before a b

pub call_emitted : (before one two : List Step) (d f n : ℕ) (e : Expr) (xs : List CoreExpr) → e ≡ call f (exprs xs) → n ≡ length xs → one ≡ before ++ exprs_code d (exprs xs) →
    two ≡ one ++ (call_step d f (temps_from d n) ∷ []) → two ≡ before ++ expr_code d e
call_emitted before one two d f n e xs is many p q =
    let same : n ≡ count (exprs xs) = many ∙ sym (count_is xs) in
    two_parts before one two (exprs_code d (exprs xs)) (call_step d f (temps_from d n) ∷ []) p q
    ∙ ap (λ (k : ℕ). before ++ (exprs_code d (exprs xs) ++ (call_step d f (temps_from d k) ∷ []))) same
    ∙ ap (λ (x : Expr). before ++ expr_code d x) (sym is)

pub call_value_emitted : (before one two three : List Step) (d n : ℕ) (marked : Bool) (e target : Expr) (xs : List CoreExpr) → e ≡ call_value target (exprs xs) marked → n ≡ length xs →
    one ≡ before ++ expr_code d target → two ≡ one ++ exprs_code (d + 1) (exprs xs) → three ≡ two ++ (call_value_step d d (temps_from (d + 1) n) marked ∷ []) → three ≡ before ++ expr_code d e
call_value_emitted before one two three d n marked e target xs is many p q r =
    let same : n ≡ count (exprs xs) = many ∙ sym (count_is xs) in
    two_parts before one three (expr_code d target) (exprs_code (d + 1) (exprs xs) ++ (call_value_step d d (temps_from (d + 1) n) marked ∷ [])) p
    (two_parts one two three (exprs_code (d + 1) (exprs xs)) (call_value_step d d (temps_from (d + 1) n) marked ∷ []) q r)
    ∙ ap (λ (k : ℕ). before ++ (expr_code d target ++ (exprs_code (d + 1) (exprs xs) ++ (call_value_step d d (temps_from (d + 1) k) marked ∷ [])))) same
    ∙ ap (λ (x : Expr). before ++ expr_code d x) (sym is)

-- one more expression
pub exprs_more : (xs : List CoreExpr) (i d : ℕ) (x : CoreExpr) (all none one : List Step) → i < length xs → x ≡ get_or xs i x →
    none ++ exprs_code (d + i) (exprs (drop i xs)) ≡ all → one ≡ none ++ expr_code (d + i) (expr x) →
    one ++ exprs_code (d + (i + 1)) (exprs (drop (i + 1) xs)) ≡ all
exprs_more xs i d x all none one h e told f =
    let next : d + (i + 1) ≡ d + i + 1 = omega arith in
    let rest : List Step = exprs_code (d + i + 1) (exprs (drop (i + 1) xs)) in
    ap (λ (k : ℕ). one ++ exprs_code k (exprs (drop (i + 1) xs))) next
    ∙ ap (λ (ys : List Step). ys ++ rest) f
    ∙ append_assoc none (expr_code (d + i) (expr x)) rest
    ∙ ap (λ (es : Exprs). none ++ exprs_code (d + i) es) (sym (exprs_here xs i x h e))
    ∙ told

-- six parts
pub six_parts : (before one two three four five six a b c d e f : List Step) → one ≡ before ++ a → two ≡ one ++ b → three ≡ two ++ c → four ≡ three ++ d → five ≡ four ++ e → six ≡ five ++ f →
    six ≡ before ++ (a ++ (b ++ (c ++ (d ++ (e ++ f)))))
six_parts before one two three four five six a b c d e f p q r s t u =
    two_parts before one six a (b ++ (c ++ (d ++ (e ++ f)))) p
    (two_parts one two six b (c ++ (d ++ (e ++ f))) q
    (two_parts two three six c (d ++ (e ++ f)) r
    (two_parts three four six d (e ++ f) s
    (two_parts four five six e f t u))))

-- ---- statements

-- how many steps there are behind what was appended
pub grown : (before behind : List MidStep) (code : List Step) (n : ℕ) → map plain behind ≡ map plain before ++ code → length code ≡ n → length behind ≡ length before + n
grown before behind code n h e =
    let one : length (map plain behind) ≡ length (map plain before) + length code = ap length h ∙ length-append (map plain before) code in
    omega (arith, one, e, length-map before plain, length-map behind plain)

pub pushed : (before behind : List MidStep) (x : Step) → map plain behind ≡ map plain before ++ (x ∷ []) → length behind ≡ length before + 1
pushed before behind x h = grown before behind (x ∷ []) 1 h refl

pub choice_emitted : (before one two three four five : List MidStep) (d begin last : ℕ) (exits : List ℕ) (s : Stmt) (c : Expr) (first second : Stmts) → s ≡ choose c first second →
    map plain one ≡ map plain before ++ expr_code d c → begin ≡ length one + 1 + stmts_size second + 1 → map plain two ≡ map plain one ++ (branch_step d begin ∷ []) →
    map plain three ≡ map plain two ++ stmts_code d exits (length two) second → last ≡ begin + stmts_size first → map plain four ≡ map plain three ++ (jump_step last ∷ []) →
    map plain five ≡ map plain four ++ stmts_code d exits (length four) first → map plain five ≡ map plain before ++ stmt_code d exits (length before) s
choice_emitted before one two three four five d begin last exits s c first second is h1 e1 h2 h3 e2 h4 h5 =
    let p : ℕ = length before in
    let other : ℕ = p + expr_nodes c + 1 in
    let start : ℕ = other + stmts_size second + 1 in
    let l1 : length one ≡ p + expr_nodes c = grown before one (expr_code d c) (expr_nodes c) h1 (expr_length c d) in
    let l2 : length two ≡ other = omega (arith, l1, pushed one two (branch_step d begin) h2) in
    let l3 : length three ≡ length two + stmts_size second = grown two three (stmts_code d exits (length two) second) (stmts_size second) h3 (stmts_length second d exits (length two)) in
    let l4 : length four ≡ start = omega (arith, l2, l3, pushed three four (jump_step last) h4) in
    let b : begin ≡ start = omega (arith, e1, l1) in
    let e : last ≡ start + stmts_size first = omega (arith, e2, b) in
    let g2 : map plain two ≡ map plain one ++ (branch_step d start ∷ []) = h2 ∙ ap (λ (x : ℕ). map plain one ++ (branch_step d x ∷ [])) b in
    let g3 : map plain three ≡ map plain two ++ stmts_code d exits other second = h3 ∙ ap (λ (x : ℕ). map plain two ++ stmts_code d exits x second) l2 in
    let g4 : map plain four ≡ map plain three ++ (jump_step (start + stmts_size first) ∷ []) = h4 ∙ ap (λ (x : ℕ). map plain three ++ (jump_step x ∷ [])) e in
    let g5 : map plain five ≡ map plain four ++ stmts_code d exits start first = h5 ∙ ap (λ (x : ℕ). map plain four ++ stmts_code d exits x first) l4 in
    two_parts (map plain before) (map plain one) (map plain five) (expr_code d c) ((branch_step d start ∷ []) ++ (stmts_code d exits other second ++ ((jump_step (start + stmts_size first) ∷ []) ++ stmts_code d exits start first))) h1
    (two_parts (map plain one) (map plain two) (map plain five) (branch_step d start ∷ []) (stmts_code d exits other second ++ ((jump_step (start + stmts_size first) ∷ []) ++ stmts_code d exits start first)) g2
    (two_parts (map plain two) (map plain three) (map plain five) (stmts_code d exits other second) ((jump_step (start + stmts_size first) ∷ []) ++ stmts_code d exits start first) g3
    (two_parts (map plain three) (map plain four) (map plain five) (jump_step (start + stmts_size first) ∷ []) (stmts_code d exits start first) g4 g5)))
    ∙ ap (λ (x : Stmt). map plain before ++ stmt_code d exits (length before) x) (sym is)

pub loop_emitted : (before one two three : List MidStep) (d begin : ℕ) (exits inner : List ℕ) (s : Stmt) (body : Stmts) → s ≡ repeat body → begin ≡ length before + 1 → inner ≡ (begin + stmts_size body + 1) ∷ exits →
    map plain one ≡ map plain before ++ (jump_step begin ∷ []) → map plain two ≡ map plain one ++ stmts_code d inner (length one) body → map plain three ≡ map plain two ++ (jump_step begin ∷ []) →
    map plain three ≡ map plain before ++ stmt_code d exits (length before) s
loop_emitted before one two three d begin exits inner s body is b e h1 h2 h3 =
    let p : ℕ = length before in
    let within : List ℕ = (p + 1 + stmts_size body + 1) ∷ exits in
    let l1 : length one ≡ p + 1 = pushed before one (jump_step begin) h1 in
    let i : inner ≡ within = e ∙ ap (λ (x : ℕ). (x + stmts_size body + 1) ∷ exits) b in
    let g1 : map plain one ≡ map plain before ++ (jump_step (p + 1) ∷ []) = h1 ∙ ap (λ (x : ℕ). map plain before ++ (jump_step x ∷ [])) b in
    let g2 : map plain two ≡ map plain one ++ stmts_code d within (p + 1) body =
    h2 ∙ ap (λ (x : ℕ). map plain one ++ stmts_code d inner x body) l1 ∙ ap (λ (xs : List ℕ). map plain one ++ stmts_code d xs (p + 1) body) i in
    let g3 : map plain three ≡ map plain two ++ (jump_step (p + 1) ∷ []) = h3 ∙ ap (λ (x : ℕ). map plain two ++ (jump_step x ∷ [])) b in
    two_parts (map plain before) (map plain one) (map plain three) (jump_step (p + 1) ∷ []) (stmts_code d within (p + 1) body ++ (jump_step (p + 1) ∷ [])) g1
    (two_parts (map plain one) (map plain two) (map plain three) (stmts_code d within (p + 1) body) (jump_step (p + 1) ∷ []) g2 g3)
    ∙ ap (λ (x : Stmt). map plain before ++ stmt_code d exits (length before) x) (sym is)

-- one more statement
pub stmts_more : (xs : List CoreStmt) (i d : ℕ) (exits : List ℕ) (x : CoreStmt) (all : List Step) (none one : List MidStep) → i < length xs → x ≡ get_or xs i x →
    map plain none ++ stmts_code d exits (length none) (stmts (drop i xs)) ≡ all → map plain one ≡ map plain none ++ stmt_code d exits (length none) (stmt x) →
    map plain one ++ stmts_code d exits (length one) (stmts (drop (i + 1) xs)) ≡ all
stmts_more xs i d exits x all none one h e told f =
    let p : ℕ = length none in
    let rest : Stmts = stmts (drop (i + 1) xs) in
    let l : length one ≡ p + stmt_size (stmt x) = grown none one (stmt_code d exits p (stmt x)) (stmt_size (stmt x)) f (stmt_length (stmt x) d exits p) in
    ap (λ (k : ℕ). map plain one ++ stmts_code d exits k rest) l
    ∙ ap (λ (ys : List Step). ys ++ stmts_code d exits (p + stmt_size (stmt x)) rest) f
    ∙ append_assoc (map plain none) (stmt_code d exits p (stmt x)) (stmts_code d exits (p + stmt_size (stmt x)) rest)
    ∙ ap (λ (ss : Stmts). map plain none ++ stmts_code d exits p ss) (sym (stmts_here xs i x h e))
    ∙ told

pub copy_emitted : (before one two : List MidStep) (d : ℕ) (to from size : Expr) (p : ℕ) →
    map plain one ≡ map plain before ++ (expr_code d to ++ (expr_code (d + 1) from ++ expr_code (d + 2) size)) → p ≡ length one → map plain two ≡ map plain one ++ copy_code d p →
    map plain two ≡ map plain before ++ stmt_code d [] (length before) (copy to from size)
copy_emitted before one two d to from size p h1 e h2 =
    let place : ℕ = length before + expr_nodes to + expr_nodes from + expr_nodes size in
    let l : length one ≡ place = omega (
      arith,
      grown before one (expr_code d to ++ (expr_code (d + 1) from ++ expr_code (d + 2) size)) (expr_nodes to + expr_nodes from + expr_nodes size) h1
          (join_three (expr_code d to) (expr_code (d + 1) from) (expr_code (d + 2) size) (expr_nodes to) (expr_nodes from) (expr_nodes size) (expr_length to d) (expr_length from (d + 1)) (expr_length size (d + 2))),
    ) in
    let same : p ≡ place = e ∙ l in
    two_parts (map plain before) (map plain one) (map plain two) (expr_code d to ++ (expr_code (d + 1) from ++ expr_code (d + 2) size)) (copy_code d place) h1 (h2 ∙ ap (λ (x : ℕ). map plain one ++ copy_code d x) same)
    ∙ ap (λ (xs : List Step). map plain before ++ xs)
    (append_assoc (expr_code d to) (expr_code (d + 1) from ++ expr_code (d + 2) size) (copy_code d place)
    ∙ ap (λ (xs : List Step). expr_code d to ++ xs) (append_assoc (expr_code (d + 1) from) (expr_code (d + 2) size) (copy_code d place)))

pub zero_emitted : (before one two : List MidStep) (d : ℕ) (to size : Expr) (p : ℕ) →
    map plain one ≡ map plain before ++ (expr_code d to ++ expr_code (d + 1) size) → p ≡ length one → map plain two ≡ map plain one ++ zero_code d p →
    map plain two ≡ map plain before ++ stmt_code d [] (length before) (zero_bytes to size)
zero_emitted before one two d to size p h1 e h2 =
    let place : ℕ = length before + expr_nodes to + expr_nodes size in
    let l : length one ≡ place = omega (
      arith,
      grown before one (expr_code d to ++ expr_code (d + 1) size) (expr_nodes to + expr_nodes size) h1
          (join_two (expr_code d to) (expr_code (d + 1) size) (expr_nodes to) (expr_nodes size) (expr_length to d) (expr_length size (d + 1))),
    ) in
    let same : p ≡ place = e ∙ l in
    two_parts (map plain before) (map plain one) (map plain two) (expr_code d to ++ expr_code (d + 1) size) (zero_code d place) h1 (h2 ∙ ap (λ (x : ℕ). map plain one ++ zero_code d x) same)
    ∙ ap (λ (xs : List Step). map plain before ++ xs) (append_assoc (expr_code d to) (expr_code (d + 1) size) (zero_code d place))

-- one more parameter
pub parameters_more : (d j i : ℕ) → parameters_code d j (i + 1) ≡ parameters_code d j i ++ (address_step d (Variable (j + i)) ∷ store_step Double d (j + i) ∷ [])
parameters_more d j zero = let same : j ≡ j + 0 = omega arith in ap (λ (x : ℕ). address_step d (Variable x) ∷ store_step Double d x ∷ []) same
parameters_more d j (suc i) =
    let next : suc i + 1 ≡ suc (i + 1) = omega arith in
    let last : j + 1 + i ≡ j + suc i = omega arith in
    ap (parameters_code d j) next
    ∙ ap (λ (xs : List Step). address_step d (Variable j) ∷ store_step Double d j ∷ xs)
    (parameters_more d (j + 1) i ∙ ap (λ (x : ℕ). parameters_code d (j + 1) i ++ (address_step d (Variable x) ∷ store_step Double d x ∷ [])) last)

pub parameter_emitted : (before none one two : List Step) (d i : ℕ) → none ≡ before ++ parameters_code d 0 i → one ≡ none ++ (address_step d (Variable i) ∷ []) → two ≡ one ++ (store_step Double d i ∷ []) →
    two ≡ before ++ parameters_code d 0 (i + 1)
parameter_emitted before none one two d i p q r =
    let first : 0 + i ≡ i = omega arith in
    two_parts before none two (parameters_code d 0 i) (address_step d (Variable i) ∷ store_step Double d i ∷ []) p
    (two_parts none one two (address_step d (Variable i) ∷ []) (store_step Double d i ∷ []) q r)
    ∙ ap (λ (xs : List Step). before ++ xs) (sym (parameters_more d 0 i ∙ ap (λ (x : ℕ). parameters_code d 0 i ++ (address_step d (Variable x) ∷ store_step Double d x ∷ [])) first))

-- the steps of a whole procedure
pub procedure_emitted : (none one two three four : List MidStep) (p : Proc) (body : Stmts) → none ≡ [] → body ≡ p.body → map plain one ≡ map plain none ++ parameters_code p.parameters 0 p.parameters →
    map plain two ≡ map plain one ++ stmts_code p.parameters [] (length one) body → map plain three ≡ map plain two ++ (const_step p.parameters 0 ∷ []) →
    map plain four ≡ map plain three ++ (return_step p.parameters ∷ []) → map plain four ≡ procedure_code p
procedure_emitted none one two three four p body e b h1 h2 h3 h4 =
    let d : ℕ = p.parameters in
    let g1 : map plain one ≡ parameters_code d 0 d = h1 ∙ ap (λ (xs : List MidStep). map plain xs ++ parameters_code d 0 d) e in
    let l : length one ≡ 2 * d = omega (arith, grown none one (parameters_code d 0 d) (2 * d) h1 (parameters_length d 0 d), ap (λ (xs : List MidStep). length xs) e) in
    let g2 : map plain two ≡ map plain one ++ stmts_code d [] (2 * d) p.body = h2 ∙ ap (λ (x : ℕ). map plain one ++ stmts_code d [] x body) l ∙ ap (λ (ss : Stmts). map plain one ++ stmts_code d [] (2 * d) ss) b in
    two_parts (map plain one) (map plain two) (map plain four) (stmts_code d [] (2 * d) p.body) (const_step d 0 ∷ return_step d ∷ []) g2
    (two_parts (map plain two) (map plain three) (map plain four) (const_step d 0 ∷ []) (return_step d ∷ []) h3 h4)
    ∙ ap (λ (xs : List Step). xs ++ (stmts_code d [] (2 * d) p.body ++ (const_step d 0 ∷ return_step d ∷ []))) g1

pub countable_at : (xs : List CoreProcedure) (i : ℕ) (x : CoreProcedure) → AreCountable (map proc xs) → i < length xs → x ≡ get_or xs i x → IsCountable (proc x)
countable_at [] i x h inside e = absurd (omega arith)
countable_at (y ∷ xs) zero x h inside e = subst (λ (z : CoreProcedure). IsCountable (proc z)) (sym e) h.0
countable_at (y ∷ xs) (suc i) x h inside e = countable_at xs i x h.1 (omega arith) e
