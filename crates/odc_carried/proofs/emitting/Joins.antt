-- Lists of statements, as the emitting functions append them.
use Rattle.std.proofs.Common.{◌≡◌, List, [], ◌∷◌, ◌++◌, ap, ◌∙◌, refl}
use Rattle.std.specs.Prelude.{Result, Ok, Err, OnOk}
use Rattle.odc_core.specs.declared.tree.CoreStmt.{CoreStmt}
use Rattle.odc_core.specs.Tree.{Stmts, finish, follow}
use Rattle.odc_core.specs.View.{stmt, stmts}
use Rattle.odc_carried.specs.Code.{join}

pub join_assoc : (a b c : Stmts) → join (join a b) c ≡ join a (join b c)
join_assoc finish b c = refl
join_assoc (follow s a) b c = ap (follow s) (join_assoc a b c)

pub join_done : (a : Stmts) → join a finish ≡ a
join_done finish = refl
join_done (follow s a) = ap (follow s) (join_done a)

pub stmts_append : (xs ys : List CoreStmt) → stmts (xs ++ ys) ≡ join (stmts xs) (stmts ys)
stmts_append [] ys = refl
stmts_append (x ∷ xs) ys = ap (follow (stmt x)) (stmts_append xs ys)

-- parts that were appended one after the other
pub two_parts : (before one two a b : Stmts) → one ≡ join before a → two ≡ join one b → two ≡ join before (join a b)
two_parts before one two a b p q = q ∙ ap (λ (x : Stmts). join x b) p ∙ join_assoc before a b

pub parts : (before one two : List CoreStmt) (a b : Stmts) → stmts one ≡ join (stmts before) a → stmts two ≡ join (stmts one) b → stmts two ≡ join (stmts before) (join a b)
parts before one two a b p q = two_parts (stmts before) (stmts one) (stmts two) a b p q

-- what holds in any case
pub always : {T E : Type 0} (r : Result T E) (P : Type 0) → P → OnOk r P
always (Ok x) P p = p
always (Err e) P p = tt

-- two clauses by cases, and what follows from both
pub on_ok_both : {T E X : Type 0} (r : Result T E) {A : X → Type 0} {B : X → Type 0} {C D P : Type 0} → ((x : X) → A x → OnOk r (B x)) → (C → OnOk r D) → (((x : X) → A x → B x) → (C → D) → P) → OnOk r P
on_ok_both (Ok x) a b f = f a b
on_ok_both (Err e) a b f = tt
