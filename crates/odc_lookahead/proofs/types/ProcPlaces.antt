-- A signature has the place of its first token.
use Rattle.std.proofs.Common.{◌≡◌, ℕ, ◌*◌, ◌≤◌, List, [], ◌∷◌, ◌++◌, length, sym, ap, arith}
use Rattle.odc_syntax.specs.declared.token.Token.{Token}
use Rattle.odc_syntax.specs.declared.grammar.Use.{Use}
use Rattle.odc_syntax.specs.declared.grammar.Use.TheVariants.{Plain, Parameter, Operand, OperandEnd}
use Rattle.odc_syntax.specs.Tree.{Signature, signature, type}
use Rattle.odc_syntax.specs.Tree as tree
use Rattle.odc_syntax.specs.Grammar.{Sym, Rule}
use Rattle.odc_syntax.specs.Grammar as g
use Rattle.odc_syntax.specs.Derives.{Reach}
use Rattle.odc_lookahead.specs.declared.end.End.{End}
use Rattle.odc_lookahead.specs.Exact.{size, one}
use Rattle.odc_lookahead.specs.Ends.{FoundAs}
use Rattle.odc_lookahead.specs.Sets.{nothing_continues}
use Rattle.odc_lookahead.proofs.reading.Leading.{first_is}
use Rattle.odc_lookahead.proofs.reading.Reaching.{behind_token, behind_part}
use Rattle.odc_lookahead.proofs.types.TypeLemmas.{proc_type}

place_by : {u : Use} {c : ℕ} {v : Signature} {p : List Sym} → Rule (g.sig u c v) p → (t : Token) (us : List Token) (s s' : List Sym) (ts' : List Token) → Reach s' ts' (p ++ s) (t ∷ us) → size s' ts' ≤ 2 * length us → type t.at (tree.proc v) ≡ proc_type v
place_by (g.sig_ {t = x} {n = n} {ps = ps} {r = q}) t us s s' ts' r h =
    let z = behind_token r (omega (arith, h)) in
    ap (λ (y : Token). type y.at (tree.proc (signature x.at n ps q))) (sym (first_is z.is))

place_of : (u : Use) (c : ℕ) (t : Token) (us : List Token) (v : Signature) (rest : List Token) → Reach [] rest (g.sig u c v ∷ []) (t ∷ us) → length rest ≤ length us → type t.at (tree.proc v) ≡ proc_type v
place_of u c t us v rest r h = let z = behind_part tt r (omega (arith, h)) in place_by z.rule t us [] [] rest z.reach (omega (arith, h))

pub proc_place : (u : Use) (b : ℕ) (t : Token) (us : List Token) (v : Signature) (n : ℕ) (rest : List Token) (end : End) → FoundAs u (one (g.sig u)) nothing_continues b (t ∷ us) v n rest end → length rest ≤ length us → type t.at (tree.proc v) ≡ proc_type v
proc_place Plain b t us v n rest end f h = place_of Plain n t us v rest (f.reads n (omega arith) []) h
proc_place Parameter b t us v n rest end f h = place_of Parameter n t us v rest (f.reads n (omega arith) []) h
proc_place Operand b t us v n rest end f h = place_of Operand n t us v rest (f.reads n (omega arith) []) h
proc_place OperandEnd b t us v n rest end f h = place_of OperandEnd n t us v rest (f.reads n (omega arith) []) h
