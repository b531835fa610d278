-- Names that are types, and names of other packages: where they end, by the tokens behind the name.
use Rattle.std.proofs.Common.{◌≡◌, ℕ, suc, ◌-◌, ◌*◌, ◌≤◌, true, false, List, [], ◌∷◌, ◌++◌, length, refl, sym, ◌∙◌, ap, subst, arith}
use Rattle.odc_syntax.specs.declared.token.Token.{Token}
use Rattle.odc_syntax.specs.declared.token.TokenKind.TheVariants as kind
use Rattle.odc_syntax.specs.declared.grammar.Use.{Use}
use Rattle.odc_syntax.specs.declared.grammar.Use.TheVariants.{Plain, Parameter, Operand, OperandEnd}
use Rattle.odc_syntax.specs.Tree.{Type_, type}
use Rattle.odc_syntax.specs.Tree as tree
use Rattle.odc_syntax.specs.Grammar.{Sym, tok, Rule, type_}
use Rattle.odc_syntax.specs.Grammar as g
use Rattle.odc_syntax.specs.Derives.{Reach, here, read, see_no_member, write, StartsWithout, StartsNoMember}
use Rattle.odc_lookahead.specs.declared.end.End.TheVariants.{Sure, BeforeDot}
use Rattle.odc_lookahead.specs.Exact.{size, one, done, Remains, Found, Broken}
use Rattle.odc_lookahead.specs.Ends.{FoundTo, FoundAs, ends_operand}
use Rattle.odc_lookahead.specs.Sets.{nothing_continues, starts_constructed}
use Rattle.odc_lookahead.proofs.reading.Reaching.{behind_token, behind_part, behind_not_member}
use Rattle.odc_lookahead.proofs.reading.Leading.{one_deeper, Pending, led_done, token_missing, first_is, without, at_rest}
use Rattle.odc_lookahead.proofs.reading.Answering.{led_at, token_read}
use Rattle.odc_lookahead.proofs.types.TypeLemmas.{TypeBegins, type_first, named_type_found, member_type_led}
use Rattle.odc_lookahead.proofs.reading.EndLemmas.{found_to}
use Rattle.odc_lookahead.proofs.reading.Samples as sample

no_member : (us : List Token) → StartsWithout kind.Dot us → StartsNoMember us
no_member [] h = tt
no_member (t ∷ []) h = tt
no_member (t ∷ u ∷ us) h = λ e f. h e

no_name_behind : (d : Token) (us : List Token) → StartsWithout kind.Name us → StartsNoMember (d ∷ us)
no_name_behind d [] h = tt
no_name_behind d (u ∷ us) h = λ e f. h f

not_constructed : (u : Use) (t : Token) → t.kind ≡ kind.Name → starts_constructed u t.kind ≡ true → ⊥
not_constructed u t e on = let bad : false ≡ true = ap (starts_constructed u) (sym e) ∙ on in cc

-- a name before anything but `.`, where a type is an operand
alone_split : (u : Use) (t : Token) (us : List Token) → t.kind ≡ kind.Name → StartsWithout kind.Dot us → g.behind_name u ≡ g.not_member → (c : ℕ) (w : Type_) (p : List Sym) (rule : Rule (type_ u c w) p) → TypeBegins rule t.kind →
    (s s' : List Sym) (ts' : List Token) → Reach s' ts' (p ++ s) (t ∷ us) → size s' ts' ≤ 2 * length us → Pending (λ n. suc n) done (λ v. type t.at (tree.named t)) 0 us c w s s' ts'
unfolding done
alone_split u t us e open' look c w p (g.type_named {b = b}) f s s' ts' r h =
    let z = behind_token r (omega (arith, h)) in
    let y = behind_not_member (subst (λ (x : Sym). Reach s' ts' (x ∷ s) us) look (at_rest z)) h in
    record { at = b; value = tt; bound = refl; whole = ap (λ (t : Token). type t.at (tree.named t)) (first_is z.is); deep = omega arith; reach = y.1 }
alone_split u t us e open' look c w p g.type_member f s s' ts' r h =
    let z = behind_token r (omega (arith, h)) in
    let y = behind_token (at_rest z) h in
    absurd (without kind.Dot _ _ us y.is y.kind open')
alone_split u t us e open' look c w p g.type_group f s s' ts' r h = let bad : kind.Name ≡ kind.OpenParen = sym e ∙ f in cc
alone_split u t us e open' look c w p g.type_proc f s s' ts' r h = let bad : kind.Name ≡ kind.Proc = sym e ∙ f in cc
alone_split u t us e open' look c w p g.type_constructed f s s' ts' r h = absurd (not_constructed u t e f)

alone_found : (u : Use) (b : ℕ) (t : Token) (us : List Token) → t.kind ≡ kind.Name → StartsWithout kind.Dot us → g.behind_name u ≡ g.not_member → Found (one (type_ u)) nothing_continues (suc b) (t ∷ us) (type t.at (tree.named t)) 1 us
unfolding done
alone_found u b t us e open' look =
    led_done one_deeper (led_at b us done (λ v. type t.at (tree.named t)) tt (omega arith) one_deeper (λ c v. tt)
    (λ c v s. write _ g.type_named (read e (subst (λ (x : Sym). Reach s us (x ∷ s) us) (sym look) (see_no_member (no_member us open') here))))
    (λ c w p rule s s' ts' r h clear. alone_split u t us e open' look c w p rule (type_first rule s s' ts' t us r (omega (arith, h))) s s' ts' r h))

pub name_alone : (u : Use) (b : ℕ) (t : Token) (us : List Token) → t.kind ≡ kind.Name → StartsWithout kind.Dot us → FoundAs u (one (type_ u)) nothing_continues (suc b) (t ∷ us) (type t.at (tree.named t)) 1 us Sure
name_alone Plain b t us e open' = named_type_found Plain b t us e open' refl
name_alone Parameter b t us e open' = named_type_found Parameter b t us e open' refl
name_alone Operand b t us e open' = found_to (alone_found Operand b t us e open' refl)
name_alone OperandEnd b t us e open' = found_to (alone_found OperandEnd b t us e open' refl)

-- a name, `.` and a name, where a type is an operand
member_split : (u : Use) (t d n : Token) (us : List Token) → t.kind ≡ kind.Name → d.kind ≡ kind.Dot → n.kind ≡ kind.Name → g.behind_name u ≡ g.not_member → (c : ℕ) (w : Type_) (p : List Sym) (rule : Rule (type_ u c w) p) → TypeBegins rule t.kind →
    (s s' : List Sym) (ts' : List Token) → Reach s' ts' (p ++ s) (t ∷ d ∷ n ∷ us) → size s' ts' ≤ 2 * length us → Pending (λ n. suc n) done (λ v. type t.at (tree.member t n)) 0 us c w s s' ts'
unfolding done
member_split u t d n us e k l look c w p g.type_named f s s' ts' r h =
    let z = behind_token r (omega (arith, h)) in
    let y = behind_not_member (subst (λ (x : Sym). Reach s' ts' (x ∷ s) (d ∷ n ∷ us)) look (at_rest z)) (omega (arith, h)) in
    absurd (y.0 k l)
member_split u t d n us e k l look c w p (g.type_member {b = b}) f s s' ts' r h =
    let z = behind_token r (omega (arith, h)) in
    let y = behind_token (at_rest z) (omega (arith, h)) in
    let x = behind_token (at_rest y) (omega (arith, h)) in
    record { at = b; value = tt; bound = refl; whole = λ i. type ((first_is z.is) i).at (tree.member ((first_is z.is) i) ((first_is x.is) i)); deep = omega arith; reach = at_rest x }
member_split u t d n us e k l look c w p g.type_group f s s' ts' r h = let bad : kind.Name ≡ kind.OpenParen = sym e ∙ f in cc
member_split u t d n us e k l look c w p g.type_proc f s s' ts' r h = let bad : kind.Name ≡ kind.Proc = sym e ∙ f in cc
member_split u t d n us e k l look c w p g.type_constructed f s s' ts' r h = absurd (not_constructed u t e f)

member_found : (u : Use) (b : ℕ) (t d n : Token) (us : List Token) → t.kind ≡ kind.Name → d.kind ≡ kind.Dot → n.kind ≡ kind.Name → g.behind_name u ≡ g.not_member →
    Found (one (type_ u)) nothing_continues (suc b) (t ∷ d ∷ n ∷ us) (type t.at (tree.member t n)) 1 us
unfolding done
member_found u b t d n us e k l look =
    led_done one_deeper (led_at b us done (λ v. type t.at (tree.member t n)) tt (omega arith) one_deeper (λ c v. tt) (λ c v s. write _ g.type_member (read e (read k (read l here))))
    (λ c w p rule s s' ts' r h clear. member_split u t d n us e k l look c w p rule (type_first rule s s' ts' t (d ∷ n ∷ us) r (omega (arith, h))) s s' ts' r h))

plain_member : (u : Use) (b : ℕ) (t d n : Token) (us : List Token) → t.kind ≡ kind.Name → d.kind ≡ kind.Dot → n.kind ≡ kind.Name → g.behind_name u ≡ g.not_next kind.Dot →
    Found (one (type_ u)) nothing_continues (suc b) (t ∷ d ∷ n ∷ us) (type t.at (tree.member t n)) 1 us
plain_member u b t d n us e k l look = led_done one_deeper (token_read one_deeper (member_type_led u b t d (n ∷ us) e k look) (omega arith) refl l)

member_by : (u : Use) (b : ℕ) (t d n : Token) (us : List Token) → t.kind ≡ kind.Name → d.kind ≡ kind.Dot → n.kind ≡ kind.Name → FoundAs u (one (type_ u)) nothing_continues (suc b) (t ∷ d ∷ n ∷ us) (type t.at (tree.member t n)) 1 us Sure
member_by Plain b t d n us e k l = plain_member Plain b t d n us e k l refl
member_by Parameter b t d n us e k l = plain_member Parameter b t d n us e k l refl
member_by Operand b t d n us e k l = found_to (member_found Operand b t d n us e k l refl)
member_by OperandEnd b t d n us e k l = found_to (member_found OperandEnd b t d n us e k l refl)

pub name_member : (u : Use) (b : ℕ) (t d n : Token) (us vs after : List Token) → t.kind ≡ kind.Name → us ≡ d ∷ vs → d.kind ≡ kind.Dot → vs ≡ n ∷ after → n.kind ≡ kind.Name →
    FoundAs u (one (type_ u)) nothing_continues (suc b) (t ∷ us) (type t.at (tree.member t n)) 1 after Sure
name_member u b t d n us vs after e is k second l =
    subst (λ (r : List Token). FoundAs u (one (type_ u)) nothing_continues (suc b) (t ∷ r) (type t.at (tree.member t n)) 1 after Sure) (sym (is ∙ ap (λ (r : List Token). d ∷ r) second)) (member_by u b t d n after e k l)

-- a name before `.` and no name: it can't end there, where no expression may stand
broken_by : (u : Use) (b : ℕ) (t d : Token) (vs : List Token) → t.kind ≡ kind.Name → d.kind ≡ kind.Dot → StartsWithout kind.Name vs → g.behind_name u ≡ g.not_next kind.Dot → Broken (one (type_ u)) nothing_continues (suc b) (t ∷ d ∷ vs) (length vs)
broken_by u b t d vs e k none look = token_missing kind.Name done (member_type_led u b t d vs e k look) none

broken_in : (u : Use) (b : ℕ) (t d : Token) (vs : List Token) → ends_operand u ≡ false → t.kind ≡ kind.Name → d.kind ≡ kind.Dot → StartsWithout kind.Name vs → Broken (one (type_ u)) nothing_continues (suc b) (t ∷ d ∷ vs) (length vs)
broken_in Plain b t d vs plain e k none = broken_by Plain b t d vs e k none refl
broken_in Parameter b t d vs plain e k none = broken_by Parameter b t d vs e k none refl
broken_in Operand b t d vs plain e k none = cc
broken_in OperandEnd b t d vs plain e k none = cc

pub name_broken : (u : Use) (b : ℕ) (t d : Token) (us vs : List Token) → ends_operand u ≡ false → t.kind ≡ kind.Name → us ≡ d ∷ vs → d.kind ≡ kind.Dot → StartsWithout kind.Name vs → Broken (one (type_ u)) nothing_continues (suc b) (t ∷ us) (length vs)
name_broken u b t d us vs plain e is k none = subst (λ (r : List Token). Broken (one (type_ u)) nothing_continues (suc b) (t ∷ r) (length vs)) (sym is) (broken_in u b t d vs plain e k none)

-- where the type is an operand, it ends there, though as far as the `.` it may be a name of a package
open_by : {u : Use} {c : ℕ} {w : Type_} {p : List Sym} (t d : Token) (vs : List Token) → t.kind ≡ kind.Name → StartsWithout kind.Name vs → g.behind_name u ≡ g.not_member → (rule : Rule (type_ u c w) p) → TypeBegins rule t.kind →
    (s s' : List Sym) (ts' : List Token) → Reach s' ts' (p ++ s) (t ∷ d ∷ vs) → size s' ts' ≤ 2 * length vs → Remains (type t.at (tree.named t)) 1 (d ∷ vs) c w s s' ts'
open_by t d vs e none look g.type_named f s s' ts' r h =
    let z = behind_token r (omega (arith, h)) in
    let y = behind_not_member (subst (λ (x : Sym). Reach s' ts' (x ∷ s) (d ∷ vs)) look (at_rest z)) (omega (arith, h)) in
    record { value = ap (λ (t : Token). type t.at (tree.named t)) (first_is z.is); bound = omega arith; reach = y.1 }
open_by t d vs e none look g.type_member f s s' ts' r h =
    let z = behind_token r (omega (arith, h)) in
    let y = behind_token (at_rest z) (omega (arith, h)) in
    let x = behind_token (at_rest y) h in
    absurd (without kind.Name _ _ vs x.is x.kind none)
open_by t d vs e none look g.type_group f s s' ts' r h = let bad : kind.Name ≡ kind.OpenParen = sym e ∙ f in cc
open_by t d vs e none look g.type_proc f s s' ts' r h = let bad : kind.Name ≡ kind.Proc = sym e ∙ f in cc
open_by t d vs e none look (g.type_constructed {u = u}) f s s' ts' r h = absurd (not_constructed u t e f)

open_found : (u : Use) (b : ℕ) (t d : Token) (vs : List Token) → t.kind ≡ kind.Name → d.kind ≡ kind.Dot → StartsWithout kind.Name vs → g.behind_name u ≡ g.not_member →
    FoundTo (one (type_ u)) nothing_continues (suc b) (t ∷ d ∷ vs) (type t.at (tree.named t)) 1 (d ∷ vs) BeforeDot
open_found u b t d vs e k none look = record {
  short = omega arith;
  follows = record { dot = d; behind = vs; is = refl; kind = k; no_name = none };
  comes = record {
    at = λ c h.
        let deeper : suc (c - 1) ≡ c = omega (arith, h) in
        record {
          value = type t.at (tree.member t sample.token);
          before = λ s. record {
            pending = tok kind.Name sample.token ∷ s;
            rest = vs;
            rest_is = omega arith;
            reach = subst (λ (n : ℕ). Reach (tok kind.Name sample.token ∷ s) vs (type_ u n (type t.at (tree.member t sample.token)) ∷ s) (t ∷ d ∷ vs)) deeper (write _ g.type_member (read e (read k here)));
          };
        };
  };
  reads = λ c h s.
      let deeper : suc (c - 1) ≡ c = omega (arith, h) in
      subst (λ (n : ℕ). Reach s (d ∷ vs) (type_ u n (type t.at (tree.named t)) ∷ s) (t ∷ d ∷ vs)) deeper
      (write _ g.type_named (read e (subst (λ (x : Sym). Reach s (d ∷ vs) (x ∷ s) (d ∷ vs)) (sym look) (see_no_member (no_name_behind d vs none) here))));
  only = λ c w s s' ts' clear r h.
      let z = behind_part tt r (omega (arith, h)) in
      open_by t d vs e none look z.rule (type_first z.rule s s' ts' t (d ∷ vs) z.reach (omega (arith, h))) s s' ts' z.reach (omega (arith, h));
}

open_in : (u : Use) (b : ℕ) (t d : Token) (vs : List Token) → ends_operand u ≡ true → t.kind ≡ kind.Name → d.kind ≡ kind.Dot → StartsWithout kind.Name vs → FoundAs u (one (type_ u)) nothing_continues (suc b) (t ∷ d ∷ vs) (type t.at (tree.named t)) 1 (d ∷ vs) BeforeDot
open_in Plain b t d vs operand e k none = cc
open_in Parameter b t d vs operand e k none = cc
open_in Operand b t d vs operand e k none = open_found Operand b t d vs e k none refl
open_in OperandEnd b t d vs operand e k none = open_found OperandEnd b t d vs e k none refl

pub name_open : (u : Use) (b : ℕ) (t d : Token) (us vs : List Token) → ends_operand u ≡ true → t.kind ≡ kind.Name → us ≡ d ∷ vs → d.kind ≡ kind.Dot → StartsWithout kind.Name vs →
    FoundAs u (one (type_ u)) nothing_continues (suc b) (t ∷ us) (type t.at (tree.named t)) 1 us BeforeDot
name_open u b t d us vs operand e is k none =
    subst (λ (r : List Token). FoundAs u (one (type_ u)) nothing_continues (suc b) (t ∷ r) (type t.at (tree.named t)) 1 r BeforeDot) (sym is) (open_in u b t d vs operand e k none)
