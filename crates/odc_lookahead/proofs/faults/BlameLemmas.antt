-- From the answer of a parse function, and the fault that is answered, to what a public call answers.
use Rattle.std.proofs.Common.{◌≡◌, ℕ, suc, ◌+◌, ◌-◌, ◌<◌, ◌≤◌, Bool, List, length, drop, sym, ap, subst, arith, inl, inr, length-drop}
use Rattle.odc_text.specs.declared.place.Place.{Place}
use Rattle.odc_text.specs.declared.code.Code.{Code}
use Rattle.odc_text.specs.declared.code.Code.TheVariants.{G01, L05}
use Rattle.odc_text.specs.declared.code.Fault as faults
use Rattle.odc_syntax.specs.declared.token.Token.{Token}
use Rattle.odc_syntax.specs.declared.token.TokenKind.{TokenKind}
use Rattle.odc_lookahead.specs.Refused.{FirstRefused, NoneRefused}
use Rattle.odc_lookahead.specs.declared.stop.Stop.{Stop}
use Rattle.odc_lookahead.specs.declared.stop.Stop.TheVariants as stop
use Rattle.odc_lookahead.specs.declared.error.ParseError.{ParseError}
use Rattle.odc_lookahead.specs.declared.error.ParseError.TheVariants.{Fault, Memory}
use Rattle.odc_lookahead.specs.Exact.{one, Exact, Found}
use Rattle.odc_lookahead.specs.Read.{refused}
use Rattle.odc_lookahead.specs.Law.{Kind, IsWhole, IsFront, IsPast, NoTree, IsRead, Searched, front_alone, one_further, IsNotRead}
use Rattle.odc_lookahead.specs.Law as law
use Rattle.odc_lookahead.specs.Blame.{Blamed, Cut, too_deep, Stopped, NotRead}
use Rattle.odc_lookahead.specs.Blame as blame
use Rattle.odc_lookahead.proofs.faults.LawLemmas.{found_front, found_not_past, found_tree, found_only, found_no_tree, broken_front, broken_not_past, broken_no_tree, deep_front, deep_past}

module _ {V : Type 0} (x : Kind V) (cont : TokenKind → Bool) (ts : List Token) (end : Place) (from size : ℕ) where
  -- as far as position n: what stands at the place of a refused form is known
  up_to : (n m : ℕ) (i : ℕ) (c : _) → n ≡ m → FirstRefused ts from n i c → FirstRefused ts from m i c
  up_to n m i c e f = subst (λ (k : ℕ). FirstRefused ts from k i c) e f

  none_to : (n m : ℕ) → n ≡ m → NoneRefused ts from n → NoneRefused ts from m
  none_to n m e f = subst (λ (k : ℕ). NoneRefused ts from k) e f

  place_to : (n m : ℕ) (c : _) (fault : faults.Fault) → n ≡ m → fault ≡ record { code = c; at = law.place_of ts end n } → fault ≡ record { code = c; at = law.place_of ts end m }
  place_to n m c fault e f = subst (λ (k : ℕ). fault ≡ record { code = c; at = law.place_of ts end k }) e f

  blamed_syntax : (at : ℕ) (fault : faults.Fault) → at ≡ from + size → IsFront x (drop from ts) size → NoTree x (drop from ts) size → (IsPast x (drop from ts) size → ⊥) →
      Blamed ts end from (at + 1) at G01 fault → IsNotRead x ts end from fault
  blamed_syntax at fault e front none past (blame.clean clean is) =
      law.syntax size front none past (none_to (at + 1) (from + size + 1) (ap (λ (n : ℕ). n + 1) e) clean) (place_to at (from + size) G01 fault e is)
  blamed_syntax at fault e front none past (blame.first i c first is) =
      law.refused size (size + 1) i c front (one_further (inl none)) (up_to (at + 1) (from + (size + 1)) i c (omega (arith, e)) first) is

  blamed_deep : (at : ℕ) (fault : faults.Fault) → at ≡ from + size → IsFront x (drop from ts) size → IsPast x (drop from ts) size →
      Blamed ts end from (at + 1) at L05 fault → IsNotRead x ts end from fault
  blamed_deep at fault e front past (blame.clean clean is) =
      law.deep size front past (none_to (at + 1) (from + size + 1) (ap (λ (n : ℕ). n + 1) e) clean) (place_to at (from + size) L05 fault e is)
  blamed_deep at fault e front past (blame.first i c first is) =
      law.refused size (size + 1) i c front (one_further (inr past)) (up_to (at + 1) (from + (size + 1)) i c (omega (arith, e)) first) is

  cut_short : (v : V) (d next : ℕ) (rest : List Token) (fault : faults.Fault) → next ≡ from + size → length (drop from ts) ≡ size + length rest → Found (one x) cont 200 (drop from ts) v d rest →
      Cut ts end from d next fault → IsNotRead x ts end from fault
  cut_short v d next rest fault e all found (too_deep over blamed) =
      blamed_syntax next fault e (found_front x cont (drop from ts) size v d rest all found) (found_no_tree x cont (drop from ts) size v d rest all over found) (found_not_past x cont (drop from ts) size v d rest all found) blamed
  cut_short v d next rest fault e all found (blame.inside_it i c low first is) =
      law.refused size size i c (found_front x cont (drop from ts) size v d rest all found)
      (front_alone (found_tree x cont (drop from ts) size v d rest all low found) (found_not_past x cont (drop from ts) size v d rest all found))
      (up_to next (from + size) i c e first) is

-- the tokens from a position on, and what is left of them
left_over : (ts : List Token) (from : ℕ) → from ≤ length ts → length (drop from ts) ≡ length ts - from
left_over ts from low = length-drop from ts

pub read_law : {V : Type 0} (x : Kind V) (cont : TokenKind → Bool) (ts : List Token) (from next d : ℕ) (v : V) (rest : List Token) → from ≤ length ts →
    Found (one x) cont 200 (drop from ts) v d rest → next ≡ length ts - length rest → d ≤ 200 → NoneRefused ts from next → IsRead x ts from v next
read_law x cont ts from next d v rest within found e low clean =
    let k = found.short in
    let whole = left_over ts from within in
    let all : length (drop from ts) ≡ (next - from) + length rest = omega (arith, whole, k, e, within) in
    record {
      size = next - from;
      ends = omega (arith, whole, k, e, within);
      front = found_front x cont (drop from ts) (next - from) v d rest all found;
      tree = found_tree x cont (drop from ts) (next - from) v d rest all low found;
      only = found_only x cont (drop from ts) (next - from) v d rest all found;
      not_past = found_not_past x cont (drop from ts) (next - from) v d rest all found;
      clean = clean;
    }

pub cut_law : {V : Type 0} (x : Kind V) (cont : TokenKind → Bool) (ts : List Token) (end : Place) (from d : ℕ) (v : V) (rest : List Token) (fault : faults.Fault) → from ≤ length ts →
    Found (one x) cont 200 (drop from ts) v d rest → Cut ts end from d (length ts - length rest) fault → IsNotRead x ts end from fault
cut_law x cont ts end from d v rest fault within found cut =
    let k = found.short in
    let whole = left_over ts from within in
    cut_short x cont ts end from ((length ts - length rest) - from) v d (length ts - length rest) rest fault (omega (arith, whole, k, within)) (omega (arith, whole, k, within)) found cut

pub stopped_law : {V : Type 0} (x : Kind V) (cont : TokenKind → Bool) (ts : List Token) (end : Place) (from : ℕ) (e : Stop) (r : ParseError) → from ≤ length ts →
    Exact (one x) cont 200 (drop from ts) (refused e) → Stopped ts end from e r → NotRead x ts end from r
stopped_law x cont ts end from (stop.Syntax left) (Fault f) within broken h =
    let k = broken.short in
    let whole = left_over ts from within in
    let all : length (drop from ts) ≡ ((length ts - left) - from) + left = omega (arith, whole, k, within) in
    blamed_syntax x cont ts end from ((length ts - left) - from) (length ts - left) f (omega (arith, whole, k, within))
    (broken_front x cont (drop from ts) ((length ts - left) - from) left all broken)
    (broken_no_tree x cont (drop from ts) ((length ts - left) - from) left all broken)
    (broken_not_past x cont (drop from ts) ((length ts - left) - from) left all broken)
    h
stopped_law x cont ts end from (stop.Syntax left) Memory within broken h = tt
stopped_law x cont ts end from (stop.Deep left) (Fault f) within deep h =
    let k = deep.short in
    let whole = left_over ts from within in
    let all : length (drop from ts) ≡ (((length ts - left) - 1) - from) + suc left = omega (arith, whole, k, within) in
    blamed_deep x cont ts end from (((length ts - left) - 1) - from) ((length ts - left) - 1) f (omega (arith, whole, k, within))
    (deep_front x cont (drop from ts) (((length ts - left) - 1) - from) left all deep)
    (deep_past x cont (drop from ts) (((length ts - left) - 1) - from) left all deep)
    h
stopped_law x cont ts end from (stop.Deep left) Memory within deep h = tt
stopped_law x cont ts end from stop.Memory (Fault f) within h e = cc
stopped_law x cont ts end from stop.Memory Memory within h e = tt

-- where a position is another
pub deep_cut : (ts : List Token) (end : Place) (from d n next : ℕ) (fault : faults.Fault) → next ≡ n → 200 < d → Blamed ts end from (next + 1) next G01 fault → Cut ts end from d n fault
deep_cut ts end from d n next fault e over blamed = too_deep over (subst (λ (k : ℕ). Blamed ts end from (k + 1) k G01 fault) e blamed)

pub inside_cut : (ts : List Token) (end : Place) (from d n next i : ℕ) (c : Code) (fault : faults.Fault) → next ≡ n → d ≤ 200 → FirstRefused ts from next i c → fault ≡ record { code = c; at = law.place_of ts end i } → Cut ts end from d n fault
inside_cut ts end from d n next i c fault e low first is = blame.inside_it i c low (subst (λ (k : ℕ). FirstRefused ts from k i c) e first) is

pub blamed_at : (ts : List Token) (end : Place) (from n at : ℕ) (c : Code) (fault : faults.Fault) → at ≡ n → Blamed ts end from (at + 1) at c fault → Blamed ts end from (n + 1) n c fault
blamed_at ts end from n at c fault e blamed = subst (λ (k : ℕ). Blamed ts end from (k + 1) k c fault) e blamed

pub stopped_syntax : (ts : List Token) (end : Place) (from left at : ℕ) (e : Stop) (fault : faults.Fault) → e ≡ stop.Syntax left → at ≡ length ts - left → Blamed ts end from (at + 1) at G01 fault → Stopped ts end from e (Fault fault)
stopped_syntax ts end from left at e fault is place blamed =
    subst (λ (x : Stop). Stopped ts end from x (Fault fault)) (sym is) (blamed_at ts end from (length ts - left) at G01 fault place blamed)

pub stopped_deep : (ts : List Token) (end : Place) (from left at : ℕ) (e : Stop) (fault : faults.Fault) → e ≡ stop.Deep left → at ≡ (length ts - left) - 1 → Blamed ts end from (at + 1) at L05 fault → Stopped ts end from e (Fault fault)
stopped_deep ts end from left at e fault is place blamed =
    subst (λ (x : Stop). Stopped ts end from x (Fault fault)) (sym is) (blamed_at ts end from ((length ts - left) - 1) at L05 fault place blamed)

pub first_in : (us ts : List Token) (from end i : ℕ) (c : Code) → us ≡ ts → FirstRefused us from end i c → FirstRefused ts from end i c
first_in us ts from end i c e f = subst (λ (l : List Token). FirstRefused l from end i c) e f

-- the same of the tokens that a function was given
pub read_from : {V : Type 0} (x : Kind V) (cont : TokenKind → Bool) (ts us : List Token) (from next d : ℕ) (v : V) (rest : List Token) → from ≤ length ts → us ≡ drop from ts →
    Found (one x) cont 200 us v d rest → next ≡ length ts - length rest → d ≤ 200 → NoneRefused ts from next → IsRead x ts from v next
read_from x cont ts us from next d v rest within same found e low clean =
    read_law x cont ts from next d v rest within (subst (λ (l : List Token). Found (one x) cont 200 l v d rest) same found) e low clean

pub cut_from : {V : Type 0} (x : Kind V) (cont : TokenKind → Bool) (ts us : List Token) (end : Place) (from d : ℕ) (v : V) (rest : List Token) (fault : faults.Fault) (r : ParseError) → from ≤ length ts → us ≡ drop from ts → r ≡ Fault fault →
    Found (one x) cont 200 us v d rest → Cut ts end from d (length ts - length rest) fault → NotRead x ts end from r
cut_from x cont ts us end from d v rest fault r within same is found cut =
    subst (λ (p : ParseError). NotRead x ts end from p) (sym is) (cut_law x cont ts end from d v rest fault within (subst (λ (l : List Token). Found (one x) cont 200 l v d rest) same found) cut)

pub stopped_from : {V : Type 0} (x : Kind V) (cont : TokenKind → Bool) (ts us : List Token) (end : Place) (from : ℕ) (e : Stop) (r : ParseError) → from ≤ length ts → us ≡ drop from ts →
    Exact (one x) cont 200 us (refused e) → Stopped ts end from e r → NotRead x ts end from r
stopped_from x cont ts us end from e r within same h stopped =
    stopped_law x cont ts end from e r within (subst (λ (l : List Token). Exact (one x) cont 200 l (refused e)) same h) stopped
