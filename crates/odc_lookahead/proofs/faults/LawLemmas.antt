-- From the answer of a parse function to what a public call answers.
use Rattle.std.proofs.Common.{◌≡◌, ℕ, suc, ◌+◌, ◌*◌, ◌<◌, ◌≤◌, Bool, List, [], ◌∷◌, length, refl, ap, arith}
use Rattle.odc_syntax.specs.declared.token.Token.{Token}
use Rattle.odc_syntax.specs.declared.token.TokenKind.{TokenKind}
use Rattle.odc_syntax.specs.Grammar.{Sym}
use Rattle.odc_syntax.specs.Derives.{Reach, here}
use Rattle.odc_lookahead.specs.Exact.{size, Clear, one, ComesAt, Found, Broken, TooDeep}
use Rattle.odc_lookahead.specs.Law.{Kind, BeginsWith, IsWhole, IsFront, IsPast, NoTree}
use Rattle.odc_lookahead.proofs.reading.Answering.{nothing_read}

pub at_most : (s : List Sym) (ts : List Token) → size s ts ≤ suc (2 * length ts)
at_most [] ts = omega arith
at_most (x ∷ s) ts = omega arith

-- nothing follows a whole list
pub end_clear : (cont : TokenKind → Bool) → Clear cont []
end_clear cont = record { stops = λ t us s' ts' o r n. nothing_read t us s' ts' r n }

-- from the end one comes nowhere
pub from_end : {s' : List Sym} {ts' ts : List Token} → Reach s' ts' [] ts → ts' ≡ ts
from_end here = refl

-- where a part comes to, a list begins
begins_from : {V : Type 0} (x : Kind V) (b left n : ℕ) (ts : List Token) → length ts ≡ n + left → ComesAt (one x) b ts left → BeginsWith x b ts n
begins_from x b left n ts all a =
    let z = a.before [] in
    record { left = left; all = all; begins = record { value = a.value; pending = z.pending; rest = z.rest; rest_is = z.rest_is; reach = z.reach } }

-- the symbols and tokens that a beginning comes to
near : {V : Type 0} (x : Kind V) (b n m left : ℕ) (ts : List Token) → length ts ≡ n + left → n < m → (q : BeginsWith x b ts m) → size q.begins.pending q.begins.rest ≤ 2 * left
near x b n m left ts all less q =
    let e = q.all in
    let f = q.begins.rest_is in
    let k = at_most q.begins.pending q.begins.rest in
    omega (arith, all, less, e, f, k)

-- a whole list
ended : {V : Type 0} (x : Kind V) (b n left : ℕ) (ts : List Token) (v : V) → length ts ≡ n + left → (q : IsWhole x b ts n v) → size [] q.rest ≤ 2 * left
ended x b n left ts v all q = let e = q.all in omega (arith, all, e)

module _ {V : Type 0} (x : Kind V) (cont : TokenKind → Bool) (ts : List Token) (n : ℕ) where
  -- a part that is read
  nothing_further : (v : V) (d : ℕ) (rest : List Token) → length ts ≡ n + length rest → Found (one x) cont 200 ts v d rest → (b m : ℕ) → n < m → BeginsWith x b ts m → ⊥
  nothing_further v d rest all found b m less q =
      let z = found.only b q.begins.value [] q.begins.pending q.begins.rest (end_clear cont) q.begins.reach (near x b n m (length rest) ts all less q) in
      let e : length q.begins.rest ≡ length rest = ap length (from_end z.reach) in
      let f = q.begins.rest_is in
      let k = q.all in
      omega (arith, e, f, k, all, less)

  pub found_front : (v : V) (d : ℕ) (rest : List Token) → length ts ≡ n + length rest → Found (one x) cont 200 ts v d rest → IsFront x ts n
  found_front v d rest all found = record {
    begins = begins_from x 200 (length rest) n ts all (found.comes.at 200 (omega arith));
    longest = λ m less q. nothing_further v d rest all found 200 m less q;
  }

  pub found_not_past : (v : V) (d : ℕ) (rest : List Token) → length ts ≡ n + length rest → Found (one x) cont 200 ts v d rest → IsPast x ts n → ⊥
  found_not_past v d rest all found q = nothing_further v d rest all found q.0 (n + 1) (omega arith) q.1

  pub found_tree : (v : V) (d : ℕ) (rest : List Token) → length ts ≡ n + length rest → d ≤ 200 → Found (one x) cont 200 ts v d rest → IsWhole x 200 ts n v
  found_tree v d rest all low found = record { rest = rest; all = all; derives = found.reads 200 low [] }

  pub found_only : (v : V) (d : ℕ) (rest : List Token) → length ts ≡ n + length rest → Found (one x) cont 200 ts v d rest → (b : ℕ) (w : V) → IsWhole x b ts n w → w ≡ v
  found_only v d rest all found b w q = (found.only b w [] [] q.rest (end_clear cont) q.derives (ended x b n (length rest) ts w all q)).value

  pub found_no_tree : (v : V) (d : ℕ) (rest : List Token) → length ts ≡ n + length rest → 200 < d → Found (one x) cont 200 ts v d rest → NoTree x ts n
  found_no_tree v d rest all over found w q =
      let k = (found.only 200 w [] [] q.rest (end_clear cont) q.derives (ended x 200 n (length rest) ts w all q)).bound in
      omega (arith, k, over)

  -- a part that is broken
  broken_further : (left : ℕ) → length ts ≡ n + left → Broken (one x) cont 200 ts left → (b m : ℕ) → n < m → BeginsWith x b ts m → ⊥
  broken_further left all broken b m less q = broken.none b q.begins.value [] q.begins.pending q.begins.rest (end_clear cont) q.begins.reach (near x b n m left ts all less q)

  pub broken_front : (left : ℕ) → length ts ≡ n + left → Broken (one x) cont 200 ts left → IsFront x ts n
  broken_front left all broken = record {
    begins = begins_from x 200 left n ts all (broken.comes.at 200 (omega arith));
    longest = λ m less q. broken_further left all broken 200 m less q;
  }

  pub broken_not_past : (left : ℕ) → length ts ≡ n + left → Broken (one x) cont 200 ts left → IsPast x ts n → ⊥
  broken_not_past left all broken q = broken_further left all broken q.0 (n + 1) (omega arith) q.1

  pub broken_no_tree : (left : ℕ) → length ts ≡ n + left → Broken (one x) cont 200 ts left → NoTree x ts n
  broken_no_tree left all broken w q = broken.none 200 w [] [] q.rest (end_clear cont) q.derives (ended x 200 n left ts w all q)

  -- a part that is too deep
  pub deep_front : (left : ℕ) → length ts ≡ n + suc left → TooDeep (one x) cont 200 ts left → IsFront x ts n
  deep_front left all deep = record {
    begins = begins_from x 200 (suc left) n ts all (deep.comes.at 200 (omega arith));
    longest = λ m less q.
        let e = q.all in
        let f = q.begins.rest_is in
        let k = at_most q.begins.pending q.begins.rest in
        let d = deep.deep 200 q.begins.value [] q.begins.pending q.begins.rest (end_clear cont) q.begins.reach (omega (arith, all, less, e, f, k)) in
        omega (arith, d);
  }

  pub deep_past : (left : ℕ) → length ts ≡ n + suc left → TooDeep (one x) cont 200 ts left → IsPast x ts n
  deep_past left all deep = (deep.depth, begins_from x deep.depth left (n + 1) ts (omega (arith, all)) (deep.deeper.at deep.depth (omega arith)))
